use Rattle.std.proofs.Common.{◌≡◌, take, true}
use Rattle.std.specs.List.{list_all}
use Rattle.mt_syntax.specs.Data.{is_data}
use Rattle.mt_json.specs.Entries.{entry_is_data}
use Rattle.mt_json.proofs.datum.+datum.Given as goal

abbrev pub invariant-are_data-loop-item : goal.invariant-are_data-loop-item
invariant-are_data-loop-item l = list_all is_data (take l.item-index l.items) ≡ true

abbrev pub invariant-have_data-loop-entry : goal.invariant-have_data-loop-entry
invariant-have_data-loop-entry l = list_all entry_is_data (take l.entry-index l.entries) ≡ true
