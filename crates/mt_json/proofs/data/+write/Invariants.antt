use Rattle.std.proofs.Common.{◌≡◌, ◌++◌, map, take, ltb}
use Rattle.mt_syntax.specs.DataText.{data_text, entry_text, separated}
use Rattle.mt_json.proofs.data.+write.Given as goal

abbrev pub invariant-append_entries-loop-entry : goal.invariant-append_entries-loop-entry
invariant-append_entries-loop-entry l = (l.later ≡ ltb 0 l.entry-index) × (l.into.items ≡ l.fn.into.items ++ separated (map entry_text (take l.entry-index l.entries)))

abbrev pub invariant-append_items-loop-item : goal.invariant-append_items-loop-item
invariant-append_items-loop-item l = (l.later ≡ ltb 0 l.item-index) × (l.into.items ≡ l.fn.into.items ++ separated (map data_text (take l.item-index l.items)))
