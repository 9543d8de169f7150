use Rattle.std.proofs.Common.{◌≡◌, drop, map}
use Rattle.mt_eval_steps.specs.Entries.{build_entry}
use Rattle.mt_eval_steps.proofs.Building.{built_behind}
use Rattle.mt_eval_meaning.specs.Building.{build, built_all}
use Rattle.mt_eval_steps.proofs.data_cells.+build.Given as goal

abbrev pub invariant-build_items-loop-item : goal.invariant-build_items-loop-item
invariant-build_items-loop-item l = built_behind l.made (map build (drop l.item-index l.items)) l.store ≡ built_all (map build l.items) l.fn.store

abbrev pub invariant-build_entries-loop-entry : goal.invariant-build_entries-loop-entry
invariant-build_entries-loop-entry l = built_behind l.made (map build_entry (drop l.entry-index l.entries)) l.store ≡ built_all (map build_entry l.entries) l.fn.store
