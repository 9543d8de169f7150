use Rattle.std.proofs.Common.{◌-◌, length}
use Rattle.mt_json.proofs.Many.{SoFar}
use Rattle.mt_script_words.specs.Words.{mark_at}
use Rattle.mt_script_tree.specs.Lists.{item_step, list_by}
use Rattle.mt_script_tree.proofs.functions.parameters.Given as goal

abbrev pub invariant-loop : goal.invariant-loop
invariant-loop l = SoFar (item_step 41 mark_at) (length l.bytes - l.counter) l.found.items l.rest (list_by 41 mark_at l.bytes)
