use Rattle.std.proofs.Common.{◌≡◌, ◌++◌, length}
use Rattle.mt_eval_meaning.specs.Entering.{function_names}
use Rattle.mt_resolve_free.proofs.hoisting.function_names.Given as goal

abbrev pub invariant-loop-left : goal.invariant-loop-left
invariant-loop-left l = l.names.items ++ function_names l.left ≡ function_names l.body

abbrev pub decreases-loop-left : goal.decreases-loop-left
decreases-loop-left l = length l.left
