use Rattle.std.proofs.Common.{◌≡◌, ◌++◌, length}
use Rattle.mt_eval_meaning.specs.Activations as spec
use Rattle.mt_eval_steps.proofs.hoisting.captured.Given as goal

abbrev pub invariant-loop-slots : goal.invariant-loop-slots
invariant-loop-slots l = spec.captured l.activation l.fn.slots ≡ l.made.items ++ spec.captured l.activation l.slots

abbrev pub decreases-loop-slots : goal.decreases-loop-slots
decreases-loop-slots l = length l.slots
