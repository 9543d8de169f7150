use Rattle.std.proofs.Common.{◌≡◌}
use Rattle.mt_eval_meaning.specs.Activations as spec
use Rattle.mt_eval_steps.proofs.entry.with_parameters.Given as goal

abbrev pub invariant-loop-left : goal.invariant-loop-left
invariant-loop-left l = spec.with_parameters l.fn.count l.fn.arguments l.fn.activation l.fn.state ≡ spec.with_parameters l.left l.arguments l.activation l.state

abbrev pub decreases-loop-left : goal.decreases-loop-left
decreases-loop-left l = l.left
