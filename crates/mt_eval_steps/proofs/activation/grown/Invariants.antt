use Rattle.std.proofs.Common.{◌≡◌}
use Rattle.mt_eval_steps.specs.Contents.{initial}
use Rattle.mt_eval_meaning.specs.Activations as spec
use Rattle.mt_eval_steps.proofs.activation.grown.Given as goal

abbrev pub invariant-loop-left : goal.invariant-loop-left
invariant-loop-left l = spec.grown l.fn.count (initial l.declared) l.fn.activation l.fn.state ≡ spec.grown l.left (initial l.declared) l.activation l.state

abbrev pub decreases-loop-left : goal.decreases-loop-left
decreases-loop-left l = l.left
