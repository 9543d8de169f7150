use Rattle.std.proofs.Common.{◌≡◌, length}
use Rattle.mt_eval_meaning.specs.Activations as spec
use Rattle.mt_eval_steps.proofs.hoisting.define_all.Given as goal

abbrev pub invariant-loop-hoisted : goal.invariant-loop-hoisted
invariant-loop-hoisted l = spec.define_all l.functions l.activation l.fn.hoisted l.fn.state ≡ spec.define_all l.functions l.activation l.hoisted l.state

abbrev pub decreases-loop-hoisted : goal.decreases-loop-hoisted
decreases-loop-hoisted l = length l.hoisted
