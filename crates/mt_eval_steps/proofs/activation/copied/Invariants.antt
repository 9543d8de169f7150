use Rattle.std.proofs.Common.{◌≡◌, take}
use Rattle.mt_eval_steps.proofs.activation.copied.Given as goal

abbrev pub invariant-loop-at : goal.invariant-loop-at
invariant-loop-at l = l.made ≡ take l.at-index l.activation
