use Rattle.std.proofs.Common.{◌≡◌, ◌++◌, length}
use Rattle.mt_eval_meaning.specs.Free as spec
use Rattle.mt_resolve_free.proofs.names.without.Given as goal

abbrev pub invariant-loop-left : goal.invariant-loop-left
invariant-loop-left l = l.kept.items ++ spec.without l.some l.left ≡ spec.without l.some l.names

abbrev pub decreases-loop-left : goal.decreases-loop-left
decreases-loop-left l = length l.left
