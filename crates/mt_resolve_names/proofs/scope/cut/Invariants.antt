use Rattle.std.proofs.Common.{◌≡◌, ◌++◌, length}
use Rattle.mt_eval_meaning.specs.Free as spec
use Rattle.mt_resolve_names.proofs.scope.cut.Given as goal

abbrev pub invariant-loop-left : goal.invariant-loop-left
invariant-loop-left l = l.kept.items ++ spec.cut (λ s. s.name) l.wanted.items l.left ≡ spec.cut (λ s. s.name) l.fn.free.items l.scope

abbrev pub decreases-loop-left : goal.decreases-loop-left
decreases-loop-left l = length l.left
