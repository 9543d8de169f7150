use Rattle.std.proofs.Common.{◌≡◌, ◌++◌, length, map}
use Rattle.mt_eval_meaning.specs.Hoisting.{services}
use Rattle.mt_resolve_free.proofs.hoisting.service_names.Given as goal

abbrev pub invariant-loop-left : goal.invariant-loop-left
invariant-loop-left l = l.names.items ++ map (λ s. s.0) (services l.left) ≡ map (λ s. s.0) (services l.items)

abbrev pub decreases-loop-left : goal.decreases-loop-left
decreases-loop-left l = length l.left
