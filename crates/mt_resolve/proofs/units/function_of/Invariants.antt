use Rattle.std.proofs.Common.{◌≡◌, length}
use Rattle.mt_resolve.specs.Services as spec
use Rattle.mt_resolve.proofs.units.function_of.Given as goal

abbrev pub invariant-loop-left : goal.invariant-loop-left
invariant-loop-left l = spec.function_of l.name l.left ≡ spec.function_of l.name l.services

abbrev pub decreases-loop-left : goal.decreases-loop-left
decreases-loop-left l = length l.left
