use Rattle.std.proofs.Common.{◌≡◌, length}
use Rattle.mt_resolve.specs.Services as spec
use Rattle.mt_resolve.proofs.units.captured_by.Given as goal

abbrev pub invariant-loop-left : goal.invariant-loop-left
invariant-loop-left l = spec.captured_by l.function l.left ≡ spec.captured_by l.function l.services

abbrev pub decreases-loop-left : goal.decreases-loop-left
decreases-loop-left l = length l.left
