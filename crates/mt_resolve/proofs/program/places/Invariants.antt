use Rattle.std.proofs.Common.{◌≡◌, map, take}
use Rattle.mt_resolve.proofs.program.places.Given as goal

abbrev pub invariant-loop-slot : goal.invariant-loop-slot
invariant-loop-slot l = l.places.items ≡ map (λ s. s.slot) (take l.slot-index l.kept)
