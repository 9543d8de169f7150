use Rattle.std.proofs.Common.{◌≡◌, map, take}
use Rattle.mt_syntax.specs.Substitution.{unplaced}
use Rattle.mt_syntax.proofs.substitution.marks.marks.Given as goal

abbrev pub invariant-loop-item : goal.invariant-loop-item
invariant-loop-item l = l.made.items ≡ map unplaced (take l.item-index l.items)
