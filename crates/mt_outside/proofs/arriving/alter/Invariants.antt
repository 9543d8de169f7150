use Rattle.std.proofs.Common.{◌≡◌, drop}
use Rattle.mt_outside.specs.Arriving.{altered}
use Rattle.mt_outside.proofs.arriving.alter.Given as goal

abbrev pub invariant-loop-alteration : goal.invariant-loop-alteration
invariant-loop-alteration l =
    altered l.alterations l.slot l.fn.bytes ≡ altered (drop l.alteration-index l.alterations) l.slot l.made.items
