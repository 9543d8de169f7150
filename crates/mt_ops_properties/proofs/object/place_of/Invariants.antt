use Rattle.std.proofs.Common.{◌≡◌}
use Rattle.mt_ops_properties.specs.Objects.{place_of}
use Rattle.mt_ops_properties.proofs.Places.{place_from}
use Rattle.mt_ops_properties.proofs.object.place_of.Given as goal

abbrev pub invariant-loop-i : goal.invariant-loop-i
invariant-loop-i l = place_from l.name l.properties l.i ≡ place_of l.name l.properties
