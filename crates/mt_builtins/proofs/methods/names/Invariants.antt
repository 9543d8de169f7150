use Rattle.std.proofs.Common.{◌≡◌, take}
use Rattle.mt_builtins.specs.Builtins as spec
use Rattle.mt_builtins.proofs.methods.names.Given as goal

abbrev pub invariant-loop-property : goal.invariant-loop-property
invariant-loop-property l = l.list ≡ spec.names (take l.property-index l.properties)
