use Rattle.std.proofs.Common.{◌≡◌, take, map, sum}
use Rattle.mt_marshal.specs.Rules.{name_bytes}
use Rattle.mt_ops_methods.specs.Costs.{counted}
use Rattle.mt_marshal.proofs.counts.bytes_of_names.Given as goal

abbrev pub invariant-loop-property : goal.invariant-loop-property
invariant-loop-property l = l.bytes ≡ counted (sum (map name_bytes (take l.property-index l.properties)))
