use Rattle.std.proofs.Common.{◌≡◌, take, map, sum}
use Rattle.mt_ops_methods.specs.Costs.{counted, pair_units}
use Rattle.mt_ops_methods.proofs.cost.all_pairs.Given as goal

abbrev pub invariant-loop-item : goal.invariant-loop-item
invariant-loop-item l = l.total ≡ counted (sum (map (pair_units l.units) (take l.item-index l.items)))
