use Rattle.std.proofs.Common.{◌≡◌, ◌+◌, take}
use Rattle.mt_ops_methods.specs.Costs.{counted}
use Rattle.mt_ops_methods.proofs.Joins.{rest_shown}
use Rattle.mt_tree.specs.Text.{units_of}
use Rattle.mt_ops_methods.proofs.joining.joined_units.Given as goal

abbrev pub invariant-loop-item : goal.invariant-loop-item
invariant-loop-item l = l.units ≡ counted (l.initial.units + units_of (rest_shown l.separator (take l.item-index l.rest)))
