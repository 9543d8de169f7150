use Rattle.std.proofs.Common.{sym, ◌∙◌}
use Rattle.mt_ops.specs.Texts.{join_text}
use Rattle.mt_ops_properties.specs.Costs.{addition_units}
use Rattle.mt_ops_properties.proofs.Costs.{units_joined}
use Rattle.mt_ops_properties.proofs.cost.addition_units.Goals as goal

pub returns-in-Some-Some : goal.returns-in-Some-Some
unfolding addition_units
returns-in-Some-Some c =
    let both = c.in-Some-Some in
    rw (sym c.has_text.ensures ∙ c.if-not-has_text.false) (units_joined (join_text c.args.left.now) (join_text c.args.right.now) both.a both.b both.ensures.units both.ensures'.units)
