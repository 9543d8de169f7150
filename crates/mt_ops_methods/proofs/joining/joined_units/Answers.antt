use Rattle.std.proofs.Common.{◌+◌, ap, sym, ◌∙◌}
use Rattle.mt_ops_methods.specs.Costs.{counted}
use Rattle.mt_ops_methods.proofs.Joins.{units_more, all_units}
use Rattle.mt_ops_methods.proofs.joining.joined_units.Goals as goal

pub loop-item-preserved : goal.loop-item-preserved
loop-item-preserved c =
    c.saturating_add-units.ensures ∙ ap (λ n. counted (n + c.shown_units.result)) c.saturating_add.ensures
    ∙ ap (λ n. counted (counted (n + c.units-between.result) + c.shown_units.result)) c.loop-item.invariant
    ∙ rw (c.units-between.ensures, c.shown_units.ensures) (sym (units_more c.args.separator.now c.shown_units-units.result c.in-Some.rest.now c.loop-item.item-index c.item-item.result c.loop-item-test.true c.item-item.is))

pub returns-after-loop-item : goal.returns-after-loop-item
returns-after-loop-item c =
    c.loop-item.invariant
    ∙ all_units c.args.separator.now c.in-Some.first.now c.in-Some.rest.now c.args.items.now c.loop-item.item-index c.shown_units-units.result c.in-Some.ensures.cases.0 c.loop-item-test.false c.shown_units-units.ensures
