use Rattle.std.proofs.Common.{◌∷◌, ◌++◌, [], ap, ◌∙◌}
use Rattle.mt_ops.proofs.Lawfulness.{thrown_lawful}
use Rattle.mt_ops.proofs.outcome.throw.Goals as goal

pub returns-clause-lawful : goal.returns-clause-lawful
returns-clause-lawful c =
    let old = c.args.store.now in
    thrown_lawful old c.add.new.self c.args.error.now c.in_ok-at.at c.in_ok-at.ensures.address (c.in_ok-at.ensures.ok ∙ ap (λ cell. old ++ cell ∷ []) c.in_ok-error_cell.ensures)
