use Rattle.std.proofs.Common.{sym, subst, ◌∙◌}
use Rattle.std.specs.Prelude.{None}
use Rattle.mt_ops_methods.proofs.Cells.{same_cell, answers, put_back}
use Rattle.mt_value.specs.declared.cell.Cell.TheVariants as cell
use Rattle.mt_ops_methods.proofs.Lawfulness.{popped_lawful}
use Rattle.mt_ops.specs.Lawful.{StaysLawful}
use Rattle.mt_ops_methods.proofs.change.popped.Goals as goal

pub returns-clause-meant : goal.returns-clause-meant
returns-clause-meant c = λ items is.
    let taken = c.pop_item-last.ensures items (same_cell c.exchange-cell.result (cell.Arr items) (sym c.exchange-cell.ensures.given ∙ is)) in
    answers c.pop_item-last.result _ c.exchange-placeholder.new.self _ taken.0
    (put_back c.args.store.now c.exchange-cell.new.self c.exchange-placeholder.new.self c.args.at (cell.Variable None) c.pop_item-last.new.cell _ c.exchange-cell.ensures.kept c.exchange-placeholder.ensures.kept taken.1)

pub returns-clause-lawful : goal.returns-clause-lawful
returns-clause-lawful c = λ items is lawful.
    subst (λ s. StaysLawful c.args.store.now s.1 s.0) (sym (returns-clause-meant c items is)) (popped_lawful c.args.store.now lawful items c.args.at is)
