use Rattle.std.proofs.Common.{sym, subst, ◌∙◌}
use Rattle.std.specs.Prelude.{None}
use Rattle.mt_ops_methods.proofs.Cells.{same_cell, answers, put_back}
use Rattle.mt_value.specs.declared.cell.Cell.TheVariants as cell
use Rattle.mt_ops_methods.proofs.Lawfulness.{pushed_lawful}
use Rattle.mt_ops.specs.Lawful.{StaysLawful}
use Rattle.mt_ops_methods.proofs.change.pushed.Goals as goal

pub returns-clause-meant : goal.returns-clause-meant
returns-clause-meant c = λ items is.
    let made = c.in_ok-count.ensures.meant items (same_cell c.exchange-cell.result (cell.Arr items) (sym c.exchange-cell.ensures.given ∙ is)) in
    answers c.in_ok-count.count _ c.exchange-placeholder.new.self _ made.0
    (put_back c.args.store.now c.exchange-cell.new.self c.exchange-placeholder.new.self c.args.at (cell.Variable None) c.push_item.new.cell _ c.exchange-cell.ensures.kept c.exchange-placeholder.ensures.kept made.1)

pub returns-clause-lawful : goal.returns-clause-lawful
returns-clause-lawful c = λ items is lawful h.
    let store = c.args.store.now in
    let room = c.in_ok-count.ensures.room items (same_cell c.exchange-cell.result (cell.Arr items) (sym c.exchange-cell.ensures.given ∙ is)) in
    subst (λ s. StaysLawful store s.1 s.0) (sym (returns-clause-meant c items is)) (pushed_lawful store lawful items c.args.value c.args.at is room h)
