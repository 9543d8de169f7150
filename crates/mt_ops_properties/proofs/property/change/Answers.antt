use Rattle.std.proofs.Common.{◌≡◌, OnOk, slice_set, subst, sym, ap, ◌∙◌}
use Rattle.mt_value.specs.Lawful.{Keeps, Lawful}
use Rattle.mt_ops_properties.proofs.Cells.{put_twice}
use Rattle.mt_ops_properties.proofs.Lawfulness.{changed_lawful}
use Rattle.mt_ops_properties.proofs.property.change.Goals as goal

pub returns-clause-lawful : goal.returns-clause-lawful
returns-clause-lawful c =
    let store = c.args.store.now in
    let at = c.args.at in
    let changed = c.write_cell-answer.new.cell in
    let answer = c.write_cell-answer in
    let put : c.put_back.new.store ≡ slice_set store at changed = c.put_back.ensures ∙ ap (λ s. slice_set s at changed) c.exchange-cell.ensures.kept ∙ put_twice store at _ changed in
    λ lawful key value.
    subst (λ new. OnOk answer.result (Lawful new × Keeps store new)) (sym put)
    (changed_lawful store at c.exchange-cell.result changed c.args.key.now c.args.value answer.result c.exchange-cell.ensures.given answer.ensures.meant answer.ensures.count lawful key value)
