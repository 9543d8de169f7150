use Rattle.std.proofs.Common.{sym, ◌∙◌}
use Rattle.mt_ops_methods.proofs.Cells.{same_items, taken_out}
use Rattle.mt_ops_methods.proofs.change.pop_item.Goals as goal

pub returns-in-Some : goal.returns-in-Some
returns-in-Some c = λ items is.
    taken_out items c.pop.new.self c.in-Some.last (same_items items c.in-Arr.items (sym is ∙ c.in-Arr.is) ∙ c.in-Some.ensures)
