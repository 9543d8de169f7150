use Rattle.std.proofs.Common.{◌≡◌, map, take}
use Rattle.mt_eval_meaning.specs.Free.{finding}
use Rattle.mt_resolve_free.specs.Tildes.{names_at}
use Rattle.mt_syntax.specs.Fold.{on_decl, on_expr, on_markup_attribute, on_markup_child, on_prop, on_stmt}
use Rattle.mt_resolve_free.proofs.walk.+walk.Given as goal

abbrev pub invariant-expressions::exprs-loop-item : goal.invariant-expressions::exprs-loop-item
invariant-expressions::exprs-loop-item l = l.each.items ≡ map (on_expr (finding (names_at l.tildes))) (take l.item-index l.items)

abbrev pub invariant-expressions::props-loop-item : goal.invariant-expressions::props-loop-item
invariant-expressions::props-loop-item l = l.each.items ≡ map (on_prop (finding (names_at l.tildes))) (take l.item-index l.items)

abbrev pub invariant-markup::attributes-loop-item : goal.invariant-markup::attributes-loop-item
invariant-markup::attributes-loop-item l = l.each.items ≡ map (on_markup_attribute (finding (names_at l.tildes))) (take l.item-index l.items)

abbrev pub invariant-markup::children-loop-item : goal.invariant-markup::children-loop-item
invariant-markup::children-loop-item l = l.each.items ≡ map (on_markup_child (finding (names_at l.tildes))) (take l.item-index l.items)

abbrev pub invariant-statements::stmts-loop-item : goal.invariant-statements::stmts-loop-item
invariant-statements::stmts-loop-item l = l.each.items ≡ map (on_stmt (finding (names_at l.tildes))) (take l.item-index l.items)

abbrev pub invariant-statements::decls-loop-item : goal.invariant-statements::decls-loop-item
invariant-statements::decls-loop-item l = l.each.items ≡ map (on_decl (finding (names_at l.tildes))) (take l.item-index l.items)
