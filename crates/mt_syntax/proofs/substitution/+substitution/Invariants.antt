use Rattle.std.proofs.Common.{◌≡◌, map, take}
use Rattle.mt_syntax.specs.Substitution.{subst_expr, subst_prop, subst_markup_attribute, subst_markup_child, subst_decl, subst_stmt}
use Rattle.mt_syntax.proofs.substitution.+substitution.Given as goal

abbrev pub invariant-expressions::exprs-loop-item : goal.invariant-expressions::exprs-loop-item
invariant-expressions::exprs-loop-item l = l.made.items ≡ map (subst_expr l.values) (take l.item-index l.item-items)

abbrev pub invariant-expressions::props-loop-item : goal.invariant-expressions::props-loop-item
invariant-expressions::props-loop-item l = l.made.items ≡ map (subst_prop l.values) (take l.item-index l.item-items)

abbrev pub invariant-markup::attributes-loop-item : goal.invariant-markup::attributes-loop-item
invariant-markup::attributes-loop-item l = l.made.items ≡ map (subst_markup_attribute l.values) (take l.item-index l.item-items)

abbrev pub invariant-markup::children-loop-item : goal.invariant-markup::children-loop-item
invariant-markup::children-loop-item l = l.made.items ≡ map (subst_markup_child l.values) (take l.item-index l.item-items)

abbrev pub invariant-statements::decls-loop-item : goal.invariant-statements::decls-loop-item
invariant-statements::decls-loop-item l = l.made.items ≡ map (subst_decl l.values) (take l.item-index l.item-items)

abbrev pub invariant-statements::stmts-loop-item : goal.invariant-statements::stmts-loop-item
invariant-statements::stmts-loop-item l = l.made.items ≡ map (subst_stmt l.values) (take l.item-index l.item-items)
