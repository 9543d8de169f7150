use Rattle.std.proofs.Common.{◌≡◌, None, map, take}
use Rattle.mt_syntax.specs.First.{earlier_of}
use Rattle.mt_syntax.specs.Fold.{on_expr, on_prop, on_markup_attribute, on_markup_child, on_decl, on_stmt}
use Rattle.mt_stage_declared.specs.Parts.{found_in}
use Rattle.mt_stage_declared.specs.Twice.{first_twice}
use Rattle.mt_stage_declared.proofs.walk.+walk.Given as goal

abbrev pub invariant-expressions::exprs-loop-item : goal.invariant-expressions::exprs-loop-item
invariant-expressions::exprs-loop-item g l = l.found ≡ found_in None earlier_of (map (on_expr first_twice) (take l.item-index l.item-items))

abbrev pub invariant-expressions::props-loop-item : goal.invariant-expressions::props-loop-item
invariant-expressions::props-loop-item g l = l.found ≡ found_in None earlier_of (map (on_prop first_twice) (take l.item-index l.item-items))

abbrev pub invariant-markup::attributes-loop-item : goal.invariant-markup::attributes-loop-item
invariant-markup::attributes-loop-item g l = l.found ≡ found_in None earlier_of (map (on_markup_attribute first_twice) (take l.item-index l.item-items))

abbrev pub invariant-markup::children-loop-item : goal.invariant-markup::children-loop-item
invariant-markup::children-loop-item g l = l.found ≡ found_in None earlier_of (map (on_markup_child first_twice) (take l.item-index l.item-items))

abbrev pub invariant-statements::decls-loop-item : goal.invariant-statements::decls-loop-item
invariant-statements::decls-loop-item g l = l.found ≡ found_in None earlier_of (map (on_decl first_twice) (take l.item-index l.item-items))

abbrev pub invariant-statements::stmts-loop-item : goal.invariant-statements::stmts-loop-item
invariant-statements::stmts-loop-item g l = l.found ≡ found_in None earlier_of (map (on_stmt first_twice) (take l.item-index l.item-items))
