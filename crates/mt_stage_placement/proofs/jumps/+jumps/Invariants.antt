use Rattle.std.proofs.Common.{◌≡◌, take}
use Rattle.mt_syntax.specs.Joining.{first}
use Rattle.mt_syntax.specs.Fold.{on_expr, on_prop, on_markup_attribute, on_markup_child, on_decl, on_stmt}
use Rattle.mt_stage_placement.specs.Jumps.{finding_jumps, in_each}
use Rattle.mt_stage_placement.proofs.jumps.+jumps.Given as goal

abbrev pub invariant-expressions::exprs-loop-item : goal.invariant-expressions::exprs-loop-item
invariant-expressions::exprs-loop-item l = l.found ≡ in_each first (on_expr (finding_jumps first)) (take l.item-index l.item-items) l.around

abbrev pub invariant-expressions::props-loop-item : goal.invariant-expressions::props-loop-item
invariant-expressions::props-loop-item l = l.found ≡ in_each first (on_prop (finding_jumps first)) (take l.item-index l.item-items) l.around

abbrev pub invariant-markup::attributes-loop-item : goal.invariant-markup::attributes-loop-item
invariant-markup::attributes-loop-item l = l.found ≡ in_each first (on_markup_attribute (finding_jumps first)) (take l.item-index l.item-items) l.around

abbrev pub invariant-markup::children-loop-item : goal.invariant-markup::children-loop-item
invariant-markup::children-loop-item l = l.found ≡ in_each first (on_markup_child (finding_jumps first)) (take l.item-index l.item-items) l.around

abbrev pub invariant-statements::decls-loop-item : goal.invariant-statements::decls-loop-item
invariant-statements::decls-loop-item l = l.found ≡ in_each first (on_decl (finding_jumps first)) (take l.item-index l.item-items) l.around

abbrev pub invariant-statements::stmts-loop-item : goal.invariant-statements::stmts-loop-item
invariant-statements::stmts-loop-item l = l.found ≡ in_each first (on_stmt (finding_jumps first)) (take l.item-index l.item-items) l.around
