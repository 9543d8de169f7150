use Rattle.std.proofs.Common.{sym, ap, ◌∙◌}
use Rattle.mt_syntax.specs.First.{earlier_of}
use Rattle.mt_syntax.specs.Joining.{first}
use Rattle.mt_syntax.specs.Fold.{on_expr, on_prop, on_markup_attribute, on_markup_child, on_decl, on_stmt, on_stmt_kind}
use Rattle.mt_syntax.specs.declared.tree.StmtKind as kind
use Rattle.mt_stage_placement.specs.Jumps.{finding_jumps, in_loop}
use Rattle.mt_stage_placement.proofs.JumpParts.{in_for, with_next}
use Rattle.mt_stage_placement.proofs.jumps.+jumps.Goals as goal

pub expressions::exprs-loop-item-preserved : goal.expressions::exprs-loop-item-preserved
expressions::exprs-loop-item-preserved t c =
    rw (c.earlier-found.ensures, c.expr.ensures) (with_next (on_expr (finding_jumps first)) c.args.around c.items-item-items.result.now c.loop-item.item-index c.item-item.result c.loop-item.found c.item-item.is c.loop-item-test.true c.loop-item.invariant)

pub expressions::props-loop-item-preserved : goal.expressions::props-loop-item-preserved
expressions::props-loop-item-preserved t c =
    rw (c.earlier-found.ensures, c.prop.ensures) (with_next (on_prop (finding_jumps first)) c.args.around c.items-item-items.result.now c.loop-item.item-index c.item-item.result c.loop-item.found c.item-item.is c.loop-item-test.true c.loop-item.invariant)

pub markup::attributes-loop-item-preserved : goal.markup::attributes-loop-item-preserved
markup::attributes-loop-item-preserved t c =
    rw (c.earlier-found.ensures, c.attribute.ensures) (with_next (on_markup_attribute (finding_jumps first)) c.args.around c.items-item-items.result.now c.loop-item.item-index c.item-item.result c.loop-item.found c.item-item.is c.loop-item-test.true c.loop-item.invariant)

pub markup::children-loop-item-preserved : goal.markup::children-loop-item-preserved
markup::children-loop-item-preserved t c =
    rw (c.earlier-found.ensures, c.child.ensures) (with_next (on_markup_child (finding_jumps first)) c.args.around c.items-item-items.result.now c.loop-item.item-index c.item-item.result c.loop-item.found c.item-item.is c.loop-item-test.true c.loop-item.invariant)

pub statements::decls-loop-item-preserved : goal.statements::decls-loop-item-preserved
statements::decls-loop-item-preserved t c =
    rw (c.earlier-found.ensures, c.decl.ensures) (with_next (on_decl (finding_jumps first)) c.args.around c.items-item-items.result.now c.loop-item.item-index c.item-item.result c.loop-item.found c.item-item.is c.loop-item-test.true c.loop-item.invariant)

pub statements::stmts-loop-item-preserved : goal.statements::stmts-loop-item-preserved
statements::stmts-loop-item-preserved t c =
    rw (c.earlier-found.ensures, c.stmt.ensures) (with_next (on_stmt (finding_jumps first)) c.args.around c.items-item-items.result.now c.loop-item.item-index c.item-item.result c.loop-item.found c.item-item.is c.loop-item-test.true c.loop-item.invariant)

pub statements::stmt_kind-returns-in-For : goal.statements::stmt_kind-returns-in-For
unfolding kind.roll-StmtKind denote.Hole.Carrier.roll
statements::stmt_kind-returns-in-For t c =
    let body = c.stmt-body.ensures ∙ ap (on_stmt (finding_jumps first) c.get-in-For.result.now) c.in_loop-in-For.ensures ∙ ap (λ s. on_stmt (finding_jumps first) s (in_loop c.args.around)) c.get-in-For.ensures in
    let step = c.earlier-step.ensures ∙ (λ i. earlier_of (c.value-in-For.ensures i) (body i)) in
    let test = c.earlier-test.ensures ∙ (λ i. earlier_of (c.value-in-For-2.ensures i) (step i)) in
    let whole = c.earlier-in-For.ensures ∙ (λ i. earlier_of (c.start.ensures i) (test i)) in
    whole ∙ sym (in_for c.in-For.a c.in-For.b c.in-For.c c.in-For.s c.args.around) ∙ ap (λ k. on_stmt_kind (finding_jumps first) k c.args.around) (sym c.in-For.is)
