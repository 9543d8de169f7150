use Rattle.std.proofs.Common.{◌≡◌, ◌∙◌, ap, sym, Option, None, Some}
use Rattle.mt_syntax.specs.First.{earlier_of}
use Rattle.mt_syntax.specs.Fold.{on_expr, on_prop, on_markup_attribute, on_markup_child, on_decl, on_for_start, on_stmt, on_stmt_kind}
use Rattle.mt_syntax.specs.declared.tree.Expr.{Expr}
use Rattle.mt_syntax.specs.declared.tree.ForStart.{ForStart}
use Rattle.mt_syntax.specs.declared.tree.Stmt.{Stmt}
use Rattle.mt_syntax.specs.declared.tree.StmtKind as tree
use Rattle.mt_syntax.specs.declared.tree.StmtKind.TheVariants as statement
use Rattle.std.specs.Prelude.{option_map}
use Rattle.mt_stage_declared.specs.Parts.{optional_found}
use Rattle.mt_syntax.specs.declared.tree.ExprKind.TheOpen.{StmtKind-F}
use Rattle.mt_syntax_laws.proofs.Related.{at_stmt_kind}
use Rattle.mt_stage_declared.specs.Twice.{first_twice}
use Rattle.mt_stage_declared.proofs.Rows.{found_next}
use Rattle.mt_stage_declared.proofs.walk.+walk.Goals as goal

found_in_for : (a : ForStart) (b c : Option Expr) (s : Stmt) → (on_stmt_kind first_twice (statement.For a b c s)).found
    ≡ earlier_of (on_for_start first_twice a).found (earlier_of (optional_found None earlier_of (option_map (on_expr first_twice) b)) (earlier_of (optional_found None earlier_of (option_map (on_expr first_twice) c)) (on_stmt first_twice s).found))
unfolding tree.roll-StmtKind denote.Hole.Carrier.roll
found_in_for a None None s = ap (λ p. p.found) (at_stmt_kind first_twice (StmtKind-F.For a None None s))
found_in_for a None (Some c) s = ap (λ p. p.found) (at_stmt_kind first_twice (StmtKind-F.For a None (Some c) s))
found_in_for a (Some b) None s = ap (λ p. p.found) (at_stmt_kind first_twice (StmtKind-F.For a (Some b) None s))
found_in_for a (Some b) (Some c) s = ap (λ p. p.found) (at_stmt_kind first_twice (StmtKind-F.For a (Some b) (Some c) s))

pub expressions::exprs-loop-item-preserved : goal.expressions::exprs-loop-item-preserved
expressions::exprs-loop-item-preserved g t c =
    c.earlier-found.ensures ∙ (λ i. earlier_of (c.loop-item.invariant i) (c.in_ok-expr.ensures i))
    ∙ found_next (on_expr first_twice) c.items-item-items.result.now c.loop-item.item-index c.item-item.result c.loop-item-test.true c.item-item.is

pub expressions::props-loop-item-preserved : goal.expressions::props-loop-item-preserved
expressions::props-loop-item-preserved g t c =
    c.earlier-found.ensures ∙ (λ i. earlier_of (c.loop-item.invariant i) (c.in_ok-prop.ensures i))
    ∙ found_next (on_prop first_twice) c.items-item-items.result.now c.loop-item.item-index c.item-item.result c.loop-item-test.true c.item-item.is

pub markup::attributes-loop-item-preserved : goal.markup::attributes-loop-item-preserved
markup::attributes-loop-item-preserved g t c =
    c.earlier-found.ensures ∙ (λ i. earlier_of (c.loop-item.invariant i) (c.in_ok-attribute.ensures i))
    ∙ found_next (on_markup_attribute first_twice) c.items-item-items.result.now c.loop-item.item-index c.item-item.result c.loop-item-test.true c.item-item.is

pub markup::children-loop-item-preserved : goal.markup::children-loop-item-preserved
markup::children-loop-item-preserved g t c =
    c.earlier-found.ensures ∙ (λ i. earlier_of (c.loop-item.invariant i) (c.in_ok-child.ensures i))
    ∙ found_next (on_markup_child first_twice) c.items-item-items.result.now c.loop-item.item-index c.item-item.result c.loop-item-test.true c.item-item.is

pub statements::decls-loop-item-preserved : goal.statements::decls-loop-item-preserved
statements::decls-loop-item-preserved g t c =
    c.earlier-found.ensures ∙ (λ i. earlier_of (c.loop-item.invariant i) (c.in_ok-decl.ensures i))
    ∙ found_next (on_decl first_twice) c.items-item-items.result.now c.loop-item.item-index c.item-item.result c.loop-item-test.true c.item-item.is

pub statements::stmts-loop-item-preserved : goal.statements::stmts-loop-item-preserved
statements::stmts-loop-item-preserved g t c =
    c.earlier-found.ensures ∙ (λ i. earlier_of (c.loop-item.invariant i) (c.in_ok-stmt.ensures i))
    ∙ found_next (on_stmt first_twice) c.items-item-items.result.now c.loop-item.item-index c.item-item.result c.loop-item-test.true c.item-item.is

pub statements::stmt_kind-returns-in_ok-rest-in-For : goal.statements::stmt_kind-returns-in_ok-rest-in-For
statements::stmt_kind-returns-in_ok-rest-in-For g t c =
    let body = c.in_ok-rest-in-For.ensures ∙ ap (λ s. (on_stmt first_twice s).found) c.get-in-For.ensures in
    let last = c.earlier-in-For.ensures ∙ (λ i. earlier_of (c.in_ok-step-in-For.ensures i) (body i)) in
    let more = c.earlier-in-For-2.ensures ∙ (λ i. earlier_of (c.in_ok-test-in-For.ensures i) (last i)) in
    c.earlier-in-For-3.ensures ∙ (λ i. earlier_of (c.in_ok-first-in-For.ensures i) (more i))
    ∙ sym (ap (λ k. (on_stmt_kind first_twice k).found) c.in-For.is ∙ found_in_for c.in-For.a c.in-For.b c.in-For.c c.in-For.inner)
