use Rattle.std.proofs.Common.{◌≡◌, List, ◌++◌, Option, None, Some, ap, ◌∙◌, sym, subst}
use Rattle.std.proofs.lemmas.List.{append-nil}
use Rattle.std.specs.Prelude.{option_map, OnOk}
use Rattle.mt_syntax.specs.Fold.{on_expr, on_prop, on_markup_attribute, on_markup_child, on_decl, on_for_start, on_stmt, on_stmt_kind}
use Rattle.mt_syntax.specs.declared.tree.Expr.{Expr}
use Rattle.mt_syntax.specs.declared.tree.ForStart.{ForStart}
use Rattle.mt_syntax.specs.declared.tree.Stmt.{Stmt}
use Rattle.mt_syntax.specs.declared.tree.StmtKind as tree
use Rattle.mt_syntax.specs.declared.tree.StmtKind.TheVariants as statement
use Rattle.mt_syntax.specs.declared.tree.ExprKind.TheOpen.{StmtKind-F}
use Rattle.mt_syntax_laws.proofs.Related.{at_stmt_kind}
use Rattle.mt_stage_declared.specs.Parts.{optional_found}
use Rattle.mt_stage_scopes.specs.Sites.{joined, nowhere, sites}
use Rattle.mt_stage_scopes.specs.declared.around.Around.{Around}
use Rattle.mt_stage_scopes.specs.declared.site.Site.{Site}
use Rattle.mt_stage_scopes.proofs.Rows.{five, sites_next}
use Rattle.mt_stage_scopes.proofs.sites.+sites.Goals as goal

abbrev sites_of_option : Option Expr → Around → List Site
sites_of_option e = (optional_found nowhere joined (option_map (on_expr sites) e)).sites

sites_in_for : (a : ForStart) (b c : Option Expr) (s : Stmt) (around : Around) → (on_stmt_kind sites (statement.For a b c s)).found.sites around
    ≡ (on_for_start sites a).found.sites around ++ (sites_of_option b around ++ (sites_of_option c around ++ (on_stmt sites s).found.sites around))
unfolding tree.roll-StmtKind denote.Hole.Carrier.roll
sites_in_for a None None s around = ap (λ p. p.found.sites around) (at_stmt_kind sites (StmtKind-F.For a None None s))
sites_in_for a None (Some c) s around = ap (λ p. p.found.sites around) (at_stmt_kind sites (StmtKind-F.For a None (Some c) s))
sites_in_for a (Some b) None s around = ap (λ p. p.found.sites around) (at_stmt_kind sites (StmtKind-F.For a (Some b) None s))
sites_in_for a (Some b) (Some c) s around = ap (λ p. p.found.sites around) (at_stmt_kind sites (StmtKind-F.For a (Some b) (Some c) s))

pub statements::stmt_kind-returns-in_ok-optional_expr-in-For-2 : goal.statements::stmt_kind-returns-in_ok-optional_expr-in-For-2
statements::stmt_kind-returns-in_ok-optional_expr-in-For-2 t c =
    let around = c.args.around.now in
    let start = c.args.into.now.items in
    let first = (on_for_start sites c.in-For.a).found.sites around in
    let test = sites_of_option c.in-For.b around in
    let step = sites_of_option c.in-For.c around in
    let so_far = c.in_ok-optional_expr-in-For-2.ensures ∙ ap (λ ss. ss ++ step) (c.in_ok-optional_expr-in-For.ensures ∙ ap (λ ss. ss ++ test) c.in_ok-start-in-For.ensures) in
    let whole = ap (λ ss. ss ++ (on_stmt sites c.get-in-For.result.now).found.sites around) so_far
    ∙ ap (λ s. (((start ++ first) ++ test) ++ step) ++ (on_stmt sites s).found.sites around) c.get-in-For.ensures in
    let last = (on_stmt sites c.in-For.inner).found.sites around in
    subst (λ ss. OnOk c.stmt-in-For.result (c.stmt-in-For.new.into.items ≡ ss))
    (whole ∙ five start first test step last
    ∙ ap (λ ss. start ++ ss) (sym (ap (λ k. (on_stmt_kind sites k).found.sites around) c.in-For.is ∙ sites_in_for c.in-For.a c.in-For.b c.in-For.c c.in-For.inner around)))
    c.stmt-in-For.ensures

pub expressions::optional_expr-returns-in-None : goal.expressions::optional_expr-returns-in-None
expressions::optional_expr-returns-in-None t c =
    let start = c.args.into.now.items in
    sym (append-nil start) ∙ ap (λ e. start ++ (optional_found nowhere joined (option_map (on_expr sites) e)).sites c.args.around.now) (sym c.in-None.is)

pub statements::branch-returns-in-None : goal.statements::branch-returns-in-None
statements::branch-returns-in-None t c =
    let start = c.args.into.now.items in
    sym (append-nil start) ∙ ap (λ s. start ++ (optional_found nowhere joined (option_map (on_stmt sites) s)).sites c.args.around.now) (sym c.in-None.is)

pub expressions::exprs-loop-item-preserved : goal.expressions::exprs-loop-item-preserved
expressions::exprs-loop-item-preserved t c =
    sites_next (on_expr sites) c.items-item-items.result.now c.loop-item.item-index c.item-item.result c.loop-item-test.true c.item-item.is c.args.around.now c.args.into.now.items
    c.loop-item.into.items c.expr.new.into.items c.in_ok-expr.ensures c.loop-item.invariant

pub expressions::props-loop-item-preserved : goal.expressions::props-loop-item-preserved
expressions::props-loop-item-preserved t c =
    sites_next (on_prop sites) c.items-item-items.result.now c.loop-item.item-index c.item-item.result c.loop-item-test.true c.item-item.is c.args.around.now c.args.into.now.items
    c.loop-item.into.items c.prop.new.into.items c.in_ok-prop.ensures c.loop-item.invariant

pub markup::attributes-loop-item-preserved : goal.markup::attributes-loop-item-preserved
markup::attributes-loop-item-preserved t c =
    sites_next (on_markup_attribute sites) c.items-item-items.result.now c.loop-item.item-index c.item-item.result c.loop-item-test.true c.item-item.is c.args.around.now c.args.into.now.items
    c.loop-item.into.items c.attribute.new.into.items c.in_ok-attribute.ensures c.loop-item.invariant

pub markup::children-loop-item-preserved : goal.markup::children-loop-item-preserved
markup::children-loop-item-preserved t c =
    sites_next (on_markup_child sites) c.items-item-items.result.now c.loop-item.item-index c.item-item.result c.loop-item-test.true c.item-item.is c.args.around.now c.args.into.now.items
    c.loop-item.into.items c.child.new.into.items c.in_ok-child.ensures c.loop-item.invariant

pub statements::decls-loop-item-preserved : goal.statements::decls-loop-item-preserved
statements::decls-loop-item-preserved t c =
    sites_next (on_decl sites) c.items-item-items.result.now c.loop-item.item-index c.item-item.result c.loop-item-test.true c.item-item.is c.args.around.now c.args.into.now.items
    c.loop-item.into.items c.decl.new.into.items c.in_ok-decl.ensures c.loop-item.invariant

pub statements::stmts-loop-item-preserved : goal.statements::stmts-loop-item-preserved
statements::stmts-loop-item-preserved t c =
    sites_next (on_stmt sites) c.items-item-items.result.now c.loop-item.item-index c.item-item.result c.loop-item-test.true c.item-item.is c.args.around.now c.args.into.now.items
    c.loop-item.into.items c.stmt.new.into.items c.in_ok-stmt.ensures c.loop-item.invariant
