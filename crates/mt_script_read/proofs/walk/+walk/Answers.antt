use Rattle.std.proofs.lemmas.Result.{err_from_is_err_and}
use Rattle.mt_syntax.specs.Fold.{on_decl, on_expr, on_markup_attribute, on_markup_child, on_prop, on_stmt}
use Rattle.mt_script_read.specs.Walking.{walking}
use Rattle.mt_script_read.proofs.Turns.{walk_ends, walk_fails, walk_goes}
use Rattle.mt_script_read.proofs.walk.+walk.Goals as goal

pub exprs-loop-item-preserved : goal.exprs-loop-item-preserved
exprs-loop-item-preserved t c = walk_goes (on_expr walking) c.args.items.now c.loop-item.item-index c.args.levels c.loop-item.met.items c.item-item.result _ _ c.item-item.is c.loop-item-test.true c.in_ok-expr.ensures c.loop-item.invariant

pub exprs-returns-in_err-expr : goal.exprs-returns-in_err-expr
exprs-returns-in_err-expr t c =
    let p = err_from_is_err_and c.from_residual.result c.from_residual.ensures.1 in
    rw (p.1, p.2) (walk_fails (on_expr walking) c.args.items.now c.loop-item.item-index c.args.levels c.loop-item.met.items c.in_err-expr.field-0.0 c.item-item.result _ c.item-item.is c.loop-item-test.true c.in_err-expr.ensures c.loop-item.invariant)

pub exprs-returns : goal.exprs-returns
exprs-returns t c = walk_ends (on_expr walking) c.args.items.now c.loop-item.item-index c.args.levels c.loop-item.met.items _ c.loop-item-test.false c.loop-item.invariant

pub props-loop-item-preserved : goal.props-loop-item-preserved
props-loop-item-preserved t c = walk_goes (on_prop walking) c.args.items.now c.loop-item.item-index c.args.levels c.loop-item.met.items c.item-item.result _ _ c.item-item.is c.loop-item-test.true c.in_ok-prop.ensures c.loop-item.invariant

pub props-returns-in_err-prop : goal.props-returns-in_err-prop
props-returns-in_err-prop t c =
    let p = err_from_is_err_and c.from_residual.result c.from_residual.ensures.1 in
    rw (p.1, p.2) (walk_fails (on_prop walking) c.args.items.now c.loop-item.item-index c.args.levels c.loop-item.met.items c.in_err-prop.field-0.0 c.item-item.result _ c.item-item.is c.loop-item-test.true c.in_err-prop.ensures c.loop-item.invariant)

pub props-returns : goal.props-returns
props-returns t c = walk_ends (on_prop walking) c.args.items.now c.loop-item.item-index c.args.levels c.loop-item.met.items _ c.loop-item-test.false c.loop-item.invariant

pub attributes-loop-item-preserved : goal.attributes-loop-item-preserved
attributes-loop-item-preserved t c = walk_goes (on_markup_attribute walking) c.args.items.now c.loop-item.item-index c.args.levels c.loop-item.met.items c.item-item.result _ _ c.item-item.is c.loop-item-test.true c.in_ok-attribute.ensures c.loop-item.invariant

pub attributes-returns-in_err-attribute : goal.attributes-returns-in_err-attribute
attributes-returns-in_err-attribute t c =
    let p = err_from_is_err_and c.from_residual.result c.from_residual.ensures.1 in
    rw (p.1, p.2) (walk_fails (on_markup_attribute walking) c.args.items.now c.loop-item.item-index c.args.levels c.loop-item.met.items c.in_err-attribute.field-0.0 c.item-item.result _ c.item-item.is c.loop-item-test.true c.in_err-attribute.ensures c.loop-item.invariant)

pub attributes-returns : goal.attributes-returns
attributes-returns t c = walk_ends (on_markup_attribute walking) c.args.items.now c.loop-item.item-index c.args.levels c.loop-item.met.items _ c.loop-item-test.false c.loop-item.invariant

pub children-loop-item-preserved : goal.children-loop-item-preserved
children-loop-item-preserved t c = walk_goes (on_markup_child walking) c.args.items.now c.loop-item.item-index c.args.levels c.loop-item.met.items c.item-item.result _ _ c.item-item.is c.loop-item-test.true c.in_ok-child.ensures c.loop-item.invariant

pub children-returns-in_err-child : goal.children-returns-in_err-child
children-returns-in_err-child t c =
    let p = err_from_is_err_and c.from_residual.result c.from_residual.ensures.1 in
    rw (p.1, p.2) (walk_fails (on_markup_child walking) c.args.items.now c.loop-item.item-index c.args.levels c.loop-item.met.items c.in_err-child.field-0.0 c.item-item.result _ c.item-item.is c.loop-item-test.true c.in_err-child.ensures c.loop-item.invariant)

pub children-returns : goal.children-returns
children-returns t c = walk_ends (on_markup_child walking) c.args.items.now c.loop-item.item-index c.args.levels c.loop-item.met.items _ c.loop-item-test.false c.loop-item.invariant

pub decls-loop-item-preserved : goal.decls-loop-item-preserved
decls-loop-item-preserved t c = walk_goes (on_decl walking) c.args.items.now c.loop-item.item-index c.args.levels c.loop-item.met.items c.item-item.result _ _ c.item-item.is c.loop-item-test.true c.in_ok-decl.ensures c.loop-item.invariant

pub decls-returns-in_err-decl : goal.decls-returns-in_err-decl
decls-returns-in_err-decl t c =
    let p = err_from_is_err_and c.from_residual.result c.from_residual.ensures.1 in
    rw (p.1, p.2) (walk_fails (on_decl walking) c.args.items.now c.loop-item.item-index c.args.levels c.loop-item.met.items c.in_err-decl.field-0.0 c.item-item.result _ c.item-item.is c.loop-item-test.true c.in_err-decl.ensures c.loop-item.invariant)

pub decls-returns : goal.decls-returns
decls-returns t c = walk_ends (on_decl walking) c.args.items.now c.loop-item.item-index c.args.levels c.loop-item.met.items _ c.loop-item-test.false c.loop-item.invariant

pub stmts-loop-item-preserved : goal.stmts-loop-item-preserved
stmts-loop-item-preserved t c = walk_goes (on_stmt walking) c.args.items.now c.loop-item.item-index c.args.levels c.loop-item.met.items c.item-item.result _ _ c.item-item.is c.loop-item-test.true c.in_ok-stmt.ensures c.loop-item.invariant

pub stmts-returns-in_err-stmt : goal.stmts-returns-in_err-stmt
stmts-returns-in_err-stmt t c =
    let p = err_from_is_err_and c.from_residual.result c.from_residual.ensures.1 in
    rw (p.1, p.2) (walk_fails (on_stmt walking) c.args.items.now c.loop-item.item-index c.args.levels c.loop-item.met.items c.in_err-stmt.field-0.0 c.item-item.result _ c.item-item.is c.loop-item-test.true c.in_err-stmt.ensures c.loop-item.invariant)

pub stmts-returns : goal.stmts-returns
stmts-returns t c = walk_ends (on_stmt walking) c.args.items.now c.loop-item.item-index c.args.levels c.loop-item.met.items _ c.loop-item-test.false c.loop-item.invariant
