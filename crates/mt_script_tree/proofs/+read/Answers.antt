use Rattle.std.proofs.Common.{◌∙◌, arith, length, refl}
use Rattle.std.proofs.lemmas.Result.{err_from_is_err_and}
use Rattle.mt_json.proofs.Many.{goes, stops, ends}
use Rattle.mt_script_words.proofs.Many.{fails}
use Rattle.mt_script_tree.specs.Expressions.{chain_at, prop_at}
use Rattle.mt_script_tree.specs.Lists.{item_step, list_by}
use Rattle.mt_script_tree.specs.Reading.{expr_at, stmt_at}
use Rattle.mt_script_tree.specs.Statements.{decl_at}
use Rattle.mt_script_tree.proofs.Depths.{block_below}
use Rattle.mt_script_tree.proofs.Many.{chain_fails, chain_goes, chain_runs_out, chain_stops}
use Rattle.mt_script_tree.proofs.+read.Goals as goal

pub lists::exprs-returns-in_err-next : goal.lists::exprs-returns-in_err-next
lists::exprs-returns-in_err-next t c =
    let p = err_from_is_err_and c.from_residual.result c.from_residual.ensures.1 in
    rw (p.1, p.2) (fails c.in_err-next.field-0.0 (item_step c.args.close (expr_at c.args.depth)) c.loop.found.items (length c.args.bytes.now) c.loop.counter c.loop.rest.now (list_by c.args.close (expr_at c.args.depth) c.args.bytes.now) c.loop-test.true c.in_err-next.ensures c.loop.invariant)

pub lists::exprs-returns-in-None : goal.lists::exprs-returns-in-None
lists::exprs-returns-in-None t c = rw c.in_ok-from_vec-in-None.ensures (stops (item_step c.args.close (expr_at c.args.depth)) c.loop.found.items (length c.args.bytes.now) c.loop.counter c.loop.rest.now c.in_ok-next.after.now (list_by c.args.close (expr_at c.args.depth) c.args.bytes.now) c.loop-test.true (rw c.in-None.is at c.in_ok-next.ensures) c.loop.invariant)

pub lists::exprs-loop-preserved : goal.lists::exprs-loop-preserved
lists::exprs-loop-preserved t c = rw c.in_ok-push-in-Some.ensures.items (goes (item_step c.args.close (expr_at c.args.depth)) c.loop.found.items (length c.args.bytes.now) c.loop.counter c.loop.rest.now c.in-Some.item c.in_ok-next.after.now (list_by c.args.close (expr_at c.args.depth) c.args.bytes.now) c.loop-test.true (rw c.in-Some.is at c.in_ok-next.ensures) c.loop.invariant)

pub lists::exprs-returns : goal.lists::exprs-returns
lists::exprs-returns t c = ends (item_step c.args.close (expr_at c.args.depth)) c.loop.found.items (length c.args.bytes.now) c.loop.counter c.loop.rest.now (list_by c.args.close (expr_at c.args.depth) c.args.bytes.now) c.loop-test.false c.loop.invariant

pub lists::props-returns-in_err-next : goal.lists::props-returns-in_err-next
lists::props-returns-in_err-next t c =
    let p = err_from_is_err_and c.from_residual.result c.from_residual.ensures.1 in
    rw (p.1, p.2) (fails c.in_err-next.field-0.0 (item_step 125 (prop_at (expr_at c.args.depth))) c.loop.found.items (length c.args.bytes.now) c.loop.counter c.loop.rest.now (list_by 125 (prop_at (expr_at c.args.depth)) c.args.bytes.now) c.loop-test.true c.in_err-next.ensures c.loop.invariant)

pub lists::props-returns-in-None : goal.lists::props-returns-in-None
lists::props-returns-in-None t c = rw c.in_ok-from_vec-in-None.ensures (stops (item_step 125 (prop_at (expr_at c.args.depth))) c.loop.found.items (length c.args.bytes.now) c.loop.counter c.loop.rest.now c.in_ok-next.after.now (list_by 125 (prop_at (expr_at c.args.depth)) c.args.bytes.now) c.loop-test.true (rw c.in-None.is at c.in_ok-next.ensures) c.loop.invariant)

pub lists::props-loop-preserved : goal.lists::props-loop-preserved
lists::props-loop-preserved t c = rw c.in_ok-push-in-Some.ensures.items (goes (item_step 125 (prop_at (expr_at c.args.depth))) c.loop.found.items (length c.args.bytes.now) c.loop.counter c.loop.rest.now c.in-Some.item c.in_ok-next.after.now (list_by 125 (prop_at (expr_at c.args.depth)) c.args.bytes.now) c.loop-test.true (rw c.in-Some.is at c.in_ok-next.ensures) c.loop.invariant)

pub lists::props-returns : goal.lists::props-returns
lists::props-returns t c = ends (item_step 125 (prop_at (expr_at c.args.depth))) c.loop.found.items (length c.args.bytes.now) c.loop.counter c.loop.rest.now (list_by 125 (prop_at (expr_at c.args.depth)) c.args.bytes.now) c.loop-test.false c.loop.invariant

pub lists::decls-returns-in_err-next : goal.lists::decls-returns-in_err-next
lists::decls-returns-in_err-next t c =
    let p = err_from_is_err_and c.from_residual.result c.from_residual.ensures.1 in
    rw (p.1, p.2) (fails c.in_err-next.field-0.0 (item_step 59 (decl_at (expr_at c.args.depth))) c.loop.found.items (length c.args.bytes.now) c.loop.counter c.loop.rest.now (list_by 59 (decl_at (expr_at c.args.depth)) c.args.bytes.now) c.loop-test.true c.in_err-next.ensures c.loop.invariant)

pub lists::decls-returns-in-None : goal.lists::decls-returns-in-None
lists::decls-returns-in-None t c = rw c.in_ok-from_vec-in-None.ensures (stops (item_step 59 (decl_at (expr_at c.args.depth))) c.loop.found.items (length c.args.bytes.now) c.loop.counter c.loop.rest.now c.in_ok-next.after.now (list_by 59 (decl_at (expr_at c.args.depth)) c.args.bytes.now) c.loop-test.true (rw c.in-None.is at c.in_ok-next.ensures) c.loop.invariant)

pub lists::decls-loop-preserved : goal.lists::decls-loop-preserved
lists::decls-loop-preserved t c = rw c.in_ok-push-in-Some.ensures.items (goes (item_step 59 (decl_at (expr_at c.args.depth))) c.loop.found.items (length c.args.bytes.now) c.loop.counter c.loop.rest.now c.in-Some.item c.in_ok-next.after.now (list_by 59 (decl_at (expr_at c.args.depth)) c.args.bytes.now) c.loop-test.true (rw c.in-Some.is at c.in_ok-next.ensures) c.loop.invariant)

pub lists::decls-returns : goal.lists::decls-returns
lists::decls-returns t c = ends (item_step 59 (decl_at (expr_at c.args.depth))) c.loop.found.items (length c.args.bytes.now) c.loop.counter c.loop.rest.now (list_by 59 (decl_at (expr_at c.args.depth)) c.args.bytes.now) c.loop-test.false c.loop.invariant

pub lists::stmts-returns-in_err-next : goal.lists::stmts-returns-in_err-next
lists::stmts-returns-in_err-next t c =
    let p = err_from_is_err_and c.from_residual.result c.from_residual.ensures.1 in
    rw (p.1, p.2) (fails c.in_err-next.field-0.0 (item_step 125 (stmt_at c.args.depth)) c.loop.found.items (length c.args.bytes.now) c.loop.counter c.loop.rest.now (list_by 125 (stmt_at c.args.depth) c.args.bytes.now) c.loop-test.true c.in_err-next.ensures c.loop.invariant)

pub lists::stmts-returns-in-None : goal.lists::stmts-returns-in-None
lists::stmts-returns-in-None t c = rw c.in_ok-from_vec-in-None.ensures (stops (item_step 125 (stmt_at c.args.depth)) c.loop.found.items (length c.args.bytes.now) c.loop.counter c.loop.rest.now c.in_ok-next.after.now (list_by 125 (stmt_at c.args.depth) c.args.bytes.now) c.loop-test.true (rw c.in-None.is at c.in_ok-next.ensures) c.loop.invariant)

pub lists::stmts-loop-preserved : goal.lists::stmts-loop-preserved
lists::stmts-loop-preserved t c = rw c.in_ok-push-in-Some.ensures.items (goes (item_step 125 (stmt_at c.args.depth)) c.loop.found.items (length c.args.bytes.now) c.loop.counter c.loop.rest.now c.in-Some.item c.in_ok-next.after.now (list_by 125 (stmt_at c.args.depth) c.args.bytes.now) c.loop-test.true (rw c.in-Some.is at c.in_ok-next.ensures) c.loop.invariant)

pub lists::stmts-returns : goal.lists::stmts-returns
lists::stmts-returns t c = ends (item_step 125 (stmt_at c.args.depth)) c.loop.found.items (length c.args.bytes.now) c.loop.counter c.loop.rest.now (list_by 125 (stmt_at c.args.depth) c.args.bytes.now) c.loop-test.false c.loop.invariant

pub expressions::chain-returns-in_err-more : goal.expressions::chain-returns-in_err-more
expressions::chain-returns-in_err-more t c =
    let p = err_from_is_err_and c.from_residual.result c.from_residual.ensures.1 in
    rw (p.1, p.2) (chain_fails (expr_at c.args.depth) c.args.turns c.loop.counter c.loop.found c.loop.rest.now (chain_at (expr_at c.args.depth) c.args.turns c.args.base c.args.bytes.now) c.loop.invariant c.in_err-more.field-0.0 c.loop-test.true c.in_err-more.ensures)

pub expressions::chain-returns-then-not-more : goal.expressions::chain-returns-then-not-more
expressions::chain-returns-then-not-more t c = chain_stops (expr_at c.args.depth) c.args.turns c.loop.counter c.loop.found c.loop.rest.now (chain_at (expr_at c.args.depth) c.args.turns c.args.base c.args.bytes.now) c.loop.invariant c.in_ok-more.next c.in_ok-more.after.now c.loop-test.true (rw c.if-not-more.true at c.in_ok-more.ensures)

pub expressions::chain-loop-preserved : goal.expressions::chain-loop-preserved
expressions::chain-loop-preserved t c = chain_goes (expr_at c.args.depth) c.args.turns c.loop.counter c.loop.found c.loop.rest.now (chain_at (expr_at c.args.depth) c.args.turns c.args.base c.args.bytes.now) c.loop.invariant c.in_ok-more.next c.in_ok-more.after.now c.loop-test.true (rw c.if-not-more.false at c.in_ok-more.ensures)

pub expressions::chain-returns : goal.expressions::chain-returns
expressions::chain-returns t c = chain_runs_out (expr_at c.args.depth) c.args.turns c.loop.counter c.loop.found c.loop.rest.now (chain_at (expr_at c.args.depth) c.args.turns c.args.base c.args.bytes.now) c.loop.invariant c.loop-test.false

pub statements::block-returns : goal.statements::block-returns
statements::block-returns t c =
    block_below c.args.depth c.args.bytes.now (omega (arith, c.if-depth-eq0.false)) ∙ rw (rw c.skip.ensures at c.in_ok-found.ensures, c.block_of.ensures) refl
