use Rattle.std.proofs.Common.{◌+◌, length}
use Rattle.std.proofs.lemmas.Result.{err_from_is_err_and}
use Rattle.mt_json.proofs.Many.{goes, stops, ends}
use Rattle.mt_script_words.proofs.Many.{fails, refuses_after}
use Rattle.mt_script_tree.specs.Reading.{stmt_at, stmt_step, stmts_by}
use Rattle.mt_script_tree.proofs.Many.{no_statements, statements_of}
use Rattle.mt_script_tree.proofs.reading.read_statements.Goals as goal

pub returns-in_err-next : goal.returns-in_err-next
returns-in_err-next c =
    let p = err_from_is_err_and c.from_residual.result c.from_residual.ensures.1 in
    rw (p.1, p.2) (refuses_after c.in_err-next.field-0.0 (stmts_by (stmt_at c.args.depth) c.args.bytes.now) _ (fails c.in_err-next.field-0.0 (stmt_step (stmt_at c.args.depth)) c.loop.found.items (length c.args.bytes.now + 1) c.loop.counter c.loop.rest.now (stmts_by (stmt_at c.args.depth) c.args.bytes.now) c.loop-test.true c.in_err-next.ensures c.loop.invariant))

pub returns-in-None : goal.returns-in-None
returns-in-None c = rw c.in_ok-from_vec-in-None.ensures (statements_of (stmts_by (stmt_at c.args.depth) c.args.bytes.now) c.loop.found.items c.in_ok-next.after.now (stops (stmt_step (stmt_at c.args.depth)) c.loop.found.items (length c.args.bytes.now + 1) c.loop.counter c.loop.rest.now c.in_ok-next.after.now (stmts_by (stmt_at c.args.depth) c.args.bytes.now) c.loop-test.true (rw c.in-None.is at c.in_ok-next.ensures) c.loop.invariant))

pub loop-preserved : goal.loop-preserved
loop-preserved c = rw c.in_ok-push-in-Some.ensures.items (goes (stmt_step (stmt_at c.args.depth)) c.loop.found.items (length c.args.bytes.now + 1) c.loop.counter c.loop.rest.now c.in-Some.item c.in_ok-next.after.now (stmts_by (stmt_at c.args.depth) c.args.bytes.now) c.loop-test.true (rw c.in-Some.is at c.in_ok-next.ensures) c.loop.invariant)

pub returns : goal.returns
returns c = no_statements (stmts_by (stmt_at c.args.depth) c.args.bytes.now) (ends (stmt_step (stmt_at c.args.depth)) c.loop.found.items (length c.args.bytes.now + 1) c.loop.counter c.loop.rest.now (stmts_by (stmt_at c.args.depth) c.args.bytes.now) c.loop-test.false c.loop.invariant)
