use Rattle.std.proofs.Common.{arith}
use Rattle.mt_eval.proofs.Descent.{no_expr, one_expr, no_stmt, one_stmt}
use Rattle.mt_eval.proofs.levels.+evaluate.Goals as goal

pub expr_to-returns-then-depth-eq0 : goal.expr_to-returns-then-depth-eq0
expr_to-returns-then-depth-eq0 g t c _ = no_expr c.args.functions.now g.H.Host.meaning c.args.calls c.args.depth c.args.activation.now (c.args.state.now, c.args.host.now) c.args.e.now (omega arith)

pub expr_to-returns : goal.expr_to-returns
expr_to-returns g t c = rw (one_expr c.args.functions.now g.H.Host.meaning c.args.calls c.args.depth c.args.activation.now (c.args.state.now, c.args.host.now) c.args.e.now (omega arith)) c.node.ensures

pub stmt_to-returns-then-depth-eq0 : goal.stmt_to-returns-then-depth-eq0
stmt_to-returns-then-depth-eq0 g t c _ = no_stmt c.args.functions.now g.H.Host.meaning c.args.calls c.args.depth c.args.activation.now (c.args.state.now, c.args.host.now) c.args.t.now (omega arith)

pub stmt_to-returns : goal.stmt_to-returns
stmt_to-returns g t c = rw (one_stmt c.args.functions.now g.H.Host.meaning c.args.calls c.args.depth c.args.activation.now (c.args.state.now, c.args.host.now) c.args.t.now (omega arith)) c.node.ensures
