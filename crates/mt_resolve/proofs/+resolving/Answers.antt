use Rattle.std.proofs.Common.{arith}
use Rattle.mt_resolve_names.specs.Around.{surroundings_of}
use Rattle.mt_resolve.proofs.Steps.{no_expr, one_expr, no_stmt, one_stmt, no_function, one_function}
use Rattle.mt_resolve.proofs.+resolving.Goals as goal

pub expressions::expr-returns-then-depth-eq0 : goal.expressions::expr-returns-then-depth-eq0
expressions::expr-returns-then-depth-eq0 t c _ = no_expr (surroundings_of c.args.r.now.around) c.args.r.now.first c.args.depth c.args.scope.now c.args.from.now c.args.functions.now.items (omega arith)

pub expressions::expr-returns : goal.expressions::expr-returns
expressions::expr-returns t c = rw (one_expr (surroundings_of c.args.r.now.around) c.args.r.now.first c.args.depth c.args.scope.now c.args.from.now c.args.functions.now.items (omega arith)) c.node.ensures

pub statements::stmt-returns-then-depth-eq0 : goal.statements::stmt-returns-then-depth-eq0
statements::stmt-returns-then-depth-eq0 t c _ = no_stmt (surroundings_of c.args.r.now.around) c.args.r.now.first c.args.depth c.args.scope.now c.args.size c.args.from.now c.args.functions.now.items (omega arith)

pub statements::stmt-returns : goal.statements::stmt-returns
statements::stmt-returns t c = rw (one_stmt (surroundings_of c.args.r.now.around) c.args.r.now.first c.args.depth c.args.scope.now c.args.size c.args.from.now c.args.functions.now.items (omega arith)) c.act.ensures

pub bodies::declared_function-returns-then-depth-eq0 : goal.bodies::declared_function-returns-then-depth-eq0
bodies::declared_function-returns-then-depth-eq0 t c _ = no_function (surroundings_of c.args.r.now.around) c.args.r.now.first c.args.depth c.args.scope.now c.args.from.now c.args.functions.now.items (omega arith)

pub bodies::declared_function-returns : goal.bodies::declared_function-returns
bodies::declared_function-returns t c = rw (one_function (surroundings_of c.args.r.now.around) c.args.r.now.first c.args.depth c.args.scope.now c.args.from.now c.args.functions.now.items (omega arith)) c.function.ensures
