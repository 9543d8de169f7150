use Rattle.std.proofs.Common.{◌≡◌, ◌-◌, ◌+◌, ◌*◌, length}
use Rattle.mt_json.proofs.Many.{SoFar}
use Rattle.mt_script_tree.specs.Expressions.{chain_at, prop_at}
use Rattle.mt_script_tree.specs.Lists.{item_step, list_by}
use Rattle.mt_script_tree.specs.Reading.{expr_at, stmt_at}
use Rattle.mt_script_tree.specs.Statements.{decl_at}
use Rattle.mt_script_tree.proofs.+read.Given as goal

abbrev pub invariant-lists::exprs-loop : goal.invariant-lists::exprs-loop
invariant-lists::exprs-loop l = SoFar (item_step l.close (expr_at l.depth)) (length l.bytes - l.counter) l.found.items l.rest (list_by l.close (expr_at l.depth) l.bytes)

abbrev pub invariant-lists::props-loop : goal.invariant-lists::props-loop
invariant-lists::props-loop l = SoFar (item_step 125 (prop_at (expr_at l.depth))) (length l.bytes - l.counter) l.found.items l.rest (list_by 125 (prop_at (expr_at l.depth)) l.bytes)

abbrev pub invariant-lists::decls-loop : goal.invariant-lists::decls-loop
invariant-lists::decls-loop l = SoFar (item_step 59 (decl_at (expr_at l.depth))) (length l.bytes - l.counter) l.found.items l.rest (list_by 59 (decl_at (expr_at l.depth)) l.bytes)

abbrev pub invariant-lists::stmts-loop : goal.invariant-lists::stmts-loop
invariant-lists::stmts-loop l = SoFar (item_step 125 (stmt_at l.depth)) (length l.bytes - l.counter) l.found.items l.rest (list_by 125 (stmt_at l.depth) l.bytes)

abbrev pub invariant-expressions::chain-loop : goal.invariant-expressions::chain-loop
invariant-expressions::chain-loop l = chain_at (expr_at l.depth) (l.turns - l.counter) l.found l.rest ≡ chain_at (expr_at l.depth) l.turns l.fn.base l.bytes

abbrev pub decreases-expressions::expr : goal.decreases-expressions::expr
decreases-expressions::expr l = 12 * l.depth + 0

abbrev pub decreases-expressions::prop : goal.decreases-expressions::prop
decreases-expressions::prop l = 12 * l.depth + 1

abbrev pub decreases-expressions::grown_from : goal.decreases-expressions::grown_from
decreases-expressions::grown_from l = 12 * l.depth + 3

abbrev pub decreases-expressions::grown : goal.decreases-expressions::grown
decreases-expressions::grown l = 12 * l.depth + 4

abbrev pub decreases-expressions::chain : goal.decreases-expressions::chain
decreases-expressions::chain l = 12 * l.depth + 5

abbrev pub decreases-expressions::led : goal.decreases-expressions::led
decreases-expressions::led l = 12 * l.depth + 6

abbrev pub decreases-expressions::enclosed_from : goal.decreases-expressions::enclosed_from
decreases-expressions::enclosed_from l = 12 * l.depth + 7

abbrev pub decreases-expressions::enclosed : goal.decreases-expressions::enclosed
decreases-expressions::enclosed l = 12 * l.depth + 8

abbrev pub decreases-expressions::head_from : goal.decreases-expressions::head_from
decreases-expressions::head_from l = 12 * l.depth + 9

abbrev pub decreases-expressions::head : goal.decreases-expressions::head
decreases-expressions::head l = 12 * l.depth + 10

abbrev pub decreases-operations::unary : goal.decreases-operations::unary
decreases-operations::unary l = 12 * l.depth + 1

abbrev pub decreases-operations::step : goal.decreases-operations::step
decreases-operations::step l = 12 * l.depth + 1

abbrev pub decreases-operations::other_choice : goal.decreases-operations::other_choice
decreases-operations::other_choice l = 12 * l.depth + 1

abbrev pub decreases-operations::second : goal.decreases-operations::second
decreases-operations::second l = 12 * l.depth + 2

abbrev pub decreases-operations::signed : goal.decreases-operations::signed
decreases-operations::signed l = 12 * l.depth + 2

abbrev pub decreases-operations::operated : goal.decreases-operations::operated
decreases-operations::operated l = 12 * l.depth + 3

abbrev pub decreases-operations::behind : goal.decreases-operations::behind
decreases-operations::behind l = 12 * l.depth + 4

abbrev pub decreases-operations::operation : goal.decreases-operations::operation
decreases-operations::operation l = 12 * l.depth + 5

abbrev pub decreases-lists::expr_or_end : goal.decreases-lists::expr_or_end
decreases-lists::expr_or_end l = 12 * l.depth + 1

abbrev pub decreases-lists::exprs : goal.decreases-lists::exprs
decreases-lists::exprs l = 12 * l.depth + 2

abbrev pub decreases-lists::prop_or_end : goal.decreases-lists::prop_or_end
decreases-lists::prop_or_end l = 12 * l.depth + 2

abbrev pub decreases-lists::props : goal.decreases-lists::props
decreases-lists::props l = 12 * l.depth + 3

abbrev pub decreases-lists::decl_or_end : goal.decreases-lists::decl_or_end
decreases-lists::decl_or_end l = 12 * l.depth + 3

abbrev pub decreases-lists::decls : goal.decreases-lists::decls
decreases-lists::decls l = 12 * l.depth + 4

abbrev pub decreases-lists::stmt_or_end : goal.decreases-lists::stmt_or_end
decreases-lists::stmt_or_end l = 12 * l.depth + 1

abbrev pub decreases-lists::stmts : goal.decreases-lists::stmts
decreases-lists::stmts l = 12 * l.depth + 2

abbrev pub decreases-functions::function : goal.decreases-functions::function
decreases-functions::function l = 12 * l.depth + 3

abbrev pub decreases-statements::stmt : goal.decreases-statements::stmt
decreases-statements::stmt l = 12 * l.depth + 0

abbrev pub decreases-statements::block : goal.decreases-statements::block
decreases-statements::block l = 12 * l.depth + 0

abbrev pub decreases-statements::value : goal.decreases-statements::value
decreases-statements::value l = 12 * l.depth + 1

abbrev pub decreases-statements::part : goal.decreases-statements::part
decreases-statements::part l = 12 * l.depth + 1

abbrev pub decreases-statements::give_back : goal.decreases-statements::give_back
decreases-statements::give_back l = 12 * l.depth + 1

abbrev pub decreases-statements::throw : goal.decreases-statements::throw
decreases-statements::throw l = 12 * l.depth + 1

abbrev pub decreases-statements::expression : goal.decreases-statements::expression
decreases-statements::expression l = 12 * l.depth + 1

abbrev pub decreases-statements::catching : goal.decreases-statements::catching
decreases-statements::catching l = 12 * l.depth + 1

abbrev pub decreases-statements::other : goal.decreases-statements::other
decreases-statements::other l = 12 * l.depth + 1

abbrev pub decreases-statements::decl : goal.decreases-statements::decl
decreases-statements::decl l = 12 * l.depth + 2

abbrev pub decreases-statements::choice : goal.decreases-statements::choice
decreases-statements::choice l = 12 * l.depth + 2

abbrev pub decreases-statements::while_loop : goal.decreases-statements::while_loop
decreases-statements::while_loop l = 12 * l.depth + 2

abbrev pub decreases-statements::items : goal.decreases-statements::items
decreases-statements::items l = 12 * l.depth + 3

abbrev pub decreases-statements::declared_function : goal.decreases-statements::declared_function
decreases-statements::declared_function l = 12 * l.depth + 4

abbrev pub decreases-statements::declared : goal.decreases-statements::declared
decreases-statements::declared l = 12 * l.depth + 5

abbrev pub decreases-statements::declare : goal.decreases-statements::declare
decreases-statements::declare l = 12 * l.depth + 6

abbrev pub decreases-statements::start_from : goal.decreases-statements::start_from
decreases-statements::start_from l = 12 * l.depth + 6

abbrev pub decreases-statements::start : goal.decreases-statements::start
decreases-statements::start l = 12 * l.depth + 7

abbrev pub decreases-statements::for_loop : goal.decreases-statements::for_loop
decreases-statements::for_loop l = 12 * l.depth + 8

abbrev pub decreases-statements::led : goal.decreases-statements::led
decreases-statements::led l = 12 * l.depth + 9

abbrev pub decreases-statements::kind_from : goal.decreases-statements::kind_from
decreases-statements::kind_from l = 12 * l.depth + 10

abbrev pub decreases-statements::kind : goal.decreases-statements::kind
decreases-statements::kind l = 12 * l.depth + 11
