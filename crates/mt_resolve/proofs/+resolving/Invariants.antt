use Rattle.std.proofs.Common.{◌≡◌, ◌+◌, ◌*◌, length, map}
use Rattle.mt_eval_meaning.specs.Runs.{all_behind}
use Rattle.mt_resolve.specs.Resolving as spec
use Rattle.mt_resolve_names.specs.Around.{surroundings_of}
use Rattle.mt_resolve.proofs.+resolving.Given as goal

abbrev pub decreases-expressions::expr : goal.decreases-expressions::expr
decreases-expressions::expr l = l.depth * 20

abbrev pub decreases-statements::stmt : goal.decreases-statements::stmt
decreases-statements::stmt l = l.depth * 20

abbrev pub decreases-bodies::declared_function : goal.decreases-bodies::declared_function
decreases-bodies::declared_function l = l.depth * 20

abbrev pub decreases-expressions::boxed : goal.decreases-expressions::boxed
decreases-expressions::boxed l = l.depth * 20 + 1

abbrev pub decreases-statements::boxed : goal.decreases-statements::boxed
decreases-statements::boxed l = l.depth * 20 + 1

abbrev pub decreases-expressions::value : goal.decreases-expressions::value
decreases-expressions::value l = l.depth * 20 + 1

abbrev pub decreases-statements::stmts : goal.decreases-statements::stmts
decreases-statements::stmts l = l.depth * 20 + 1

abbrev pub decreases-expressions::exprs : goal.decreases-expressions::exprs
decreases-expressions::exprs l = l.depth * 20 + 1

abbrev pub decreases-statements::handler : goal.decreases-statements::handler
decreases-statements::handler l = l.depth * 20 + 1

abbrev pub decreases-bodies::hoisted_named : goal.decreases-bodies::hoisted_named
decreases-bodies::hoisted_named l = l.depth * 20 + 1

abbrev pub decreases-bodies::hoisted_one : goal.decreases-bodies::hoisted_one
decreases-bodies::hoisted_one l = l.depth * 20 + 2

abbrev pub decreases-bodies::all_hoisted : goal.decreases-bodies::all_hoisted
decreases-bodies::all_hoisted l = l.depth * 20 + 3

abbrev pub decreases-bodies::body : goal.decreases-bodies::body
decreases-bodies::body l = l.depth * 20 + 4

abbrev pub decreases-bodies::with_captured : goal.decreases-bodies::with_captured
decreases-bodies::with_captured l = l.depth * 20 + 5

abbrev pub decreases-bodies::function : goal.decreases-bodies::function
decreases-bodies::function l = l.depth * 20 + 6

abbrev pub decreases-expressions::entry : goal.decreases-expressions::entry
decreases-expressions::entry l = l.depth * 20 + 1

abbrev pub decreases-expressions::entries : goal.decreases-expressions::entries
decreases-expressions::entries l = l.depth * 20 + 2

abbrev pub decreases-markup::piece_of_value : goal.decreases-markup::piece_of_value
decreases-markup::piece_of_value l = l.depth * 20 + 1

abbrev pub decreases-markup::attribute : goal.decreases-markup::attribute
decreases-markup::attribute l = l.depth * 20 + 2

abbrev pub decreases-markup::attributes : goal.decreases-markup::attributes
decreases-markup::attributes l = l.depth * 20 + 3

abbrev pub decreases-markup::child : goal.decreases-markup::child
decreases-markup::child l = l.depth * 20 + 1

abbrev pub decreases-markup::children : goal.decreases-markup::children
decreases-markup::children l = l.depth * 20 + 2

abbrev pub decreases-statements::branch : goal.decreases-statements::branch
decreases-statements::branch l = l.depth * 20 + 2

abbrev pub decreases-statements::block : goal.decreases-statements::block
decreases-statements::block l = l.depth * 20 + 2

abbrev pub decreases-statements::declaration : goal.decreases-statements::declaration
decreases-statements::declaration l = l.depth * 20 + 2

abbrev pub decreases-statements::declarations : goal.decreases-statements::declarations
decreases-statements::declarations l = l.depth * 20 + 3

abbrev pub decreases-statements::begin : goal.decreases-statements::begin
decreases-statements::begin l = l.depth * 20 + 4

abbrev pub decreases-expressions::node : goal.decreases-expressions::node
decreases-expressions::node l = l.depth * 20 + 15

abbrev pub decreases-statements::act : goal.decreases-statements::act
decreases-statements::act l = l.depth * 20 + 15

abbrev pub invariant-expressions::exprs-loop-left : goal.invariant-expressions::exprs-loop-left
invariant-expressions::exprs-loop-left l = spec.exprs (surroundings_of l.r.around) l.r.first (spec.at (surroundings_of l.r.around) l.r.first l.depth) l.scope l.from l.fn.functions.items ≡ all_behind l.done.items (map (λ e. (spec.at (surroundings_of l.r.around) l.r.first l.depth).expr l.scope e) l.left) l.functions.items

abbrev pub decreases-expressions::exprs-loop-left : goal.decreases-expressions::exprs-loop-left
decreases-expressions::exprs-loop-left l = length l.left

abbrev pub invariant-expressions::entries-loop-left : goal.invariant-expressions::entries-loop-left
invariant-expressions::entries-loop-left l = spec.entries (surroundings_of l.r.around) l.r.first (spec.at (surroundings_of l.r.around) l.r.first l.depth) l.scope l.from l.fn.functions.items ≡ all_behind l.done.items (map (spec.entry (surroundings_of l.r.around) l.r.first (spec.at (surroundings_of l.r.around) l.r.first l.depth) l.scope) l.left) l.functions.items

abbrev pub decreases-expressions::entries-loop-left : goal.decreases-expressions::entries-loop-left
decreases-expressions::entries-loop-left l = length l.left

abbrev pub invariant-markup::attributes-loop-left : goal.invariant-markup::attributes-loop-left
invariant-markup::attributes-loop-left l = spec.attributes (surroundings_of l.r.around) l.r.first (spec.at (surroundings_of l.r.around) l.r.first l.depth) l.scope l.from l.fn.functions.items ≡ all_behind l.done.items (map (spec.attribute (surroundings_of l.r.around) l.r.first (spec.at (surroundings_of l.r.around) l.r.first l.depth) l.scope) l.left) l.functions.items

abbrev pub decreases-markup::attributes-loop-left : goal.decreases-markup::attributes-loop-left
decreases-markup::attributes-loop-left l = length l.left

abbrev pub invariant-markup::children-loop-left : goal.invariant-markup::children-loop-left
invariant-markup::children-loop-left l = spec.children (surroundings_of l.r.around) l.r.first (spec.at (surroundings_of l.r.around) l.r.first l.depth) l.scope l.from l.fn.functions.items ≡ all_behind l.done.items (map (spec.child (surroundings_of l.r.around) l.r.first (spec.at (surroundings_of l.r.around) l.r.first l.depth) l.scope) l.left) l.functions.items

abbrev pub decreases-markup::children-loop-left : goal.decreases-markup::children-loop-left
decreases-markup::children-loop-left l = length l.left

abbrev pub invariant-statements::declarations-loop-left : goal.invariant-statements::declarations-loop-left
invariant-statements::declarations-loop-left l = spec.declarations (surroundings_of l.r.around) l.r.first (spec.at (surroundings_of l.r.around) l.r.first l.depth) l.scope l.from l.fn.functions.items ≡ all_behind l.done.items (map (spec.declaration (surroundings_of l.r.around) l.r.first (spec.at (surroundings_of l.r.around) l.r.first l.depth) l.scope) l.left) l.functions.items

abbrev pub decreases-statements::declarations-loop-left : goal.decreases-statements::declarations-loop-left
decreases-statements::declarations-loop-left l = length l.left

abbrev pub invariant-statements::stmts-loop-left : goal.invariant-statements::stmts-loop-left
invariant-statements::stmts-loop-left l = spec.stmts (surroundings_of l.r.around) l.r.first (spec.at (surroundings_of l.r.around) l.r.first l.depth) l.scope l.size l.from l.fn.functions.items ≡ all_behind l.done.items (map (λ t. (spec.at (surroundings_of l.r.around) l.r.first l.depth).stmt l.scope l.size t) l.left) l.functions.items

abbrev pub decreases-statements::stmts-loop-left : goal.decreases-statements::stmts-loop-left
decreases-statements::stmts-loop-left l = length l.left

abbrev pub invariant-bodies::all_hoisted-loop-left : goal.invariant-bodies::all_hoisted-loop-left
invariant-bodies::all_hoisted-loop-left l = spec.all_hoisted (surroundings_of l.r.around) l.r.first (spec.at (surroundings_of l.r.around) l.r.first l.depth) l.scope l.from l.fn.functions.items ≡ spec.hoisted_from (surroundings_of l.r.around) l.r.first (spec.at (surroundings_of l.r.around) l.r.first l.depth) l.scope l.done.items l.left l.functions.items

abbrev pub decreases-bodies::all_hoisted-loop-left : goal.decreases-bodies::all_hoisted-loop-left
decreases-bodies::all_hoisted-loop-left l = length l.left
