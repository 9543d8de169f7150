use Rattle.std.proofs.Common.{map}
use Rattle.std.proofs.lemmas.Result.{err_from_is_err_and}
use Rattle.mt_parser_marks.specs.NodeViews.{node_of}
use Rattle.mt_parser_builder.specs.Growing.{grown}
use Rattle.mt_parser_builder.proofs.Failing.{failed_at}
use Rattle.mt_parser_builder.proofs.growth.grow.Goals as goal

pub returns-in_err-add : goal.returns-in_err-add
returns-in_err-add c =
    let p = err_from_is_err_and c.from_residual.result c.from_residual.ensures.1 in
    rw (p.1, p.2) (failed_at c.in_err-add.field-0.0 c.args.nodes.now c.loop-node.node-index _ c.loop-node.trees.items _ (grown (map node_of c.args.nodes.now)) c.loop-node-test.true c.in_err-add.ensures c.loop-node.invariant)
