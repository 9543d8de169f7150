use Rattle.std.proofs.Common.{◌≡◌, Some, drop, map}
use Rattle.mt_parser_marks.specs.NodeViews.{node_of}
use Rattle.mt_parser_builder.specs.Growing.{grown, grown_on}
use Rattle.mt_parser_builder.proofs.growth.grow.Given as goal

abbrev pub invariant-loop-node : goal.invariant-loop-node
invariant-loop-node l = grown (map node_of l.nodes) ≡ grown_on (map node_of (drop l.node-index l.nodes)) (Some l.trees.items)
