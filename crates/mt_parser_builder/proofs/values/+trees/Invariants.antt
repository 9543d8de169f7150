use Rattle.std.proofs.Common.{◌≡◌, map, drop}
use Rattle.mt_parser_builder.specs.Making.{all_made}
use Rattle.mt_parser_builder.specs.ParseTrees.{made_by}
use Rattle.mt_parser_builder.specs.State.{found_of}
use Rattle.mt_parser_builder.proofs.Walking.{joined}
use Rattle.mt_parser_builder.proofs.values.+trees.Given as goal

abbrev pub invariant-values-loop-tree : goal.invariant-values-loop-tree
invariant-values-loop-tree l =
    all_made (map made_by l.tree-items) l.tier (found_of l.fn.found) ≡ joined l.made.items (all_made (map made_by (drop l.tree-index l.tree-items)) l.tier (found_of l.found))
