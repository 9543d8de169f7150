use Rattle.std.proofs.Common.{◌≡◌, ◌++◌, length, IfSome}
use Rattle.mt_dom_nodes.specs.Trees.{path, IsNode}
use Rattle.mt_dom_nodes.specs.Standing.{trees_of}
use Rattle.mt_dom_nodes.proofs.Upward.{path_from}
use Rattle.mt_dom_nodes.proofs.ways.path.Given as goal

abbrev pub invariant-up : goal.invariant-up
invariant-up l = record {
  inside : IfSome l.at (λ m. IsNode m (trees_of l.nodes));
  whole : l.made.items ++ path_from l.at (trees_of l.nodes) ≡ path l.n (trees_of l.nodes);
}

abbrev pub decreases-up : goal.decreases-up
decreases-up l = length (path_from l.at (trees_of l.nodes))
