use Rattle.std.proofs.Common.{◌≡◌, length, IfSome}
use Rattle.mt_dom_nodes.specs.Trees.{path, is_in, IsNode}
use Rattle.mt_dom_nodes.specs.Standing.{trees_of}
use Rattle.mt_dom_nodes.proofs.Upward.{path_from}
use Rattle.mt_dom_nodes.proofs.ways.is_above.Given as goal

abbrev pub invariant-up : goal.invariant-up
invariant-up l = record {
  inside : IfSome l.at (λ m. IsNode m (trees_of l.nodes));
  left : is_in l.c (path l.n (trees_of l.nodes)) ≡ is_in l.c (path_from l.at (trees_of l.nodes));
}

abbrev pub decreases-up : goal.decreases-up
decreases-up l = length (path_from l.at (trees_of l.nodes))
