use Rattle.std.proofs.Common.{subst}
use Rattle.mt_dom_nodes.specs.Trees.{Numbered}
use Rattle.mt_dom_nodes.proofs.nodes.Nodes.numbered.Goals as goal

pub returns : goal.returns
returns c = subst Numbered c.self.view_is c.self.invariant.numbered
