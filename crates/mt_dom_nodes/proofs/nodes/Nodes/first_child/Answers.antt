use Rattle.mt_dom_nodes.proofs.Views.{seen}
use Rattle.mt_dom_nodes.proofs.nodes.Nodes.first_child.Goals as goal

pub returns : goal.returns
returns c = (seen c.self.inside.nodes.items c.self.invariant c.args.self.now c.self.view_is c.deref.result.now c.deref.ensures.value c.args.n c.requires c.node.result.now c.node.ensures).first
