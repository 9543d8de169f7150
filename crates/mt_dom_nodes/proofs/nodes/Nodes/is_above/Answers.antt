use Rattle.std.proofs.Common.{ap, ◌∙◌}
use Rattle.mt_dom_nodes.specs.Standing.{trees_of}
use Rattle.mt_dom_nodes.specs.Trees.{is_above}
use Rattle.mt_dom_nodes.proofs.nodes.Nodes.is_above.Goals as goal

pub returns : goal.returns
returns c = c.is_above.ensures ∙ ap (is_above c.args.c c.args.n) (ap trees_of c.deref.ensures.value ∙ c.self.view_is)
