use Rattle.std.proofs.Common.{ap, ◌∙◌}
use Rattle.std.proofs.lemmas.List.{with_items_is}
use Rattle.mt_dom_nodes.specs.Standing.{trees_of}
use Rattle.mt_dom_nodes.specs.Trees.{detached}
use Rattle.mt_dom_nodes.proofs.nodes.Nodes.remove.Goals as goal

pub returns : goal.returns
returns c = ap trees_of (with_items_is c.self.inside.nodes c.remove.new.nodes (c.remove.auto.nodes ∙ c.deref_mut.ensures.len)) ∙ c.remove.ensures.trees ∙ ap (detached c.args.n) (ap trees_of c.deref_mut.ensures.value ∙ c.self.view_is)
