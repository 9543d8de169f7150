use Rattle.std.proofs.Common.{◌≡◌, ap, ◌∙◌, subst, IfOk}
use Rattle.mt_dom_nodes.specs.Standing.{trees_of}
use Rattle.mt_dom_nodes.specs.Trees.{path}
use Rattle.mt_dom_nodes.proofs.nodes.Nodes.path.Goals as goal

pub returns : goal.returns
returns c = subst (λ t. IfOk c.path.result (λ way. way.items ≡ path c.args.n t)) (ap trees_of c.deref.ensures.value ∙ c.self.view_is) c.path.ensures
