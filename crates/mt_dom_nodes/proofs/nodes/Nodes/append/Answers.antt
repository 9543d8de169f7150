use Rattle.std.proofs.Common.{sym, ap, ◌∙◌, subst}
use Rattle.std.proofs.lemmas.List.{with_items_is}
use Rattle.mt_dom_nodes.specs.Standing.{trees_of}
use Rattle.mt_dom_nodes.specs.Trees.{IsNode, moved, is_above}
use Rattle.mt_dom_nodes.proofs.nodes.Nodes.append.Goals as goal

pub append-requires-clause-parent : goal.append-requires-clause-parent
append-requires-clause-parent c = subst (IsNode c.args.parent) (sym (ap trees_of c.deref_mut.ensures.value ∙ c.self.view_is)) c.requires.parent

pub append-requires-clause-child : goal.append-requires-clause-child
append-requires-clause-child c = subst (IsNode c.args.child) (sym (ap trees_of c.deref_mut.ensures.value ∙ c.self.view_is)) c.requires.child

pub append-requires-clause-apart : goal.append-requires-clause-apart
append-requires-clause-apart c = ap (is_above c.args.child c.args.parent) (ap trees_of c.deref_mut.ensures.value ∙ c.self.view_is) ∙ c.requires.apart

pub returns : goal.returns
returns c = ap trees_of (with_items_is c.self.inside.nodes c.append.new.nodes (c.append.auto.nodes ∙ c.deref_mut.ensures.len)) ∙ c.append.ensures.trees ∙ ap (moved c.args.parent c.args.child) (ap trees_of c.deref_mut.ensures.value ∙ c.self.view_is)
