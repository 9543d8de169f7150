use Rattle.std.proofs.Common.{length, sym, ap, ◌∙◌, subst}
use Rattle.mt_dom_nodes.specs.Standing.{node_at, parent_link, previous_link, next_link, followed}
use Rattle.mt_dom_nodes.proofs.Changes.{preceded-like}
use Rattle.mt_dom_nodes.proofs.Results.{InVector, in-range, parent-in, previous-in, next-in}
use Rattle.mt_dom_nodes.proofs.links.unlink.Goals as goal

pub set_after-requires-clause-parent : goal.set_after-requires-clause-parent
set_after-requires-clause-parent c = subst (InVector c.args.nodes.now) (ap parent_link c.node-at.ensures) (parent-in c.args.nodes.now c.requires.kept c.args.c c.requires.inside)

pub set_after-requires-clause-previous : goal.set_after-requires-clause-previous
set_after-requires-clause-previous c = subst (InVector c.args.nodes.now) (ap previous_link c.node-at.ensures) (previous-in c.args.nodes.now c.requires.kept c.args.c c.requires.inside)

pub set_before-requires-clause-parent : goal.set_before-requires-clause-parent
set_before-requires-clause-parent c = in-range (length c.args.nodes.now) (length c.set_after.new.nodes) c.node-at.result.now.parent (sym c.set_after.auto.nodes)
    (subst (InVector c.args.nodes.now) (ap parent_link c.node-at.ensures) (parent-in c.args.nodes.now c.requires.kept c.args.c c.requires.inside))

pub set_before-requires-clause-next : goal.set_before-requires-clause-next
set_before-requires-clause-next c = in-range (length c.args.nodes.now) (length c.set_after.new.nodes) c.node-at.result.now.next (sym c.set_after.auto.nodes)
    (subst (InVector c.args.nodes.now) (ap next_link c.node-at.ensures) (next-in c.args.nodes.now c.requires.kept c.args.c c.requires.inside))

pub returns : goal.returns
returns c = λ m. rw c.node-at.ensures (
    c.set_before.ensures m
    ∙ preceded-like c.node-at.result.now.parent c.node-at.result.now.next c.node-at.result.now.previous (node_at c.set_after.new.nodes)
    (followed c.node-at.result.now.parent c.node-at.result.now.previous c.node-at.result.now.next (node_at c.args.nodes.now)) m (c.set_after.ensures m))
