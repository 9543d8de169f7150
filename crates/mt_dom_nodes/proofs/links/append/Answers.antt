use Rattle.std.proofs.Common.{length, sym, ap, ◌∙◌, subst}
use Rattle.mt_dom_nodes.specs.Standing.{last_link}
use Rattle.mt_dom_nodes.proofs.Results.{InRange, in-range, out, append-result, last-known}
use Rattle.mt_dom_nodes.proofs.links.append.Goals as goal

pub set_after-requires-clause-previous : goal.set_after-requires-clause-previous
set_after-requires-clause-previous c = in-range (length c.args.nodes.now) (length c.unlink.new.nodes) c.node.result.now.last (sym c.unlink.auto.nodes)
    (subst (InRange (length c.args.nodes.now)) (ap last_link c.node.ensures)
    (last-known c.args.nodes.now c.unlink.new.nodes c.requires.kept c.args.p c.args.c c.requires.parent c.requires.child c.requires.apart
    (out c.args.nodes.now c.unlink.new.nodes c.requires.kept c.args.c c.requires.child c.requires.other c.unlink.ensures)))

pub returns-clause-kept : goal.returns-clause-kept
returns-clause-kept c = (append-result c.args.nodes.now c.unlink.new.nodes c.set_after.new.nodes c.set_before.new.nodes c.set_place.new.nodes c.requires.kept c.args.p c.args.c c.requires.parent c.requires.child
    (c.set_place.auto.nodes ∙ c.set_before.auto.nodes ∙ c.set_after.auto.nodes ∙ c.unlink.auto.nodes) c.requires.apart
    (out c.args.nodes.now c.unlink.new.nodes c.requires.kept c.args.c c.requires.child c.requires.other c.unlink.ensures)
    c.node.result.now.last (sym (ap last_link c.node.ensures)) c.set_after.ensures c.set_before.ensures c.set_place.ensures).kept

pub returns-clause-trees : goal.returns-clause-trees
returns-clause-trees c = (append-result c.args.nodes.now c.unlink.new.nodes c.set_after.new.nodes c.set_before.new.nodes c.set_place.new.nodes c.requires.kept c.args.p c.args.c c.requires.parent c.requires.child
    (c.set_place.auto.nodes ∙ c.set_before.auto.nodes ∙ c.set_after.auto.nodes ∙ c.unlink.auto.nodes) c.requires.apart
    (out c.args.nodes.now c.unlink.new.nodes c.requires.kept c.args.c c.requires.child c.requires.other c.unlink.ensures)
    c.node.result.now.last (sym (ap last_link c.node.ensures)) c.set_after.ensures c.set_before.ensures c.set_place.ensures).trees
