use Rattle.std.proofs.Common.{length, sym, ap, ◌∙◌, subst}
use Rattle.mt_dom_nodes.specs.Standing.{next_link}
use Rattle.mt_dom_nodes.proofs.Results.{InRange, in-range, out, remove-result, next-known}
use Rattle.mt_dom_nodes.proofs.links.remove.Goals as goal

pub set_before-requires-clause-next : goal.set_before-requires-clause-next
set_before-requires-clause-next c = in-range (length c.args.nodes.now) (length c.set_after.new.nodes) c.node.result.now.next (sym (c.set_after.auto.nodes ∙ c.unlink.auto.nodes))
    (subst (InRange (length c.args.nodes.now)) (ap next_link c.node.ensures)
    (next-known c.args.nodes.now c.unlink.new.nodes c.requires.kept c.args.c
    (out c.args.nodes.now c.unlink.new.nodes c.requires.kept c.args.c c.requires.inside c.requires.other c.unlink.ensures)))

pub returns-clause-kept : goal.returns-clause-kept
returns-clause-kept c = (remove-result c.args.nodes.now c.unlink.new.nodes c.set_after.new.nodes c.set_before.new.nodes c.set_place.new.nodes c.requires.kept c.args.c c.requires.inside
    (c.set_place.auto.nodes ∙ c.set_before.auto.nodes ∙ c.set_after.auto.nodes ∙ c.unlink.auto.nodes)
    (out c.args.nodes.now c.unlink.new.nodes c.requires.kept c.args.c c.requires.inside c.requires.other c.unlink.ensures)
    c.node.result.now.next (sym (ap next_link c.node.ensures)) c.set_after.ensures c.set_before.ensures c.set_place.ensures).kept

pub returns-clause-trees : goal.returns-clause-trees
returns-clause-trees c = (remove-result c.args.nodes.now c.unlink.new.nodes c.set_after.new.nodes c.set_before.new.nodes c.set_place.new.nodes c.requires.kept c.args.c c.requires.inside
    (c.set_place.auto.nodes ∙ c.set_before.auto.nodes ∙ c.set_after.auto.nodes ∙ c.unlink.auto.nodes)
    (out c.args.nodes.now c.unlink.new.nodes c.requires.kept c.args.c c.requires.inside c.requires.other c.unlink.ensures)
    c.node.result.now.next (sym (ap next_link c.node.ensures)) c.set_after.ensures c.set_before.ensures c.set_place.ensures).trees
