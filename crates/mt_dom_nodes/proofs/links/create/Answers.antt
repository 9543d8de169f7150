use Rattle.std.proofs.Common.{sym, ap, ◌∙◌}
use Rattle.mt_dom_nodes.specs.Standing.{node_at, next_link}
use Rattle.mt_dom_nodes.proofs.Results.{create-whole}
use Rattle.mt_dom_nodes.proofs.links.create.Goals as goal

pub returns-clause-kept : goal.returns-clause-kept
returns-clause-kept c = (create-whole c.args.nodes.now.items c.deref_mut.result.now c.set_after.new.nodes c.deref_mut-2.result.now c.set_before.new.nodes c.push.new.into.items c.push.new.into.len c.len-number.result c.node.result.now.next c.args.content c.requires
    (c.deref_mut.ensures.value ∙ c.in_ok-push.ensures.ok) c.deref_mut.ensures.len c.deref_mut-2.ensures.value c.set_after.auto.nodes c.set_before.auto.nodes c.len-number.ensures
    (sym (ap next_link c.node.ensures) ∙ ap (λ l. next_link (node_at l 1)) c.deref.ensures.value) c.set_after.ensures c.set_before.ensures).kept

pub returns-clause-trees : goal.returns-clause-trees
returns-clause-trees c = (create-whole c.args.nodes.now.items c.deref_mut.result.now c.set_after.new.nodes c.deref_mut-2.result.now c.set_before.new.nodes c.push.new.into.items c.push.new.into.len c.len-number.result c.node.result.now.next c.args.content c.requires
    (c.deref_mut.ensures.value ∙ c.in_ok-push.ensures.ok) c.deref_mut.ensures.len c.deref_mut-2.ensures.value c.set_after.auto.nodes c.set_before.auto.nodes c.len-number.ensures
    (sym (ap next_link c.node.ensures) ∙ ap (λ l. next_link (node_at l 1)) c.deref.ensures.value) c.set_after.ensures c.set_before.ensures).trees
