use Rattle.std.proofs.Common.{◌&&◌, ◌==◌, ap, ◌∙◌, position}
use Rattle.mt_outside.proofs.Storage.{place_at, beq-same}
use Rattle.mt_outside.proofs.message_store.MessageStore.place_of.Goals as goal

pub returns : goal.returns
returns c =
    place_at c.args.slot c.args.self.now.messages.items _
    (λ s. ap (λ b. (c.args.slot.client == s.client) && ((c.args.slot.message == s.message) && b)) (beq-same c.args.slot.reply s.reply))
    c.get_index_of.result (c.get_index_of.ensures.index ∙ ap (position _) c.args.self.now.found)
