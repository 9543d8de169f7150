use Rattle.std.proofs.Common.{◌&&◌, ◌==◌, ap, sym, ◌∙◌}
use Rattle.std.specs.List.{list_any}
use Rattle.mt_outside.specs.Stored.{slots_of}
use Rattle.mt_outside.proofs.Storage.{any-beq, beq-same, sent-slots}
use Rattle.mt_outside.proofs.message_store.MessageStore.was_sent.Goals as goal

pub returns : goal.returns
returns c =
    let ks = c.args.self.now.messages.items in
    c.contains.ensures ∙ ap (list_any _) c.args.self.now.found
    ∙ any-beq c.args.slot _ (λ s. ap (λ b. (c.args.slot.client == s.client) && ((c.args.slot.message == s.message) && b)) (beq-same c.args.slot.reply s.reply)) (slots_of ks)
    ∙ sym (sent-slots c.args.slot ks)
