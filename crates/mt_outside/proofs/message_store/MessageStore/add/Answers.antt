use Rattle.std.proofs.Common.{◌≡◌, ◌∙◌, ◌++◌, ◌∷◌, ◌&&◌, ◌==◌, [], false, ap, sym, cond}
use Rattle.std.specs.List.{list_any}
use Rattle.mt_outside.specs.Message.{is_slot}
use Rattle.mt_outside.specs.Stored.{slots_of}
use Rattle.mt_outside.proofs.Storage.{slots_of-push, to_give-push, distinct-push, sent-slots, any-beq, beq-same}
use Rattle.mt_outside.proofs.message_store.MessageStore.add.Goals as goal

pub invariant_of-self-in-Ok-1 : goal.invariant_of-self-in-Ok-1
invariant_of-self-in-Ok-1 c =
    let ks = c.args.self.now.messages.items in
    let k = c.args.message in
    let grown : c.push.new.into.items ≡ ks ++ k ∷ [] = c.in_ok-push.ensures.ok in
    let absent : list_any (is_slot k.slot) (slots_of ks) ≡ false = sym (sent-slots k.slot ks) ∙ c.requires.unsent in
    let known = any-beq k.slot _ (λ s. ap (λ b. (k.slot.client == s.client) && ((k.slot.message == s.message) && b)) (beq-same k.slot.reply s.reply)) (slots_of ks) ∙ absent in
    rw grown (record {
      found = c.in-Ok.ensures.keys ∙ ap (λ b. cond b c.args.self.now.slots.keys (c.args.self.now.slots.keys ++ k.slot ∷ [])) (ap (list_any _) c.args.self.now.found ∙ known)
          ∙ ap (λ l. l ++ k.slot ∷ []) c.args.self.now.found ∙ sym (slots_of-push ks k);
      distinct = rw (slots_of-push ks k) (distinct-push (slots_of ks) k.slot c.args.self.now.distinct absent);
      gives = to_give-push _ ks k c.args.self.now.gives c.requires.gives;
    })
