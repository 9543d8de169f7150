use Rattle.std.proofs.Common.{◌∙◌, ◌++◌, ◌∷◌, [], List, ℕ, ap, false}
use Rattle.mt_outside.specs.Message.{Message}
use Rattle.mt_outside.specs.Stored.{messages_of}
use Rattle.mt_outside.proofs.Storage.{messages_of-push}
use Rattle.mt_outside.proofs.message_store.MessageStore.send.Goals as goal

pub returns-clause-ok : goal.returns-clause-ok
returns-clause-ok c =
    let fresh = λ (bytes : List ℕ). let m : Message = record { slot = c.args.slot; sent = bytes; given = []; ended = false } in messages_of c.args.self.now.messages.items ++ m ∷ [] in
    ap messages_of c.in_ok-add.ensures.ok ∙ messages_of-push c.args.self.now.messages.items _ ∙ ap fresh c.in-Ok.ensures.items
