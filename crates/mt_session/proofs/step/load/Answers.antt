use Rattle.std.proofs.Common.{◌++◌, ◌+◌, ◌∙◌, ap, false}
use Rattle.std.specs.Option.{option_map}
use Rattle.mt_outside.specs.Message.{with_send}
use Rattle.mt_session.specs.Parties.{message_count, sent_by}
use Rattle.mt_session.specs.Step.{slot_of}
use Rattle.mt_session.proofs.StandingsAfter.{standing_of-fresh}
use Rattle.mt_session.proofs.Wires.{sent-told, told-load, OnOk-two}
use Rattle.mt_session.proofs.step.load.Goals as goal

pub write_and_send-requires-clause-unsent : goal.write_and_send-requires-clause-unsent
write_and_send-requires-clause-unsent g c =
    let k = c.args.client in
    let ps = c.args.parties.now.items in
    rw c.in-Ok.ensures.message
    (sent-told (slot_of k (message_count k ps + 1) false) false ps _ c.requires.fits (ap (sent_by false) (standing_of-fresh k ps)))

pub returns-in-Ok-clause-done : goal.returns-in-Ok-clause-done
returns-in-Ok-clause-done g c =
    let k = c.args.client in
    let ps = c.args.parties.now.items in
    let out = c.args.out.now.items in
    let old = g.W.Wire.messages c.args.wire.now in
    let bytes = c.deref.ensures.value ∙ c.in-Ok.ensures.bytes in
    let lines = c.deref-in-Ok.ensures.value ∙ c.in-Ok.ensures.lines in
    OnOk-two c.write_and_send.result
    (λ sent written small. told-load small k c.args.target.now ps _ out _ _ _ c.requires.fits c.in-Ok.ensures.parties
    (written ∙ ap (λ l. out ++ l) lines)
    (sent ∙ ap (λ m. option_map (with_send (slot_of k m false) c.deref.result.now) old) c.in-Ok.ensures.message
    ∙ ap (λ b. option_map (with_send (slot_of k (message_count k ps + 1) false) b) old) bytes))
    c.write_and_send.ensures.sent c.write_and_send.ensures.written
