use Rattle.std.proofs.Common.{◌++◌, ◌∙◌, ap, true, false}
use Rattle.std.specs.Option.{option_map}
use Rattle.std.proofs.lemmas.Result.{on_err_weaker}
use Rattle.mt_outside.specs.Message.{with_send}
use Rattle.mt_outside.proofs.Known.{OnErr_any}
use Rattle.mt_small.specs.declared.command.SmallCommand.TheVariants.{Serve}
use Rattle.mt_small.specs.Wire.{reply_wire}
use Rattle.mt_small.specs.Reading.{reads_request, server_job}
use Rattle.mt_session.specs.Parties.{sent_by, acted_by}
use Rattle.mt_session.specs.Step.{slot_of}
use Rattle.mt_session.specs.Transcript.{echo, entry}
use Rattle.mt_session.proofs.Wires.{still-unsent, sent-told, failed-took, told-serve, OnOk-two}
use Rattle.mt_session.proofs.step.answer_request.Goals as goal

pub take_message-requires-clause-sent : goal.take_message-requires-clause-sent
take_message-requires-clause-sent g c =
    sent-told (slot_of c.args.client c.args.message false) true c.args.parties.now.items _ c.requires.fits (ap (sent_by false) c.requires.asked)

pub write_and_send-requires-clause-unsent : goal.write_and_send-requires-clause-unsent
write_and_send-requires-clause-unsent g c =
    let reply = slot_of c.args.client c.args.message true in
    still-unsent reply (slot_of c.args.client c.args.message false) _ _ _ _ c.in_ok-taken.ensures.taken
    (sent-told reply false c.args.parties.now.items _ c.requires.fits (ap (sent_by true) c.requires.asked))

pub returns-in-Ok-clause-done : goal.returns-in-Ok-clause-done
returns-in-Ok-clause-done g c =
    let k = c.args.client in
    let m = c.args.message in
    let small = c.args.small.now in
    let out = c.args.out.now.items in
    let taken = c.in_ok-taken.taken in
    let reply = slot_of k m true in
    let bytes = c.deref-in-Ok.ensures.value ∙ c.in-Ok.ensures.bytes
    ∙ ap (λ b. reply_wire (server_job small (reads_request small b))) c.deref.ensures.value in
    let lines = c.deref-in-Ok-2.ensures.value ∙ c.in-Ok.ensures.lines
    ∙ ap (λ b. echo (Serve k m) ++ entry k m true (reply_wire (server_job small (reads_request small b)))) c.deref.ensures.value in
    OnOk-two c.write_and_send.result
    (λ sent written. told-serve small k m taken.bytes.items taken.ended c.args.parties.now.items _ out _ _ _ c.requires.fits c.requires.asked
    c.in_ok-taken.ensures.whole c.in-Ok.ensures.parties
    (written ∙ ap (λ l. out ++ l) lines)
    (sent ∙ ap (λ b. option_map (with_send reply b) (g.W.Wire.messages c.take_message.new.wire)) bytes
    ∙ ap (option_map (with_send reply (reply_wire (server_job small (reads_request small taken.bytes.items))))) c.in_ok-taken.ensures.taken))
    c.write_and_send.ensures.sent c.write_and_send.ensures.written

pub returns-in_err-taken-clause-failed : goal.returns-in_err-taken-clause-failed
returns-in_err-taken-clause-failed g c =
    OnErr_any c.from_residual.result
    (failed-took (slot_of c.args.client c.args.message false) _ _ c.args.parties.now.items c.in_err-taken.ensures.err (ap (acted_by false) c.requires.asked))

pub returns-in-Ok-clause-failed : goal.returns-in-Ok-clause-failed
returns-in-Ok-clause-failed g c =
    on_err_weaker c.write_and_send.result
    (λ same. failed-took (slot_of c.args.client c.args.message false) _ _ c.args.parties.now.items
    record { bytes = c.in_ok-taken.taken.bytes.items; ended = c.in_ok-taken.taken.ended; took = same ∙ c.in_ok-taken.ensures.taken }
    (ap (acted_by false) c.requires.asked))
    c.write_and_send.ensures.not_sent

pub returns-clause-failed : goal.returns-clause-failed
returns-clause-failed g c =
    failed-took (slot_of c.args.client c.args.message false) _ _ c.args.parties.now.items
    record { bytes = c.in_ok-taken.taken.bytes.items; ended = c.in_ok-taken.taken.ended; took = c.in_ok-taken.ensures.taken }
    (ap (acted_by false) c.requires.asked)
