use Rattle.std.proofs.Common.{◌++◌, ◌∙◌, ap, true}
use Rattle.mt_outside.proofs.Known.{OnErr_any}
use Rattle.mt_small.specs.declared.command.SmallCommand.TheVariants.{Deliver}
use Rattle.mt_small.specs.Reading.{reads_reply}
use Rattle.mt_session.specs.declared.party.Standing.TheVariants.{Over}
use Rattle.mt_session.specs.Parties.{page_count, with_standing, sent_by, acted_by}
use Rattle.mt_session.specs.Step.{slot_of}
use Rattle.mt_session.specs.Transcript.{echo, reply_lines, pages_in}
use Rattle.mt_session.proofs.Wires.{sent-told, failed-took, told-deliver}
use Rattle.mt_session.proofs.step.read_answer.Goals as goal

pub take_message-requires-clause-sent : goal.take_message-requires-clause-sent
take_message-requires-clause-sent g c =
    sent-told (slot_of c.args.client c.args.message true) true c.args.parties.now.items _ c.requires.fits (ap (sent_by true) c.requires.answered)

pub returns-in-Ok-extend_from_slice-clause-done : goal.returns-in-Ok-extend_from_slice-clause-done
returns-in-Ok-extend_from_slice-clause-done g c small =
    let k = c.args.client in
    let m = c.args.message in
    let ps = c.args.parties.now.items in
    let out = c.args.out.now.items in
    let taken = c.in_ok-taken.taken in
    let lines = c.deref-in-Ok.ensures.value ∙ c.in-Ok.ensures.lines
    ∙ ap (λ b. echo (Deliver k m) ++ reply_lines (page_count k ps) (reads_reply b)) c.deref.ensures.value in
    told-deliver small k m taken.bytes.items taken.ended ps _ out _ _ _ c.requires.fits c.requires.answered c.in_ok-taken.ensures.whole
    (c.in-Ok.ensures.parties ∙ ap (λ b. with_standing k m Over (pages_in (reads_reply b)) ps) c.deref.ensures.value)
    (c.in-Ok-extend_from_slice.ensures.items ∙ ap (λ l. out ++ l) lines)
    c.in_ok-taken.ensures.taken

pub returns-in_err-taken-clause-failed : goal.returns-in_err-taken-clause-failed
returns-in_err-taken-clause-failed g c =
    OnErr_any c.from_residual.result
    (failed-took (slot_of c.args.client c.args.message true) _ _ c.args.parties.now.items c.in_err-taken.ensures.err (ap (acted_by true) c.requires.answered))

pub returns-in-Ok-clause-failed : goal.returns-in-Ok-clause-failed
returns-in-Ok-clause-failed g c =
    failed-took (slot_of c.args.client c.args.message true) _ _ c.args.parties.now.items
    record { bytes = c.in_ok-taken.taken.bytes.items; ended = c.in_ok-taken.taken.ended; took = c.in_ok-taken.ensures.taken }
    (ap (acted_by true) c.requires.answered)

pub returns-clause-failed : goal.returns-clause-failed
returns-clause-failed g c =
    failed-took (slot_of c.args.client c.args.message true) _ _ c.args.parties.now.items
    record { bytes = c.in_ok-taken.taken.bytes.items; ended = c.in_ok-taken.taken.ended; took = c.in_ok-taken.ensures.taken }
    (ap (acted_by true) c.requires.answered)
