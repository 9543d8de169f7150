use Rattle.std.proofs.Common.{arith, ◌≡◌, ◌+◌, suc, drop, ◌∷◌, sym, ap, ◌∙◌, refl, add-one, drop-cons}
use Rattle.std.specs.Io.KnownBytes.{append_known}
use Rattle.std.proofs.lemmas.Result.{on_ok_weaker, on_err_weaker}
use Rattle.std.proofs.lemmas.Option.{IfSome_then}
use Rattle.std.proofs.lemmas.List.{drop_all}
use Rattle.mt_outside.proofs.Known.{OnErr_any}
use Rattle.mt_session.proofs.FaithfulRuns.{transcript_is_machine_transcript}
use Rattle.mt_session.proofs.Plays.{start, more, tells-same, ended, ended-short, broken}
use Rattle.mt_session.proofs.play.play_commands.Goals as goal

pub loop-command-init : goal.loop-command-init
loop-command-init g c = record {
  mode = refl;
  tells = refl;
  progress = start c.args.small.now c.args.commands.now _ c.new-session.result.parties.items _ c.requires.empty c.new-session.ensures;
  wire_later = omega arith;
  sink_later = omega arith;
}

pub loop-command-preserved : goal.loop-command-preserved
loop-command-preserved g c =
    let xs = c.args.commands.now in
    let i = c.loop-command.command-index in
    let item = c.command-item.result in
    let here : drop i xs ≡ item ∷ drop (i + 1) xs =
    rw (add-one i) (drop-cons xs i item c.loop-command-test.true ∙ ap (λ h. h ∷ drop (suc i) xs) (sym c.command-item.is)) in
    record {
      mode = c.in_ok-play_command.ensures.mode ∙ c.loop-command.invariant.mode;
      tells = tells-same _ _ _ c.in_ok-play_command.ensures.written ∙ c.loop-command.invariant.tells;
      progress = more c.args.small.now xs (drop (i + 1) xs) (drop i xs) item _ _ _ _ _ _ _ here c.loop-command.invariant.progress c.in_ok-play_command.ensures.written;
      wire_later = omega (arith, c.in_ok-play_command.ensures.cause.wire_later, c.loop-command.invariant.wire_later);
      sink_later = omega (arith, c.in_ok-play_command.ensures.cause.sink_later, c.loop-command.invariant.sink_later);
    }

pub returns-clause-transcript : goal.returns-clause-transcript
returns-clause-transcript g c =
    let xs = c.args.commands.now in
    let none = drop_all c.loop-command.command-index xs c.loop-command-test.false in
    on_ok_weaker c.write_end.result
    (λ last. IfSome_then (g.W.Wire.messages c.loop-command.wire)
    (ended c.args.small.now xs _ _ _ _ _ _ none c.loop-command.invariant.progress last) (λ ms run. run.transcript))
    c.write_end.ensures.ok

pub returns-clause-sends : goal.returns-clause-sends
returns-clause-sends g c =
    let xs = c.args.commands.now in
    let none = drop_all c.loop-command.command-index xs c.loop-command-test.false in
    on_ok_weaker c.write_end.result
    (λ last. IfSome_then (g.W.Wire.messages c.loop-command.wire)
    (ended c.args.small.now xs _ _ _ _ _ _ none c.loop-command.invariant.progress last) (λ ms run. run.sends))
    c.write_end.ensures.ok

pub returns-clause-fits : goal.returns-clause-fits
returns-clause-fits g c =
    let xs = c.args.commands.now in
    let none = drop_all c.loop-command.command-index xs c.loop-command-test.false in
    on_ok_weaker c.write_end.result
    (λ last. IfSome_then (g.W.Wire.messages c.loop-command.wire)
    (ended c.args.small.now xs _ _ _ _ _ _ none c.loop-command.invariant.progress last) (λ ms run. run.fits))
    c.write_end.ensures.ok

pub returns-clause-taken : goal.returns-clause-taken
returns-clause-taken g c =
    let xs = c.args.commands.now in
    let none = drop_all c.loop-command.command-index xs c.loop-command-test.false in
    on_ok_weaker c.write_end.result
    (λ last. IfSome_then (g.W.Wire.messages c.loop-command.wire)
    (ended c.args.small.now xs _ _ _ _ _ _ none c.loop-command.invariant.progress last) (λ ms run. run.taken))
    c.write_end.ensures.ok

pub returns-clause-prefix : goal.returns-clause-prefix
returns-clause-prefix g c =
    let xs = c.args.commands.now in
    let none = drop_all c.loop-command.command-index xs c.loop-command-test.false in
    on_err_weaker c.write_end.result
    (λ grew. IfSome_then (g.W.Wire.messages c.loop-command.wire)
    (ended-short c.args.small.now xs _ _ _ _ _ _ none c.loop-command.invariant.progress grew) (λ ms run. run.prefix))
    c.write_end.ensures.err

pub returns-clause-sends_prefix : goal.returns-clause-sends_prefix
returns-clause-sends_prefix g c =
    let xs = c.args.commands.now in
    let none = drop_all c.loop-command.command-index xs c.loop-command-test.false in
    on_err_weaker c.write_end.result
    (λ grew. IfSome_then (g.W.Wire.messages c.loop-command.wire)
    (ended-short c.args.small.now xs _ _ _ _ _ _ none c.loop-command.invariant.progress grew) (λ ms run. run.sends))
    c.write_end.ensures.err

pub returns-in_err-play_command-clause-prefix : goal.returns-in_err-play_command-clause-prefix
returns-in_err-play_command-clause-prefix g c =
    let xs = c.args.commands.now in
    let i = c.loop-command.command-index in
    let item = c.command-item.result in
    let here : drop i xs ≡ item ∷ drop (i + 1) xs =
    rw (add-one i) (drop-cons xs i item c.loop-command-test.true ∙ ap (λ h. h ∷ drop (suc i) xs) (sym c.command-item.is)) in
    OnErr_any c.from_residual.result (IfSome_then (g.W.Wire.messages c.play_command.new.wire)
    (broken c.args.small.now xs (drop (i + 1) xs) (drop i xs) item _ _ _ _ _ _ here c.loop-command.invariant.progress c.in_err-play_command.ensures.interrupted)
    (λ ms run. run.prefix))

pub returns-in_err-play_command-clause-sends_prefix : goal.returns-in_err-play_command-clause-sends_prefix
returns-in_err-play_command-clause-sends_prefix g c =
    let xs = c.args.commands.now in
    let i = c.loop-command.command-index in
    let item = c.command-item.result in
    let here : drop i xs ≡ item ∷ drop (i + 1) xs =
    rw (add-one i) (drop-cons xs i item c.loop-command-test.true ∙ ap (λ h. h ∷ drop (suc i) xs) (sym c.command-item.is)) in
    OnErr_any c.from_residual.result (IfSome_then (g.W.Wire.messages c.play_command.new.wire)
    (broken c.args.small.now xs (drop (i + 1) xs) (drop i xs) item _ _ _ _ _ _ here c.loop-command.invariant.progress c.in_err-play_command.ensures.interrupted)
    (λ ms run. run.sends))

pub returns-clause-machine : goal.returns-clause-machine
returns-clause-machine g c =
    let xs = c.args.commands.now in
    let none = drop_all c.loop-command.command-index xs c.loop-command-test.false in
    on_ok_weaker c.write_end.result
    (λ last. IfSome_then (g.W.Wire.messages c.loop-command.wire)
    (ended c.args.small.now xs _ _ _ _ _ _ none c.loop-command.invariant.progress last)
    (λ ms run asks faithful. run.transcript
    ∙ ap (append_known (g.O.Sink.held c.args.out.now)) (transcript_is_machine_transcript c.args.small.now xs ms asks faithful run.sends run.taken)))
    c.write_end.ensures.ok
