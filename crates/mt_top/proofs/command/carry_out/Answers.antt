use Rattle.std.proofs.Common.{subst, map, string_bytes}
use Rattle.mt_top.specs.declared.words.Command.{Command}
use Rattle.mt_top.specs.Words.{Asks, asked_by}
use Rattle.mt_top.proofs.Meanings.{of_check, of_replay}
use Rattle.mt_top.proofs.command.carry_out.Goals as goal

pub returns-in-Some-Check-clause-meaning : goal.returns-in-Some-Check-clause-meaning
returns-in-Some-Check-clause-meaning g c =
    of_check
    (record { contents = g.F.Files.contents c.args.files.now; faults = g.F.Files.faults c.args.files.now; faults_after = g.F.Files.faults c.check.new.files })
    (record { held = g.O.Sink.held c.args.out.now; held_after = g.O.Sink.held c.check.new.out; faults = g.O.Sink.faults c.args.out.now; faults_after = g.O.Sink.faults c.check.new.out })
    (record { messages = g.W.Wire.messages c.args.wire.now; faults = g.W.Wire.faults c.args.wire.now; faults_after = g.W.Wire.faults c.args.wire.now })
    (map string_bytes c.args.words.now) c.in-Some-Check.application.now _
    (subst (λ (command : Command). Asks (map string_bytes c.args.words.now) (asked_by command)) c.in-Some-Check.field-0-is c.in-Some-Check.ensures.found)
    c.check.ensures.meaning

pub returns-in-Some-Replay-clause-meaning : goal.returns-in-Some-Replay-clause-meaning
returns-in-Some-Replay-clause-meaning g c =
    of_replay
    (record { contents = g.F.Files.contents c.args.files.now; faults = g.F.Files.faults c.args.files.now; faults_after = g.F.Files.faults c.replay.new.files })
    (record { held = g.O.Sink.held c.args.out.now; held_after = g.O.Sink.held c.replay.new.out; faults = g.O.Sink.faults c.args.out.now; faults_after = g.O.Sink.faults c.replay.new.out })
    (record { messages = g.W.Wire.messages c.replay.new.wire; faults = g.W.Wire.faults c.args.wire.now; faults_after = g.W.Wire.faults c.replay.new.wire })
    (map string_bytes c.args.words.now) c.in-Some-Replay.application.now c.in-Some-Replay.schedule.now _
    (subst (λ (command : Command). Asks (map string_bytes c.args.words.now) (asked_by command)) c.in-Some-Replay.field-0-is c.in-Some-Replay.ensures.found)
    c.replay.ensures.meaning

pub returns-in-Some-Replay-clause-quiet : goal.returns-in-Some-Replay-clause-quiet
returns-in-Some-Replay-clause-quiet g c = λ none. absurd (none _ _
    (subst (λ (command : Command). Asks (map string_bytes c.args.words.now) (asked_by command)) c.in-Some-Replay.field-0-is c.in-Some-Replay.ensures.found))
