use Rattle.std.proofs.Common.{◌≡◌, ◌≤◌, drop}
use Rattle.std.specs.Option.{is_some, IfSome}
use Rattle.mt_session.specs.Progress.{Progress}
use Rattle.mt_session.proofs.play.play_commands.Given as goal

abbrev pub invariant-loop-command : goal.invariant-loop-command
invariant-loop-command g l = record {
  mode : g.W.Wire.mode l.wire ≡ g.W.Wire.mode l.initial.wire;
  tells : is_some (g.W.Wire.messages l.wire) ≡ is_some (g.W.Wire.messages l.initial.wire);
  progress : IfSome (g.W.Wire.messages l.wire)
      (Progress l.small l.commands (drop l.command-index l.commands) l.session.parties.items (g.O.Sink.held l.initial.out) (g.O.Sink.held l.out));
  wire_later : g.W.Wire.faults l.initial.wire ≤ g.W.Wire.faults l.wire;
  sink_later : g.O.Sink.faults l.initial.out ≤ g.O.Sink.faults l.out;
}
