use Rattle.std.proofs.Common.{length, ◌-◌, ◌≡◌, ◌≤◌, take}
use Rattle.std.specs.Io.KnownBytes.{append_known}
use Rattle.mt_outside.proofs.writing.write_all.Given as goal

abbrev pub invariant-loop-at : goal.invariant-loop-at
invariant-loop-at g l = record {
  inside : l.at ≤ length l.bytes;
  held : g.O.Sink.held l.out ≡ append_known (g.O.Sink.held l.initial.out) (take l.at l.bytes);
  later : g.O.Sink.faults l.initial.out ≤ g.O.Sink.faults l.out;
}

abbrev pub decreases-loop-at : goal.decreases-loop-at
decreases-loop-at g l = length l.bytes - l.at
