use Rattle.std.proofs.Common.{◌≡◌, ◌≤◌, ◌-◌, false}
use Rattle.std.specs.Vec.{vec_len}
use Rattle.std.specs.Option.{option_map}
use Rattle.mt_outside.specs.Message.{with_given}
use Rattle.mt_outside.proofs.taking.take_slot.Given as goal

abbrev pub invariant-pieces : goal.invariant-pieces
invariant-pieces g l = record {
  fits : vec_len l.bytes ≤ l.bound;
  mode : g.W.Wire.mode l.wire ≡ g.W.Wire.mode l.initial.wire;
  taken : g.W.Wire.messages l.wire ≡ option_map (with_given l.slot l.bytes.items false) (g.W.Wire.messages l.initial.wire);
  later : g.W.Wire.faults l.initial.wire ≤ g.W.Wire.faults l.wire;
}

abbrev pub decreases-pieces : goal.decreases-pieces
decreases-pieces g l = l.bound - vec_len l.bytes
