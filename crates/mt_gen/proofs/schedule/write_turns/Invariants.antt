use Rattle.std.proofs.Common.{◌≡◌, ◌++◌, ◌-◌, string_bytes}
use Rattle.std.specs.List.{flat_map}
use Rattle.mt_gen.specs.Schedule.{lines, turn, up_to}
use Rattle.mt_gen.proofs.schedule.write_turns.Given as goal

abbrev pub invariant-loop-click : goal.invariant-loop-click
invariant-loop-click l = string_bytes l.into ≡ string_bytes l.initial.into ++ lines (flat_map (turn l.clients) (up_to (l.click - 1)))
