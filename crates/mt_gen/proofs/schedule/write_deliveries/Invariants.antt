use Rattle.std.proofs.Common.{◌≡◌, ◌++◌, ◌-◌, map, string_bytes}
use Rattle.mt_gen.specs.Schedule.{lines, deliver, up_to}
use Rattle.mt_gen.proofs.schedule.write_deliveries.Given as goal

abbrev pub invariant-loop-client : goal.invariant-loop-client
invariant-loop-client l = string_bytes l.into ≡ string_bytes l.initial.into ++ lines (map (λ k. deliver k 1) (up_to (l.client - 1)))
