use Rattle.std.proofs.Common.{◌≡◌, ◌≤◌, ◌++◌, ◌-◌, ◌+◌, map, reverse, string_bytes}
use Rattle.std.specs.List.{range_with_len}
use Rattle.mt_gen.specs.Schedule.{lines, serve}
use Rattle.mt_gen.proofs.schedule.write_serves.Given as goal

abbrev pub invariant-loop-client : goal.invariant-loop-client
invariant-loop-client l = record {
  from_one : 1 ≤ l.client;
  written : string_bytes l.into ≡ string_bytes l.initial.into ++ lines (map (λ k. serve k 1) (reverse (range_with_len l.client (l.clients + 1 - l.client))));
}
