use Rattle.std.proofs.Common.{◌≡◌, length}
use Rattle.mt_schedule.specs.Schedule.{version_of, line_limit}
use Rattle.mt_schedule.proofs.Schedules.{Progress}
use Rattle.mt_schedule.proofs.schedule_reader.read_schedule.Given as goal

abbrev pub invariant-lines : goal.invariant-lines
invariant-lines l = record {
  version : l.version ≡ version_of l.bytes;
  limit : l.limit ≡ line_limit (version_of l.bytes);
  progress : Progress l.bytes l.rest l.number l.commands.items;
}

abbrev pub decreases-lines : goal.decreases-lines
decreases-lines l = length l.rest
