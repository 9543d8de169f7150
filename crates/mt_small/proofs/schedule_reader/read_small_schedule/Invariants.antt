use Rattle.std.proofs.Common.{length}
use Rattle.mt_small.proofs.Schedules.{Progress}
use Rattle.mt_small.proofs.schedule_reader.read_small_schedule.Given as goal

abbrev pub invariant-lines : goal.invariant-lines
invariant-lines l = Progress l.bytes l.rest l.number l.commands.items

abbrev pub decreases-lines : goal.decreases-lines
decreases-lines l = length l.rest
