use Rattle.mt_schedule.proofs.Schedules.{one-schedule}
use Rattle.mt_schedule.proofs.laws.one_schedule.Goals as goal

pub returns : goal.returns
returns c = one-schedule
