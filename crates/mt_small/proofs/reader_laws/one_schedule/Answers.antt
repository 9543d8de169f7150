use Rattle.mt_small.proofs.Schedules.{one-schedule}
use Rattle.mt_small.proofs.reader_laws.one_schedule.Goals as goal

pub returns : goal.returns
returns c = one-schedule
