use Rattle.mt_small.proofs.ScheduleTargets.{schedule_asks}
use Rattle.mt_small.proofs.message_laws.schedules_ask_for_targets.Goals as goal

pub returns : goal.returns
returns c = schedule_asks
