use Rattle.mt_schedule.proofs.Schedules.{one-refusal}
use Rattle.mt_schedule.proofs.laws.one_first_bad_line.Goals as goal

pub returns : goal.returns
returns c = one-refusal
