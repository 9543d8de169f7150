use Rattle.mt_schedule.proofs.Schedules.{bad-refuses, many-refuse}
use Rattle.mt_schedule.proofs.laws.bad_line_refuses.Goals as goal

pub returns-clause-bad : goal.returns-clause-bad
returns-clause-bad c = bad-refuses

pub returns-clause-many : goal.returns-clause-many
returns-clause-many c = many-refuse
