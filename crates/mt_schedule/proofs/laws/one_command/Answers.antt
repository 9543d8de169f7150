use Rattle.mt_schedule.proofs.Commands.{one-command, skipped-spells-none}
use Rattle.mt_schedule.proofs.laws.one_command.Goals as goal

pub returns-clause-one : goal.returns-clause-one
returns-clause-one c = one-command

pub returns-clause-none : goal.returns-clause-none
returns-clause-none c = skipped-spells-none
