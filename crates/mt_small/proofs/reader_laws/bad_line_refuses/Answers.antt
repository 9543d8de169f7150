use Rattle.mt_small.proofs.Schedules.{bad-line-refuses}
use Rattle.mt_small.proofs.reader_laws.bad_line_refuses.Goals as goal

pub returns : goal.returns
returns c = bad-line-refuses
