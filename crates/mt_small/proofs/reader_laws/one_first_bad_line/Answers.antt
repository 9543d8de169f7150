use Rattle.mt_small.proofs.Schedules.{one-bad}
use Rattle.mt_small.proofs.reader_laws.one_first_bad_line.Goals as goal

pub returns : goal.returns
returns c = one-bad
