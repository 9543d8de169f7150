use Rattle.mt_http_read.proofs.Once.{for_good, settled_for_good}
use Rattle.mt_http_read.proofs.laws.read_for_good.Goals as goal

pub returns-clause-settled : goal.returns-clause-settled
returns-clause-settled c = settled_for_good

pub returns-clause-read : goal.returns-clause-read
returns-clause-read c = for_good
