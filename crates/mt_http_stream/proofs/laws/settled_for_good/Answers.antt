use Rattle.mt_http_stream.proofs.Steps.{settled_more, settled_once}
use Rattle.mt_http_stream.proofs.laws.settled_for_good.Goals as goal

pub returns-clause-one : goal.returns-clause-one
returns-clause-one c = settled_once

pub returns-clause-good : goal.returns-clause-good
returns-clause-good c = settled_more
