use Rattle.mt_http_read.proofs.Heads.{found, found_is}
use Rattle.mt_http_read.proofs.laws.heads_are_found.Goals as goal

pub returns-clause-one : goal.returns-clause-one
returns-clause-one c = found

pub returns-clause-only : goal.returns-clause-only
returns-clause-only c = found_is
