use Rattle.mt_small.proofs.Targets.{request_in_is}
use Rattle.mt_small.proofs.message_laws.requests_are_read_exactly.Goals as goal

pub returns : goal.returns
returns c = request_in_is
