use Rattle.mt_small.proofs.Replies.{failure_in_is}
use Rattle.mt_small.proofs.message_laws.failures_are_read_exactly.Goals as goal

pub returns : goal.returns
returns c = failure_in_is
