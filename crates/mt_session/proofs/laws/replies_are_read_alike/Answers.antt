use Rattle.mt_session.proofs.FaithfulRuns.{replies_read_alike}
use Rattle.mt_session.proofs.laws.replies_are_read_alike.Goals as goal

pub returns : goal.returns
returns c = replies_read_alike
