use Rattle.mt_session.proofs.FaithfulRuns.{requests_read_alike}
use Rattle.mt_session.proofs.laws.requests_are_taken_alike.Goals as goal

pub returns : goal.returns
returns c = requests_read_alike
