use Rattle.mt_session.proofs.FaithfulRuns.{states_correspond}
use Rattle.mt_session.proofs.laws.states_correspond.Goals as goal

pub returns : goal.returns
returns c = states_correspond
