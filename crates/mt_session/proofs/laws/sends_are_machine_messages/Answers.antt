use Rattle.mt_session.proofs.FaithfulRuns.{sends_are_machine_messages}
use Rattle.mt_session.proofs.laws.sends_are_machine_messages.Goals as goal

pub returns : goal.returns
returns c = sends_are_machine_messages
