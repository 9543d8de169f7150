use Rattle.mt_session.proofs.FaithfulRuns.{lines_are_machine_lines}
use Rattle.mt_session.proofs.laws.lines_are_machine_lines.Goals as goal

pub returns : goal.returns
returns c = lines_are_machine_lines
