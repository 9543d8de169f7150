use Rattle.mt_stage.proofs.Programs.{made_program}
use Rattle.mt_stage.proofs.laws.accepted_programs_are_made.Goals as goal

pub returns : goal.returns
returns c p accepted = made_program p accepted
