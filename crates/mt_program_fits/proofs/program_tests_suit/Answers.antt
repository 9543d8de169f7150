use Rattle.mt_program_fits.proofs.Accepted.{program_suits}
use Rattle.mt_program_fits.proofs.program_tests_suit.Goals as goal

pub returns : goal.returns
returns g c own addresses p table accepted = program_suits own addresses p table accepted (c.accepted_programs_are_made.ensures p accepted)
