use Rattle.mt_program_fits.proofs.Accepted.{client_suits}
use Rattle.mt_program_fits.proofs.client_tests_suit.Goals as goal

pub returns : goal.returns
returns g c own addresses table = client_suits own addresses table
