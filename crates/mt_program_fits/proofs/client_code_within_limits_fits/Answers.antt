use Rattle.mt_program_fits.proofs.Accepted.{code_fits}
use Rattle.mt_program_fits.proofs.client_code_within_limits_fits.Goals as goal

pub returns : goal.returns
returns g c tests body within = code_fits tests body within (c.data_within_limits_can_be_built.ensures _ within.values)
