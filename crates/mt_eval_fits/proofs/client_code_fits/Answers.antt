use Rattle.mt_eval_fits.proofs.Tables.{client_unit_fits}
use Rattle.mt_eval_fits.proofs.client_code_fits.Goals as goal

pub returns : goal.returns
returns g c tests around units table suit u items h fit = client_unit_fits tests around units table suit u items h fit
