use Rattle.mt_eval_fits.proofs.Tables.{file_unit_fits}
use Rattle.mt_eval_fits.proofs.file_fits.Goals as goal

pub returns : goal.returns
returns g c tests around units table suit u items h fit = file_unit_fits tests around units table suit u items h fit
