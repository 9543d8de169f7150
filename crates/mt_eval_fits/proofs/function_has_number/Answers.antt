use Rattle.mt_eval_fits.proofs.Tables.{has_number}
use Rattle.mt_eval_fits.proofs.function_has_number.Goals as goal

pub returns : goal.returns
returns g c tests around units table suit scope n own f h fit = has_number tests around units table suit scope n own f h fit
