use Rattle.mt_eval_fits.proofs.Tables.{code_fits}
use Rattle.mt_eval_fits.proofs.functions_fit.Goals as goal

pub returns : goal.returns
returns g c tests around units table stands suit = code_fits tests around units table suit stands
