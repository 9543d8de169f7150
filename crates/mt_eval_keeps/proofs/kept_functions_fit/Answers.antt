use Rattle.mt_eval_keeps.proofs.Between.{functions_fit}
use Rattle.mt_eval_keeps.proofs.kept_functions_fit.Goals as goal

pub returns : goal.returns
returns g c tests most s k = functions_fit tests most s k
