use Rattle.mt_eval_keeps.proofs.Between.{function_kept}
use Rattle.mt_eval_keeps.proofs.further_function_keeps.Goals as goal

pub returns : goal.returns
returns g c tests most f s number named k = function_kept tests most f s number named k
