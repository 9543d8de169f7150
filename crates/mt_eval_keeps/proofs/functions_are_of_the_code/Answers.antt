use Rattle.mt_eval_keeps.proofs.Between.{function_there}
use Rattle.mt_eval_keeps.proofs.functions_are_of_the_code.Goals as goal

pub returns : goal.returns
returns g c tests most functions fit s k at f is = function_there tests most g.H.Host.meaning functions fit s k at f is
