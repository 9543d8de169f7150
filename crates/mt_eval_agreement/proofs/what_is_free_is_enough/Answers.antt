use Rattle.mt_eval_agreement.proofs.Whole.{free_law}
use Rattle.mt_eval_agreement.proofs.what_is_free_is_enough.Goals as goal

pub returns : goal.returns
returns g c around = free_law around g.H.Host.meaning
