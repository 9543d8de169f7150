use Rattle.mt_eval_agreement.proofs.Whole.{called_law}
use Rattle.mt_eval_agreement.proofs.call_agrees.Goals as goal

pub returns : goal.returns
returns g c around units table stands f arguments = called_law around units table g.H.Host.meaning stands f arguments
