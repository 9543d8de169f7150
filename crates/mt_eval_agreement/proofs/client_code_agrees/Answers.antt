use Rattle.mt_eval_agreement.proofs.Whole.{client_law}
use Rattle.mt_eval_agreement.proofs.client_code_agrees.Goals as goal

pub returns : goal.returns
returns g c around units table stands u items code = client_law around units table g.H.Host.meaning stands u items code
