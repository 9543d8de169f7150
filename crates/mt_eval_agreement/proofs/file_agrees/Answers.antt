use Rattle.mt_eval_agreement.proofs.Whole.{file_law}
use Rattle.mt_eval_agreement.proofs.file_agrees.Goals as goal

pub returns : goal.returns
returns g c around units table stands u items code = file_law around units table g.H.Host.meaning stands u items code
