use Rattle.mt_eval_agreement.proofs.Whole.{start_law}
use Rattle.mt_eval_agreement.proofs.file_starts.Goals as goal

pub returns : goal.returns
returns g c around units table stands u items code s empty = start_law around units table g.H.Host.meaning stands u items code s empty
