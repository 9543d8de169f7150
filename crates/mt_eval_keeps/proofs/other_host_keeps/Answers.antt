use Rattle.mt_eval_keeps.proofs.Between.{host_kept}
use Rattle.mt_eval_keeps.proofs.other_host_keeps.Goals as goal

pub returns : goal.returns
returns g c tests most s host own named k = host_kept tests most s host own named k
