use Rattle.mt_eval_keeps.proofs.Between.{begins}
use Rattle.mt_eval_keeps.proofs.starts_lawful.Goals as goal
use Rattle.mt_eval_keeps.specs.Kept.{owns}

pub returns : goal.returns
returns g c tests most steps host room sound none = begins (owns tests) most steps host room sound none
