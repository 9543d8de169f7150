use Rattle.mt_eval_keeps.proofs.Runs.{further}
use Rattle.mt_eval_keeps.proofs.growth_goes_on.Goals as goal
use Rattle.mt_eval_keeps.specs.Kept.{owns}

pub returns : goal.returns
returns g c tests s t u first second = further (owns tests) 0 s t u first second
