use Rattle.mt_stage_declared.proofs.Words.{same_by_test}
use Rattle.mt_stage_declared.proofs.builtins.is_spelled.Goals as goal

pub returns : goal.returns
returns c = same_by_test c.is.result _ _ c.is.ensures.0 c.is.ensures.1
