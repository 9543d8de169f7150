use Rattle.mt_eval_keeps.proofs.Between.{data_kept}
use Rattle.mt_eval_keeps.proofs.built_data_keep.Goals as goal

pub returns : goal.returns
returns g c tests most small d fit s room k = data_kept tests most small d fit s room k
