use Rattle.mt_eval_keeps.proofs.Between.{roomier}
use Rattle.mt_eval_keeps.proofs.more_room.Goals as goal
use Rattle.mt_eval_keeps.specs.Kept.{owns}

pub returns : goal.returns
returns g c tests most more steps s room k = roomier (owns tests) most more steps s.0.budget s room k
