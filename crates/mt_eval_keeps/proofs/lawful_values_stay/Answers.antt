use Rattle.mt_eval_keeps.proofs.Runs.{fits_kept}
use Rattle.mt_eval_keeps.proofs.lawful_values_stay.Goals as goal
use Rattle.mt_eval_keeps.specs.Kept.{owns}

pub returns : goal.returns
returns g c tests s t grew v fit = fits_kept (owns tests) 0 grew fit
