use Rattle.mt_eval_agreement.proofs.Standing.{stands_with_more}
use Rattle.mt_eval_agreement.proofs.further_functions_change_nothing.Goals as goal

pub returns : goal.returns
returns g c tildes table more kept s n stands = stands_with_more tildes table more kept s n stands
