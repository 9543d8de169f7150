use Rattle.mt_eval_meaning.specs.Free.{free_of}
use Rattle.mt_eval_agreement.proofs.Cuts.{find_kept}
use Rattle.mt_eval_agreement.proofs.each_free_name_is_kept.Goals as goal

pub returns : goal.returns
returns c tildes own f environment name free = find_kept (free_of tildes own f) environment name free
