use Rattle.mt_start.proofs.Starts.{one_ending}
use Rattle.mt_start.proofs.laws.a_text_has_one_ending.Goals as goal

pub returns : goal.returns
returns c = λ text x y starts also. one_ending text x y starts also
