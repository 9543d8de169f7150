use Rattle.mt_tree.proofs.Cuts.{cut_is_between}
use Rattle.mt_tree.proofs.laws.cut_is_between.Goals as goal

pub returns : goal.returns
returns c = cut_is_between
