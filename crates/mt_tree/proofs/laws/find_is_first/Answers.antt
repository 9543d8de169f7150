use Rattle.mt_tree.proofs.Finding.{find_is_first}
use Rattle.mt_tree.proofs.laws.find_is_first.Goals as goal

pub returns : goal.returns
returns c = find_is_first
