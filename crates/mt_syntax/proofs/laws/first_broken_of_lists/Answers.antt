use Rattle.mt_syntax.proofs.Order.{first_of_lists}
use Rattle.mt_syntax.proofs.laws.first_broken_of_lists.Goals as goal

pub returns : goal.returns
returns c = first_of_lists
