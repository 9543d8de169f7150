use Rattle.mt_syntax.proofs.Order.{least, member, none}
use Rattle.mt_syntax.proofs.laws.first_broken_is_the_least.Goals as goal

pub returns-clause-member : goal.returns-clause-member
returns-clause-member c = member

pub returns-clause-least : goal.returns-clause-least
returns-clause-least c = least

pub returns-clause-none : goal.returns-clause-none
returns-clause-none c = none
