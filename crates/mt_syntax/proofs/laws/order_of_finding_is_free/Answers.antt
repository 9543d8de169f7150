use Rattle.mt_syntax.proofs.Order.{grouping, order, repetition}
use Rattle.mt_syntax.proofs.laws.order_of_finding_is_free.Goals as goal

pub returns-clause-grouping : goal.returns-clause-grouping
returns-clause-grouping c = grouping

pub returns-clause-order : goal.returns-clause-order
returns-clause-order c = order

pub returns-clause-repetition : goal.returns-clause-repetition
returns-clause-repetition c = repetition
