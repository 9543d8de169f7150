use Rattle.std.proofs.Common.{rules}
use Rattle.mt_parser_machine.proofs.Views.{popped, popped_counts, popped_shorter}
use Rattle.mt_parser_machine.proofs.stack.Stack.pop.Goals as goal

pub returns-clause-top : goal.returns-clause-top
returns-clause-top c = popped c.pop.result _ _ _ _ _ c.pop.ensures.items (search rules) (search rules) c.pop.ensures.cases c.self.view_is

pub returns-clause-counts : goal.returns-clause-counts
returns-clause-counts c = popped_counts c.pop.result _ _ (popped c.pop.result _ _ _ _ _ c.pop.ensures.items (search rules) (search rules) c.pop.ensures.cases c.self.view_is)

pub returns-clause-shorter : goal.returns-clause-shorter
returns-clause-shorter c = popped_shorter c.pop.result _ _ (popped c.pop.result _ _ _ _ _ c.pop.ensures.items (search rules) (search rules) c.pop.ensures.cases c.self.view_is)
