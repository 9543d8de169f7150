use Rattle.std.proofs.Common.{rules}
use Rattle.mt_parser.proofs.Runs.{popped}
use Rattle.mt_parser.proofs.levels.Levels.pop.Goals as goal

pub returns-clause-popped : goal.returns-clause-popped
returns-clause-popped c = popped c.pop.result _ _ _ _ c.pop.ensures.items (search rules) (search rules) c.pop.ensures.cases
