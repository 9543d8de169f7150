use Rattle.std.proofs.Common.{refl}
use Rattle.mt_parser.proofs.Runs.{added}
use Rattle.mt_parser.proofs.levels.Levels.add.Goals as goal

pub returns-in_ok-push-clause-added : goal.returns-in_ok-push-clause-added
returns-in_ok-push-clause-added c = added _ _ _ _ _ c.if-count-gt0.true refl c.in_ok-push.ensures.items
