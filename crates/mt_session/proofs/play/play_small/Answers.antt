use Rattle.mt_session.proofs.Plays.{prefix-whole}
use Rattle.mt_session.proofs.play.play_small.Goals as goal

pub returns-in-Ok-clause-prefix : goal.returns-in-Ok-clause-prefix
returns-in-Ok-clause-prefix g c =
    prefix-whole c.args.small.now c.args.schedule.now _ _ _ (rw c.items.ensures at c.in-Ok.ensures.transcript)
