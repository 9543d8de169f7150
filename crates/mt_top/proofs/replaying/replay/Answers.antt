use Rattle.mt_top.proofs.Meanings.{of_files}
use Rattle.mt_top.proofs.replaying.replay.Goals as goal

pub returns-in-Ok-clause-meaning : goal.returns-in-Ok-clause-meaning
returns-in-Ok-clause-meaning g c =
    of_files _ _ _ _ _ c.deref.result.now c.deref-in-Ok.result.now _
    (rw c.deref.ensures.value c.in-Ok.ensures.application)
    (rw c.deref-in-Ok.ensures.value c.in-Ok.ensures.schedule) c.play_texts.ensures.meaning
