use Rattle.std.proofs.Common.{Err, ap}
use Rattle.mt_top.proofs.Meanings.{of_texts}
use Rattle.mt_top.proofs.play.play_texts.Goals as goal

pub returns-in-Ok-read_small_schedule-clause-meaning :
    goal.returns-in-Ok-read_small_schedule-clause-meaning
returns-in-Ok-read_small_schedule-clause-meaning g c =
    of_texts _ _ _ _ _ _ _ c.in-Ok.ensures.read.0 c.in-Ok.ensures.read.1 c.in-Ok-read_small_schedule.ensures.read c.play_commands.ensures.meaning

pub returns-in-Ok-write_bad_line-clause-meaning : goal.returns-in-Ok-write_bad_line-clause-meaning
returns-in-Ok-write_bad_line-clause-meaning g c = (
  (_, c.in-Ok.ensures.read.0, c.in-Ok.ensures.read.1),
  c.in-Err-BadLine.ensures.none c.in-Err-BadLine.number (ap Err c.in-Err-BadLine.field-0-is),
  _,
  c.in-Err-BadLine.ensures.refused c.in-Err-BadLine.number (ap Err c.in-Err-BadLine.field-0-is),
  c.in-Ok-write_bad_line.ensures.ok,
)
