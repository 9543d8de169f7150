use Rattle.std.proofs.Common.{arith}
use Rattle.mt_gen.proofs.Steps.{lines_turn}
use Rattle.mt_gen.proofs.schedule.write_turns.Goals as goal

pub loop-click-preserved : goal.loop-click-preserved
loop-click-preserved c = lines_turn _ c.loop-click.click _ _ _ (omega arith) c.loop-click.invariant c.in_ok-write_turn.ensures
