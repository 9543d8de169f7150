use Rattle.std.proofs.Common.{arith}
use Rattle.mt_gen.specs.Schedule.{load}
use Rattle.mt_gen.proofs.Steps.{lines_up}
use Rattle.mt_gen.proofs.schedule.write_loads.Goals as goal

pub loop-client-preserved : goal.loop-client-preserved
loop-client-preserved c = lines_up load c.loop-client.client _ _ _ (omega arith) c.loop-client.invariant c.in_ok-write_load.ensures
