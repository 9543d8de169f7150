use Rattle.std.proofs.Common.{arith}
use Rattle.mt_gen.specs.Schedule.{deliver}
use Rattle.mt_gen.proofs.Steps.{lines_up}
use Rattle.mt_gen.proofs.schedule.write_deliveries.Goals as goal

pub loop-client-preserved : goal.loop-client-preserved
loop-client-preserved c = lines_up (λ k. deliver k 1) c.loop-client.client _ _ _ (omega arith) c.loop-client.invariant c.in_ok-write_deliver.ensures
