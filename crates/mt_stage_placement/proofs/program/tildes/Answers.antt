use Rattle.mt_stage_placement.proofs.FirstPlace.{with_next}
use Rattle.mt_stage_placement.proofs.program.tildes.Goals as goal

pub loop-item-preserved : goal.loop-item-preserved
loop-item-preserved c =
    rw (c.earlier-found.ensures, c.in_ok-tilde.ensures) (with_next c.items-item-items.result.now c.loop-item.item-index c.item-item.result c.loop-item.found c.item-item.is c.loop-item-test.true c.loop-item.invariant)
