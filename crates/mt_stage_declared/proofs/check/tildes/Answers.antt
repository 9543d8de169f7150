use Rattle.std.proofs.Common.{◌∙◌}
use Rattle.mt_syntax.specs.First.{earlier_of}
use Rattle.mt_stage_declared.specs.Twice.{twice_in_tilde}
use Rattle.mt_stage_declared.proofs.Rows.{first_next}
use Rattle.mt_stage_declared.proofs.check.tildes.Goals as goal

pub loop-item-preserved : goal.loop-item-preserved
loop-item-preserved g c =
    c.earlier-found.ensures ∙ (λ i. earlier_of (c.loop-item.invariant i) (c.in_ok-tilde.ensures i))
    ∙ first_next c.args.all.now c.loop-item.item-index c.item-item.result c.loop-item-test.true c.item-item.is twice_in_tilde
