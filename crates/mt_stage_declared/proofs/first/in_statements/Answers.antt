use Rattle.std.proofs.Common.{◌∙◌, map}
use Rattle.mt_syntax.specs.First.{earlier_of}
use Rattle.mt_stage_declared.specs.Declarations.{declared, here_in}
use Rattle.mt_stage_declared.proofs.Holding.{here_more, with_part}
use Rattle.mt_stage_declared.proofs.first.in_statements.Goals as goal

pub loop-item-preserved : goal.loop-item-preserved
loop-item-preserved g c =
    c.earlier-found.ensures ∙ (λ i. earlier_of (c.loop-item.invariant i) (c.in_statement.ensures i))
    ∙ with_part (g.P.Predicate.holds c.args.predicate.now) (λ xs. here_in (λ d. d) (map declared xs)) (λ x. (declared x).here) (here_more) c.args.from.now c.loop-item.item-index c.item-item.result c.loop-item-test.true c.item-item.is
