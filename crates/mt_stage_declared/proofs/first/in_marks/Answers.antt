use Rattle.std.proofs.Common.{◌∙◌, [], ◌∷◌}
use Rattle.mt_syntax.specs.First.{earlier_of}
use Rattle.mt_stage_declared.specs.Declarations.{declaration, declarations}
use Rattle.mt_stage_declared.proofs.Holding.{marks_more, with_part}
use Rattle.mt_stage_declared.proofs.first.in_marks.Goals as goal

pub loop-name-preserved : goal.loop-name-preserved
loop-name-preserved g c =
    c.earlier-found.ensures ∙ (λ i. earlier_of (c.loop-name.invariant i) (c.in_mark.ensures i))
    ∙ with_part (g.P.Predicate.holds c.args.predicate.now) (declarations c.args.kind) (λ m. declaration c.args.kind m ∷ []) (marks_more c.args.kind) c.args.from.now c.loop-name.name-index c.name-item.result c.loop-name-test.true c.name-item.is
