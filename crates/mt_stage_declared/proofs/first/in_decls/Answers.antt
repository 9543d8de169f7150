use Rattle.std.proofs.Common.{◌∙◌, map}
use Rattle.mt_syntax.specs.First.{earlier_of}
use Rattle.mt_syntax.specs.Fold.{on_decl}
use Rattle.mt_stage_declared.specs.Declarations.{declarations, declaring, names_in}
use Rattle.mt_stage_declared.proofs.Holding.{decls_more, with_part}
use Rattle.mt_stage_declared.proofs.first.in_decls.Goals as goal

pub loop-item-preserved : goal.loop-item-preserved
loop-item-preserved g c =
    c.earlier-found.ensures ∙ (λ i. earlier_of (c.loop-item.invariant i) (c.in_decl.ensures i))
    ∙ with_part (g.P.Predicate.holds c.args.predicate.now) (λ xs. declarations c.args.kind (names_in (λ d. d) (map (on_decl declaring) xs))) (λ x. declarations c.args.kind (on_decl declaring x).names) (decls_more c.args.kind) c.args.from.now c.loop-item.item-index c.item-item.result c.loop-item-test.true c.item-item.is
