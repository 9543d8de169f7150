use Rattle.std.proofs.Common.{◌∙◌, [], ◌∷◌, refl}
use Rattle.mt_syntax.specs.First.{earlier_of}
use Rattle.mt_stage_declared.proofs.Holding.{with_part}
use Rattle.mt_stage_declared.proofs.first.in_list.Goals as goal

pub loop-declaration-preserved : goal.loop-declaration-preserved
loop-declaration-preserved g c =
    c.earlier-found.ensures ∙ (λ i. earlier_of (c.loop-declaration.invariant i) (c.in_mark.ensures i))
    ∙ with_part (g.P.Predicate.holds c.args.predicate.now) (λ xs. xs) (λ x. x ∷ []) (λ xs x. refl) c.args.from.now c.loop-declaration.declaration-index c.declaration-item.result c.loop-declaration-test.true c.declaration-item.is
