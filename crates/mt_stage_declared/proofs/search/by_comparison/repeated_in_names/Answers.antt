use Rattle.std.proofs.Common.{take, sym, ap, ◌∙◌}
use Rattle.mt_syntax.specs.First.{earlier_of, first_of}
use Rattle.mt_stage_declared.specs.Declarations.{declaration, declarations}
use Rattle.mt_stage_declared.specs.Repeated.{repeated}
use Rattle.mt_stage_declared.proofs.Holding.{marks_more, where_clashes}
use Rattle.mt_stage_declared.proofs.Repeats.{first_of_more}
use Rattle.mt_stage_declared.proofs.Rows.{take_next}
use Rattle.mt_stage_declared.proofs.search.by_comparison.repeated_in_names.Goals as goal

pub loop-at-preserved : goal.loop-at-preserved
loop-at-preserved c =
    let k = c.args.kind in
    let name = c.index-names-at.result in
    let before = take c.loop-at.at c.args.names.now in
    let clash = c.where_found.ensures ∙ where_clashes (declaration k name) (declarations k before) c.in_marks-other.result c.in_marks-other.ensures in
    let next = ap (declarations k) (take_next c.args.names.now c.loop-at.at name c.loop-at-test.true c.index-names-at.is) ∙ marks_more k before name in
    c.earlier-found.ensures ∙ (λ i. earlier_of (c.loop-at.invariant i) (clash i)) ∙ first_of_more (declarations k before) (declaration k name) ∙ ap (λ ds. first_of (repeated ds)) (sym next)
