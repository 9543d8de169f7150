use Rattle.std.proofs.Common.{◌++◌, map, take, sym, ap, ◌∙◌, append_assoc}
use Rattle.mt_syntax.specs.First.{earlier_of, first_of}
use Rattle.mt_stage_declared.specs.Declarations.{declarations, declared, here_in}
use Rattle.mt_stage_declared.specs.Repeated.{repeated}
use Rattle.mt_stage_declared.specs.Scopes.{scope_of}
use Rattle.mt_stage_declared.proofs.Holding.{here_more}
use Rattle.mt_stage_declared.proofs.Repeats.{first_of_both}
use Rattle.mt_stage_declared.proofs.Rows.{take_next}
use Rattle.mt_stage_declared.proofs.search.by_comparison.repeated_in_scope.Goals as goal

pub loop-at-preserved : goal.loop-at-preserved
loop-at-preserved c =
    let names = declarations c.args.kind c.args.names.now in
    let item = c.index-items-at.result in
    let before = take c.loop-at.at c.args.items.now in
    let here = here_in (λ d. d) (map declared before) in
    let next = ap (scope_of c.args.kind c.args.names.now) (take_next c.args.items.now c.loop-at.at item c.loop-at-test.true c.index-items-at.is) ∙ ap (λ ds. names ++ ds) (here_more before item) ∙ sym (append_assoc names here (declared item).here) in
    c.earlier-found.ensures ∙ (λ i. earlier_of (c.loop-at.invariant i) (c.repeated_behind.ensures i)) ∙ first_of_both (names ++ here) (declared item).here ∙ ap (λ ds. first_of (repeated ds)) (sym next)
