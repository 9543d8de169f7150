use Rattle.std.proofs.Common.{List, ◌++◌, map, take, sym, ap, ◌∙◌}
use Rattle.mt_syntax.specs.First.{earlier_of, first_of}
use Rattle.mt_syntax.specs.Fold.{on_decl}
use Rattle.mt_syntax.specs.declared.tree.Decl.{Decl}
use Rattle.mt_syntax.specs.declared.tree.Decl as tree
use Rattle.mt_stage_declared.specs.Declarations.{declaration, declarations, declaring, names_in}
use Rattle.mt_stage_declared.specs.Repeated.{repeated}
use Rattle.mt_stage_declared.specs.declared.declaration.Declaration.{Declaration}
use Rattle.mt_stage_declared.proofs.Holding.{decl_names, decls_more, where_clashes}
use Rattle.mt_stage_declared.proofs.Repeats.{first_of_more}
use Rattle.mt_stage_declared.proofs.Rows.{take_next}
use Rattle.mt_stage_declared.proofs.search.by_comparison.repeated_in_decls.Goals as goal

pub loop-at-preserved : goal.loop-at-preserved
loop-at-preserved c =
    let k = c.args.kind in
    let decl = c.index-decls-at.result in
    let name = (tree.out-Decl decl).name in
    let all : List Decl → List Declaration = λ ds. declarations k (names_in (λ d. d) (map (on_decl declaring) ds)) in
    let before = take c.loop-at.at c.args.decls.now in
    let clash = c.where_found.ensures ∙ where_clashes (declaration k name) (all before) c.in_decls-other.result c.in_decls-other.ensures in
    let next = ap all (take_next c.args.decls.now c.loop-at.at decl c.loop-at-test.true c.index-decls-at.is) ∙ decls_more k before decl ∙ ap (λ ms. all before ++ declarations k ms) (decl_names decl) in
    c.earlier-found.ensures ∙ (λ i. earlier_of (c.loop-at.invariant i) (clash i)) ∙ first_of_more (all before) (declaration k name) ∙ ap (λ ds. first_of (repeated ds)) (sym next)
