use Rattle.std.proofs.Common.{◌||◌, map, sym, ap, ◌∙◌}
use Rattle.std.proofs.lemmas.List.Folds.{list_any-append}
use Rattle.std.specs.List.{list_any}
use Rattle.std.specs.Option.{is_some}
use Rattle.mt_stage_declared.specs.Declarations.{declaration, declarations, declared, here_in}
use Rattle.mt_stage_declared.specs.Repeated.{clash}
use Rattle.mt_stage_declared.proofs.Holding.{some_holds}
use Rattle.mt_stage_declared.proofs.search.by_comparison.BeforePredicate.holds.Goals as goal

pub returns-then-is_some : goal.returns-then-is_some
returns-then-is_some c =
    let before = c.args.self.now in
    let clashes = clash (declaration c.args.kind c.args.name.now) in
    let names = declarations before.kind before.names.now in
    let here = here_in (λ d. d) (map declared before.items.now) in
    let found = sym c.if-is_some.true ∙ c.is_some.ensures ∙ ap is_some c.in_marks.ensures ∙ some_holds clashes names in
    c.if-is_some.true ∙ ap (λ b. b || list_any clashes here) found ∙ sym (list_any-append clashes names here)

pub returns-else-is_some : goal.returns-else-is_some
returns-else-is_some c =
    let before = c.args.self.now in
    let clashes = clash (declaration c.args.kind c.args.name.now) in
    let names = declarations before.kind before.names.now in
    let here = here_in (λ d. d) (map declared before.items.now) in
    let none = sym c.if-is_some.false ∙ c.is_some.ensures ∙ ap is_some c.in_marks.ensures ∙ some_holds clashes names in
    c.is_some-else-is_some.ensures ∙ ap is_some c.in_statements.ensures ∙ some_holds clashes here ∙ ap (λ b. b || list_any clashes here) none ∙ sym (list_any-append clashes names here)
