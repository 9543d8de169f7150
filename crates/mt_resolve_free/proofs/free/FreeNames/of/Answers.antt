use Rattle.std.proofs.Common.{◌≡◌, [], ◌∷◌, ◌++◌, sym, ap, ap₂, ◌∙◌, subst, IfOk}
use Rattle.mt_eval_meaning.specs.Free.{Names, finding, free_of, without}
use Rattle.mt_resolve_free.specs.Tildes.{NamesTildes, names_at}
use Rattle.mt_resolve_free.proofs.Frees.{free_without_own, free_with_own}
use Rattle.mt_syntax.specs.Fold.{on_function}
use Rattle.mt_resolve_free.proofs.free.FreeNames.of.Goals as goal

pub returns-in-None : goal.returns-in-None
returns-in-None c =
    let tildes = c.args.self.now in
    let table = c.self.inside.names in
    let f = c.args.from.now in
    let named : NamesTildes table tildes = subst (λ ts. NamesTildes table ts) c.self.view_is c.self.invariant in
    let bound : c.as_slice.result.now ≡ [] = c.as_slice.ensures.value ∙ c.new-bound.ensures.items in
    let used : c.as_slice-in-None.result.now ≡ (on_function (finding (names_at table)) f).free =
    c.as_slice-in-None.ensures.value ∙ c.into_free-used.ensures ∙ ap (λ u. u.free) c.in_ok-function.ensures
    ∙ ap (λ names. (on_function (finding (names_at names)) f).free) c.items.ensures in
    subst (λ names. IfOk c.without.result (λ left. left.items ≡ names))
    (ap₂ without bound used ∙ free_without_own tildes table named f ∙ ap (λ own. free_of tildes own f) (sym c.in-None.is)) c.without.ensures

pub returns : goal.returns
returns c =
    let tildes = c.args.self.now in
    let table = c.self.inside.names in
    let f = c.args.from.now in
    let name = c.in-Some.name in
    let named : NamesTildes table tildes = subst (λ ts. NamesTildes table ts) c.self.view_is c.self.invariant in
    let pushed : c.push_name.new.names.items ≡ c.new-bound.result.items ++ name ∷ [] = c.in_ok-push_name-in-Some.ensures in
    let bound : c.as_slice-in-Some.result.now ≡ name ∷ [] = c.as_slice-in-Some.ensures.value ∙ pushed ∙ ap (λ (names : Names). names ++ name ∷ []) c.new-bound.ensures.items in
    let used : c.as_slice-in-Some-2.result.now ≡ (on_function (finding (names_at table)) f).free =
    c.as_slice-in-Some-2.ensures.value ∙ c.into_free-used.ensures ∙ ap (λ u. u.free) c.in_ok-function.ensures
    ∙ ap (λ names. (on_function (finding (names_at names)) f).free) c.items.ensures in
    subst (λ names. IfOk c.without-in-Some.result (λ left. left.items ≡ names))
    (ap₂ without bound used ∙ free_with_own tildes table named f name ∙ ap (λ own. free_of tildes own f) (sym c.in-Some.is)) c.without-in-Some.ensures
