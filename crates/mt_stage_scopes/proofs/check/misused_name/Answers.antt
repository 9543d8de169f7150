use Rattle.std.proofs.Common.{◌≡◌, ℕ, suc, ◌+◌, List, flat_map, length, add-one, ap, ◌∙◌, subst, IfOk}
use Rattle.mt_syntax.specs.First.{first_of}
use Rattle.mt_syntax.specs.declared.broken.Broken.{Broken}
use Rattle.mt_syntax.specs.declared.program.Tilde.{Tilde}
use Rattle.mt_stage_declared.specs.declared.declaration.Declaration.{Declaration}
use Rattle.mt_stage_scopes.specs.Misused.{broken_at_site, broken_in_tilde, client_globals}
use Rattle.mt_stage_scopes.specs.declared.site.Site.{Site}
use Rattle.mt_stage_scopes.proofs.check.misused_name.Goals as goal

abbrev at_sites : List Declaration → List Tilde → ℕ → List Site → List Broken
at_sites globals tildes levels list = flat_map (broken_at_site globals (broken_in_tilde globals tildes levels)) list

pub returns : goal.returns
returns c =
    let p = c.args.program.now in
    let tildes = c.items-tildes.result.now in
    let ts = c.items-tildes.ensures in
    let gs = c.in_ok-globals.ensures ∙ ap client_globals ts in
    let list = c.as_slice.result.now in
    let ss = c.as_slice.ensures.value ∙ c.in_ok-top.ensures in
    let levels : length tildes + 1 ≡ suc (length p.tildes) = add-one (length tildes) ∙ ap (λ tildes. suc (length tildes)) ts in
    subst (λ bs. IfOk c.at_sites.result (λ found. found ≡ first_of bs))
    (ap (λ g. at_sites g tildes (length tildes + 1) list) gs
    ∙ ap (λ n. at_sites (client_globals p.tildes) tildes n list) levels
    ∙ ap (λ tildes. at_sites (client_globals p.tildes) tildes (suc (length p.tildes)) list) ts
    ∙ ap (at_sites (client_globals p.tildes) p.tildes (suc (length p.tildes))) ss)
    c.at_sites.ensures
