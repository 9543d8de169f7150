use Rattle.std.proofs.Common.{◌≡◌, suc, ◌≤◌, length, sym, ap, ◌∙◌, subst, arith}
use Rattle.std.proofs.lemmas.Result.{IfOk-weaker}
use Rattle.mt_resolve_free.specs.Tildes.{NamesTildes, next_names}
use Rattle.mt_resolve_free.proofs.Levels.{names_to, all_named, settled}
use Rattle.mt_resolve_free.proofs.free.names_of_tildes.Goals as goal

pub returns-then-are_same : goal.returns-then-are_same
returns-then-are_same c =
    let tildes = c.args.tildes.now in
    let level = c.loop-level._level in
    let is : c.loop-level.names.items ≡ names_to tildes level = c.loop-level.invariant in
    let made : c.in_ok-next.next.items ≡ names_to tildes (suc level) = c.in_ok-next.ensures ∙ ap (next_names tildes) (c.as_slice.ensures.value ∙ is) in
    let same : names_to tildes level ≡ names_to tildes (suc level) =
    sym is ∙ sym c.as_slice-in-loop-level.ensures.value ∙ c.are_same.ensures c.if-are_same.true ∙ c.as_slice-in-loop-level-2.ensures.value ∙ made in
    let few : level ≤ suc (length tildes) = omega (arith, c.loop-level-test.true) in
    IfOk-weaker c.from_vec.result (λ row. row ≡ c.in_ok-next.next.items) (λ row. NamesTildes row tildes)
    (λ row e. subst (λ table. NamesTildes table tildes) (sym (e ∙ made)) (settled tildes level same few)) c.from_vec.ensures

pub returns : goal.returns
returns c =
    let tildes = c.args.tildes.now in
    let level = c.loop-level._level in
    let is : c.loop-level.names.items ≡ names_to tildes level = c.loop-level.invariant in
    let last : level ≡ suc (length tildes) = omega (arith, c.loop-level-test.false, c.loop-level.auto._level-end) in
    IfOk-weaker c.from_vec-2.result (λ row. row ≡ c.loop-level.names.items) (λ row. NamesTildes row tildes)
    (λ row e. subst (λ table. NamesTildes table tildes) (sym (e ∙ is)) (all_named tildes level last)) c.from_vec-2.ensures
