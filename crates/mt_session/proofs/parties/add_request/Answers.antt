use Rattle.std.proofs.Common.{◌≡◌, sym, ap, ◌∙◌, arith, true, get_or, refl}
use Rattle.std.specs.Option.{is_some}
use Rattle.std.proofs.lemmas.Result.{on_ok_weaker}
use Rattle.mt_session.specs.declared.party.Party.{Party}
use Rattle.mt_session.specs.First.{place_where, first_where}
use Rattle.mt_session.specs.Parties.{has_number, with_message}
use Rattle.mt_session.proofs.FirstPlaces.{set-change, place-below}
use Rattle.mt_session.proofs.parties.add_request.Goals as goal

pub index_mut-party-requires : goal.index_mut-party-requires
index_mut-party-requires c =
    let p = has_number c.args.number in
    let ps = c.args.parties.now.items in
    let place : c.place_of-place.result ≡ place_where p ps = c.place_of-place.ensures ∙ ap (place_where p) c.deref-then-has_party.ensures.value in
    let found : is_some (first_where p ps) ≡ true = ap (λ l. is_some (first_where p l)) (sym c.deref.ensures.value) ∙ sym c.if-has_party.ensures in
    omega (arith, place, place-below p ps found, c.args.parties.now.ok.0)

pub returns-then-has_party : goal.returns-then-has_party
returns-then-has_party c =
    let p = has_number c.args.number in
    let ps = c.args.parties.now.items in
    let party = c.index_mut-party.result.now in
    let place : c.place_of-place.result ≡ place_where p ps = c.place_of-place.ensures ∙ ap (place_where p) c.deref-then-has_party.ensures.value in
    let found : is_some (first_where p ps) ≡ true = ap (λ l. is_some (first_where p l)) (sym c.deref.ensures.value) ∙ sym c.if-has_party.ensures in
    let there : party ≡ get_or ps (place_where p ps) party = c.index_mut-party.ensures.value ∙ ap (λ i. get_or ps i party) place in
    let new : Party = record { number = party.number; pages = party.pages; standings = c.push.new.self } in
    on_ok_weaker c.push.result
    (λ pushed.
    let same : new ≡ with_message party = rw pushed refl in
    rw (found, place) (set-change p with_message ps new party (place-below p ps found) (same ∙ ap with_message there)))
    c.push.ensures.ok
