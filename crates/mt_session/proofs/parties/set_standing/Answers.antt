use Rattle.std.proofs.Common.{◌≡◌, ◌+◌, ap, ◌∙◌, arith, get_or, refl}
use Rattle.mt_session.specs.declared.party.Party.{Party}
use Rattle.mt_session.specs.First.{place_where}
use Rattle.mt_session.specs.Parties.{has_number, moved, set_standing}
use Rattle.mt_session.proofs.FirstPlaces.{set-change, place-below}
use Rattle.mt_session.proofs.Standings.{found-standing, standing-below, set-standing}
use Rattle.mt_session.proofs.parties.set_standing.Goals as goal

pub index_mut-party-requires : goal.index_mut-party-requires
index_mut-party-requires c =
    let p = has_number c.args.number in
    let ps = c.args.parties.now.items in
    let place : c.place_of-place.result ≡ place_where p ps = c.place_of-place.ensures ∙ ap (place_where p) c.deref.ensures.value in
    omega (arith, place, place-below p ps (found-standing c.args.number c.args.message ps c.requires), c.args.parties.now.ok.0)

pub replace-old-requires : goal.replace-old-requires
replace-old-requires c =
    let p = has_number c.args.number in
    let ps = c.args.parties.now.items in
    let party = c.index_mut-party.result.now in
    let place : c.place_of-place.result ≡ place_where p ps = c.place_of-place.ensures ∙ ap (place_where p) c.deref.ensures.value in
    let there : party ≡ get_or ps (place_where p ps) party = c.index_mut-party.ensures.value ∙ ap (λ i. get_or ps i party) place in
    standing-below c.args.number c.args.message ps party there c.requires

pub returns-in-Some : goal.returns-in-Some
returns-in-Some c =
    let p = has_number c.args.number in
    let ps = c.args.parties.now.items in
    let party = c.index_mut-party.result.now in
    let place : c.place_of-place.result ≡ place_where p ps = c.place_of-place.ensures ∙ ap (place_where p) c.deref.ensures.value in
    let there : party ≡ get_or ps (place_where p ps) party = c.index_mut-party.ensures.value ∙ ap (λ i. get_or ps i party) place in
    let new : Party = record { number = party.number; pages = c.in-Some.pages; standings = c.replace-old.new.self } in
    let change = moved c.args.message c.args.standing c.args.more in
    let pages : c.in-Some.pages ≡ party.pages + c.args.more = c.in-Some.ensures.1 in
    let standings : c.replace-old.new.self ≡ set_standing c.args.message c.args.standing party.standings =
    c.replace-old.ensures.kept ∙ set-standing c.args.number c.args.message ps party c.args.standing there c.requires in
    let same : new ≡ change party = rw (pages, standings) refl in
    rw place (set-change p change ps new party (place-below p ps (found-standing c.args.number c.args.message ps c.requires)) (same ∙ ap change there))
