-- Where the messages of the parties stand.
use Rattle.std.proofs.Common.{◌≡◌, ◌<◌, ◌-◌, ℕ, zero, suc, true, List, length, get_or, set, refl, sym, ap, ◌∙◌, arith, Option, None, Some, slice_get}
use Rattle.std.specs.Option.{option_and_then, is_some, IsSome}
use Rattle.std.proofs.lemmas.Option.{slice_get_within}
use Rattle.mt_session.specs.declared.party.Party.{Party}
use Rattle.mt_session.specs.declared.party.Standing.{Standing}
use Rattle.mt_session.specs.First.{place_where, first_where}
use Rattle.mt_session.specs.Parties.{has_number, standing_in, set_standing, standing_of}
use Rattle.mt_session.proofs.FirstPlaces.{first-place}

pub found-standing : (n m : ℕ) (ps : List Party) → IsSome (standing_of n m ps) → is_some (first_where (has_number n) ps) ≡ true
found-standing n m ps some = at (first_where (has_number n) ps) some where
  at : (o : Option Party) → IsSome (option_and_then (λ p. standing_in m p.standings) o) → is_some o ≡ true
  at None some = some
  at (Some p) some = refl

standing_of-at : (n m : ℕ) (ps : List Party) (party : Party) → party ≡ get_or ps (place_where (has_number n) ps) party → IsSome (standing_of n m ps)
    → standing_of n m ps ≡ standing_in m party.standings
standing_of-at n m ps party there some =
    let first = (first-place (has_number n) ps party (found-standing n m ps some)).1 in
    ap (option_and_then (λ p. standing_in m p.standings)) (first ∙ ap Some (sym there))

below : (m : ℕ) (ss : List Standing) → IsSome (standing_in m ss) → m - 1 < length ss
below zero ss some = absurd (cc)
below (suc i) ss some = let inside = at (slice_get ss i) refl some in omega (arith, inside) where
  at : (o : Option Standing) → slice_get ss i ≡ o → IsSome o → i < length ss
  at None e some = absurd (cc)
  at (Some x) e some = slice_get_within ss i x e

pub standing-below : (n m : ℕ) (ps : List Party) (party : Party) → party ≡ get_or ps (place_where (has_number n) ps) party → IsSome (standing_of n m ps)
    → m - 1 < length party.standings
standing-below n m ps party there some = below m party.standings (rw (sym (standing_of-at n m ps party there some)) some)

set-place : (m : ℕ) (ss : List Standing) (s : Standing) → IsSome (standing_in m ss) → set ss (m - 1) s ≡ set_standing m s ss
set-place zero ss s some = absurd (cc)
set-place (suc i) ss s some = let same : suc i - 1 ≡ i = omega arith in ap (λ k. set ss k s) same

pub set-standing : (n m : ℕ) (ps : List Party) (party : Party) (s : Standing) → party ≡ get_or ps (place_where (has_number n) ps) party → IsSome (standing_of n m ps)
    → set party.standings (m - 1) s ≡ set_standing m s party.standings
set-standing n m ps party s there some = set-place m party.standings s (rw (sym (standing_of-at n m ps party there some)) some)
