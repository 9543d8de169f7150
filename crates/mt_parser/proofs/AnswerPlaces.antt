-- The place of a token by its number.
use Rattle.std.proofs.Common.{◌≡◌, ℕ, zero, suc, ◌<◌, ◌≤◌, List, [], ◌∷◌, length, drop, slice_index_or, arith, refl, ap, ◌∙◌}
use Rattle.mt_tree.specs.declared.place.Place.{Place}
use Rattle.mt_parser_marks.specs.declared.token.Token.{Token as CodeToken}
use Rattle.mt_parser_marks.specs.Views.{tokens_of}
use Rattle.mt_grammar.specs.Token.{Tokens}
use Rattle.mt_tree.specs.Place.{place_of}
use Rattle.mt_parser.specs.Parsing.{place_or}

pub placed : (ts : List CodeToken) (i : ℕ) (d : CodeToken) (end : Place) → i < length ts → (slice_index_or ts i d).mark.place ≡ place_or end (drop i (tokens_of ts))
unfolding tokens_of
placed [] i d end h = absurd (omega (arith, h))
placed (t ∷ ts) zero d end h = refl
placed (t ∷ ts) (suc i) d end h = placed ts i d end (omega (arith, h))

pub past : (ts : List CodeToken) (i : ℕ) (end : Place) → length ts ≤ i → end ≡ place_or end (drop i (tokens_of ts))
unfolding tokens_of
past [] zero end h = refl
past [] (suc i) end h = refl
past (t ∷ ts) zero end h = absurd (omega (arith, h))
past (t ∷ ts) (suc i) end h = past ts i end (omega (arith, h))

pub same_place : (p : Place) (source other : List ℕ) (n : ℕ) (ts us : Tokens) → p ≡ place_or (place_of source (length source)) (drop n ts) → source ≡ other → ts ≡ us
    → p ≡ place_or (place_of other (length other)) (drop n us)
same_place p source other n ts us e s t = e ∙ ap (λ (x : List ℕ). place_or (place_of x (length x)) (drop n ts)) s ∙ ap (λ (x : Tokens). place_or (place_of other (length other)) (drop n x)) t
