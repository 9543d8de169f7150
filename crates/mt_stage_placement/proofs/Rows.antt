-- The first of what is found in the parts of a list, part by part.
use Rattle.std.proofs.Common.{◌≡◌, ℕ, zero, suc, ◌+◌, ◌<◌, List, [], ◌∷◌, map, Option, None, length, get_or, take, sym, ap, ◌∙◌, arith, add-one}
use Rattle.mt_syntax.specs.First.{earlier_of}
use Rattle.mt_syntax.specs.declared.broken.Broken.{Broken}
use Rattle.mt_syntax.proofs.Order.{grouping, none_last}
use Rattle.mt_syntax.specs.Gathering.{all_of}

-- `found` reads the first broken place off a result
module _ {T Y : Type 0} (found : Y → Option Broken) (none : Y) (join : Y → Y → Y) (at_none : found none ≡ None) (at_join : (a b : Y) → found (join a b) ≡ earlier_of (found a) (found b)) (f : T → Y) where
  abbrev in_row : List T → Option Broken
  in_row xs = found (all_of none join (map f xs))

  next : (xs : List T) (i : ℕ) (x : T) → x ≡ get_or xs i x → i < length xs → in_row (take (suc i) xs) ≡ earlier_of (in_row (take i xs)) (found (f x))
  next [] i x is within = absurd (omega (arith, within))
  next (y ∷ xs) zero x is within =
      at_join (f y) none ∙ ap (earlier_of (found (f y))) at_none ∙ none_last (found (f y)) ∙ ap (λ z. found (f z)) (sym is) ∙ ap (λ r. earlier_of r (found (f x))) (sym at_none)
  next (y ∷ xs) (suc i) x is within =
      at_join (f y) (all_of none join (map f (take (suc i) xs))) ∙ ap (earlier_of (found (f y))) (next xs i x is (omega (arith, within)))
      ∙ grouping (found (f y)) (in_row (take i xs)) (found (f x)) ∙ ap (λ r. earlier_of r (found (f x))) (sym (at_join (f y) (all_of none join (map f (take i xs)))))

  -- what was found so far, and then in one part more
  pub with_next : (xs : List T) (i : ℕ) (x : T) (so_far : Option Broken) → x ≡ get_or xs i x → i < length xs → so_far ≡ in_row (take i xs)
      → earlier_of so_far (found (f x)) ≡ in_row (take (i + 1) xs)
  with_next xs i x so_far is within known = rw add-one (ap (λ r. earlier_of r (found (f x))) known ∙ sym (next xs i x is within))
