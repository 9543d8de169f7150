-- Rows that are gone through from their start.
use Rattle.std.proofs.Common.{◌≡◌, ℕ, ◌+◌, ◌<◌, List, [], ◌∷◌, ◌++◌, length, get_or, map, flat_map, take, Option, None, sym, ap, ◌∙◌}
use Rattle.std.proofs.lemmas.Grind.{flat_map-append}
use Rattle.std.proofs.lemmas.List.{append-nil, map-append, take_more}
use Rattle.mt_syntax.specs.First.{first_of, earlier_of}
use Rattle.mt_syntax.proofs.Order.{first_of_lists, grouping, none_last}
use Rattle.mt_syntax.specs.declared.broken.Broken.{Broken}
use Rattle.mt_stage_declared.specs.Parts.{Part, found_in}

module _ {A : Type 0} (xs : List A) (i : ℕ) (x : A) (lt : i < length xs) (is : x ≡ get_or xs i x) where
  pub take_next : take (i + 1) xs ≡ take i xs ++ x ∷ []
  take_next = take_more xs i x lt ∙ ap (λ y. take i xs ++ y ∷ []) (sym is)

  pub first_next : (f : A → List Broken) → earlier_of (first_of (flat_map f (take i xs))) (first_of (f x)) ≡ first_of (flat_map f (take (i + 1) xs))
  first_next f =
      sym (first_of_lists (flat_map f (take i xs)) (f x)) ∙ ap (λ bs. first_of (flat_map f (take i xs) ++ bs)) (sym (append-nil (f x)))
      ∙ ap first_of (sym (flat_map-append f (take i xs) (x ∷ []))) ∙ ap (λ ys. first_of (flat_map f ys)) (sym take_next)

found_more : (ps : List (Part (Option Broken))) (p : Part (Option Broken)) → found_in None earlier_of (ps ++ p ∷ []) ≡ earlier_of (found_in None earlier_of ps) p.found
found_more [] p = none_last p.found
found_more (q ∷ ps) p = ap (earlier_of q.found) (found_more ps p) ∙ grouping q.found (found_in None earlier_of ps) p.found

module _ {A : Type 0} (f : A → Part (Option Broken)) (xs : List A) (i : ℕ) (x : A) (lt : i < length xs) (is : x ≡ get_or xs i x) where
  pub found_next : earlier_of (found_in None earlier_of (map f (take i xs))) (f x).found ≡ found_in None earlier_of (map f (take (i + 1) xs))
  found_next =
      sym (found_more (map f (take i xs)) (f x))
      ∙ ap (found_in None earlier_of) (sym (ap (map f) (take_next xs i x lt is) ∙ map-append f (take i xs) (x ∷ [])))
