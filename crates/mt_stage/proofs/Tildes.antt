-- What is known of all tildes of a program is known of each.
use Rattle.std.proofs.Common.{◌≡◌, ◌≤◌, ℕ, zero, suc, List, [], ◌∷◌, ◌++◌, map, flat_map, Some, slice_get, subst, arith}
use Rattle.std.specs.Prelude.{All}
use Rattle.std.proofs.Math.Nat.{le-max_left, le-max_right}
use Rattle.std.proofs.lemmas.List.Elements.{All-head, All-tail}
use Rattle.mt_syntax.specs.Depth.{greatest}
use Rattle.mt_syntax.specs.Gathering.{all_of}
use Rattle.mt_stage.proofs.Empty.{parts_empty}

module _ {A : Type 0} where
  pub all_at : (P : A → Type 0) (xs : List A) (i : ℕ) (x : A) → All P xs → slice_get xs i ≡ Some x → P x
  all_at P [] i x h is = absurd (cc)
  all_at P (y ∷ ys) zero x h is = let e : y ≡ x = cc in subst P e (All-head P y ys h)
  all_at P (y ∷ ys) (suc i) x h is = all_at P ys i x (All-tail P y ys h) is

  pub at_most_greatest : (f : A → ℕ) (xs : List A) (i : ℕ) (x : A) → slice_get xs i ≡ Some x → f x ≤ greatest (map f xs)
  at_most_greatest f [] i x is = absurd (cc)
  at_most_greatest f (y ∷ ys) zero x is = let e : y ≡ x = cc in subst (λ z. f z ≤ greatest (map f (y ∷ ys))) e (le-max_left (f y) (greatest (map f ys)))
  at_most_greatest f (y ∷ ys) (suc i) x is = omega (arith, at_most_greatest f ys i x is, le-max_right (f y) (greatest (map f ys)))

  module _ {B : Type 0} (f : A → List B) where
    pub joined_at : (xs : List A) (i : ℕ) (x : A) → all_of [] (λ bs cs. bs ++ cs) (map f xs) ≡ [] → slice_get xs i ≡ Some x → f x ≡ []
    joined_at [] i x h is = absurd (cc)
    joined_at (y ∷ ys) zero x h is = let e : y ≡ x = cc in subst (λ z. f z ≡ []) e (parts_empty (f y) (all_of [] (λ bs cs. bs ++ cs) (map f ys)) h).0
    joined_at (y ∷ ys) (suc i) x h is = joined_at ys i x (parts_empty (f y) (all_of [] (λ bs cs. bs ++ cs) (map f ys)) h).1 is

    pub flat_at : (xs : List A) (i : ℕ) (x : A) → flat_map f xs ≡ [] → slice_get xs i ≡ Some x → f x ≡ []
    flat_at [] i x h is = absurd (cc)
    flat_at (y ∷ ys) zero x h is = let e : y ≡ x = cc in subst (λ z. f z ≡ []) e (parts_empty (f y) (flat_map f ys) h).0
    flat_at (y ∷ ys) (suc i) x h is = flat_at ys i x (parts_empty (f y) (flat_map f ys) h).1 is
