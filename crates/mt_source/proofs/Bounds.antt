-- Rows whose members are within a limit.
use Rattle.std.proofs.Common.{ℕ, ◌≤◌, List, [], ◌∷◌, ◌++◌, map, arith}
use Rattle.std.proofs.lemmas.List.{map-append}
use Rattle.std.proofs.Math.Nat.{le-max_left, le-max_right, max-le}
use Rattle.mt_syntax.specs.Depth.{greatest}

pub least : (n : ℕ) → 0 ≤ n
least n = omega arith

module _ {X : Type 0} (size : X → ℕ) (limit : ℕ) where
  pub both_rows : (xs ys : List X) → greatest (map size xs) ≤ limit → greatest (map size ys) ≤ limit → greatest (map size (xs ++ ys)) ≤ limit
  both_rows [] ys p q = q
  both_rows (x ∷ xs) ys p q =
      max-le (omega (arith, p, le-max_left (size x) (greatest (map size xs)))) (both_rows xs ys (omega (arith, p, le-max_right (size x) (greatest (map size xs)))) q)

  pub and_last : (xs : List X) (x : X) → greatest (map size xs) ≤ limit → size x ≤ limit → greatest (map size (xs ++ x ∷ [])) ≤ limit
  and_last xs x p q = both_rows xs (x ∷ []) p (max-le q (least limit))

  -- the same of a row whose members are made of others
  pub and_last_made : {A : Type 0} (f : A → X) (ys : List A) (a : A) → greatest (map size (map f ys)) ≤ limit → size (f a) ≤ limit → greatest (map size (map f (ys ++ a ∷ []))) ≤ limit
  and_last_made f ys a p q = rw map-append (and_last (map f ys) (f a) p q)
