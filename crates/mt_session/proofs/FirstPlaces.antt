-- The first element that passes a test, by its place, and after a change.
use Rattle.std.proofs.Common.{◌≡◌, ◌<◌, Bool, true, false, List, [], ◌∷◌, length, get_or, set, refl, ap, arith, if◌then◌else◌, Some}
use Rattle.std.specs.Option.{option_map, is_some}
use Rattle.mt_session.specs.First.{place_where, first_where, change_first}

module _ {X : Type 0} where
  pub set-change : (p : X → Bool) (f : X → X) (xs : List X) (new d : X)
      → place_where p xs < length xs → new ≡ f (get_or xs (place_where p xs) d) → set xs (place_where p xs) new ≡ change_first p f xs
  set-change p f [] new d inside same = absurd (omega arith)
  set-change p f (x ∷ xs) new d inside same = at (p x) refl (set-change p f xs new d) where
    at : (b : Bool) → p x ≡ b
        → (place_where p xs < length xs → new ≡ f (get_or xs (place_where p xs) d) → set xs (place_where p xs) new ≡ change_first p f xs)
        → set (x ∷ xs) (place_where p (x ∷ xs)) new ≡ change_first p f (x ∷ xs)
    at true e rest = rw e (ap (λ h. h ∷ xs) (rw e at same))
    at false e rest = rw e (ap (λ t. x ∷ t) (rest (let within = rw e at inside in omega arith) (rw e at same)))

  pub first-place : (p : X → Bool) (xs : List X) (d : X) → is_some (first_where p xs) ≡ true
      → (place_where p xs < length xs) × (first_where p xs ≡ Some (get_or xs (place_where p xs) d))
  first-place p [] d found = absurd (cc)
  first-place p (x ∷ xs) d found = at (p x) refl (first-place p xs d) where
    at : (b : Bool) → p x ≡ b → (is_some (first_where p xs) ≡ true → (place_where p xs < length xs) × (first_where p xs ≡ Some (get_or xs (place_where p xs) d)))
        → (place_where p (x ∷ xs) < length (x ∷ xs)) × (first_where p (x ∷ xs) ≡ Some (get_or (x ∷ xs) (place_where p (x ∷ xs)) d))
    at true e rest = rw e (omega arith, refl)
    at false e rest = let below = rest (rw e at found) in rw e (omega (arith, below.0), below.1)

  -- after a change that keeps the test
  pub first-change : (p : X → Bool) (f : X → X) (xs : List X) → ((x : X) → p (f x) ≡ p x) → first_where p (change_first p f xs) ≡ option_map f (first_where p xs)
  first-change p f [] keeps = refl
  first-change p f (x ∷ xs) keeps = at (p x) refl (first-change p f xs keeps) where
    at : (b : Bool) → p x ≡ b → first_where p (change_first p f xs) ≡ option_map f (first_where p xs)
        → first_where p (change_first p f (x ∷ xs)) ≡ option_map f (first_where p (x ∷ xs))
    at true e rest = rw e (rw (keeps x) (rw e refl))
    at false e rest = rw e (rw e rest)

  -- another test sees nothing of it
  pub first-change_other : (p q : X → Bool) (f : X → X) (xs : List X) → ((x : X) → p x ≡ true → (q x ≡ false) × (q (f x) ≡ false))
      → first_where q (change_first p f xs) ≡ first_where q xs
  first-change_other p q f [] apart = refl
  first-change_other p q f (x ∷ xs) apart = at (p x) refl (first-change_other p q f xs apart) where
    at : (b : Bool) → p x ≡ b → first_where q (change_first p f xs) ≡ first_where q xs → first_where q (change_first p f (x ∷ xs)) ≡ first_where q (x ∷ xs)
    at true e rest = let here = apart x e in rw e (rw here.0 (rw here.1 refl))
    at false e rest = rw e (ap (λ r. if q x then Some x else r) rest)

  pub place-below : (p : X → Bool) (xs : List X) → is_some (first_where p xs) ≡ true → place_where p xs < length xs
  place-below p [] found = absurd (cc)
  place-below p (x ∷ xs) found = at (p x) refl (place-below p xs) where
    at : (b : Bool) → p x ≡ b → (is_some (first_where p xs) ≡ true → place_where p xs < length xs) → place_where p (x ∷ xs) < length (x ∷ xs)
    at true e rest = rw e (omega arith)
    at false e rest = let below = rest (rw e at found) in rw e (omega (arith, below))
