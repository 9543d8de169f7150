-- Lists that are empty.
use Rattle.std.proofs.Common.{◌≡◌, Bool, true, false, List, [], ◌∷◌, ◌++◌, refl}
use Rattle.std.specs.Prelude.{if◌then◌else◌}

-- a list that has an item isn't empty
pub something : {A B : Type 0} (x : A) (xs : List A) → x ∷ xs ≡ [] → B
something x xs e = absurd (cc)

pub parts_empty : {A : Type 0} (xs ys : List A) → xs ++ ys ≡ [] → (xs ≡ []) × (ys ≡ [])
parts_empty [] ys e = (refl, e)
parts_empty (x ∷ xs) ys e = something x (xs ++ ys) e

-- where each part is empty if another list is
pub joined_empty : {A : Type 0} (xs ys xs' ys' : List A) → (xs ≡ [] → xs' ≡ []) → (ys ≡ [] → ys' ≡ []) → xs ++ ys ≡ [] → xs' ++ ys' ≡ []
joined_empty xs ys xs' ys' p q e =
    let es = parts_empty xs ys e in
    λ i. p es.0 i ++ q es.1 i

-- an item that stands where a test holds
pub tested_empty : {A : Type 0} (test : Bool) (x y : A) → (if test then x ∷ [] else []) ≡ [] → (if test then y ∷ [] else []) ≡ []
tested_empty true x y e = something x [] e
tested_empty false x y e = refl
