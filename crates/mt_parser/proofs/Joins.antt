-- Results that are joined in text order, where a row grows at its end.
use Rattle.std.proofs.Common.{◌≡◌, Bool, true, false, ◌&&◌, List, [], ◌∷◌, ◌++◌, map, refl, sym, ap, ◌∙◌}
use Rattle.mt_syntax.specs.Gathering.{all_of}

module _ {X : Type 0} (none : X) (join : X → X → X) where
  -- joining has the one as its unit, and may be grouped in any way
  pub record Joins : Type 0 where
    pub left : (x : X) → join none x ≡ x
    pub right : (x : X) → join x none ≡ x
    pub along : (x y z : X) → join (join x y) z ≡ join x (join y z)

  module _ (joins : Joins) where
    pub all_and_last : {T : Type 0} (f : T → X) (xs : List T) (x : T) → all_of none join (map f (xs ++ x ∷ [])) ≡ join (all_of none join (map f xs)) (f x)
    all_and_last f [] x = joins.right (f x) ∙ sym (joins.left (f x))
    all_and_last f (y ∷ xs) x = ap (join (f y)) (all_and_last f xs x) ∙ sym (joins.along (f y) (all_of none join (map f xs)) (f x))

pub and_joins : Joins true ◌&&◌
and_joins = record { left = λ x. refl; right = right; along = along }
  where
    right : (x : Bool) → (x && true) ≡ x
    right true = refl
    right false = refl

    along : (x y z : Bool) → ((x && y) && z) ≡ (x && (y && z))
    along true y z = refl
    along false y z = refl
