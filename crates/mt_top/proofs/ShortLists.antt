-- Lists of two and of three.
use Rattle.std.proofs.Common.{◌≡◌, ◌≤◌, ◌<◌, List, [], ◌∷◌, length, map, get_or, refl, arith}

pub map_of_three : {A B : Type 0} (f : A → B) (xs : List A) (a b c : A) → 3 ≤ length xs → length xs < 4
    → a ≡ get_or xs 0 a → b ≡ get_or xs 1 b → c ≡ get_or xs 2 c → map f xs ≡ f a ∷ f b ∷ f c ∷ []
map_of_three f [] a b c least most is_a is_b is_c = absurd (omega arith)
map_of_three f (x ∷ []) a b c least most is_a is_b is_c = absurd (omega arith)
map_of_three f (x ∷ y ∷ []) a b c least most is_a is_b is_c = absurd (omega arith)
map_of_three f (x ∷ y ∷ z ∷ []) a b c least most is_a is_b is_c = rw (is_a, is_b, is_c) refl
map_of_three f (x ∷ y ∷ z ∷ w ∷ xs) a b c least most is_a is_b is_c = absurd (omega arith)

pub map_of_two : {A B : Type 0} (f : A → B) (xs : List A) (a b : A) → 2 ≤ length xs → length xs < 3
    → a ≡ get_or xs 0 a → b ≡ get_or xs 1 b → map f xs ≡ f a ∷ f b ∷ []
map_of_two f [] a b least most is_a is_b = absurd (omega arith)
map_of_two f (x ∷ []) a b least most is_a is_b = absurd (omega arith)
map_of_two f (x ∷ y ∷ []) a b least most is_a is_b = rw (is_a, is_b) refl
map_of_two f (x ∷ y ∷ z ∷ xs) a b least most is_a is_b = absurd (omega arith)
