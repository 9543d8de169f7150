-- A list that stands in another one from a place on.
use Rattle.std.proofs.Common.{◌≡◌, ℕ, suc, ◌+◌, List, [], ◌∷◌, ◌++◌, length, Some, refl, sym, ap, ◌∙◌, subst, arith, append_assoc, length-append}
use Rattle.std.specs.Prelude.{slice_get}

-- these stand in the list, the first of them at the place
abbrev pub Has : {T : Type 0} → List T → ℕ → List T → Type 0
Has all at [] = Unit {0}
Has all at (x ∷ xs) = (slice_get all at ≡ Some x) × Has all (at + 1) xs

pub has_first : {T : Type 0} (all : List T) (at : ℕ) (xs ys : List T) → Has all at (xs ++ ys) → Has all at xs
has_first all at [] ys h = tt
has_first all at (x ∷ xs) ys h = (h.0, has_first all (at + 1) xs ys h.1)

pub has_last : {T : Type 0} (all : List T) (at : ℕ) (xs ys : List T) → Has all at (xs ++ ys) → Has all (at + length xs) ys
has_last all at [] ys h = let e : at ≡ at + 0 = omega arith in subst (λ n. Has all n ys) e h
has_last all at (x ∷ xs) ys h = let e : (at + 1) + length xs ≡ at + suc (length xs) = omega arith in subst (λ n. Has all n ys) e (has_last all (at + 1) xs ys h.1)

slice_get_behind : {T : Type 0} (front : List T) (x : T) (xs : List T) → slice_get (front ++ x ∷ xs) (length front) ≡ Some x
slice_get_behind [] x xs = refl
slice_get_behind (y ∷ front) x xs = slice_get_behind front x xs

has_behind : {T : Type 0} (front xs all : List T) (at : ℕ) → all ≡ front ++ xs → at ≡ length front → Has all at xs
has_behind front [] all at e h = tt
has_behind front (x ∷ xs) all at e h =
    let first : slice_get all at ≡ Some x = ap (λ l. slice_get l at) e ∙ ap (slice_get (front ++ x ∷ xs)) h ∙ slice_get_behind front x xs in
    (first, has_behind (front ++ x ∷ []) xs all (at + 1) (e ∙ sym (append_assoc front (x ∷ []) xs)) (omega (arith, h, length-append front (x ∷ []))))

-- a list has itself
pub has_itself : {T : Type 0} (xs : List T) → Has xs 0 xs
has_itself xs = has_behind [] xs xs 0 refl refl
