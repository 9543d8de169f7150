-- Texts one behind the other, and how long they are.
use Rattle.std.proofs.Common.{◌≡◌, ℕ, ◌+◌, ◌-◌, ◌<◌, List, [], ◌∷◌, ◌++◌, get_or, length, map, take, refl, sym, ap, ◌∙◌, append_assoc, arith}
use Rattle.std.proofs.lemmas.Grind.{flat_map-append}
use Rattle.std.proofs.lemmas.List.{append-nil, length-append, take_more}
use Rattle.std.proofs.lemmas.List.Folds.{length-flat_map-take}
use Rattle.std.specs.List.{flat_map}

pub flat_map_map : {X : Type 0} (f : X → List ℕ) (xs : List X) → flat_map (λ (text : List ℕ). text) (map f xs) ≡ flat_map f xs
flat_map_map f [] = refl
flat_map_map f (x ∷ xs) = ap (λ (text : List ℕ). f x ++ text) (flat_map_map f xs)

-- what is too long already stays so with more behind it
pub longer : (limit start : ℕ) (old text more new : List ℕ) → new ≡ old ++ text → limit < length new - start → limit < (length old + length (text ++ more)) - start
longer limit start old text more new is h = omega (arith, ap length is, length-append old text, length-append text more)

-- what was written of a list, with the next item's text
pub next_text : {X : Type 0} (f : X → List ℕ) (xs : List X) (i : ℕ) (x : X) (old now new : List ℕ) → x ≡ get_or xs i x → i < length xs
    → now ≡ old ++ flat_map f (take i xs) → new ≡ now ++ f x → new ≡ old ++ flat_map f (take (i + 1) xs)
next_text f xs i x old now new at lt is text =
    let more : flat_map f (take (i + 1) xs) ≡ flat_map f (take i xs) ++ f x =
    ap (flat_map f) (take_more xs i x lt) ∙ flat_map-append f (take i xs) (get_or xs i x ∷ []) ∙ ap (λ s. flat_map f (take i xs) ++ s) (append-nil (f (get_or xs i x)) ∙ sym (ap f at)) in
    text ∙ ap (λ s. s ++ f x) is ∙ append_assoc old (flat_map f (take i xs)) (f x) ∙ ap (λ s. old ++ s) (sym more)

-- where the text so far is too long with the next item's, that of all items is
pub all_longer : {X : Type 0} (f : X → List ℕ) (xs : List X) (i : ℕ) (x : X) (limit start : ℕ) (old now : List ℕ) → x ≡ get_or xs i x → i < length xs
    → now ≡ old ++ flat_map f (take i xs) → limit < (length now + length (f x)) - start → limit < (length old + length (flat_map f xs)) - start
all_longer f xs i x limit start old now at lt is h =
    omega (arith, ap length is, length-append old (flat_map f (take i xs)), length-flat_map-take f xs i x lt, ap (λ y. length (f y)) at)

pub written_longer : (limit start : ℕ) (now text new : List ℕ) → new ≡ now ++ text → limit < length new - start → limit < (length now + length text) - start
written_longer limit start now text new is h = omega (arith, ap length is, length-append now text)

-- where a part of a text is too long already, the whole is
pub part_longer : (limit start : ℕ) (old before middle behind now whole : List ℕ) → now ≡ old ++ before → whole ≡ before ++ (middle ++ behind)
    → limit < (length now + length middle) - start → limit < (length old + length whole) - start
part_longer limit start old before middle behind now whole is all h =
    omega (arith, ap length is, length-append old before, ap length all, length-append before (middle ++ behind), length-append middle behind)
