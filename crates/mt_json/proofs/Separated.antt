-- The pieces of a list, with commas between them.
use Rattle.std.proofs.Common.{◌≡◌, ℕ, zero, suc, ◌+◌, ◌<◌, Bool, true, false, ltb, List, [], ◌∷◌, ◌++◌, map, length, get_or, take, refl, ap, sym, ◌∙◌, append_assoc, arith}
use Rattle.std.proofs.lemmas.Bool.{lt-ltb}
use Rattle.std.proofs.lemmas.List.{append-nil, take_more, map_push}
use Rattle.std.specs.List.{flat_map}
use Rattle.mt_syntax.specs.DataText.{json_text, escaped, comma_if, separated_after, separated}

-- whether something stands before what follows
abbrev pub later_than : Bool → List (List ℕ) → Bool
later_than later [] = later
later_than later (t ∷ ts) = true

separated-push : (later : Bool) (ts : List (List ℕ)) (t : List ℕ) → separated_after later (ts ++ t ∷ []) ≡ separated_after later ts ++ (comma_if (later_than later ts) ++ t)
separated-push later [] t = ap (λ s. comma_if later ++ s) (append-nil t)
separated-push later (u ∷ []) t = rw (separated-push true [] t) (simp append_assoc)
separated-push later (u ∷ v ∷ ts) t = rw (separated-push true (v ∷ ts) t) (simp append_assoc)

later_at : {A : Type 0} (text : A → List ℕ) (xs : List A) (i : ℕ) → i < length xs → later_than false (map text (take i xs)) ≡ ltb 0 i
later_at text [] i lt = absurd (omega arith)
later_at text (x ∷ xs) zero lt = refl
later_at text (x ∷ xs) (suc i) lt = sym (lt-ltb 0 (suc i) (omega arith))

-- the pieces so far, and the next
pub with_next : {A : Type 0} (text : A → List ℕ) (xs : List A) (i : ℕ) (x : A) → x ≡ get_or xs i x → i < length xs
    → (separated (map text (take i xs)) ++ comma_if (ltb 0 i)) ++ text x ≡ separated (map text (take (i + 1) xs))
with_next text xs i x is lt =
    let whole : map text (take (i + 1) xs) ≡ map text (take i xs) ++ text x ∷ [] = ap (map text) (take_more xs i x lt) ∙ map_push text (take i xs) (get_or xs i x) ∙ ap (λ y. map text (take i xs) ++ text y ∷ []) (sym is) in
    append_assoc (separated (map text (take i xs))) (comma_if (ltb 0 i)) (text x) ∙ ap (λ b. separated (map text (take i xs)) ++ (comma_if b ++ text x)) (sym (later_at text xs i lt)) ∙ sym (ap separated whole ∙ separated-push false (map text (take i xs)) (text x))

-- a turn of a loop that writes the pieces
pub grown : {A : Type 0} (text : A → List ℕ) (xs : List A) (i : ℕ) (x : A) (later : Bool) (old now mid new : List ℕ)
    → x ≡ get_or xs i x → i < length xs → (later ≡ ltb 0 i) × (now ≡ old ++ separated (map text (take i xs))) → mid ≡ now ++ comma_if later → new ≡ mid ++ text x
    → (true ≡ ltb 0 (i + 1)) × (new ≡ old ++ separated (map text (take (i + 1) xs)))
grown text xs i x later old now mid new is lt so_far comma piece =
    let whole = with_next text xs i x is lt in
    (sym (lt-ltb 0 (i + 1) (omega arith)), rw (piece, comma, so_far.1, so_far.0, ← whole) (simp append_assoc))

map_same : (xs : List ℕ) → map (λ x. x) xs ≡ xs
map_same [] = refl
map_same (x ∷ xs) = ap (λ ys. x ∷ ys) (map_same xs)

-- a text's characters, all of them, between two quotes
pub quoted : (old now yielded cs : List ℕ) → map (λ x. x) yielded ≡ cs → now ≡ (old ++ 34 ∷ []) ++ flat_map escaped yielded → now ++ 34 ∷ [] ≡ old ++ json_text cs
quoted old now yielded cs all so_far = rw (so_far, ← all, map_same yielded) (simp append_assoc)
