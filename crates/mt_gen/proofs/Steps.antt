-- A schedule that is written line by line.
use Rattle.std.proofs.Common.{◌≡◌, ◌+◌, ◌-◌, ◌≤◌, ◌++◌, ℕ, suc, zero, List, [], ◌∷◌, map, sym, ap, ◌∙◌, arith, append-nil, append_assoc}
use Rattle.std.specs.List.{flat_map, range_with_len}
use Rattle.std.proofs.lemmas.List.{map-append}
use Rattle.std.proofs.lemmas.Grind.{flat_map-append}
use Rattle.mt_gen.specs.Schedule.{Step, line, lines, up_to, turn}

range_more : (a n : ℕ) → range_with_len a (n + 1) ≡ range_with_len a n ++ (a + n) ∷ []
range_more a zero = let here : a ≡ a + 0 = omega arith in ap (λ m. m ∷ []) here
range_more a (suc n) =
    let more : suc n + 1 ≡ suc (n + 1) = omega arith in
    let there : (a + 1) + n ≡ a + suc n = omega arith in
    ap (range_with_len a) more ∙ ap (λ xs. a ∷ xs) (range_more (a + 1) n ∙ ap (λ m. range_with_len (a + 1) n ++ m ∷ []) there)

-- the numbers up to one more
up_to_more : (k : ℕ) → 1 ≤ k → up_to k ≡ up_to (k - 1) ++ k ∷ []
up_to_more zero some = absurd (omega arith)
up_to_more (suc k) some =
    let size : suc k ≡ k + 1 = omega arith in
    let before : k ≡ suc k - 1 = omega arith in
    let here : 1 + k ≡ suc k = omega arith in
    ap (range_with_len 1) size ∙ range_more 1 k ∙ ap (λ m. range_with_len 1 k ++ m ∷ []) here ∙ ap (λ n. range_with_len 1 n ++ suc k ∷ []) before

-- more steps
lines_then : (xs ys : List Step) (before now next : List ℕ) → now ≡ before ++ lines xs → next ≡ now ++ lines ys → next ≡ before ++ lines (xs ++ ys)
lines_then xs ys before now next so_far more =
    more ∙ ap (λ l. l ++ lines ys) so_far ∙ append_assoc before (lines xs) (lines ys) ∙ ap (λ l. before ++ l) (sym (flat_map-append line xs ys))

-- a step of each number
pub lines_up : (f : ℕ → Step) (k : ℕ) (before now next : List ℕ) → 1 ≤ k → now ≡ before ++ lines (map f (up_to (k - 1))) → next ≡ now ++ line (f k)
    → next ≡ before ++ lines (map f (up_to (k + 1 - 1)))
lines_up f k before now next some so_far more =
    let same : k ≡ k + 1 - 1 = omega arith in
    lines_then (map f (up_to (k - 1))) (f k ∷ []) before now next so_far (more ∙ ap (λ l. now ++ l) (sym (append-nil (line (f k)))))
    ∙ ap (λ steps. before ++ lines steps) (sym (ap (map f) (up_to_more k some) ∙ map-append f (up_to (k - 1)) (k ∷ [])))
    ∙ ap (λ n. before ++ lines (map f (up_to n))) same

-- the steps of each turn
pub lines_turn : (c k : ℕ) (before now next : List ℕ) → 1 ≤ k → now ≡ before ++ lines (flat_map (turn c) (up_to (k - 1))) → next ≡ now ++ lines (turn c k)
    → next ≡ before ++ lines (flat_map (turn c) (up_to (k + 1 - 1)))
lines_turn c k before now next some so_far more =
    let same : k ≡ k + 1 - 1 = omega arith in
    lines_then (flat_map (turn c) (up_to (k - 1))) (turn c k) before now next so_far more
    ∙ ap (λ steps. before ++ lines steps) (ap (λ l. flat_map (turn c) (up_to (k - 1)) ++ l) (sym (append-nil (turn c k)))
    ∙ sym (ap (flat_map (turn c)) (up_to_more k some) ∙ flat_map-append (turn c) (up_to (k - 1)) (k ∷ [])))
    ∙ ap (λ n. before ++ lines (flat_map (turn c) (up_to n))) same
