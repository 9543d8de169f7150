-- A line is cut behind its first word.
use Rattle.std.proofs.Common.{◌≡◌, ◌++◌, ℕ, zero, suc, true, List, ◌∷◌, drop, Some, sym, refl, ap, ◌∙◌}
use Rattle.mt_lines.specs.Words.{before, from, gap, after_spaces}
use Rattle.mt_lines.proofs.Words.{lacks, starts_without_space, before-append, from-append, before-from, after_spaces-found, after_spaces-again}

gap-starts : (a : ℕ) (rest : List ℕ) → gap a ++ rest ≡ 32 ∷ drop 1 (gap a ++ rest)
gap-starts zero rest = refl
gap-starts (suc a) rest = refl

pub word-found : (line rest : List ℕ) → after_spaces (from 32 line) ≡ Some rest → (a : ℕ) × (line ≡ before 32 line ++ (gap a ++ rest))
word-found line rest e =
    let cut = after_spaces-found (from 32 line) rest e in
    (cut.0, before-from 32 line ∙ ap (λ xs. before 32 line ++ xs) cut.1)

pub word-again : (word : List ℕ) (a : ℕ) (rest : List ℕ) → lacks 32 word ≡ true → before 32 (word ++ (gap a ++ rest)) ≡ word
word-again word a rest bare =
    let tail : List ℕ = gap a ++ rest in
    ap (λ xs. before 32 (word ++ xs)) (gap-starts a rest) ∙ before-append 32 word (drop 1 tail) bare

pub rest-again : (word : List ℕ) (a : ℕ) (rest : List ℕ) → lacks 32 word ≡ true → starts_without_space rest ≡ true
    → after_spaces (from 32 (word ++ (gap a ++ rest))) ≡ Some rest
rest-again word a rest bare starts =
    let tail : List ℕ = gap a ++ rest in
    ap after_spaces (ap (λ xs. from 32 (word ++ xs)) (gap-starts a rest) ∙ from-append 32 word (drop 1 tail) bare ∙ sym (gap-starts a rest))
    ∙ after_spaces-again a rest starts
