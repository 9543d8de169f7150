-- A number, digit by digit, where each that is too large stands as the first one.
use Rattle.std.proofs.Common.{◌≡◌, ℕ, zero, suc, ◌+◌, ◌<◌, List, [], ◌∷◌, length, get_or, take, refl, sym, ap, ◌∙◌, arith, add-one}
use Rattle.std.specs.Prelude.{min}
use Rattle.mt_lexer.specs.Word.{digit_more, number_from}

from_next : (v : ℕ) (xs : List ℕ) (i : ℕ) → i < length xs → number_from v (take (suc i) xs) ≡ digit_more (number_from v (take i xs)) (get_or xs i 0)
from_next v [] i h = absurd (omega arith)
from_next v (x ∷ xs) zero h = refl
from_next v (x ∷ xs) (suc i) h = from_next (digit_more v x) xs i (omega arith)

min_more : (n d l : ℕ) → min (digit_more (min n l) d) l ≡ min (digit_more n d) l
min_more n d l = omega arith

-- one digit more
pub number-next : (v : ℕ) (xs : List ℕ) (i l : ℕ) → i < length xs → v ≡ min (number_from 0 (take i xs)) l → min (digit_more v (get_or xs i 0)) l ≡ min (number_from 0 (take (i + 1) xs)) l
number-next v xs i l h is =
    let n = number_from 0 (take i xs) in
    ap (λ (v : ℕ). min (digit_more v (get_or xs i 0)) l) is ∙ min_more n (get_or xs i 0) l ∙ ap (λ (n : ℕ). min n l) (sym (from_next 0 xs i h)) ∙ ap (λ (k : ℕ). min (number_from 0 (take k xs)) l) (sym (add-one i))
