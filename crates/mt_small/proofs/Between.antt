-- What stands between two parts of known length, and where a run of bytes ends.
use Rattle.std.proofs.Common.{◌≡◌, ◌+◌, ◌-◌, ℕ, Bool, true, false, List, [], ◌∷◌, ◌++◌, length, take, drop, refl, sym, ap, ◌∙◌, arith, append_assoc}
use Rattle.std.proofs.lemmas.List.{length-append, take_at, drop_at}
use Rattle.std.proofs.lemmas.Bool.{and_parts, and_from}
use Rattle.std.specs.List.{list_all}
use Rattle.mt_small.specs.Reading.{between}

pub between_is : (front middle back : List ℕ) (m n : ℕ) → length front ≡ m → length back ≡ n → between m n ((front ++ middle) ++ back) ≡ middle
between_is front middle back m n fits_front fits_back =
    let size : length ((front ++ middle) ++ back) - (m + n) ≡ length middle = simp length-append (omega arith) in
    ap (λ (k : ℕ). take k (drop m ((front ++ middle) ++ back))) size
    ∙ ap (λ (l : List ℕ). take (length middle) (drop m l)) (append_assoc front middle back)
    ∙ ap (take (length middle)) (drop_at front (middle ++ back) m fits_front)
    ∙ take_at middle back (length middle) refl

pub list_all-append : (p : ℕ → Bool) (xs ys : List ℕ) → list_all p xs ≡ true → list_all p ys ≡ true → list_all p (xs ++ ys) ≡ true
list_all-append p [] ys first second = second
list_all-append p (x ∷ xs) ys first second =
    let parts = and_parts (p x) (list_all p xs) first in
    and_from (p x) (list_all p (xs ++ ys)) parts.0 (list_all-append p xs ys parts.1 second)

pub list_all-weaker : (p q : ℕ → Bool) → ((x : ℕ) → p x ≡ true → q x ≡ true) → (xs : List ℕ) → list_all p xs ≡ true → list_all q xs ≡ true
list_all-weaker p q weaker [] all = refl
list_all-weaker p q weaker (x ∷ xs) all =
    let parts = and_parts (p x) (list_all p xs) all in
    and_from (q x) (list_all q xs) (weaker x parts.0) (list_all-weaker p q weaker xs parts.1)

-- two runs of bytes that pass a test, each up to the same byte, which doesn't
pub same_run : (p : ℕ → Bool) (stop : ℕ) → p stop ≡ false → (xs ys us vs : List ℕ) → list_all p xs ≡ true → list_all p ys ≡ true
    → xs ++ stop ∷ us ≡ ys ++ stop ∷ vs → (xs ≡ ys) × (us ≡ vs)
same_run p stop stops [] [] us vs first second same = (refl, cc)
same_run p stop stops [] (y ∷ ys) us vs first second same =
    absurd (let here : stop ≡ y = cc in let passes = (and_parts (p y) (list_all p ys) second).0 in let both = ap p here in cc)
same_run p stop stops (x ∷ xs) [] us vs first second same =
    absurd (let here : x ≡ stop = cc in let passes = (and_parts (p x) (list_all p xs) first).0 in let both = ap p here in cc)
same_run p stop stops (x ∷ xs) (y ∷ ys) us vs first second same =
    let head : x ≡ y = cc in
    let tail : xs ++ stop ∷ us ≡ ys ++ stop ∷ vs = cc in
    let rest = same_run p stop stops xs ys us vs (and_parts (p x) (list_all p xs) first).1 (and_parts (p y) (list_all p ys) second).1 tail in
    let same_tail = rest.0 in
    (cc, rest.1)

-- two lists of one length, each with something behind it
pub same_front : (xs ys us vs : List ℕ) → length xs ≡ length ys → xs ++ us ≡ ys ++ vs → (xs ≡ ys) × (us ≡ vs)
same_front xs ys us vs sizes same = (
  sym (take_at xs us (length xs) refl) ∙ ap (take (length xs)) same ∙ take_at ys vs (length xs) (sym sizes),
  sym (drop_at xs us (length xs) refl) ∙ ap (drop (length xs)) same ∙ drop_at ys vs (length xs) (sym sizes),
)
