-- Where a run of bytes ends, and what stands between two parts of known length.
use Rattle.std.proofs.Common.{◌≡◌, ◌+◌, ◌-◌, ◌/◌, ◌%◌, ◌^◌, ◌<◌, ℕ, Bool, true, false, nat_lt, List, [], ◌∷◌, ◌++◌, length, take, drop, decimal, refl, sym, ap, ◌∙◌, arith, append_assoc}
use Rattle.std.proofs.lemmas.List.{length-append, take_at, drop_at}
use Rattle.std.proofs.lemmas.Bool.{and_parts, and_from}
use Rattle.std.proofs.lemmas.Bool.Decides.{nat_tests}
use Rattle.std.proofs.lemmas.Fmt.{decimal_by_steps, decimal_injective}
use Rattle.std.specs.List.{list_all}
use Rattle.mt_tree.specs.Tables.{is_digit}

pub all_of_both : (p : ℕ → Bool) (xs ys : List ℕ) → list_all p xs ≡ true → list_all p ys ≡ true → list_all p (xs ++ ys) ≡ true
all_of_both p [] ys first second = second
all_of_both p (x ∷ xs) ys first second =
    let parts = and_parts (p x) (list_all p xs) first in
    and_from (p x) (list_all p (xs ++ ys)) parts.0 (all_of_both p xs ys parts.1 second)

pub all_weaker : (p q : ℕ → Bool) → ((x : ℕ) → p x ≡ true → q x ≡ true) → (xs : List ℕ) → list_all p xs ≡ true → list_all q xs ≡ true
all_weaker p q weaker [] all = refl
all_weaker p q weaker (x ∷ xs) all =
    let parts = and_parts (p x) (list_all p xs) all in
    and_from (q x) (list_all q xs) (weaker x parts.0) (all_weaker p q weaker xs parts.1)

-- two runs of bytes that pass a test, each up to the same byte, which doesn't
pub same_run : (p : ℕ → Bool) (stop : ℕ) → p stop ≡ false → (xs ys us vs : List ℕ) → list_all p xs ≡ true → list_all p ys ≡ true
    → xs ++ stop ∷ us ≡ ys ++ stop ∷ vs → (xs ≡ ys) × (us ≡ vs)
same_run p stop stops [] [] us vs first second same = (refl, cc)
same_run p stop stops [] (y ∷ ys) us vs first second same =
    absurd (let here : stop ≡ y = cc in let passes = (and_parts (p y) (list_all p ys) second).0 in let both = ap p here in cc)
same_run p stop stops (x ∷ xs) [] us vs first second same =
    absurd (let here : x ≡ stop = cc in let passes = (and_parts (p x) (list_all p xs) first).0 in let both = ap p here in cc)
same_run p stop stops (x ∷ xs) (y ∷ ys) us vs first second same =
    let head : x ≡ y = cc in
    let tail : xs ++ stop ∷ us ≡ ys ++ stop ∷ vs = cc in
    let rest = same_run p stop stops xs ys us vs (and_parts (p x) (list_all p xs) first).1 (and_parts (p y) (list_all p ys) second).1 tail in
    let same_tail = rest.0 in
    (cc, rest.1)

-- ---- decimal digits

digit_of : (n : ℕ) → n < 10 → is_digit (48 + n) ≡ true
digit_of n small = grind (arith, nat_tests)

pub decimal_digits : (n : ℕ) → n < 2 ^ 64 → list_all is_digit (decimal n) ≡ true
decimal_digits = decimal_by_steps (λ n digits. list_all is_digit digits ≡ true)
    (λ n small. rw (digit_of n small) refl)
    (λ n digits big rest. all_of_both is_digit digits ((48 + n % 10) ∷ []) rest (rw (digit_of (n % 10) (omega arith)) refl))

-- two numbers, each up to the same byte, which is no digit
pub same_number : (stop : ℕ) → is_digit stop ≡ false → (m n : ℕ) (us vs : List ℕ) → m < 2 ^ 64 → n < 2 ^ 64
    → decimal m ++ stop ∷ us ≡ decimal n ++ stop ∷ vs → (m ≡ n) × (us ≡ vs)
same_number stop stops m n us vs small_m small_n same =
    let run = same_run is_digit stop stops (decimal m) (decimal n) us vs (decimal_digits m small_m) (decimal_digits n small_n) same in
    (decimal_injective m n small_m small_n run.0, run.1)
