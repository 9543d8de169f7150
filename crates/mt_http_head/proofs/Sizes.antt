-- A turn of the reading of a size.
use Rattle.std.proofs.Common.{◌≡◌, ℕ, ◌+◌, ◌-◌, ◌*◌, ◌^◌, ◌<◌, ◌≤◌, Bool, ◌&&◌, List, [], ◌∷◌, length, get_or, drop, true, false, nat_lt, nat_le, refl, sym, ap, ◌∙◌, arith}
use Rattle.std.proofs.lemmas.Grind.{pow_more}
use Rattle.std.proofs.lemmas.List.{drop_all, drop_more}
use Rattle.std.proofs.lemmas.Bool.{agree_below_at}
use Rattle.std.proofs.lemmas.Bool.Decides.{nat_tests}
use Rattle.std.specs.Char.{digit_value, is_ascii_digit}
use Rattle.std.specs.List.{list_all}
use Rattle.std.specs.Str.Parse.{digits_value, digits_value_after}
use Rattle.mt_http_head.specs.Fields.{is_size}

-- the digits so far gave n, and they are digits
abbrev pub Reads : List ℕ → ℕ → ℕ → Type 0
Reads value i n =
    (digits_value_after 10 n (drop i value) ≡ digits_value 10 value)
    × (list_all is_ascii_digit (drop i value) ≡ list_all is_ascii_digit value) × (n < 10 ^ i)

pub small_power : (i : ℕ) → i < 10 → 10 ^ i ≤ 1000000000
small_power i small =
    let test : nat_le (10 ^ i) 1000000000 ≡ true = agree_below_at (λ k. nat_le (10 ^ k) 1000000000) (λ k. true) 10 i refl small in
    grind (arith, nat_tests)

value_of_digit : (b : ℕ) → is_ascii_digit b ≡ true → (digit_value b ≡ b - 48) × (b - 48 < 10)
value_of_digit b digit = (grind (arith, nat_tests), grind (arith, nat_tests))

pub goes_on : (value : List ℕ) (i n : ℕ) → i < length value → is_ascii_digit (get_or value i 0) ≡ true → Reads value i n
    → Reads value (i + 1) (n * 10 + (get_or value i 0 - 48))
goes_on value i n inside digit reads =
    let b = get_or value i 0 in
    let rest = drop (i + 1) value in
    let cut : drop i value ≡ b ∷ rest = drop_more value i 0 inside in
    let worth = value_of_digit b digit in
    let power : 10 ^ (i + 1) ≡ 10 ^ i * 10 = pow_more 10 i in
    let small = reads.2 in
    let below = worth.1 in (
      ap (λ (d : ℕ). digits_value_after 10 (n * 10 + d) rest) (sym worth.0)
          ∙ ap (digits_value_after 10 n) (sym cut) ∙ reads.0,
      ap (λ (t : Bool). t && list_all is_ascii_digit rest) (sym digit) ∙ ap (list_all is_ascii_digit) (sym cut) ∙ reads.1,
      omega (arith, power, small, below),
    )

pub no_digit : (value : List ℕ) (i n : ℕ) → i < length value → is_ascii_digit (get_or value i 0) ≡ false → Reads value i n → list_all is_ascii_digit value ≡ false
no_digit value i n inside other reads =
    sym reads.1 ∙ ap (list_all is_ascii_digit) (drop_more value i 0 inside) ∙ ap (λ (t : Bool). t && list_all is_ascii_digit (drop (i + 1) value)) other

pub no_size : (value : List ℕ) → list_all is_ascii_digit value ≡ false → is_size value ≡ false
no_size value other = rw other (none (nat_lt 0 (length value)) (nat_le (length value) 10))
  where
    none : (a b : Bool) → (a && (b && false)) ≡ false
    none true true = refl
    none true false = refl
    none false b = refl

pub is_read : (value : List ℕ) (i n : ℕ) → 0 < length value → length value ≤ 10 → length value ≤ i → Reads value i n → (is_size value ≡ true) × (n ≡ digits_value 10 value)
is_read value i n some few whole reads =
    let over : drop i value ≡ [] = drop_all i value whole in
    let digits : list_all is_ascii_digit value ≡ true = sym reads.1 ∙ ap (list_all is_ascii_digit) over in
    let filled : nat_lt 0 (length value) ≡ true = grind (arith, nat_tests) in
    let short : nat_le (length value) 10 ≡ true = grind (arith, nat_tests) in
    (rw (filled, short, digits) refl, ap (digits_value_after 10 n) (sym over) ∙ reads.0)

pub empty_is_none : (value : List ℕ) → length value ≤ 0 → is_size value ≡ false
empty_is_none value none = let test : nat_lt 0 (length value) ≡ false = grind (arith, nat_tests) in rw test refl

pub long_is_none : (value : List ℕ) → 10 < length value → is_size value ≡ false
long_is_none value long =
    let test : nat_le (length value) 10 ≡ false = grind (arith, nat_tests) in
    let filled : nat_lt 0 (length value) ≡ true = grind (arith, nat_tests) in
    rw (filled, test) refl
