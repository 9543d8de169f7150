-- A number's digits, and the number that digits spell.
use Rattle.std.proofs.Common.{◌≡◌, ◌<◌, ◌≤◌, ◌==◌, ◌&&◌, ◌^◌, ◌++◌, ℕ, true, not, nat_le, List, [], ◌∷◌, length, get_or, decimal, bytes_eq, Result, Ok, Option, None, Some, Err, ◌≢◌, ◌⊎◌, inl, inr, IsUtf8, subst, sym, refl, ap, ◌∙◌, arith, le-leb, leb-true}
use Rattle.std.specs.Str.Parse.{AllDigits, digits_value, ParsesUnsigned}
use Rattle.std.proofs.lemmas.Bool.{and_parts, cases_order}
use Rattle.std.proofs.lemmas.Bool.Decides.{nat_tests}
use Rattle.std.proofs.lemmas.Str.Parse.{IsNumeralModel, numerals_by_value, tells_digits, digit_from_value, digit_at, parse_plain}
use Rattle.std.proofs.lemmas.Fmt.{digits_decimal, digits_value-decimal, decimal-digits_value, first_decimal, decimal_nonempty, decimal_digit, decimal_injective, IsAscii-decimal, parse-decimal}
use Rattle.std.proofs.lemmas.Result.{OkIff-at_ok}
use Rattle.std.proofs.lemmas.Str.{IsUtf8-from_ascii}
use Rattle.std.proofs.lemmas.Option.{cond_some}
use Rattle.mt_lines.specs.Number.{is_spelled, number_in}
use Rattle.mt_lines.proofs.Words.{lacks, same_bytes, bytes_same, starts_without_space}

pub numerals : IsNumeralModel (AllDigits 10) (digits_value 10)
numerals = numerals_by_value (AllDigits 10) tells_digits

pub number_in-found : (limit : ℕ) (bytes : List ℕ) (n : ℕ) → number_in limit bytes ≡ Some n → (1 ≤ n) × (n ≤ limit) × (bytes ≡ decimal n)
number_in-found limit bytes n e =
    let v : ℕ = digits_value 10 bytes in
    let both = cond_some (is_spelled limit bytes v) v n e in
    let low = and_parts (nat_le 1 v) (nat_le v limit && bytes_eq (decimal v) bytes) both.0 in
    let high = and_parts (nat_le v limit) (bytes_eq (decimal v) bytes) low.1 in
    let is : v ≡ n = both.1 in
    let one : 1 ≤ v = leb-true 1 v low.0 in
    let most : v ≤ limit = leb-true v limit high.0 in
    (omega arith, omega arith, sym (same_bytes _ _ high.1) ∙ ap decimal is)

pub number_in-again : (limit n : ℕ) → 1 ≤ n → n ≤ limit → n < 2 ^ 64 → number_in limit (decimal n) ≡ Some n
number_in-again limit n low high small =
    let is : digits_value 10 (decimal n) ≡ n = digits_value-decimal numerals n small in
    let one : nat_le 1 n ≡ true = le-leb 1 n low in
    let most : nat_le n limit ≡ true = le-leb n limit high in
    rw (is, one, most, bytes_same (decimal n)) refl

digits-lack : (byte : ℕ) (digits : List ℕ) → byte < 48 → AllDigits 10 digits → lacks byte digits ≡ true
digits-lack byte [] low all = refl
digits-lack byte (d ∷ ds) low all =
    let range = digit_from_value d all.0 in
    let other : not (d == byte) ≡ true = grind (arith, nat_tests) in
    rw (other, digits-lack byte ds low all.1) refl

pub decimal-lacks : (byte n : ℕ) → byte < 48 → n < 2 ^ 64 → lacks byte (decimal n) ≡ true
decimal-lacks byte n low small = digits-lack byte (decimal n) low (digits_decimal numerals n small)

digits-start : (digits more : List ℕ) → 0 < length digits → AllDigits 10 digits → starts_without_space (digits ++ more) ≡ true
digits-start [] more some all = absurd (omega arith)
digits-start (d ∷ ds) more some all = let range = digit_from_value d all.0 in grind (arith, nat_tests)

pub decimal-starts : (n : ℕ) (more : List ℕ) → n < 2 ^ 64 → starts_without_space (decimal n ++ more) ≡ true
decimal-starts n more small = digits-start (decimal n) more (decimal_nonempty n small) (digits_decimal numerals n small)

zero-digits : (bs : List ℕ) (n : ℕ) → n ≡ 0 → bs ≡ decimal n → get_or bs 0 0 ≡ 48
zero-digits bs n zero is = ap (λ xs. get_or xs 0 0) (is ∙ ap decimal zero ∙ decimal_digit 0 (omega arith))

-- what a parse gives, where no sign and no zero leads
pub parsed-found : {E : Type 0} (bs : List ℕ) (r : Result ℕ E) (n : ℕ) → ParsesUnsigned 64 10 bs r → r ≡ Ok n → 49 ≤ get_or bs 0 0
    → (0 < n) × (n < 2 ^ 64) × (bs ≡ decimal n)
parsed-found bs r n parses ok high =
    let plain : get_or bs 0 0 ≢ 43 = omega arith in
    let found = OkIff-at_ok r (AllDigits 10 bs × (0 < length bs) × (digits_value 10 bs < 2 ^ 64)) (digits_value 10 bs) n (parse_plain numerals 64 bs r parses plain) ok in
    let spelled : decimal (digits_value 10 bs) ≡ bs = decimal-digits_value numerals bs found.0.0 found.0.1 (λ e. absurd (omega arith)) found.0.2 in
    let is : bs ≡ decimal n = sym spelled ∙ ap decimal (sym found.1) in
    let small : n < 2 ^ 64 = omega (arith, found.0.2, found.1) in
    (positive is, small, is)
  where
    positive : bs ≡ decimal n → 0 < n
    positive is = from (cases_order 0 n)
      where
        from : (0 ≡ n) ⊎ ((0 < n) ⊎ (n < 0)) → 0 < n
        from (inl zero) = let first = zero-digits bs n (sym zero) is in absurd (omega arith)
        from (inr (inl some)) = some
        from (inr (inr none)) = absurd (omega arith)

pub parsed-none : {E : Type 0} (bs : List ℕ) (r : Result ℕ E) (e : E) → ParsesUnsigned 64 10 bs r → r ≡ Err e
    → (n : ℕ) → n < 2 ^ 64 → bs ≡ decimal n → ⊥
parsed-none bs r e parses err n small is = let ok = parse-decimal 64 n bs r small small is parses in cc

pub decimal-utf8 : (bs : List ℕ) (n : ℕ) → n < 2 ^ 64 → bs ≡ decimal n → IsUtf8 bs
decimal-utf8 bs n small is = subst IsUtf8 (sym is) (IsUtf8-from_ascii (decimal n) (IsAscii-decimal n small))

pub no-number : (limit : ℕ) (bytes : List ℕ) → ((n : ℕ) → 1 ≤ n → n ≤ limit → bytes ≡ decimal n → ⊥) → number_in limit bytes ≡ None
no-number limit bytes none = at (number_in limit bytes) refl
  where
    at : (o : Option ℕ) → number_in limit bytes ≡ o → number_in limit bytes ≡ None
    at None e = e
    at (Some n) e = let found = number_in-found limit bytes n e in absurd (none n found.0 found.1 found.2)

-- a number is found in its digits, where it is within the limit, and nothing where it isn't
pub number-within : (limit n : ℕ) (bytes : List ℕ) → 0 < n → n ≤ limit → limit < 2 ^ 64 → bytes ≡ decimal n → number_in limit bytes ≡ Some n
number-within limit n bytes some high small is = ap (λ xs. number_in limit xs) is ∙ number_in-again limit n (omega arith) high (omega arith)

pub number-above : (limit n : ℕ) (bytes : List ℕ) → limit < n → n < 2 ^ 64 → bytes ≡ decimal n → number_in limit bytes ≡ None
number-above limit n bytes above small is = no-number limit bytes other
  where
    other : (m : ℕ) → 1 ≤ m → m ≤ limit → bytes ≡ decimal m → ⊥
    other m low high spelled = let same : m ≡ n = decimal_injective m n (omega arith) small (sym spelled ∙ is) in omega arith

pub first-digit : (n : ℕ) (bs : List ℕ) → 0 < n → n < 2 ^ 64 → bs ≡ decimal n → (49 ≤ get_or bs 0 0) × (get_or bs 0 0 ≤ 57) × (0 < length bs)
first-digit n bs some small is =
    let low = first_decimal n some small in
    let any = decimal_nonempty n small in
    let range = digit_at (decimal n) 0 (digits_decimal numerals n small) any in
    rw is (omega arith, range.1, any)
