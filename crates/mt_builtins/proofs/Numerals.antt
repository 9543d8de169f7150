-- The number that std reads in a text, and the one that the language does.
use Rattle.std.proofs.Common.{◌≡◌, ◌≢◌, ◌⊎◌, inl, inr, ℕ, zero, suc, ◌+◌, ◌-◌, ◌^◌, ◌<◌, ◌≤◌, ◌==◌, ◌&&◌, ◌||◌, ℤ, pos, neg_ℤ, FitsSigned, Bool, true, false, List, [], ◌∷◌, length, drop, get_or, Option, None, Some, Result, Ok, Err, refl, sym, ap, subst, ◌∙◌, arith}
use Rattle.std.specs.Prelude.{if◌then◌else◌, nat_lt, encode_utf8_all, slice_index}
use Rattle.std.specs.Result.{OkIff}
use Rattle.std.specs.Str.{all_ascii_digits, chars, IsAscii}
use Rattle.std.specs.Char.{is_ascii_digit}
use Rattle.std.specs.Str.Parse.{digits_value, signed_digits_value, starts_with_minus, without_leading_sign, IsNumeral, ParsesSigned}
use Rattle.std.proofs.lemmas.Bool.{and_parts}
use Rattle.std.proofs.lemmas.Bool.Decides.{nat_tests}
use Rattle.std.proofs.lemmas.Fmt.{IsAscii-from_digits}
use Rattle.std.proofs.lemmas.Result.{OkIff-at_ok}
use Rattle.std.proofs.lemmas.Str.{chars-IsAscii, encodes-IsAscii}
use Rattle.std.proofs.lemmas.Str.Parse.{IsNumeralModel, numerals_by_value, tells_all_ascii_digits, parse_signed_plain, parse_signed_minus}
use mir.Syntax.{w64}
use Rattle.mt_builtins.specs.Numbers.{is_whole, within, number_in}

pub numerals : IsNumeralModel (λ ds. all_ascii_digits ds ≡ true) (digits_value 10)
numerals = numerals_by_value (λ ds. all_ascii_digits ds ≡ true) tells_all_ascii_digits

abbrev pub read : {E : Type 0} → Result ℤ E → Option ℤ
read (Ok n) = within n
read (Err e) = None

-- ---- texts that write numbers are of ASCII characters, which are their bytes

abbrev is_signed : List ℕ → Bool
is_signed text = starts_with_minus text && is_whole (drop 1 text)

whole_ascii : (ds : List ℕ) → is_whole ds ≡ true → IsAscii ds
whole_ascii ds e = IsAscii-from_digits ds (numerals.to ds (and_parts (nat_lt 0 (length ds)) (all_ascii_digits ds) e).1)

signed_ascii : (text : List ℕ) → is_signed text ≡ true → IsAscii text
signed_ascii [] e i = omega arith
signed_ascii (c ∷ cs) e zero = grind (arith, nat_tests, (and_parts (c == 45) (is_whole cs) e).0)
signed_ascii (c ∷ cs) e (suc i) = whole_ascii cs (and_parts (c == 45) (is_whole cs) e).1 i

pub plus : (bs : List ℕ) (r : Bool) → r ≡ (slice_index bs 0 == 43) → r ≡ true → get_or bs 0 0 ≡ 43
plus bs r is met = let same : (slice_index bs 0 == 43) ≡ true = sym is ∙ met in grind (arith, nat_tests)

pub no_plus : (bs : List ℕ) (r : Bool) → r ≡ (slice_index bs 0 == 43) → r ≡ false → get_or bs 0 0 ≢ 43
no_plus bs r is unmet = let same : (slice_index bs 0 == 43) ≡ false = sym is ∙ unmet in grind (arith, nat_tests)

pub fits : {E : Type 0} (bs : List ℕ) (r : Result ℤ E) (n : ℤ) → ParsesSigned w64 10 bs r → r ≡ Ok n → FitsSigned w64 n
fits bs r n parses is =
    let found = OkIff-at_ok r (IsNumeral 10 (without_leading_sign bs) × FitsSigned w64 (signed_digits_value 10 bs)) (signed_digits_value 10 bs) n parses is in
    subst (FitsSigned w64) (sym found.1) found.0.1

-- ---- by the bytes

large : (v : ℕ) → 2 ^ 63 ≤ v → None ≡ within (pos v)
large v h = grind (arith, nat_tests)

large_below : (v : ℕ) → 2 ^ 63 < v → None ≡ within (neg_ℤ (pos v))
large_below zero h = absurd (omega arith)
large_below (suc v) h = grind (arith, nat_tests)

not_below : (v k : ℕ) → (v < k → ⊥) → k ≤ v
not_below v k denied = omega (arith, denied)

not_within : (v k : ℕ) → (v ≤ k → ⊥) → k < v
not_within v k denied = omega (arith, denied)

whole_read : {E : Type 0} (bs : List ℕ) (r : Result ℤ E) → OkIff r ((all_ascii_digits bs ≡ true) × (0 < length bs) × (digits_value 10 bs < 2 ^ 63)) (pos (digits_value 10 bs))
    → is_whole bs ≡ true → read r ≡ within (pos (digits_value 10 bs))
whole_read bs (Ok n) h e = ap within h.1
whole_read bs (Err f) h e =
    let parts = and_parts (nat_lt 0 (length bs)) (all_ascii_digits bs) e in
    let some : 0 < length bs = grind (arith, nat_tests, parts.0) in
    large (digits_value 10 bs) (not_below (digits_value 10 bs) (2 ^ 63) (λ small. h (parts.1, some, small)))

minus_read : {E : Type 0} (ds : List ℕ) (r : Result ℤ E) → OkIff r ((all_ascii_digits ds ≡ true) × (0 < length ds) × (digits_value 10 ds ≤ 2 ^ 63)) (neg_ℤ (pos (digits_value 10 ds)))
    → is_whole ds ≡ true → read r ≡ within (neg_ℤ (pos (digits_value 10 ds)))
minus_read ds (Ok n) h e = ap within h.1
minus_read ds (Err f) h e =
    let parts = and_parts (nat_lt 0 (length ds)) (all_ascii_digits ds) e in
    let some : 0 < length ds = grind (arith, nat_tests, parts.0) in
    large_below (digits_value 10 ds) (not_within (digits_value 10 ds) (2 ^ 63) (λ small. h (parts.1, some, small)))

whole_first : (ds : List ℕ) → is_whole ds ≡ true → (48 ≤ get_or ds 0 0) × (get_or ds 0 0 ≤ 57)
whole_first [] e = absurd (cc)
whole_first (c ∷ cs) e =
    let digits : (is_ascii_digit c && all_ascii_digits cs) ≡ true = (and_parts (nat_lt 0 (length (c ∷ cs))) (all_ascii_digits (c ∷ cs)) e).1 in
    let digit : is_ascii_digit c ≡ true = (and_parts (is_ascii_digit c) (all_ascii_digits cs) digits).0 in
    grind (arith, nat_tests)

minus_first : (bs : List ℕ) → starts_with_minus bs ≡ true → get_or bs 0 0 ≡ 45
minus_first bs e = grind (arith, nat_tests)

-- a text that neither is whole nor has a sign before it writes nothing
whole_again : (ds : List ℕ) → (all_ascii_digits ds ≡ true) × (0 < length ds) → is_whole ds ≡ true
whole_again ds h = let some : nat_lt 0 (length ds) ≡ true = grind (arith, nat_tests) in rw (some, h.0) refl

-- ---- a text and its bytes

module _ (text bs : List ℕ) (spelled : chars bs ≡ text) (encoded : bs ≡ encode_utf8_all text) where
  same_bytes : IsAscii bs → bs ≡ text
  same_bytes ascii = sym (chars-IsAscii bs ascii) ∙ spelled

  same_text : IsAscii text → bs ≡ text
  same_text ascii = encoded ∙ encodes-IsAscii text ascii

  none_in : (a b : Bool) → is_whole text ≡ a → is_signed text ≡ b → (is_whole bs ≡ true → ⊥) → (is_signed bs ≡ true → ⊥) → None ≡ number_in text
  unfolding number_in
  none_in true b e f plain signed = absurd (plain (ap is_whole (same_text (whole_ascii text e)) ∙ e))
  none_in false true e f plain signed = absurd (signed (ap is_signed (same_text (signed_ascii text f)) ∙ f))
  none_in false false e f plain signed = rw (e, f) refl

  -- with a plus before it a text writes no number
  pub plus_none : get_or bs 0 0 ≡ 43 → None ≡ number_in text
  plus_none plus = none_in (is_whole text) (is_signed text) refl refl
      (λ e. let first = whole_first bs e in absurd (omega arith))
      (λ e. let first = minus_first bs (and_parts (starts_with_minus bs) (is_whole (drop 1 bs)) e).0 in absurd (omega arith))

module _ {E : Type 0} (bs : List ℕ) (r : Result ℤ E) (parses : ParsesSigned w64 10 bs r) (unsigned : get_or bs 0 0 ≢ 43) where
  when_whole : is_whole bs ≡ true → read r ≡ within (pos (digits_value 10 bs))
  when_whole e = let first = whole_first bs e in whole_read bs r (parse_signed_plain numerals w64 bs r parses unsigned (omega arith)) e

  when_signed : is_signed bs ≡ true → read r ≡ within (neg_ℤ (pos (digits_value 10 (drop 1 bs))))
  when_signed e =
      let parts = and_parts (starts_with_minus bs) (is_whole (drop 1 bs)) e in
      minus_read (drop 1 bs) r (parse_signed_minus numerals w64 bs r parses (minus_first bs parts.0)) parts.1

  when_neither : is_whole bs ≡ false → is_signed bs ≡ false → read r ≡ None
  when_neither a b = by r refl (starts_with_minus bs) refl
    where
      by : (s : Result ℤ E) → r ≡ s → (m : Bool) → starts_with_minus bs ≡ m → read s ≡ None
      by (Err f) is m minus = refl
      by (Ok n) is true minus =
          let found = (OkIff-at_ok r _ _ n (parse_signed_minus numerals w64 bs r parses (minus_first bs minus)) is).0 in
          let whole : is_whole (drop 1 bs) ≡ true = whole_again (drop 1 bs) (found.0, found.1) in
          absurd (let both : is_signed bs ≡ true = rw (minus, whole) refl in cc)
      by (Ok n) is false minus =
          let other : get_or bs 0 0 ≢ 45 = grind (arith, nat_tests) in
          let found = (OkIff-at_ok r _ _ n (parse_signed_plain numerals w64 bs r parses unsigned other) is).0 in
          absurd (let whole : is_whole bs ≡ true = whole_again bs (found.0, found.1) in cc)

  abbrev chosen : Bool → Bool → Option ℤ
  chosen a b = if a then within (pos (digits_value 10 bs)) else if b then within (neg_ℤ (pos (digits_value 10 (drop 1 bs)))) else None

  in_bytes : (a b : Bool) → is_whole bs ≡ a → is_signed bs ≡ b → read r ≡ chosen a b
  in_bytes true b e f = when_whole e
  in_bytes false true e f = when_signed f
  in_bytes false false e f = when_neither e f

  bytes_number : read r ≡ number_in bs
  unfolding number_in
  bytes_number = in_bytes (is_whole bs) (is_signed bs) refl refl

  module _ (text : List ℕ) (spelled : chars bs ≡ text) (encoded : bs ≡ encode_utf8_all text) where
    by_bytes : (a b : Bool) → is_whole bs ≡ a → is_signed bs ≡ b → read r ≡ number_in text
    by_bytes true b e f = bytes_number ∙ ap number_in (same_bytes text bs spelled encoded (whole_ascii bs e))
    by_bytes false true e f = bytes_number ∙ ap number_in (same_bytes text bs spelled encoded (signed_ascii bs f))
    by_bytes false false e f = when_neither e f ∙ none_in text bs spelled encoded (is_whole text) (is_signed text) refl refl (λ t. absurd (cc)) (λ t. absurd (cc))

    pub text_number : read r ≡ number_in text
    text_number = by_bytes (is_whole bs) (is_signed bs) refl refl
