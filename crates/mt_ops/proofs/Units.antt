-- The order of texts, character by character.
use Rattle.std.proofs.Common.{◌≡◌, ℕ, ◌+◌, ◌-◌, ◌<◌, ◌≤◌, ◌/◌, ◌%◌, ◌==◌, ◌⊎◌, Bool, true, false, nat_lt, nat_le, length, List, [], ◌∷◌, ◌++◌, sym, refl, ◌∙◌, arith}
use Rattle.std.specs.Prelude.{flat_map}
use mathlib.Core.Bool.{beq}
use Rattle.std.proofs.lemmas.Bool.Decides.{nat_tests}
use Rattle.std.proofs.lemmas.Str.{chars-nil, chars_past_char}
use Rattle.std.specs.Char.{encode_utf8}
use Rattle.std.specs.Str.{chars, IsUtf8}
use lib.Utf8.{scalar, scalar_cases}
use Rattle.mt_ops.specs.Order.{char_units, is_below, comes_before}

abbrev units : List ℕ → List ℕ
units text = flat_map char_units text

below_itself : (u : ℕ) (us vs : List ℕ) → is_below (u ∷ us) (u ∷ vs) ≡ is_below us vs
below_itself u us vs = grind (arith, nat_tests)

abbrev lead : ℕ → ℕ
lead c = 0xD800 + (c - 0x1_0000) / 0x400

abbrev trail : ℕ → ℕ
trail c = 0xDC00 + (c - 0x1_0000) % 0x400

pub past_same : (c : ℕ) (us vs : List ℕ) → is_below (char_units c ++ us) (char_units c ++ vs) ≡ is_below us vs
past_same c us vs = by (nat_lt c 0x1_0000) refl
  where
    by : (b : Bool) → nat_lt c 0x1_0000 ≡ b → is_below (char_units c ++ us) (char_units c ++ vs) ≡ is_below us vs
    by true t = rw t (below_itself c us vs)
    by false f = rw f (below_itself (lead c) (trail c ∷ us) (trail c ∷ vs) ∙ below_itself (trail c) us vs)

-- at the first unit where two lists differ
below_other : (u v : ℕ) (us vs : List ℕ) → (u ≡ v → ⊥) → is_below (u ∷ us) (v ∷ vs) ≡ nat_lt u v
below_other u v us vs other = grind (arith, nat_tests)

pub nothing_below : (c : ℕ) (us : List ℕ) → is_below (char_units c ++ us) [] ≡ false
nothing_below c us = by (nat_lt c 0x1_0000) refl
  where
    by : (b : Bool) → nat_lt c 0x1_0000 ≡ b → is_below (char_units c ++ us) [] ≡ false
    by true t = rw t refl
    by false f = rw f refl

pub below_some : (c : ℕ) (us : List ℕ) → is_below [] (char_units c ++ us) ≡ true
below_some c us = by (nat_lt c 0x1_0000) refl
  where
    by : (b : Bool) → nat_lt c 0x1_0000 ≡ b → is_below [] (char_units c ++ us) ≡ true
    by true t = rw t refl
    by false f = rw f refl

same_test : (a b x y : ℕ) → (a < b → x < y) → (x < y → a < b) → nat_lt a b ≡ nat_lt x y
same_test a b x y f g = grind (arith, nat_tests, f, g)

pub both_small : (c d : ℕ) (us vs : List ℕ) → nat_lt c 0x1_0000 ≡ true → nat_lt d 0x1_0000 ≡ true → (c ≡ d → ⊥) → is_below (char_units c ++ us) (char_units d ++ vs) ≡ nat_lt c d
both_small c d us vs t s other = rw (t, s) (below_other c d us vs other)

-- the pair of a character above U+FFFF is in the order of the characters
pairs : (c d : ℕ) (us vs : List ℕ) → 0x1_0000 ≤ c → 0x1_0000 ≤ d → (c ≡ d → ⊥) → is_below (lead c ∷ trail c ∷ us) (lead d ∷ trail d ∷ vs) ≡ nat_lt c d
pairs c d us vs low low' other = by (lead c == lead d) refl
  where
    by : (b : Bool) → (lead c == lead d) ≡ b → is_below (lead c ∷ trail c ∷ us) (lead d ∷ trail d ∷ vs) ≡ nat_lt c d
    by true t =
        let same : lead c ≡ lead d = grind (arith, nat_tests, t) in
        rw same (below_itself (lead d) (trail c ∷ us) (trail d ∷ vs)
        ∙ below_other (trail c) (trail d) us vs (λ e. other (omega arith)) ∙ same_test (trail c) (trail d) c d (λ h. omega arith) (λ h. omega arith))
    by false f =
        let differ : lead c ≡ lead d → ⊥ = λ e. grind (arith, nat_tests, f, e) in
        below_other (lead c) (lead d) (trail c ∷ us) (trail d ∷ vs) differ ∙ same_test (lead c) (lead d) c d (λ h. omega arith) (λ h. less differ h)
      where
        less : (lead c ≡ lead d → ⊥) → c < d → lead c < lead d
        less differ h = omega (arith, differ)

pub both_large : (c d : ℕ) (us vs : List ℕ) → nat_lt c 0x1_0000 ≡ false → nat_lt d 0x1_0000 ≡ false → (c ≡ d → ⊥) → is_below (char_units c ++ us) (char_units d ++ vs) ≡ nat_lt c d
both_large c d us vs t s other = rw (t, s) (pairs c d us vs (grind (arith, nat_tests, t)) (grind (arith, nat_tests, s)) other)

pub same_side : (c d : ℕ) (us vs : List ℕ) → nat_lt c 0x1_0000 ≡ nat_lt d 0x1_0000 → (c ≡ d → ⊥) → is_below (char_units c ++ us) (char_units d ++ vs) ≡ nat_lt c d
same_side c d us vs same other = by (nat_lt c 0x1_0000) refl
  where
    by : (b : Bool) → nat_lt c 0x1_0000 ≡ b → is_below (char_units c ++ us) (char_units d ++ vs) ≡ nat_lt c d
    by true t = both_small c d us vs t (sym same ∙ t) other
    by false f = both_large c d us vs f (sym same ∙ f) other

-- a character that is no surrogate
abbrev pub IsCharacter : ℕ → Type 0
IsCharacter c = (c < 0xD800) ⊎ ((0xE000 ≤ c) × (c < 0x11_0000))

pub small_large : (c d : ℕ) (us vs : List ℕ) → IsCharacter c → IsCharacter d → nat_lt c 0x1_0000 ≡ true → nat_lt d 0x1_0000 ≡ false → is_below (char_units c ++ us) (char_units d ++ vs) ≡ nat_lt c 0xE000
small_large c d us vs ch dh t f =
    let high : 0x1_0000 ≤ d = grind (arith, nat_tests, f) in
    let last : d < 0x11_0000 = grind (arith, dh) in
    let differ : c ≡ lead d → ⊥ = λ e. grind (arith, ch, high, last, e) in
    rw (t, f) (below_other c (lead d) us (trail d ∷ vs) differ ∙ same_test c (lead d) c 0xE000 (λ h. grind (arith, ch, high, last, h)) (λ h. grind (arith, ch, high, last, h)))

pub large_small : (c d : ℕ) (us vs : List ℕ) → IsCharacter c → IsCharacter d → nat_lt c 0x1_0000 ≡ false → nat_lt d 0x1_0000 ≡ true → is_below (char_units c ++ us) (char_units d ++ vs) ≡ nat_le 0xE000 d
large_small c d us vs ch dh f t =
    let high : 0x1_0000 ≤ c = grind (arith, nat_tests, f) in
    let last : c < 0x11_0000 = grind (arith, ch) in
    let differ : lead c ≡ d → ⊥ = λ e. grind (arith, dh, high, last, e) in
    rw (t, f) (below_other (lead c) d (trail c ∷ us) vs differ ∙ grind (arith, nat_tests, dh, high, last))

pub is_character : (c : ℕ) → scalar c ≡ true → IsCharacter c
is_character c e = scalar_cases c e

pub beq_same : (a b : Bool) → beq a b ≡ true → a ≡ b
beq_same true true e = refl
beq_same true false e = absurd (cc)
beq_same false true e = absurd (cc)
beq_same false false e = refl

pub beq_right : (a b : Bool) → beq a b ≡ false → a ≡ true → b ≡ false
beq_right true true e t = absurd (cc)
beq_right true false e t = refl
beq_right false b e t = absurd (cc)

pub beq_left : (a b : Bool) → beq a b ≡ false → a ≡ false → b ≡ true
beq_left false false e t = absurd (cc)
beq_left false true e t = refl
beq_left true b e t = absurd (cc)

-- ---- one character more of each of two texts

pub further : (a b xs ys : List ℕ) (c : ℕ) → IsUtf8 a → IsUtf8 b → a ≡ encode_utf8 c ++ xs → b ≡ encode_utf8 c ++ ys → comes_before (chars xs) (chars ys) ≡ comes_before (chars a) (chars b)
unfolding comes_before
further a b xs ys c u v is it =
    rw (chars_past_char a xs c u is, chars_past_char b ys c v it) (sym (past_same c (units (chars xs)) (units (chars ys))))

pub decided : (a b xs ys : List ℕ) (c d : ℕ) (r : Bool) → IsUtf8 a → IsUtf8 b → a ≡ encode_utf8 c ++ xs → b ≡ encode_utf8 d ++ ys → (c ≡ d → ⊥)
    → ((us vs : List ℕ) → (c ≡ d → ⊥) → is_below (char_units c ++ us) (char_units d ++ vs) ≡ r) → r ≡ comes_before (chars a) (chars b)
unfolding comes_before
decided a b xs ys c d r u v is it other below =
    rw (chars_past_char a xs c u is, chars_past_char b ys d v it) (sym (below (units (chars xs)) (units (chars ys)) other))

pub second_ends : (a b xs : List ℕ) (c : ℕ) → IsUtf8 a → a ≡ encode_utf8 c ++ xs → length b ≡ 0 → false ≡ comes_before (chars a) (chars b)
unfolding comes_before
second_ends a [] xs c u is none = rw (chars_past_char a xs c u is, chars-nil) (sym (nothing_below c (units (chars xs))))
second_ends a (x ∷ b) xs c u is none = absurd (omega arith)

pub first_ends : (a b ys : List ℕ) (d : ℕ) → IsUtf8 b → length a ≡ 0 → b ≡ encode_utf8 d ++ ys → true ≡ comes_before (chars a) (chars b)
unfolding comes_before
first_ends [] b ys d v none it = rw (chars_past_char b ys d v it, chars-nil) (sym (below_some d (units (chars ys))))
first_ends (x ∷ a) b ys d v none it = absurd (omega arith)

pub both_end : (a b : List ℕ) → length a ≡ 0 → length b ≡ 0 → false ≡ comes_before (chars a) (chars b)
unfolding comes_before
both_end [] [] none none' = rw chars-nil refl
both_end (x ∷ a) b none none' = absurd (omega arith)
both_end [] (y ∷ b) none none' = absurd (omega arith)
