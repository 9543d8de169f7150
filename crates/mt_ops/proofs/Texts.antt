-- Texts, character by character.
use Rattle.std.proofs.Common.{◌≡◌, ◌↔◌, ◌^◌, ◌&&◌, Bool, false, ℤ, subst, min, nat_le, IsTrue, ℕ, length, zero, suc, ◌+◌, ◌-◌, ◌<◌, true, List, [], ◌∷◌, ◌++◌, take, sym, ap, refl, ◌∙◌, arith, append_assoc}
use Rattle.std.specs.Char.{encode_utf8}
use Rattle.std.specs.Str.{chars, IsUtf8, IsAscii}
use Rattle.std.specs.String.{string_bytes}
use Rattle.std.specs.declared.string.String.{String}
use Rattle.std.proofs.lemmas.Bool.Decides.{nat_tests}
use Rattle.std.proofs.lemmas.Str.{chars-append, chars-nil, chars-IsAscii, chars_past_char, IsUtf8-string_bytes, encode_same, length-encode, len_utf8_bounds}
use Rattle.std.proofs.Math.ListN.{length-append}
use Rattle.std.proofs.lemmas.List.{append-nil}
use Rattle.std.proofs.lemmas.Fmt.{IsAscii-signed}
use Rattle.std.specs.Fmt.{signed_decimal}
use lib.Signed.{mag}
use lib.Utf8.{encodes, scalar, scalars}
use Rattle.mt_value.specs.Limits.{text_fits}
use Rattle.mt_ops.specs.Operators.{is_empty}
use Rattle.mt_tree.specs.Text.{units_of}
use Rattle.mt_ops.specs.Errors.{cut, operator_text}
use Rattle.mt_ops.specs.Texts.{is_plain}
use Rattle.mt_ops.specs.declared.error.Operator.{Operator}
use Rattle.mt_ops.specs.declared.error.Operator.TheVariants as operator

pub pushed : {A : Type 0} (s : String A) (bs : List ℕ) → chars (string_bytes s ++ bs) ≡ chars (string_bytes s) ++ chars bs
pushed s bs = chars-append (string_bytes s) bs (IsUtf8-string_bytes s)

pub no_characters : chars [] ≡ []
no_characters = chars-nil

pub units_joined : (a b : List ℕ) → units_of (a ++ b) ≡ units_of a + units_of b
units_joined [] b = omega arith
units_joined (c ∷ a) b = omega (arith, units_joined a b)

pub ascii : (bs : List ℕ) → is_plain bs ≡ true → IsAscii bs
ascii [] e i = omega arith
ascii (b ∷ bs) e zero = grind (arith, nat_tests, e)
ascii (b ∷ bs) e (suc i) = ascii bs (grind (arith, e)) i

pub plain : (bs : List ℕ) → is_plain bs ≡ true → chars bs ≡ bs
plain bs e = chars-IsAscii bs (ascii bs e)

pub operator_cut : (op : Operator) → cut (chars (operator_text op)) ≡ operator_text op
operator_cut operator.Plus = ap (take 64) (plain (operator_text operator.Plus) refl)
operator_cut operator.Minus = ap (take 64) (plain (operator_text operator.Minus) refl)
operator_cut operator.Times = ap (take 64) (plain (operator_text operator.Times) refl)
operator_cut operator.Over = ap (take 64) (plain (operator_text operator.Over) refl)
operator_cut operator.Remainder = ap (take 64) (plain (operator_text operator.Remainder) refl)
operator_cut operator.Less = ap (take 64) (plain (operator_text operator.Less) refl)
operator_cut operator.LessEqual = ap (take 64) (plain (operator_text operator.LessEqual) refl)
operator_cut operator.Greater = ap (take 64) (plain (operator_text operator.Greater) refl)
operator_cut operator.GreaterEqual = ap (take 64) (plain (operator_text operator.GreaterEqual) refl)
operator_cut operator.Increment = ap (take 64) (plain (operator_text operator.Increment) refl)
operator_cut operator.Decrement = ap (take 64) (plain (operator_text operator.Decrement) refl)

-- one character more of a text that is taken up to a length
pub taken_further : {A : Type 0} (s : String A) (room c : ℕ) (before after : List ℕ) → IsUtf8 (encode_utf8 c) → IsUtf8 before → before ≡ encode_utf8 c ++ after → 0 < room
    → chars (string_bytes s ++ encode_utf8 c) ++ take (room - 1) (chars after) ≡ chars (string_bytes s) ++ take room (chars before)
taken_further s zero c before after one u is more = absurd (omega arith)
taken_further s (suc n) c before after one u is more =
    let here : chars (encode_utf8 c) ≡ c ∷ [] = chars_past_char (encode_utf8 c) [] c one (sym (append-nil (encode_utf8 c))) ∙ ap (λ cs. c ∷ cs) chars-nil in
    let first : chars before ≡ c ∷ chars after = chars_past_char before after c u is in
    let count : suc n - 1 ≡ n = omega arith in
    rw (pushed s (encode_utf8 c), here, first, count) (append_assoc (chars (string_bytes s)) (c ∷ []) (take n (chars after)))

pub decimal_chars : (bs : List ℕ) (n : ℤ) → mag n < 2 ^ 63 → bs ≡ signed_decimal n → chars bs ≡ signed_decimal n
decimal_chars bs n small is = ap chars is ∙ chars-IsAscii (signed_decimal n) (IsAscii-signed n small)

pub fits_by_units : (a b : List ℕ) (r : Bool) → r ≡ nat_le (min (units_of a + units_of b) (2 ^ 64 - 1)) (2 ^ 20) → r ≡ text_fits (a ++ b)
fits_by_units a b r is = is ∙ (rw (units_joined a b) (grind (arith, nat_tests)))

pub empty_is : (text : List ℕ) (r : Bool) → (IsTrue r ↔ (text ≡ chars [])) → r ≡ is_empty text
empty_is [] true h = refl
empty_is [] false h = h.1 (sym chars-nil)
empty_is (c ∷ cs) true h = absurd (let e : c ∷ cs ≡ [] = h.0 refl ∙ chars-nil in cc)
empty_is (c ∷ cs) false h = refl

and_left : (a b : Bool) → (a && b) ≡ true → a ≡ true
and_left true b e = refl
and_left false b e = absurd (cc)

-- the first character of a text is one, alone too
pub first_is_utf8 : (bs rest : List ℕ) (c : ℕ) → IsUtf8 bs → bs ≡ encode_utf8 c ++ rest → scalar c ≡ true
first_is_utf8 bs rest c ([], s) is =
    let none : length (encode_utf8 c) + length rest ≡ 0 = sym (length-append (encode_utf8 c) rest) ∙ ap length (sym is ∙ sym s.1) in
    absurd (omega (arith, length-encode c, len_utf8_bounds c))
first_is_utf8 bs rest c (d ∷ ds, s) is = subst (λ x. scalar x ≡ true) (encode_same d c (encodes ds) rest (s.1 ∙ is)).0 (and_left (scalar d) (scalars ds) s.0)

pub one_is_utf8 : (c : ℕ) → scalar c ≡ true → IsUtf8 (encode_utf8 c)
one_is_utf8 c s = (c ∷ [], (rw s refl, append-nil (encode_utf8 c)))

take_none : (n : ℕ) → take {A = ℕ} n [] ≡ []
take_none zero = refl
take_none (suc n) = refl

pub nothing_taken : (n : ℕ) (bs : List ℕ) → length bs ≡ 0 → take n (chars bs) ≡ []
nothing_taken n [] e = rw no_characters (take_none n)
nothing_taken n (b ∷ bs) e = absurd (omega arith)

pub taken_all : (made more whole : List ℕ) → more ≡ [] → made ++ more ≡ whole → made ≡ whole
taken_all made more whole none is = sym (append-nil made) ∙ ap (λ t. made ++ t) (sym none) ∙ is
