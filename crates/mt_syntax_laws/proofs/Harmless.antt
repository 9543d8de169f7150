-- The text of code opens neither a tag nor a comment.
use Rattle.std.proofs.Common.{◌≡◌, ℕ, zero, suc, ◌+◌, ◌/◌, ◌%◌, ◌<◌, ◌≤◌, ◌^◌, List, [], ◌∷◌, ◌++◌, map, Bool, true, false, not, cond, ◌&&◌, ◌||◌, ◌==◌, nat_lt, refl, sym, ap, ◌∙◌, subst, ⊎_elim, arith}
use Rattle.std.specs.Prelude.{flat_map, encode_utf8_all}
use lib.Utf8
use Rattle.std.specs.List.{list_all}
use Rattle.std.specs.Char.{digit_char}
use Rattle.std.specs.Fmt as numerals
use Rattle.std.specs.Fmt.{decimal}
use Rattle.std.specs.Int.Digits.{AllBelowBase, digits_of}
use Rattle.std.specs.Str.{all_scalars}
use Rattle.std.proofs.lemmas.Bool.{and_from, and_parts, eqb-true, false≢true, ne_eqb, or_cases}
use Rattle.std.proofs.lemmas.Bool.Decides.{nat_tests}
use Rattle.std.proofs.lemmas.Fmt.{decimal-digits_of}
use Rattle.std.proofs.lemmas.Int.Digits.{all_below_base_digits_of}
use Rattle.ucd_derived.specs.XidContinueRanges as continues
use Rattle.ucd_derived.specs.XidStartRanges as starts
use Rattle.ucd_table.specs.Rows as rows
use Rattle.unicode_ident.specs.Ident as derived
use Rattle.mt_syntax.specs.Names as names
use Rattle.mt_syntax.specs.Names.{is_name, is_word, starts_name}
use Rattle.mt_syntax.specs.CodeText as texts
use Rattle.mt_syntax.specs.CodeText.{code_escaped, four_digits, is_escaped, literal}
use Rattle.mt_syntax_laws.specs.Openings.{begins_harmlessly, opens_nothing}
use Rattle.mt_tree.specs.Words.{is_reserved}

abbrev pub Harmless : List ℕ → Type 0
Harmless bs = opens_nothing bs ≡ true

or_mono : (a b c : Bool) → (b ≡ true → c ≡ true) → (a || b) ≡ true → (a || c) ≡ true
or_mono true b c h e = refl
or_mono false b c h e = h e

longer : (xs ys : List ℕ) → begins_harmlessly xs ≡ true → begins_harmlessly (xs ++ ys) ≡ true
longer [] ys e = absurd (false≢true e)
longer (x ∷ xs) ys e = e

pub joined : (xs ys : List ℕ) → Harmless xs → Harmless ys → Harmless (xs ++ ys)
joined [] ys p q = q
joined (x ∷ xs) ys p q =
    let ps = and_parts (not (x == 60) || begins_harmlessly xs) (opens_nothing xs) p in
    and_from (not (x == 60) || begins_harmlessly (xs ++ ys)) (opens_nothing (xs ++ ys)) (or_mono (not (x == 60)) (begins_harmlessly xs) (begins_harmlessly (xs ++ ys)) (longer xs ys) ps.0) (joined xs ys ps.1 q)

-- a byte that is no `<`
other : (b : ℕ) (bs : List ℕ) → (b == 60) ≡ false → Harmless bs → Harmless (b ∷ bs)
other b bs e h = and_from (not (b == 60) || begins_harmlessly bs) (opens_nothing bs) (ap (λ t. not t || begins_harmlessly bs) e) h

high : (b : ℕ) (bs : List ℕ) → 128 ≤ b → Harmless bs → Harmless (b ∷ bs)
high b bs h p = other b bs (ne_eqb b 60 (λ e. omega (arith, e, h))) p

abbrev encoded : ℕ → Bool → Bool → Bool → List ℕ
encoded c x y z =
    cond x (c ∷ []) (cond y ((192 + c / 64) ∷ lib.Utf8.next c ∷ []) (cond z ((224 + c / 4096) ∷ lib.Utf8.next (c / 64) ∷ lib.Utf8.next c ∷ []) ((240 + c / 262144) ∷ lib.Utf8.next (c / 4096) ∷ lib.Utf8.next (c / 64) ∷ lib.Utf8.next c ∷ [])))

character : (c : ℕ) → (c == 60) ≡ false → Harmless (lib.Utf8.encode c)
unfolding lib.Utf8.encode
character c e = by (nat_lt c 128) (nat_lt c 2048) (nat_lt c 65536)
  where
    by : (x y z : Bool) → Harmless (encoded c x y z)
    by true y z = other c [] e refl
    by false true z = high (192 + c / 64) (lib.Utf8.next c ∷ []) (omega arith) (high (lib.Utf8.next c) [] (omega arith) refl)
    by false false true = high (224 + c / 4096) (lib.Utf8.next (c / 64) ∷ lib.Utf8.next c ∷ []) (omega arith) (high (lib.Utf8.next (c / 64)) (lib.Utf8.next c ∷ []) (omega arith) (high (lib.Utf8.next c) [] (omega arith) refl))
    by false false false =
        high (240 + c / 262144) (lib.Utf8.next (c / 4096) ∷ lib.Utf8.next (c / 64) ∷ lib.Utf8.next c ∷ []) (omega arith)
        (high (lib.Utf8.next (c / 4096)) (lib.Utf8.next (c / 64) ∷ lib.Utf8.next c ∷ []) (omega arith) (high (lib.Utf8.next (c / 64)) (lib.Utf8.next c ∷ []) (omega arith) (high (lib.Utf8.next c) [] (omega arith) refl)))

-- ---- names

not_a_start : names.starts_name 60 ≡ false
unfolding derived.is_xid_start rows.in_ranges starts.xid_start_ranges
not_a_start = refl

no_continuation : derived.is_xid_continue 60 ≡ false
unfolding derived.is_xid_continue rows.in_ranges continues.xid_continue_ranges
no_continuation = refl

-- what passes a test that `<` fails is no `<`
passes : (p : ℕ → Bool) (c : ℕ) → p 60 ≡ false → p c ≡ true → (c == 60) ≡ false
passes p c f e = ne_eqb c 60 (λ is. false≢true (sym f ∙ ap p (sym is) ∙ e))

all_characters : (p : ℕ → Bool) → p 60 ≡ false → (cs : List ℕ) → list_all p cs ≡ true → Harmless (encode_utf8_all cs)
all_characters p f [] e = refl
all_characters p f (c ∷ cs) e =
    let es = and_parts (p c) (list_all p cs) e in joined (lib.Utf8.encode c) (encode_utf8_all cs) (character c (passes p c f es.0)) (all_characters p f cs es.1)

word : (cs : List ℕ) → is_word cs ≡ true → Harmless (encode_utf8_all cs)
word [] e = refl
word (c ∷ cs) e =
    let es = and_parts (starts_name c) (list_all derived.is_xid_continue cs) e in
    joined (lib.Utf8.encode c) (encode_utf8_all cs) (character c (passes starts_name c not_a_start es.0)) (all_characters derived.is_xid_continue no_continuation cs es.1)

pub name : (cs : List ℕ) → is_name cs ≡ true → Harmless (encode_utf8_all cs)
unfolding names.is_name
name cs e = word cs (and_parts (all_scalars cs) (is_word cs) (and_parts (all_scalars cs && is_word cs) (not (is_reserved cs)) e).0).1

-- ---- numbers

zero_digit : Harmless (decimal 0)
unfolding numerals.digits
zero_digit = refl

digit : (d : ℕ) (ds : List ℕ) → d < 10 → Harmless ds → Harmless ((48 + d) ∷ ds)
digit d ds h p = other (48 + d) ds (ne_eqb (48 + d) 60 (λ e. omega (arith, e, h))) p

pub number : (n : ℕ) → n < 2 ^ 64 → Harmless (decimal n)
number n h = by n h
  where
    digits : (ds : List ℕ) → AllBelowBase 10 ds → Harmless (map (λ d. 48 + d) ds)
    digits [] b = refl
    digits (d ∷ ds) b = digit d (map (λ d. 48 + d) ds) b.0 (digits ds b.1)

    by : (n : ℕ) → n < 2 ^ 64 → Harmless (decimal n)
    by zero h = zero_digit
    by (suc n) h = subst Harmless (sym (decimal-digits_of (suc n) (omega arith) h)) (digits (digits_of 10 (suc n)) (all_below_base_digits_of 10 (suc n) (omega arith)))

-- ---- literals

hex : (d : ℕ) (ds : List ℕ) → Harmless ds → Harmless (digit_char d ∷ ds)
hex d ds p = other (digit_char d) ds (ne_eqb (digit_char d) 60 (not_it d)) p
  where
    not_it : (d : ℕ) → digit_char d ≡ 60 → ⊥
    not_it d e = grind (arith, nat_tests, e)

first_false : (a b : Bool) → (a || b) ≡ false → a ≡ false
first_false true b e = e
first_false false b e = refl

quoted : (c : ℕ) → ((c == 34) || (c == 92)) ≡ true → (c == 60) ≡ false
quoted c e = ⊎_elim (λ is. ap (λ n. n == 60) (eqb-true c 34 is)) (λ is. ap (λ n. n == 60) (eqb-true c 92 is)) (or_cases (c == 34) (c == 92) e)

escape : (c : ℕ) → Harmless (code_escaped c)
unfolding texts.code_escaped
escape c = by ((c == 34) || (c == 92)) (is_escaped c) refl refl
  where
    by : (p q : Bool) → ((c == 34) || (c == 92)) ≡ p → is_escaped c ≡ q → Harmless (cond p (92 ∷ c ∷ []) (cond q (92 ∷ 117 ∷ four_digits c) (lib.Utf8.encode c)))
    by true q e f = other 92 (c ∷ []) refl (other c [] (quoted c e) refl)
    by false true e f =
        other 92 (117 ∷ four_digits c) refl (other 117 (four_digits c) refl
        (hex (c / 4096) (digit_char (c / 256 % 16) ∷ digit_char (c / 16 % 16) ∷ digit_char (c % 16) ∷ [])
        (hex (c / 256 % 16) (digit_char (c / 16 % 16) ∷ digit_char (c % 16) ∷ []) (hex (c / 16 % 16) (digit_char (c % 16) ∷ []) (hex (c % 16) [] refl)))))
    by false false e f = character c (first_false (c == 60) ((c == 62) || ((c == 38) || ((c == 8232) || ((c == 8233) || nat_lt c 32)))) f)

pub literal_harmless : (cs : List ℕ) → Harmless (literal cs)
literal_harmless cs = joined (34 ∷ []) (flat_map code_escaped cs ++ 34 ∷ []) refl (joined (flat_map code_escaped cs) (34 ∷ []) (each cs) refl)
  where
    each : (cs : List ℕ) → Harmless (flat_map code_escaped cs)
    each [] = refl
    each (c ∷ cs) = joined (code_escaped c) (flat_map code_escaped cs) (escape c) (each cs)
