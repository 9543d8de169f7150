-- A word is read up to its end, and a name as itself.
use Rattle.std.proofs.Common.{◌≡◌, ℕ, suc, ◌+◌, ◌/◌, ◌<◌, ◌≤◌, Bool, true, false, not, ◌&&◌, ◌||◌, eqb, List, [], ◌∷◌, ◌++◌, length, get_or, take, drop, Some, refl, sym, ap, ◌∙◌, arith, inl, inr}
use Rattle.std.specs.Prelude.{if◌then◌else◌, nat_le}
use Rattle.std.specs.List.{list_all}
use Rattle.std.specs.Char.{is_ascii_alphabetic, is_ascii_alphanumeric}
use Rattle.std.specs.Str.{all_scalars, chars, is_utf8}
use lib.Utf8.{encode, encodes, next}
use Rattle.std.proofs.lemmas.Bool.{and_from, and_parts, cases_lt, lt-ltb, le-leb, le-ltb, not-true}
use Rattle.std.proofs.lemmas.Bool.Decides.{Decides-eqb, nat_tests}
use Rattle.std.proofs.lemmas.List.Folds.{list_all-append}
use Rattle.std.proofs.lemmas.List.{at_drop_all, at_drop_more}
use Rattle.std.proofs.lemmas.Str.{chars-encodes, encode_ascii, is_utf8-from_IsUtf8}
use Rattle.std.proofs.Math.Seq.{drop-append_seam, take-append_seam}
use Rattle.unicode_ident.specs.Ident.{is_xid_continue, is_xid_start}
use Rattle.unicode_ident.proofs.IdentLemmas.{is_xid_continue-ascii, is_xid_start-ascii}
use Rattle.mt_syntax.specs.Data.{is_digit}
use Rattle.mt_syntax.specs.Names.{is_name, is_word, starts_name}
use Rattle.mt_json.proofs.Again.{Begins}
use Rattle.mt_script_words.specs.Words.{after_word, is_short, is_word_byte, mark_at, name_of, unplaced_mark, word_length, word_of}
use Rattle.mt_script_words.proofs.NameBytes.{starts_continues}
use Rattle.mt_tree.specs.Words.{is_reserved}

-- no byte of a word comes first
abbrev pub ends_word : List ℕ → Bool
ends_word [] = true
ends_word (b ∷ bytes) = not (is_word_byte b)

length_of_word : (bytes rest : List ℕ) → list_all is_word_byte bytes ≡ true → ends_word rest ≡ true → word_length (bytes ++ rest) ≡ length bytes
unfolding word_length
length_of_word [] [] h e = refl
length_of_word [] (b ∷ rest) h e = rw (not-true (is_word_byte b) e) refl
length_of_word (b ∷ bytes) rest h e =
    let parts = and_parts (is_word_byte b) (list_all is_word_byte bytes) h in
    rw (parts.0, length_of_word bytes rest parts.1 e) refl

pub word_read : (bytes rest : List ℕ) → list_all is_word_byte bytes ≡ true → ends_word rest ≡ true → word_of (bytes ++ rest) ≡ bytes
word_read bytes rest h e = ap (λ n. take n (bytes ++ rest)) (length_of_word bytes rest h e) ∙ take-append_seam bytes rest

pub word_passed : (bytes rest : List ℕ) → list_all is_word_byte bytes ≡ true → ends_word rest ≡ true → after_word (bytes ++ rest) ≡ rest
word_passed bytes rest h e = ap (λ n. drop n (bytes ++ rest)) (length_of_word bytes rest h e) ∙ drop-append_seam bytes rest

-- ---- names are words

high : (b : ℕ) → 128 ≤ b → is_word_byte b ≡ true
high b h = rw (le-leb 128 b h) refl

ascii_byte : (c : ℕ) → c < 128 → is_xid_continue c ≡ true → is_word_byte c ≡ true
ascii_byte c small h = by (nat_le 128 c)
  where
    by : (b : Bool) → ((b || is_ascii_alphanumeric c) || eqb c 95) ≡ true
    by true = refl
    by false = sym (is_xid_continue-ascii c small) ∙ h

wide_bytes : (c : ℕ) → 128 ≤ c → list_all is_word_byte (encode c) ≡ true
unfolding encode
wide_bytes c ge =
    rw (le-ltb c 128 ge) (elim (cases_lt c 2048) [
      | inl lt ↦ rw (lt-ltb c 2048 lt) (rw (high (192 + c / 64) (omega arith), high (next c) (omega arith)) refl)
      | inr ge2 ↦ rw (le-ltb c 2048 ge2) (elim (cases_lt c 65536) [
        | inl lt ↦ rw (lt-ltb c 65536 lt) (rw (high (224 + c / 4096) (omega arith), high (next (c / 64)) (omega arith), high (next c) (omega arith)) refl)
        | inr ge3 ↦ rw (le-ltb c 65536 ge3) (rw (high (240 + c / 262144) (omega arith), high (next (c / 4096)) (omega arith), high (next (c / 64)) (omega arith), high (next c) (omega arith)) refl)
      ])
    ])

character_bytes : (c : ℕ) → is_xid_continue c ≡ true → list_all is_word_byte (encode c) ≡ true
character_bytes c h = elim (cases_lt c 128) [
  | inl lt ↦ ap (list_all is_word_byte) (encode_ascii c lt) ∙ rw (ascii_byte c lt h) refl
  | inr ge ↦ wide_bytes c ge
]

continued_bytes : (cs : List ℕ) → list_all is_xid_continue cs ≡ true → list_all is_word_byte (encodes cs) ≡ true
continued_bytes [] h = refl
continued_bytes (c ∷ cs) h =
    let parts = and_parts (is_xid_continue c) (list_all is_xid_continue cs) h in
    list_all-append is_word_byte (encode c) (encodes cs) ∙ rw (character_bytes c parts.0, continued_bytes cs parts.1) refl

pub record Named (cs : List ℕ) : Type 0 where
  pub scalars : all_scalars cs ≡ true
  pub word : is_word cs ≡ true
  pub free : not (is_reserved cs) ≡ true

pub named : (cs : List ℕ) → is_name cs ≡ true → Named cs
unfolding is_name
named cs h =
    let all = and_parts (all_scalars cs && is_word cs) (not (is_reserved cs)) h in
    let front = and_parts (all_scalars cs) (is_word cs) all.0 in
    record { scalars = front.0; word = front.1; free = all.1 }

word_bytes : (cs : List ℕ) → is_word cs ≡ true → list_all is_word_byte (encodes cs) ≡ true
word_bytes [] h = refl
word_bytes (c ∷ cs) h =
    let parts = and_parts (starts_name c) (list_all is_xid_continue cs) h in
    continued_bytes (c ∷ cs) (and_from (is_xid_continue c) (list_all is_xid_continue cs) (starts_continues c parts.0) parts.1)

pub name_bytes : (cs : List ℕ) → is_name cs ≡ true → list_all is_word_byte (encodes cs) ≡ true
name_bytes cs h = word_bytes cs (named cs h).word

-- ---- and are read

pub name_read : (cs : List ℕ) → is_name cs ≡ true → is_short cs ≡ true → name_of (encodes cs) ≡ Some cs
unfolding name_of
name_read cs h small =
    let scalars = (named cs h).scalars in
    let utf8 : is_utf8 (encodes cs) ≡ true = is_utf8-from_IsUtf8 (encodes cs) (cs, (scalars, refl)) in
    let back : chars (encodes cs) ≡ cs = chars-encodes cs scalars in
    rw (utf8, back, small, h) refl

pub mark_read : (cs rest : List ℕ) → is_name cs ≡ true → is_short cs ≡ true → ends_word rest ≡ true → mark_at (encodes cs ++ rest) ≡ Some (unplaced_mark cs, rest)
mark_read cs rest h small e =
    let bytes = name_bytes cs h in
    rw (word_read (encodes cs) rest bytes e, word_passed (encodes cs) rest bytes e, name_read cs h small) refl

-- ---- what a name begins with

-- a byte of a word that is no digit
abbrev pub IsNameByte : ℕ → Type 0
IsNameByte b = (is_word_byte b ≡ true) × (is_digit b ≡ false)

no_digit_high : (b : ℕ) → 128 ≤ b → is_digit b ≡ false
no_digit_high b h = grind (arith, nat_tests)

high_byte : (b : ℕ) → 128 ≤ b → IsNameByte b
high_byte b h = (high b h, no_digit_high b h)

begins_high : (c : ℕ) → 128 ≤ c → Begins (encode c) IsNameByte
unfolding encode
begins_high c ge =
    rw (le-ltb c 128 ge) (elim (cases_lt c 2048) [
      | inl lt ↦ rw (lt-ltb c 2048 lt) (record { head = 192 + c / 64; tail = next c ∷ []; whole = refl; is = high_byte (192 + c / 64) (omega arith) })
      | inr ge2 ↦ rw (le-ltb c 2048 ge2) (elim (cases_lt c 65536) [
        | inl lt ↦ rw (lt-ltb c 65536 lt) (record { head = 224 + c / 4096; tail = next (c / 64) ∷ next c ∷ []; whole = refl; is = high_byte (224 + c / 4096) (omega arith) })
        | inr ge3 ↦ rw (le-ltb c 65536 ge3) (record { head = 240 + c / 262144; tail = next (c / 4096) ∷ next (c / 64) ∷ next c ∷ []; whole = refl; is = high_byte (240 + c / 262144) (omega arith) })
      ])
    ])

letter_is_no_digit : (c : ℕ) → is_ascii_alphabetic c ≡ true → is_digit c ≡ false
letter_is_no_digit c h = grind (arith, nat_tests)

start_is_no_digit : (c : ℕ) → c < 128 → starts_name c ≡ true → is_digit c ≡ false
start_is_no_digit c small h = by (eqb c 95) refl h
  where
    by : (b : Bool) → eqb c 95 ≡ b → (b || is_xid_start c) ≡ true → is_digit c ≡ false
    by true e h = ap is_digit ((Decides-eqb c 95).0 e)
    by false e h = letter_is_no_digit c (sym (is_xid_start-ascii c small) ∙ h)

start_begins : (c : ℕ) → starts_name c ≡ true → Begins (encode c) IsNameByte
start_begins c h = elim (cases_lt c 128) [
  | inl lt ↦ record { head = c; tail = []; whole = encode_ascii c lt; is = (ascii_byte c lt (starts_continues c h), start_is_no_digit c lt h) }
  | inr ge ↦ begins_high c ge
]

word_begins : (cs : List ℕ) → is_word cs ≡ true → Begins (encodes cs) IsNameByte
word_begins [] h = absurd cc
word_begins (c ∷ cs) h =
    let parts = and_parts (starts_name c) (list_all is_xid_continue cs) h in
    let b = start_begins c parts.0 in
    record { head = b.head; tail = b.tail ++ encodes cs; whole = ap (λ s. s ++ encodes cs) b.whole; is = b.is }

pub name_begins : (cs : List ℕ) → is_name cs ≡ true → Begins (encodes cs) IsNameByte
name_begins cs h = word_begins cs (named cs h).word

-- ---- a word, byte by byte

pub word_turn : (bytes : List ℕ) (i : ℕ) → i < length bytes → is_word_byte (get_or bytes i 0) ≡ true → i + word_length (drop i bytes) ≡ word_length bytes → (i + 1) + word_length (drop (i + 1) bytes) ≡ word_length bytes
unfolding word_length
word_turn bytes i lt byte so_far =
    let one : word_length (drop i bytes) ≡ suc (word_length (drop (i + 1) bytes)) = at_drop_more word_length bytes i 0 lt ∙ rw byte refl in omega arith

pub word_stops : (bytes : List ℕ) (i : ℕ) → i < length bytes → is_word_byte (get_or bytes i 0) ≡ false → i + word_length (drop i bytes) ≡ word_length bytes → i ≡ word_length bytes
unfolding word_length
word_stops bytes i lt byte so_far =
    let one : word_length (drop i bytes) ≡ 0 = at_drop_more word_length bytes i 0 lt ∙ rw byte refl in omega arith

word_fits : (bytes : List ℕ) → word_length bytes ≤ length bytes
unfolding word_length
word_fits [] = omega arith
word_fits (b ∷ bytes) = by (is_word_byte b) (word_fits bytes)
  where
    by : (is : Bool) → word_length bytes ≤ length bytes → (if is then suc (word_length bytes) else 0) ≤ suc (length bytes)
    by true h = omega (arith, h)
    by false h = omega arith

pub word_fills : (bytes : List ℕ) (i : ℕ) → length bytes ≤ i → i + word_length (drop i bytes) ≡ word_length bytes → length bytes ≡ word_length bytes
unfolding word_length
word_fills bytes i le so_far =
    let one : word_length (drop i bytes) ≡ 0 = at_drop_all word_length bytes i le in omega (arith, word_fits bytes)
