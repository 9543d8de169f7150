-- Names of code, tags and attributes, by their characters.
use Rattle.std.proofs.Common.{◌≡◌, ℕ, zero, suc, Bool, true, false, not, ◌&&◌, ◌||◌, List, [], ◌∷◌, refl, sym, ap, ◌∙◌, subst, arith}
use Rattle.std.specs.Prelude.{nat_lt, if◌then◌else◌}
use Rattle.std.specs.List.{list_all, list_any}
use Rattle.std.specs.Str.{IsAscii, all_scalars, bytes_eq, encode_utf8_all}
use Rattle.std.proofs.lemmas.Bool.{both_ways, or_right, and_from, and_parts, ltb-true, lt-ltb}
use Rattle.std.proofs.lemmas.Slice.Eq.{bytes_eq-Decides}
use Rattle.std.proofs.lemmas.Str.{encodes-IsAscii}
use lib.Utf8.{encodes}
use Rattle.unicode_ident.specs.Ident.{is_xid_continue}
use Rattle.mt_tree.specs.declared.kind.Kind.TheVariants as kind
use Rattle.mt_lexer.specs.Word.{word_kind}
use Rattle.mt_lexer.specs.Word as word
use Rattle.mt_syntax.specs.Names as names
use Rattle.mt_syntax.specs.Names.{is_attribute_name, is_name, is_tag_name}
use Rattle.mt_grammar.specs.Token.{is_tag_byte, tag_bytes}
use Rattle.mt_parser_marks.specs.Values.{decoded}
use Rattle.mt_parser.proofs.Classes.{is_attribute_character, is_tag_character, letter_byte, tag_byte}
use Rattle.mt_parser.proofs.Fits.{TagFits}
use Rattle.mt_parser.proofs.Fronts.{decodes}
use Rattle.mt_parser.proofs.Terminals.{KindFits}
use Rattle.mt_tree.specs.Tables.{is_among}
use Rattle.mt_tree.specs.Words.{is_reserved, reserved_words}

-- ---- ASCII

abbrev are_ascii : List ℕ → Bool
are_ascii = list_all (λ v. nat_lt v 128)

ascii : (vs : List ℕ) → are_ascii vs ≡ true → IsAscii vs
ascii [] h i = omega arith
ascii (v ∷ vs) h zero = ltb-true v 128 (and_parts (nat_lt v 128) (are_ascii vs) h).0
ascii (v ∷ vs) h (suc i) = ascii vs (and_parts (nat_lt v 128) (are_ascii vs) h).1 i

encodes_itself : (vs : List ℕ) → are_ascii vs ≡ true → encodes vs ≡ vs
encodes_itself vs h = encodes-IsAscii vs (ascii vs h)

-- ---- names of code

-- a reserved word among characters is one among their bytes
known_by_bytes : (known : List (List ℕ)) (vs : List ℕ) → list_all are_ascii known ≡ true → list_any (λ w. bytes_eq w vs) known ≡ true → list_any (λ w. bytes_eq w (encodes vs)) known ≡ true
known_by_bytes [] vs small h = absurd cc
known_by_bytes (w ∷ known) vs small h =
    let parts = and_parts (are_ascii w) (list_all are_ascii known) small in by (bytes_eq w vs) refl h parts.0 (known_by_bytes known vs parts.1)
  where
    by : (t : Bool) → bytes_eq w vs ≡ t → (t || list_any (λ z. bytes_eq z vs) known) ≡ true → are_ascii w ≡ true
        → (list_any (λ z. bytes_eq z vs) known ≡ true → list_any (λ z. bytes_eq z (encodes vs)) known ≡ true) → (bytes_eq w (encodes vs) || list_any (λ z. bytes_eq z (encodes vs)) known) ≡ true
    by true e h here later =
        let same : w ≡ vs = (bytes_eq-Decides w vs).0 e in
        let bytes : encodes vs ≡ vs = ap encodes (sym same) ∙ encodes_itself w here ∙ same in
        ap (λ z. bytes_eq w z || list_any (λ z. bytes_eq z (encodes vs)) known) bytes ∙ ap (λ b. b || list_any (λ z. bytes_eq z (encodes vs)) known) e
    by false e h here later = or_right (bytes_eq w (encodes vs)) (list_any (λ z. bytes_eq z (encodes vs)) known) (later h)

not_reserved : (vs : List ℕ) → is_among reserved_words (encodes vs) ≡ false → not (is_reserved vs) ≡ true
not_reserved vs h = by (is_reserved vs) refl
  where
    by : (t : Bool) → is_reserved vs ≡ t → not t ≡ true
    by true e = absurd (both_ways (is_among reserved_words (encodes vs)) h (known_by_bytes reserved_words vs refl e))
    by false e = refl

name_is : (v : ℕ) (vs : List ℕ) → names.starts_name v ≡ true → list_all is_xid_continue vs ≡ true → all_scalars (v ∷ vs) ≡ true → is_among reserved_words (encodes (v ∷ vs)) ≡ false → is_name (v ∷ vs) ≡ true
unfolding is_name
name_is v vs begins continues scalars free =
    and_from (all_scalars (v ∷ vs) && names.is_word (v ∷ vs)) (not (is_reserved (v ∷ vs)))
    (and_from (all_scalars (v ∷ vs)) (names.is_word (v ∷ vs)) scalars (and_from (names.starts_name v) (list_all is_xid_continue vs) begins continues)) (not_reserved (v ∷ vs) free)

-- a word of the source
pub word_fits : (text : List ℕ) (v : ℕ) (vs : List ℕ) → text ≡ encodes (v ∷ vs) → names.starts_name v ≡ true → list_all is_xid_continue vs ≡ true → all_scalars (v ∷ vs) ≡ true → KindFits (word_kind text) text
word_fits text v vs e begins continues scalars = by (is_among reserved_words text) refl
  where
    by : (t : Bool) → is_among reserved_words text ≡ t → KindFits (if t then kind.Reserved else kind.Name) text
    by true h = tt
    by false h =
        let is : decoded text ≡ v ∷ vs = ap decoded e ∙ decodes (v ∷ vs) scalars in
        ap is_name is ∙ name_is v vs begins continues scalars (ap (is_among reserved_words) (sym e) ∙ h)

pub word_is_no_text : (text : List ℕ) → word_kind text ≡ kind.ChildText → ⊥
word_is_no_text text = by (is_among reserved_words text)
  where
    by : (t : Bool) → (if t then kind.Reserved else kind.Name) ≡ kind.ChildText → ⊥
    by true e = cc
    by false e = cc

-- ---- names of tags

all_tag_bytes : (vs : List ℕ) → list_all is_tag_character vs ≡ true → (tag_bytes vs ≡ vs) × (are_ascii vs ≡ true)
unfolding tag_bytes
all_tag_bytes [] h = (refl, refl)
all_tag_bytes (v ∷ vs) h =
    let parts = and_parts (is_tag_character v) (list_all is_tag_character vs) h in let here = tag_byte v parts.0 in let later = all_tag_bytes vs parts.1 in
    (ap (λ b. if b then v ∷ tag_bytes vs else []) here.0 ∙ ap (λ l. v ∷ l) later.0, and_from (nat_lt v 128) (are_ascii vs) (lt-ltb v 128 here.1) later.1)

first_tag_byte : (v : ℕ) (vs : List ℕ) → is_tag_byte v ≡ true → tag_bytes (v ∷ vs) ≡ v ∷ tag_bytes vs
unfolding tag_bytes
first_tag_byte v vs h = ap (λ b. if b then v ∷ tag_bytes vs else []) h

pub tag_fits : (v : ℕ) (vs : List ℕ) → names.is_letter v ≡ true → list_all is_tag_character vs ≡ true → all_scalars (v ∷ vs) ≡ true → TagFits (tag_bytes (encodes (v ∷ vs)))
unfolding is_tag_name
tag_fits v vs letter h scalars =
    let first = letter_byte v letter in let later = all_tag_bytes vs h in
    let small : are_ascii (v ∷ vs) ≡ true = and_from (nat_lt v 128) (are_ascii vs) (lt-ltb v 128 first.1) later.1 in
    let bytes : encodes (v ∷ vs) ≡ v ∷ vs = encodes_itself (v ∷ vs) small in
    let taken : tag_bytes (encodes (v ∷ vs)) ≡ v ∷ vs = ap tag_bytes bytes ∙ first_tag_byte v vs first.0 ∙ ap (λ l. v ∷ l) later.0 in
    let spelled : decoded (v ∷ vs) ≡ v ∷ vs = ap decoded (sym bytes) ∙ decodes (v ∷ vs) scalars in
    let fits : TagFits (v ∷ vs) = record { is_tag = ap is_tag_name spelled ∙ and_from (names.is_letter v) (list_all is_tag_character vs) letter h; spelled = ap encode_utf8_all spelled ∙ bytes } in
    subst TagFits (sym taken) fits

-- ---- names of attributes

pub attribute_is : (text : List ℕ) (v : ℕ) (vs : List ℕ) → text ≡ encodes (v ∷ vs) → names.is_letter v ≡ true → list_all is_attribute_character vs ≡ true → all_scalars (v ∷ vs) ≡ true → is_attribute_name (decoded text) ≡ true
unfolding is_attribute_name
attribute_is text v vs e letter h scalars =
    ap is_attribute_name (ap decoded e ∙ decodes (v ∷ vs) scalars) ∙ and_from (names.is_letter v) (list_all is_attribute_character vs) letter h
