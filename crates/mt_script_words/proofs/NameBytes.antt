-- Names, by their bytes.
use Rattle.std.proofs.Common.{◌≡◌, ℕ, zero, suc, Bool, true, false, not, ◌&&◌, ◌||◌, List, [], ◌∷◌, ◌++◌, length, eqb, refl, sym, ap, ◌∙◌, arith}
use Rattle.std.specs.Prelude.{nat_lt}
use Rattle.std.specs.List.{list_all, list_any}
use Rattle.std.specs.Str.{IsAscii, IsUtf8, all_scalars, bytes_eq, chars}
use Rattle.std.proofs.lemmas.Bool.{and_parts, ltb-true}
use Rattle.std.proofs.lemmas.Bool.Decides.{Decides-eqb, same_from_decides}
use Rattle.std.proofs.lemmas.Slice.Eq.{bytes_eq-Decides}
use Rattle.std.proofs.lemmas.Str.{chars-IsAscii, chars-nil, chars_past_char, encodes-IsAscii, encodes-chars, scalars-chars}
use lib.Utf8.{encode, encodes}
use Rattle.unicode_ident.specs.Ident.{is_xid_continue, is_xid_start}
use Rattle.unicode_ident.proofs.IdentLemmas.{is_xid_continue-ascii, is_xid_start-is_xid_continue}
use Rattle.mt_syntax.specs.Names.{is_name, is_word, starts_name}
use Rattle.mt_script_words.specs.Words.{begins_name}
use Rattle.mt_tree.specs.Words.{is_reserved, reserved_words}

abbrev pub are_ascii : List ℕ → Bool
are_ascii = list_all (λ v. nat_lt v 128)

pub ascii : (vs : List ℕ) → are_ascii vs ≡ true → IsAscii vs
ascii [] h i = omega arith
ascii (v ∷ vs) h zero = ltb-true v 128 (and_parts (nat_lt v 128) (are_ascii vs) h).0
ascii (v ∷ vs) h (suc i) = ascii vs (and_parts (nat_lt v 128) (are_ascii vs) h).1 i

-- a word of ASCII is spelled by its own characters
same_word : (known bytes : List ℕ) → IsUtf8 bytes → are_ascii known ≡ true → bytes_eq known bytes ≡ bytes_eq known (chars bytes)
same_word known bytes utf8 small =
    let itself : chars known ≡ known = chars-IsAscii known (ascii known small) in
    same_from_decides (bytes_eq known bytes) (bytes_eq known (chars bytes)) (bytes_eq-Decides known bytes)
    (λ e. sym (encodes-IsAscii known (ascii known small)) ∙ ap encodes ((bytes_eq-Decides known (chars bytes)).0 e) ∙ encodes-chars bytes utf8, λ is. (bytes_eq-Decides known (chars bytes)).1 (sym itself ∙ ap chars is))

pub known_word : (known : List (List ℕ)) (bytes : List ℕ) → IsUtf8 bytes → list_all are_ascii known ≡ true → list_any (λ w. bytes_eq w bytes) known ≡ list_any (λ w. bytes_eq w (chars bytes)) known
known_word [] bytes utf8 small = refl
known_word (w ∷ known) bytes utf8 small =
    let parts = and_parts (are_ascii w) (list_all are_ascii known) small in
    ap (λ b. b || list_any (λ z. bytes_eq z bytes) known) (same_word w bytes utf8 parts.0) ∙ ap (λ b. bytes_eq w (chars bytes) || b) (known_word known bytes utf8 parts.1)

-- what starts a name may continue one
pub starts_continues : (c : ℕ) → starts_name c ≡ true → is_xid_continue c ≡ true
starts_continues c h = by (eqb c 95) refl h
  where
    by : (b : Bool) → eqb c 95 ≡ b → (b || is_xid_start c) ≡ true → is_xid_continue c ≡ true
    by true e h = ap is_xid_continue ((Decides-eqb c 95).0 e) ∙ is_xid_continue-ascii 95 (omega arith)
    by false e h = is_xid_start-is_xid_continue c h

word_is : (cs : List ℕ) → (begins_name cs && list_all is_xid_continue cs) ≡ is_word cs
word_is [] = refl
word_is (c ∷ cs) = by (starts_name c) refl
  where
    by : (b : Bool) → starts_name c ≡ b → (b && (is_xid_continue c && list_all is_xid_continue cs)) ≡ (b && list_all is_xid_continue cs)
    by true e = ap (λ t. t && list_all is_xid_continue cs) (starts_continues c e)
    by false e = refl

pub named_by : (word : List ℕ) → IsUtf8 word
    → ((begins_name (chars word) && list_all is_xid_continue (chars word)) && not (list_any (λ known. bytes_eq known word) reserved_words)) ≡ is_name (chars word)
unfolding is_name
named_by word utf8 =
    let scalars : all_scalars (chars word) ≡ true = scalars-chars word utf8 in
    let reserved : list_any (λ known. bytes_eq known word) reserved_words ≡ is_reserved (chars word) = known_word reserved_words word utf8 refl in
    ap (λ b. b && not (list_any (λ known. bytes_eq known word) reserved_words)) (word_is (chars word)) ∙ ap (λ b. is_word (chars word) && not b) reserved ∙ ap (λ b. (b && is_word (chars word)) && not (is_reserved (chars word))) (sym scalars)

pub named_then : (word : List ℕ) (reserved : Bool) → IsUtf8 word → (begins_name (chars word) && list_all is_xid_continue (chars word)) ≡ true
    → reserved ≡ list_any (λ known. bytes_eq known word) reserved_words → not reserved ≡ is_name (chars word)
named_then word reserved utf8 spelled is =
    ap not is ∙ ap (λ b. b && not (list_any (λ known. bytes_eq known word) reserved_words)) (sym spelled) ∙ named_by word utf8

pub named_else : (word : List ℕ) → IsUtf8 word → (begins_name (chars word) && list_all is_xid_continue (chars word)) ≡ false → false ≡ is_name (chars word)
named_else word utf8 spelled = ap (λ b. b && not (list_any (λ known. bytes_eq known word) reserved_words)) (sym spelled) ∙ named_by word utf8

-- ---- a text, character by character

pub first_continues : (before after : List ℕ) (c : ℕ) → IsUtf8 before → before ≡ encode c ++ after → list_all is_xid_continue (chars before) ≡ (is_xid_continue c && list_all is_xid_continue (chars after))
first_continues before after c utf8 is = ap (list_all is_xid_continue) (chars_past_char before after c utf8 is)

pub none_continues : (bs : List ℕ) → length bs ≡ 0 → list_all is_xid_continue (chars bs) ≡ true
none_continues [] e = ap (list_all is_xid_continue) chars-nil
none_continues (b ∷ bs) e = absurd (omega arith)
