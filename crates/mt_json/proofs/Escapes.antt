-- What serde_json writes for a text is what the definition of the tagged JSON says.
use Rattle.std.proofs.Common.{◌≡◌, ℕ, zero, suc, ◌<◌, ◌≤◌, Bool, true, ◌&&◌, List, [], ◌∷◌, ◌++◌, length, get_or, inl, inr, refl, sym, ap, ap₂, ◌∙◌, arith, append_assoc, append-nil}
use Rattle.std.specs.List.{flat_map}
use Rattle.std.specs.Str.{bytes_eq}
use Rattle.std.proofs.lemmas.Bool.{and_parts, cases_lt, cases_eq, le-ltb, ne_eqb}
use Rattle.std.proofs.lemmas.Slice.Eq.{bytes_eq-Decides}
use Rattle.std.proofs.lemmas.Str.{encode_ascii, inside_one}
use lib.Utf8.{encode, encodes}
use Rattle.json.specs.Print.{escape_byte, escape, quoted}
use Rattle.json.proofs.Printed.Strings.{escape_byte_plain}
use Rattle.mt_syntax.specs.DataText.{escape_letter, escaped, json_text}

abbrev same_below : ℕ → Bool
same_below zero = true
same_below (suc n) = bytes_eq (escape_byte n ++ []) (escaped n) && same_below n

same_at : (n : ℕ) → same_below n ≡ true → (c : ℕ) → c < n → escape_byte c ++ [] ≡ escaped c
same_at zero e c lt = absurd (omega arith)
same_at (suc n) e c lt =
    let both = and_parts _ _ e in
    elim (cases_eq c n) [ inl same ↦ rw same ((bytes_eq-Decides (escape_byte n ++ []) (escaped n)).0 both.0) | inr other ↦ same_at n both.1 c (omega arith) ]

ascii_same : same_below 128 ≡ true
unfolding escape_byte escaped encode
ascii_same = refl

escape-append : (xs ys : List ℕ) → escape (xs ++ ys) ≡ escape xs ++ escape ys
escape-append [] ys = refl
escape-append (x ∷ xs) ys = ap (λ l. escape_byte x ++ l) (escape-append xs ys) ∙ sym (append_assoc (escape_byte x) _ _)

escape_high : (xs : List ℕ) → ((k : ℕ) → k < length xs → 128 ≤ get_or xs k 0) → escape xs ≡ xs
escape_high [] h = refl
escape_high (x ∷ xs) h =
    let high : 128 ≤ x = h 0 (omega arith) in
    ap₂ (λ (a b : List ℕ). a ++ b) (escape_byte_plain x (λ e. omega arith) (λ e. omega arith) (omega arith)) (escape_high xs (λ k below. h (suc k) (omega arith)))

escaped_high : (c : ℕ) → 128 ≤ c → escaped c ≡ encode c
unfolding escaped
escaped_high c ge =
    let none : escape_letter c ≡ 0 =
    rw (
      ne_eqb c 34 (λ e. omega arith),
      ne_eqb c 92 (λ e. omega arith),
      ne_eqb c 8 (λ e. omega arith),
      ne_eqb c 9 (λ e. omega arith),
      ne_eqb c 10 (λ e. omega arith),
      ne_eqb c 12 (λ e. omega arith),
      ne_eqb c 13 (λ e. omega arith),
    ) refl in
    rw (none, le-ltb c 32 (omega arith)) refl

one_char : (c : ℕ) → escape (encode c) ≡ escaped c
one_char c = elim (cases_lt c 128) [
  | inl small ↦ ap escape (encode_ascii c small) ∙ same_at 128 ascii_same c small
  | inr big ↦
      let high : (k : ℕ) → k < length (encode c) → 128 ≤ get_or (encode c) k 0 = λ k below. elim (cases_lt (get_or (encode c) k 0) 128) [
        | inl low ↦ absurd (omega (arith, inside_one c [] (encode c) k (sym (append-nil _)) below low))
        | inr h ↦ h
      ] in
      escape_high (encode c) high ∙ sym (escaped_high c big)
]

all_chars : (cs : List ℕ) → escape (encodes cs) ≡ flat_map escaped cs
all_chars [] = refl
all_chars (c ∷ cs) = escape-append (encode c) (encodes cs) ∙ ap₂ (λ (a b : List ℕ). a ++ b) (one_char c) (all_chars cs)

pub quoted-json_text : (cs : List ℕ) → quoted (encodes cs) ≡ json_text cs
quoted-json_text cs = ap (λ s. 34 ∷ (s ++ 34 ∷ [])) (all_chars cs)
