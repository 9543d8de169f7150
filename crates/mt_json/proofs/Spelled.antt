-- Digits are their own bytes, and no byte of another character is one.
use Rattle.std.proofs.Common.{◌≡◌, ℕ, ◌+◌, ◌/◌, ◌<◌, ◌≤◌, Bool, true, false, ◌&&◌, not, eqb, List, [], ◌∷◌, ◌++◌, refl, sym, ap, ◌∙◌, inl, inr, arith}
use Rattle.std.specs.List.{list_all}
use Rattle.std.proofs.lemmas.Bool.{lt-ltb, le-ltb, cases_lt}
use Rattle.std.proofs.lemmas.Str.{encode_ascii}
use lib.Utf8.{encode, encodes, next}
use Rattle.mt_syntax.specs.Data.{is_digit, spells_whole_number}
use Rattle.mt_json.proofs.Again.{Begins}
use Rattle.std.proofs.lemmas.Bool.Decides.{nat_tests}

is_digit-high : (b : ℕ) → 57 < b → is_digit b ≡ false
is_digit-high b high = grind (arith, nat_tests)

begins_high : (c : ℕ) → 128 ≤ c → Begins (encode c) (λ b. 128 ≤ b)
unfolding encode
begins_high c ge =
    rw (le-ltb c 128 ge) (elim (cases_lt c 2048) [
      | inl lt ↦ rw (lt-ltb c 2048 lt) (record { head = 192 + c / 64; tail = next c ∷ []; whole = refl; is = omega arith })
      | inr ge2 ↦ rw (le-ltb c 2048 ge2) (elim (cases_lt c 65536) [
        | inl lt ↦ rw (lt-ltb c 65536 lt) (record { head = 224 + c / 4096; tail = next (c / 64) ∷ next c ∷ []; whole = refl; is = omega arith })
        | inr ge3 ↦ rw (le-ltb c 65536 ge3) (record { head = 240 + c / 262144; tail = next (c / 4096) ∷ next (c / 64) ∷ next c ∷ []; whole = refl; is = omega arith })
      ])
    ])

begins : (c : ℕ) → Begins (encode c) (λ b. 0 ≤ b)
begins c = elim (cases_lt c 128) [
  | inl lt ↦ record { head = c; tail = []; whole = encode_ascii c lt; is = omega arith }
  | inr ge ↦ let b = begins_high c ge in record { head = b.head; tail = b.tail; whole = b.whole; is = omega arith }
]

and_false : (b : Bool) → (b && false) ≡ false
and_false true = refl
and_false false = refl

digits_by_bytes : (cs : List ℕ) → list_all is_digit (encodes cs) ≡ list_all is_digit cs
digits_by_bytes [] = refl
digits_by_bytes (c ∷ cs) = elim (cases_lt c 128) [
  | inl lt ↦ ap (λ s. list_all is_digit (s ++ encodes cs)) (encode_ascii c lt) ∙ ap (λ b. is_digit c && b) (digits_by_bytes cs)
  | inr ge ↦
      let b = begins_high c ge in
      ap (λ s. list_all is_digit (s ++ encodes cs)) b.whole ∙ ap (λ d. d && list_all is_digit (b.tail ++ encodes cs)) (is_digit-high b.head (omega (arith, b.is))) ∙ sym (ap (λ d. d && list_all is_digit cs) (is_digit-high c (omega arith)))
]

no_number : (b : ℕ) (bytes : List ℕ) → 128 ≤ b → spells_whole_number (b ∷ bytes) ≡ false
no_number b [] ge = is_digit-high b (omega arith)
no_number b (d ∷ bytes) ge = ap (λ t. (t && not (eqb b 48)) && list_all is_digit (d ∷ bytes)) (is_digit-high b (omega arith))

spells_high : (c : ℕ) (cs : List ℕ) → 128 ≤ c → spells_whole_number (encode c ++ encodes cs) ≡ spells_whole_number (c ∷ cs)
spells_high c cs ge =
    let b = begins_high c ge in
    ap (λ s. spells_whole_number (s ++ encodes cs)) b.whole ∙ no_number b.head (b.tail ++ encodes cs) b.is ∙ sym (no_number c cs ge)

spells_ascii : (c : ℕ) (cs : List ℕ) → spells_whole_number (c ∷ encodes cs) ≡ spells_whole_number (c ∷ cs)
spells_ascii c [] = refl
spells_ascii c (d ∷ cs) =
    let b = begins d in
    ap (λ s. spells_whole_number (c ∷ (s ++ encodes cs))) b.whole
    ∙ ap (λ s. (is_digit c && not (eqb c 48)) && list_all is_digit (s ++ encodes cs)) (sym b.whole)
    ∙ ap (λ t. (is_digit c && not (eqb c 48)) && t) (digits_by_bytes (d ∷ cs))

pub spells_by_bytes : (cs : List ℕ) → spells_whole_number (encodes cs) ≡ spells_whole_number cs
spells_by_bytes [] = refl
spells_by_bytes (c ∷ cs) = elim (cases_lt c 128) [
  | inl lt ↦ ap (λ s. spells_whole_number (s ++ encodes cs)) (encode_ascii c lt) ∙ spells_ascii c cs
  | inr ge ↦ spells_high c cs ge
]
