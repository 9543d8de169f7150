-- What was escaped is read again, and lacks the signs.
use Rattle.std.proofs.Common.{◌≡◌, ℕ, true, not, ◌==◌, List, [], ◌∷◌, ◌++◌, refl, sym, ap, ◌∙◌, subst, inl, inr, codes}
use Rattle.std.proofs.lemmas.Bool.{ne_eqb, cases_eq, and_from, not_from_false}
use Rattle.mt_page_tokens.specs.declared.texts.Escape.TheVariants as escape
use Rattle.mt_syntax.specs.PageText.{escape_byte, escaped}
use Rattle.mt_page_tokens.specs.Reading.{unescaped_by, unescaped}
use Rattle.mt_page_tokens.proofs.Lacking.{lacks, lacks-append}

-- the byte is one of the five, or is itself
abbrev pub Others : ℕ → Type 0
Others b = (b ≡ 38 → ⊥) × (b ≡ 60 → ⊥) × (b ≡ 62 → ⊥) × (b ≡ 34 → ⊥) × (b ≡ 13 → ⊥)

pub by_escape : (P : ℕ → List ℕ → Type 0) → P 38 (codes "&amp;") → P 60 (codes "&lt;") → P 62 (codes "&gt;") → P 34 (codes "&quot;") → P 13 (codes "&#13;")
    → ((b : ℕ) → Others b → P b (b ∷ [])) → (b : ℕ) → P b (escape_byte b)
by_escape P amp lt gt quot cr other b = elim (cases_eq b 38) [
  | inl e ↦ subst (λ c. P c (escape_byte c)) (sym e) amp
  | inr n38 ↦
      elim (cases_eq b 60) [
        | inl e ↦ subst (λ c. P c (escape_byte c)) (sym e) lt
        | inr n60 ↦
            elim (cases_eq b 62) [
              | inl e ↦ subst (λ c. P c (escape_byte c)) (sym e) gt
              | inr n62 ↦
                  elim (cases_eq b 34) [
                    | inl e ↦ subst (λ c. P c (escape_byte c)) (sym e) quot
                    | inr n34 ↦
                        elim (cases_eq b 13) [
                          | inl e ↦ subst (λ c. P c (escape_byte c)) (sym e) cr
                          | inr n13 ↦
                              rw (ne_eqb b 38 n38, ne_eqb b 60 n60, ne_eqb b 62 n62, ne_eqb b 34 n34, ne_eqb b 13 n13) (other b (n38, n60, n62, n34, n13))
                        ]
                  ]
            ]
      ]
]

read_byte : (b : ℕ) (rest : List ℕ) → unescaped_by escape.Plain (escape_byte b ++ rest) ≡ b ∷ unescaped_by escape.Plain rest
read_byte b rest = by_escape (λ c text. unescaped_by escape.Plain (text ++ rest) ≡ c ∷ unescaped_by escape.Plain rest) refl refl refl refl refl
    (λ c n. rw (ne_eqb c 38 n.0) refl) b

pub unescaped-escaped : (bytes : List ℕ) → unescaped (escaped bytes) ≡ bytes
unfolding unescaped escaped
unescaped-escaped [] = refl
unescaped-escaped (b ∷ bytes) = read_byte b (escaped bytes) ∙ ap (λ ys. b ∷ ys) (unescaped-escaped bytes)

lacks_byte : (s b : ℕ) → (b ≡ s → ⊥) → lacks s (b ∷ []) ≡ true
lacks_byte s b n = and_from (not (b == s)) true (not_from_false (b == s) (ne_eqb b s n)) refl

quoteless : (b : ℕ) → lacks 34 (escape_byte b) ≡ true
quoteless b = by_escape (λ c text. lacks 34 text ≡ true) refl refl refl refl refl (λ c n. lacks_byte 34 c n.3) b

openless : (b : ℕ) → lacks 60 (escape_byte b) ≡ true
openless b = by_escape (λ c text. lacks 60 text ≡ true) refl refl refl refl refl (λ c n. lacks_byte 60 c n.1) b

closeless : (b : ℕ) → lacks 62 (escape_byte b) ≡ true
closeless b = by_escape (λ c text. lacks 62 text ≡ true) refl refl refl refl refl (λ c n. lacks_byte 62 c n.2) b

pub escaped_quoteless : (bytes : List ℕ) → lacks 34 (escaped bytes) ≡ true
unfolding escaped
escaped_quoteless [] = refl
escaped_quoteless (b ∷ bytes) = lacks-append 34 (escape_byte b) (escaped bytes) (quoteless b) (escaped_quoteless bytes)

pub escaped_openless : (bytes : List ℕ) → lacks 60 (escaped bytes) ≡ true
unfolding escaped
escaped_openless [] = refl
escaped_openless (b ∷ bytes) = lacks-append 60 (escape_byte b) (escaped bytes) (openless b) (escaped_openless bytes)

pub escaped_closeless : (bytes : List ℕ) → lacks 62 (escaped bytes) ≡ true
unfolding escaped
escaped_closeless [] = refl
escaped_closeless (b ∷ bytes) = lacks-append 62 (escape_byte b) (escaped bytes) (closeless b) (escaped_closeless bytes)
