-- Texts by their characters and by their bytes.
use Rattle.std.proofs.Common.{◌≡◌, ℕ, ◌+◌, ◌/◌, ◌≤◌, Bool, true, false, cond, ◌==◌, ◌||◌, nat_lt, List, [], ◌∷◌, ◌++◌, length, refl, sym, ap, ◌∙◌, ⊎_elim, arith, eq-eqb}
use Rattle.std.specs.List.{list_any}
use Rattle.std.specs.Str.{chars}
use Rattle.std.specs.String.{string_bytes}
use Rattle.std.specs.declared.string.String.{String}
use Rattle.std.proofs.lemmas.Bool.{both_ways, cases_lt, eqb-true, le-ltb, lt-ltb, ne_eqb}
use Rattle.std.proofs.lemmas.List.Folds.{list_any-append}
use Rattle.std.proofs.lemmas.Str.{chars-append, chars-nil, encodes-chars, IsUtf8-string_bytes}
use lib.Utf8.{encode, encodes, next}
use Rattle.mt_html.specs.Refusals.{has_nul}
use Rattle.mt_tree.specs.Text.{units_of}

pub pushed : {A : Type 0} (s : String A) (bs : List ℕ) → chars (string_bytes s ++ bs) ≡ chars (string_bytes s) ++ chars bs
pushed s bs = chars-append (string_bytes s) bs (IsUtf8-string_bytes s)

pub no_characters : chars [] ≡ []
no_characters = chars-nil

-- a text without bytes has no characters
pub none : (bs : List ℕ) → (length bs == 0) ≡ true → chars bs ≡ []
none [] e = chars-nil
none (b ∷ bs) e = absurd (omega (arith, eqb-true (length (b ∷ bs)) 0 e))

-- a text with bytes has characters
pub some : {A : Type 0} (s : String A) (bs : List ℕ) → bs ≡ string_bytes s → (length bs == 0) ≡ false → chars (string_bytes s) ≡ [] → ⊥
some s bs is more e =
    let none_left : length bs ≡ 0 = ap length (is ∙ sym (encodes-chars (string_bytes s) (IsUtf8-string_bytes s)) ∙ ap encodes e) in
    both_ways (length bs == 0) more (eq-eqb (length bs) 0 none_left)

pub units_joined : (a b : List ℕ) → units_of (a ++ b) ≡ units_of a + units_of b
units_joined [] b = omega arith
units_joined (c ∷ a) b = omega (arith, units_joined a b)

-- ---- U+0000 is the one character with a byte 0

abbrev zero_byte : List ℕ → Bool
zero_byte = list_any (λ b. b == 0)

above : (n : ℕ) → 1 ≤ n → (n == 0) ≡ false
above n h = ne_eqb n 0 (λ e. omega (arith, e))

next_above : (n : ℕ) → (next n == 0) ≡ false
next_above n = above (next n) (omega arith)

long : (c : ℕ) (x y : Bool) → zero_byte (cond x ((192 + c / 64) ∷ next c ∷ []) (cond y ((224 + c / 4096) ∷ next (c / 64) ∷ next c ∷ []) ((240 + c / 262144) ∷ next (c / 4096) ∷ next (c / 64) ∷ next c ∷ []))) ≡ false
long c true y = rw (above (192 + c / 64) (omega arith), next_above c) refl
long c false true = rw (above (224 + c / 4096) (omega arith), next_above (c / 64), next_above c) refl
long c false false = rw (above (240 + c / 262144) (omega arith), next_above (c / 4096), next_above (c / 64), next_above c) refl

abbrev encoded : ℕ → Bool → List ℕ
encoded c z = cond z (c ∷ []) (cond (nat_lt c 2048) ((192 + c / 64) ∷ next c ∷ []) (cond (nat_lt c 65536) ((224 + c / 4096) ∷ next (c / 64) ∷ next c ∷ []) ((240 + c / 262144) ∷ next (c / 4096) ∷ next (c / 64) ∷ next c ∷ [])))

or_false : (b : Bool) → (b || false) ≡ b
or_false true = refl
or_false false = refl

zero_in : (c : ℕ) → zero_byte (encode c) ≡ (c == 0)
unfolding encode
zero_in c =
    ⊎_elim
    (λ h. ap (λ z. zero_byte (encoded c z)) (lt-ltb c 128 h) ∙ or_false (c == 0))
    (λ h. ap (λ z. zero_byte (encoded c z)) (le-ltb c 128 h) ∙ long c (nat_lt c 2048) (nat_lt c 65536) ∙ sym (above c (omega arith)))
    (cases_lt c 128)

pub nul_by_bytes : (cs : List ℕ) → zero_byte (encodes cs) ≡ has_nul cs
nul_by_bytes [] = refl
nul_by_bytes (c ∷ cs) =
    list_any-append (λ b. b == 0) (encode c) (encodes cs) ∙ ap (λ b. b || zero_byte (encodes cs)) (zero_in c) ∙ ap (λ b. (c == 0) || b) (nul_by_bytes cs)
