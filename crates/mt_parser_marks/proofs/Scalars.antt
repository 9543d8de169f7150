-- What an escape spells is a character.
use Rattle.std.proofs.Common.{◌≡◌, ℕ, zero, suc, ◌+◌, ◌*◌, ◌<◌, ◌≤◌, Bool, true, false, [], ◌∷◌, Option, Some, None, refl, arith}
use Rattle.std.specs.Prelude.{nat_eq, if◌then◌else◌}
use Rattle.std.specs.Char.{IsScalar}
use Rattle.std.proofs.lemmas.Bool.Decides.{nat_tests}
use Rattle.mt_lexer.specs.Character.{Chars}
use Rattle.mt_lexer.specs.Escape.{is_hex, hex_value, hex_more, is_high, is_low, is_character, digits, code_point, in_braces, second_unit, paired, pair_of, of_unit, unicode}

-- ---- digits spell a number below the power of 16 of their number

abbrev Below : ℕ → Option (ℕ × Chars) → Type 0
Below n None = Unit {0}
Below n (Some r) = r.0 < n

abbrev times : ℕ → ℕ → ℕ
times zero b = b
times (suc n) b = times n (16 * b)

hex_value-le : (x : ℕ) → is_hex x ≡ true → hex_value x ≤ 15
hex_value-le x h = grind (arith, nat_tests)

hex_more-le : (v x : ℕ) → hex_more v x ≤ v * 16 + hex_value x
hex_more-le v x = omega arith

hex_more-lt : (v x b : ℕ) → v < b → is_hex x ≡ true → hex_more v x < 16 * b
hex_more-lt v x b h t = let d = hex_value-le x t in let e = hex_more-le v x in omega arith

digits-below : (n v b : ℕ) (cs : Chars) → v < b → Below (times n b) (digits n v cs)
digits-below zero v b cs h = h
digits-below (suc n) v b [] h = tt
digits-below (suc n) v b (x ∷ cs) h = chosen (is_hex x.value) (λ t. digits-below n (hex_more v x.value) (16 * b) cs (hex_more-lt v x.value b h t))
  where
    chosen : (t : Bool) → (t ≡ true → Below (times n (16 * b)) (digits n (hex_more v x.value) cs)) → Below (times n (16 * b)) (if t then digits n (hex_more v x.value) cs else None)
    chosen true h = h refl
    chosen false h = tt

-- ---- what is read is a character

abbrev pub Spells : Option (ℕ × Chars) → Type 0
Spells None = Unit {0}
Spells (Some r) = IsScalar r.0

character-is : (v : ℕ) → is_character v ≡ true → IsScalar v
character-is v h = grind (arith, nat_tests)

alone-is : (v : ℕ) → v < 65536 → is_high v ≡ false → is_low v ≡ false → IsScalar v
alone-is v h a b = grind (arith, nat_tests)

pair-is : (high low : ℕ) → is_high high ≡ true → is_low low ≡ true → IsScalar (pair_of high low)
pair-is high low a b = grind (arith, nat_tests)

pick : (t : Bool) (u v : Option (ℕ × Chars)) → (t ≡ true → Spells u) → (t ≡ false → Spells v) → Spells (if t then u else v)
pick true u v h g = h refl
pick false u v h g = g refl

brace : (v : ℕ) (cs : Chars) → Spells (if is_character v then Some (v, cs) else None)
brace v cs = pick (is_character v) (Some (v, cs)) None (character-is v) (λ t. tt)

code_point-spells : (n v : ℕ) (cs : Chars) → Spells (code_point n v cs)
code_point-spells zero v [] = tt
code_point-spells (suc n) v [] = tt
code_point-spells zero v (x ∷ cs) = pick (nat_eq x.value 125) (if is_character v then Some (v, cs) else None) None (λ t. brace v cs) (λ t. tt)
code_point-spells (suc n) v (x ∷ cs) =
    let u = code_point n (hex_more v x.value) cs in
    pick (nat_eq x.value 125) (if is_character v then Some (v, cs) else None) (if is_hex x.value then u else None) (λ t. brace v cs)
    (λ t. pick (is_hex x.value) u None (λ t. code_point-spells n (hex_more v x.value) cs) (λ t. tt))

in_braces-spells : (cs : Chars) → Spells (in_braces cs)
in_braces-spells [] = tt
in_braces-spells (x ∷ cs) = pick (is_hex x.value) (code_point 5 (hex_more 0 x.value) cs) None (λ t. code_point-spells 5 (hex_more 0 x.value) cs) (λ t. tt)

paired-spells : (high : ℕ) (u : Option (ℕ × Chars)) → is_high high ≡ true → Spells (paired high u)
paired-spells high None h = tt
paired-spells high (Some low) h = pick (is_low low.0) (Some (pair_of high low.0, low.1)) None (pair-is high low.0 h) (λ t. tt)

of_unit-spells : (u : Option (ℕ × Chars)) → Below 65536 u → Spells (of_unit u)
of_unit-spells None h = tt
of_unit-spells (Some u) h =
    pick (is_high u.0) (paired u.0 (second_unit u.1)) (if is_low u.0 then None else Some u) (paired-spells u.0 (second_unit u.1))
    (λ a. pick (is_low u.0) None (Some u) (λ t. tt) (alone-is u.0 h a))

pub unicode-spells : (cs : Chars) → Spells (unicode cs)
unicode-spells [] = tt
unicode-spells (x ∷ cs) =
    let u = digits 4 0 (x ∷ cs) in
    pick (nat_eq x.value 123) (in_braces cs) (of_unit u) (λ t. in_braces-spells cs) (λ t. of_unit-spells u (digits-below 4 0 1 (x ∷ cs) (omega arith)))
