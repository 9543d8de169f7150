-- A character of the class of digits is a decimal digit.
use Rattle.std.proofs.Common.{◌≡◌, ℕ, Bool, true, false, ◌&&◌, refl, arith}
use Rattle.std.specs.Prelude.{nat_eq, nat_le, nat_lt, if◌then◌else◌}
use Rattle.std.proofs.lemmas.Bool.{both_ways}
use Rattle.std.proofs.lemmas.Bool.Decides.{nat_tests}
use Rattle.mt_lexer.specs.declared.character.Class.{Class}
use Rattle.mt_lexer.specs.declared.character.Class.TheVariants as c
use Rattle.mt_lexer.specs.Character.{sign_class, ascii_class, wide_class, class_of}
use Rattle.mt_lexer.specs.Sign.{is_digit}

chosen : (t : Bool) (y z : Class) → is_digit y ≡ false → is_digit z ≡ false → is_digit (if t then y else z) ≡ false
chosen true y z h g = h
chosen false y z h g = g

no_sign : (x : ℕ) → is_digit (sign_class x) ≡ false
no_sign x = search chosen depth 60

no_wide : (x : ℕ) → is_digit (wide_class x) ≡ false
no_wide x = search chosen depth 60

-- where neither test holds, it is none
other : (s t : Bool) (x : ℕ) → s ≡ false → t ≡ false → is_digit (if s then c.Zero else if t then c.Digit else sign_class x) ≡ false
other true t x h g = absurd (both_ways true h refl)
other false true x h g = absurd (both_ways true g refl)
other false false x h g = no_sign x

no_ascii : (x : ℕ) → (nat_le 48 x && nat_le x 57) ≡ false → is_digit (ascii_class x) ≡ false
no_ascii x h =
    let zero : nat_eq x 48 ≡ false = grind (arith, nat_tests) in let digit : (nat_le 49 x && nat_le x 57) ≡ false = grind (arith, nat_tests) in
    search (chosen, other (nat_eq x 48) (nat_le 49 x && nat_le x 57) x zero digit) depth 20

no_class : (x : ℕ) → (nat_le 48 x && nat_le x 57) ≡ false → is_digit (class_of x) ≡ false
no_class x h = chosen (nat_lt x 128) (ascii_class x) (wide_class x) (no_ascii x h) (no_wide x)

pub digit-is : (x : ℕ) → is_digit (class_of x) ≡ true → (nat_le 48 x && nat_le x 57) ≡ true
digit-is x h = decided (nat_le 48 x && nat_le x 57) (no_class x)
  where
    decided : (t : Bool) → (t ≡ false → is_digit (class_of x) ≡ false) → t ≡ true
    decided true g = refl
    decided false g = absurd (both_ways (is_digit (class_of x)) (g refl) h)
