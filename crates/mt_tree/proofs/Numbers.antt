-- The units of numbers in decimal form.
use Rattle.std.proofs.Common.{◌≡◌, ◌≤◌, ◌<◌, ◌+◌, ◌/◌, ◌^◌, ℕ, suc, ℤ, pos, negsuc, List, [], ◌∷◌, length, refl, sym, ap, ◌∙◌, arith, nat_abs, true, false}
use lib.Signed.{lt_z}
use Rattle.std.specs.Fmt.{decimal, signed_decimal}
use Rattle.std.specs.Str.{IsAscii}
use Rattle.std.proofs.lemmas.Bool.Decides.{nat_tests}
use Rattle.std.proofs.lemmas.Fmt.{decimal_digit, decimal_step, IsAscii-decimal, length-decimal-le}
use Rattle.std.proofs.lemmas.List.{length_push}
use Rattle.mt_tree.specs.Text.{units_in, units_of}

pub units_ascii : (bs : List ℕ) → IsAscii bs → units_of bs ≡ length bs
units_ascii [] h = refl
units_ascii (b ∷ bs) h =
    let first : b < 128 = h 0 in
    let one : units_in b ≡ 1 = grind (arith, nat_tests, first) in
    omega (arith, one, units_ascii bs (λ i. h (suc i)))

pub digits_one : (n : ℕ) → n < 10 → length (decimal n) ≡ 1
digits_one n h = ap length (decimal_digit n h)

pub digits_more : (n : ℕ) → 10 ≤ n → n < 2 ^ 64 → length (decimal n) ≡ length (decimal (n / 10)) + 1
digits_more n low high = ap length (decimal_step n low high) ∙ length_push (decimal (n / 10)) _

pub digits_few : (n : ℕ) → n < 2 ^ 64 → length (decimal n) ≤ 20
digits_few n h = length-decimal-le 20 n (omega arith) (omega arith) h

units_decimal : (n : ℕ) → n < 2 ^ 64 → units_of (decimal n) ≡ length (decimal n)
units_decimal n h = units_ascii (decimal n) (IsAscii-decimal n h)

pub units_negative : (z : ℤ) (n d : ℕ) → lt_z z (pos 0) ≡ true → n ≡ nat_abs z → n < 2 ^ 64 → d ≡ length (decimal n) → d + 1 ≡ units_of (signed_decimal z)
units_negative (pos m) n d below is small e = absurd (grind (arith, nat_tests, below))
units_negative (negsuc m) n d below is small e = let same : units_of (decimal n) ≡ units_of (decimal (suc m)) = ap (λ k. units_of (decimal k)) is in omega (arith, e, same, units_decimal n small)

pub units_other : (z : ℤ) (n d : ℕ) → lt_z z (pos 0) ≡ false → n ≡ nat_abs z → n < 2 ^ 64 → d ≡ length (decimal n) → d ≡ units_of (signed_decimal z)
units_other (pos m) n d above is small e = e ∙ sym (units_decimal n small) ∙ ap (λ k. units_of (decimal k)) is
units_other (negsuc m) n d above is small e = absurd (cc)
