-- The text that is made for a value has fewer than 256 units.
use Rattle.std.proofs.Common.{◌≡◌, ℕ, suc, ◌+◌, ◌*◌, ◌/◌, ◌^◌, ◌<◌, ◌≤◌, ℤ, pos, negsuc, true, false, List, [], ◌∷◌, length, refl, arith}
use Rattle.std.specs.Prelude.{IsTrue, nat_lt}
use Rattle.std.specs.Fmt.{signed_decimal}
use Rattle.std.proofs.lemmas.Bool.Decides.{nat_tests}
use Rattle.std.proofs.lemmas.Fmt.{length_signed_le}
use Rattle.mt_builtins.specs.Builtins.{units_made, text_cost}
use Rattle.mt_ops.specs.Texts.{join_text}
use Rattle.mt_tree.specs.Text.{units_in, units_of}
use Rattle.mt_value.specs.Lawful.{LawfulValue}
use Rattle.mt_syntax.specs.Data.{is_in_range}
use Rattle.mt_value.specs.declared.cell.Cell.{Cell}
use Rattle.mt_value.specs.declared.value.Value.{Value}
use Rattle.mt_value.specs.declared.value.Value.TheVariants as value
use lib.Signed.{mag}

units_in-le : (c : ℕ) → units_in c ≤ 2
units_in-le c = grind (arith, nat_tests)

units_of-le : (cs : List ℕ) → units_of cs ≤ 2 * length cs
units_of-le [] = omega arith
units_of-le (c ∷ cs) = omega (arith, units_of-le cs, units_in-le c)

small : (n : ℤ) → IsTrue (is_in_range n) → mag n < 2 ^ 53
small (pos n) h = grind (arith, nat_tests)
small (negsuc n) h = grind (arith, nat_tests)

pub units_of_number : (n : ℤ) → IsTrue (is_in_range n) → units_of (signed_decimal n) ≤ 34
units_of_number n h =
    let most = small n h in
    omega (arith, units_of-le (signed_decimal n), length_signed_le 16 n (omega arith) (omega arith))

few_digits : (n : ℤ) → IsTrue (is_in_range n) → units_of (signed_decimal n) / 256 ≡ 0
few_digits n h = omega (arith, units_of_number n h)

pub costs_nothing : (store : List Cell) (v : Value) → LawfulValue store v → text_cost v ≡ 0
unfolding join_text
costs_nothing store value.Undefined h = refl
costs_nothing store value.Null h = refl
costs_nothing store (value.Bool true) h = refl
costs_nothing store (value.Bool false) h = refl
costs_nothing store (value.Num n) h = few_digits n h
costs_nothing store (value.Text text) h = refl
costs_nothing store (value.Arr at) h = refl
costs_nothing store (value.Obj at) h = refl
costs_nothing store (value.Fun at) h = refl
costs_nothing store (value.Svc name) h = refl
costs_nothing store (value.Frame at) h = refl
costs_nothing store (value.Html at) h = refl
costs_nothing store (value.Code at) h = refl
costs_nothing store (value.Node n) h = refl
costs_nothing store (value.Event n) h = refl
costs_nothing store (value.Native n) h = refl
