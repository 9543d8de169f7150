-- The units of short texts.
use Rattle.std.proofs.Common.{◌≡◌, ◌+◌, ℕ, List, length, true, arith, Option, None, Some}
use Rattle.std.specs.Option.{option_map}
use Rattle.mt_ops.proofs.Texts.{ascii, units_joined as units_sum}
use Rattle.mt_ops.specs.Texts.{is_plain}
use Rattle.mt_ops_properties.specs.Costs.{joined_units}
use Rattle.mt_tree.specs.Text.{units_of}
use Rattle.mt_tree.proofs.Numbers.{units_ascii}

pub units_plain : (bs : List ℕ) → is_plain bs ≡ true → units_of bs ≡ length bs
units_plain bs plain = units_ascii bs (ascii bs plain)

pub units_joined : (x y : Option (List ℕ)) (a b : ℕ) → Some a ≡ option_map units_of x → Some b ≡ option_map units_of y → a + b ≡ joined_units x y
units_joined (Some x) (Some y) a b is it = let e : a ≡ units_of x = cc in let f : b ≡ units_of y = cc in omega (arith, e, f, units_sum x y)
units_joined None y a b is it = absurd (cc)
units_joined (Some x) None a b is it = absurd (cc)
