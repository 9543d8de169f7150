-- The steps that an operation costs beside the one of its node: one for each 256 units of UTF-16 of the texts that it
-- makes, compares or cuts.
use Rattle.std.specs.Prelude.{ℕ, ◌+◌, ◌/◌, ◌||◌, List, ◌++◌, if◌then◌else◌, Option, Some}
use Rattle.mt_ops.specs.Operators.{is_text}
use Rattle.mt_ops.specs.Texts.{join_text, type_name}
use Rattle.mt_tree.specs.declared.operators.Binary.{Binary}
use Rattle.mt_tree.specs.declared.operators.Binary.TheVariants as binary
use Rattle.mt_tree.specs.declared.operators.Unary.{Unary}
use Rattle.mt_tree.specs.declared.operators.Unary.TheVariants as unary
use Rattle.mt_tree.specs.Text.{units_of}
use Rattle.mt_value.specs.declared.value.Value.{Value}
use Rattle.mt_value.specs.declared.value.Value.TheVariants as value

-- the steps for that many units
abbrev pub steps : ℕ → ℕ
steps units = units / 256

abbrev pub joined_units : Option (List ℕ) → Option (List ℕ) → ℕ
joined_units (Some a) (Some b) = units_of (a ++ b)
joined_units _ _ = 0

-- of the text that `+` makes, also of one that is refused as too long
unfoldable pub addition_units : Value → Value → ℕ
addition_units a b = if is_text a || is_text b then joined_units (join_text a) (join_text b) else 0

-- of two texts that are compared
unfoldable pub compared_units : Value → Value → ℕ
compared_units (value.Text a) (value.Text b) = units_of a + units_of b
compared_units _ _ = 0

unfoldable pub binary_units : Binary → Value → Value → ℕ
binary_units binary.Add a b = addition_units a b
binary_units binary.Sub a b = 0
binary_units binary.Mul a b = 0
binary_units binary.Div a b = 0
binary_units binary.Rem a b = 0
binary_units _ a b = compared_units a b

-- of the text that `typeof` makes
unfoldable pub unary_units : Unary → Value → ℕ
unary_units unary.Typeof v = units_of (type_name v)
unary_units _ v = 0

-- of the text that is cut for one of its units, also where there is none at the number
unfoldable pub property_units : Value → Value → ℕ
property_units (value.Text text) (value.Num n) = units_of text
property_units _ _ = 0
