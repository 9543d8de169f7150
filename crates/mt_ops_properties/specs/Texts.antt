-- The properties of texts: the text of one unit by its index, and the length in units of UTF-16.
use Rattle.std.specs.Prelude.{ℕ, suc, nat_lt, ℤ, pos, negsuc, List, codes, if◌then◌else◌, Option, None, Some, Result, Ok, Err}
use Rattle.mt_ops.specs.declared.error.ErrorKind.{ErrorKind}
use Rattle.mt_ops.specs.declared.error.ErrorKind.TheVariants as error
use Rattle.mt_ops_properties.specs.Keys.{no_such}
use Rattle.mt_tree.specs.Text.{units_of}
use Rattle.mt_tree.specs.Units.{cut}
use Rattle.mt_value.specs.Names.{is_same}
use Rattle.mt_value.specs.declared.value.Value.{Value}
use Rattle.mt_value.specs.declared.value.Value.TheVariants as value

-- a part of a text, where there is one between the places
abbrev pub part_or_error : Option (List ℕ) → Result Value ErrorKind
part_or_error (Some part) = Ok (value.Text part)
part_or_error None = Err error.CutInsideCharacter

-- the text of the unit at a number; undefined out of range, and refused where the unit is half of a character
abbrev pub unit_at : List ℕ → ℤ → Result Value ErrorKind
unit_at text (pos n) = if nat_lt n (units_of text) then part_or_error (cut text n (suc n)) else Ok value.Undefined
unit_at text (negsuc n) = Ok value.Undefined

-- a number reads a unit, and the key `length` the length
unfoldable pub text_property : List ℕ → Value → Result Value ErrorKind
text_property text (value.Num n) = unit_at text n
text_property text (value.Text name) = if is_same name (codes "length") then Ok (value.Num (pos (units_of text))) else no_such (value.Text name)
text_property text key = no_such key
