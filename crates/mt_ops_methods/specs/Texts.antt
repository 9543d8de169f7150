-- The methods of texts.
use Rattle.std.specs.Prelude.{ℕ, List, Option, None, Some, Result, Ok, Err, slice_get}
use Rattle.mt_ops_methods.specs.Arguments.{bad_argument, range, place_number}
use Rattle.mt_ops_methods.specs.declared.name.MethodName.{MethodName}
use Rattle.mt_ops_methods.specs.declared.name.MethodName.TheVariants as name
use Rattle.mt_ops.specs.declared.error.ErrorKind.{ErrorKind}
use Rattle.mt_ops.specs.declared.error.ErrorKind.TheVariants as error
use Rattle.mt_tree.specs.Text.{units_of}
use Rattle.mt_tree.specs.Units.{cut, find}
use Rattle.mt_value.specs.declared.value.Value.{Value}
use Rattle.mt_value.specs.declared.value.Value.TheVariants as value

abbrev pub part_or_error : Option (List ℕ) → Result Value ErrorKind
part_or_error None = Err error.CutInsideCharacter
part_or_error (Some part) = Ok (value.Text part)

-- the characters from one place to another
abbrev pub part : List ℕ → Result (ℕ × ℕ) ErrorKind → Result Value ErrorKind
part text (Ok p) = part_or_error (cut text p.0 p.1)
part text (Err e) = Err e

-- the first place at which the sought text stands
unfoldable pub place : List ℕ → Option Value → Result Value ErrorKind
place text (Some (value.Text sought)) = Ok (place_number (find sought text))
place text _ = Err (bad_argument name.IndexOf)

-- a method of a text; a key that names none is no property
unfoldable pub text_method : List ℕ → Option MethodName → List ℕ → List Value → Result Value ErrorKind
text_method text (Some name.Slice) key arguments = part text (range (units_of text) (slice_get arguments 0) (slice_get arguments 1))
text_method text (Some name.IndexOf) key arguments = place text (slice_get arguments 0)
text_method text _ key arguments = Err (error.NoSuchProperty key)
