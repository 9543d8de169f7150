-- The properties of arrays: items by index, and the length.
use Rattle.std.specs.Prelude.{◌==◌, nat_lt, ℤ, pos, negsuc, List, [], ◌∷◌, ◌++◌, length, codes, if◌then◌else◌, Option, None, Some, Result, Ok, Err, slice_get, slice_set}
use Rattle.mt_ops.specs.declared.error.ErrorKind.{ErrorKind}
use Rattle.mt_ops.specs.declared.error.ErrorKind.TheVariants as error
use Rattle.mt_ops_properties.specs.Keys.{no_such}
use Rattle.mt_value.specs.Names.{is_same}
use Rattle.mt_value.specs.declared.value.Value.{Value}
use Rattle.mt_value.specs.declared.value.Value.TheVariants as value

-- what isn't there reads as undefined
abbrev pub or_undefined : Option Value → Value
or_undefined (Some v) = v
or_undefined None = value.Undefined

abbrev pub item_at : List Value → ℤ → Option Value
item_at items (pos n) = slice_get items n
item_at items (negsuc n) = None

-- a number reads an item, and the key `length` the length
unfoldable pub array_property : List Value → Value → Result Value ErrorKind
array_property items (value.Num n) = Ok (or_undefined (item_at items n))
array_property items (value.Text name) = if is_same name (codes "length") then Ok (value.Num (pos (length items))) else no_such (value.Text name)
array_property items key = no_such key

-- a write at an index replaces, at the length appends, and fits nowhere else
abbrev pub item_written : List Value → ℤ → Value → Result (List Value) ErrorKind
item_written items (pos n) v =
    if nat_lt n (length items) then Ok (slice_set items n v) else
    if n == length items then Ok (items ++ v ∷ []) else Err error.IndexOutOfRange
item_written items (negsuc n) v = Err error.IndexOutOfRange

unfoldable pub array_written : List Value → Value → Value → Result (List Value) ErrorKind
array_written items (value.Num n) v = item_written items n v
array_written items key v = no_such key
