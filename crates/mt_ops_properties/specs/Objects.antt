-- The properties of objects, by name.
use Rattle.std.specs.Prelude.{ℕ, suc, ◌==◌, Bool, false, ◌&&◌, not, List, [], ◌∷◌, ◌++◌, if◌then◌else◌, Option, None, Some, Result, Ok, Err, slice_get, slice_set}
use Rattle.std.specs.Option.{option_map}
use Rattle.mt_ops.specs.declared.error.ErrorKind.{ErrorKind}
use Rattle.mt_ops_properties.specs.Arrays.{or_undefined}
use Rattle.mt_ops_properties.specs.Keys.{bad_name}
use Rattle.mt_syntax.specs.Data.{is_digit, spells_whole_number}
use Rattle.mt_value.specs.Names.{is_same}
use Rattle.mt_value.specs.declared.cell.Property.{Property}
use Rattle.mt_value.specs.declared.value.Value.{Value}
use Rattle.mt_value.specs.declared.value.Value.TheVariants as value

-- the first character is a digit from 1 to 9
abbrev pub begins_from_one : List ℕ → Bool
begins_from_one [] = false
begins_from_one (c ∷ cs) = is_digit c && not (c == 48)

-- a text that spells no whole number is a name, and no other key is
unfoldable pub name_of : Value → Result (List ℕ) ErrorKind
name_of (value.Text name) = if spells_whole_number name then bad_name (value.Text name) else Ok name
name_of key = bad_name key

-- the place of the property of that name
abbrev pub place_of : List ℕ → List Property → Option ℕ
place_of name [] = None
place_of name (p ∷ ps) = if is_same name p.name then Some 0 else option_map suc (place_of name ps)

abbrev pub value_at : List Property → Option ℕ → Option Value
value_at properties (Some at) = option_map (λ p. p.value) (slice_get properties at)
value_at properties None = None

-- a name reads the value of its property, and undefined where there is none
abbrev pub named_value : List Property → Result (List ℕ) ErrorKind → Result Value ErrorKind
named_value properties (Ok name) = Ok (or_undefined (value_at properties (place_of name properties)))
named_value properties (Err e) = Err e

unfoldable pub object_property : List Property → Value → Result Value ErrorKind
object_property properties key = named_value properties (name_of key)

-- a property that is there keeps its place and takes the value, and a new one goes last
abbrev pub put_at : List Property → Option ℕ → Property → List Property
put_at properties (Some at) p = slice_set properties at p
put_at properties None p = properties ++ p ∷ []

abbrev pub with_property : List Property → List ℕ → Value → List Property
with_property properties name v = put_at properties (place_of name properties) (record { name = name; value = v })

abbrev pub named_written : List Property → Result (List ℕ) ErrorKind → Value → Result (List Property) ErrorKind
named_written properties (Ok name) v = Ok (with_property properties name v)
named_written properties (Err e) v = Err e

unfoldable pub object_written : List Property → Value → Value → Result (List Property) ErrorKind
object_written properties key v = named_written properties (name_of key) v
