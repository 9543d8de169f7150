-- The builtins of both tiers, as functions of their arguments and the store. Further arguments are ignored.
use Rattle.std.specs.Prelude.{ℕ, ℤ, ◌/◌, Bool, true, false, List, [], ◌∷◌, length, map, codes, if◌then◌else◌, Option, None, Some, Result, Ok, Err, slice_get}
use Rattle.mt_builtins.specs.Numbers.{number_in}
use Rattle.mt_builtins.specs.declared.made.Made.{Made}
use Rattle.mt_builtins.specs.declared.made.Made.TheVariants as made
use Rattle.mt_builtins.specs.declared.methods.MethodName.{MethodName}
use Rattle.mt_builtins.specs.declared.methods.MethodName.TheVariants as name
use Rattle.mt_ops_methods.specs.Arguments.{given}
use Rattle.mt_ops.specs.Errors.{text_property}
use Rattle.mt_ops.specs.Texts.{join_text}
use Rattle.mt_ops.specs.declared.error.ErrorKind.{ErrorKind}
use Rattle.mt_ops.specs.declared.error.ErrorKind.TheVariants as error
use Rattle.mt_tree.specs.Text.{units_of}
use Rattle.mt_value.specs.Names.{is_same}
use Rattle.mt_value.specs.declared.cell.Cell.{Cell}
use Rattle.mt_value.specs.declared.cell.Cell.TheVariants as cell
use Rattle.mt_value.specs.declared.cell.Property.{Property}
use Rattle.mt_value.specs.declared.value.Native.{Native}
use Rattle.mt_value.specs.declared.value.Native.TheVariants as builtin
use Rattle.mt_value.specs.declared.value.Value.{Value}
use Rattle.mt_value.specs.declared.value.Value.TheVariants as value

-- the builtin of that name doesn't take the argument
abbrev pub or_refused : {A : Type 0} → List ℕ → Option A → Result A ErrorKind
or_refused name (Some a) = Ok a
or_refused name None = Err (error.BadArgument name)

-- ---- called by their values

-- the text that stands for an argument, which is undefined where it is missing
abbrev pub text_of : List ℕ → Option Value → Result (List ℕ) ErrorKind
text_of name argument = or_refused name (join_text (given argument))

abbrev pub text_made : Result (List ℕ) ErrorKind → Result Made ErrorKind
text_made (Ok text) = Ok (made.Value (value.Text text))
text_made (Err e) = Err e

-- a number itself, or the number that a text writes
abbrev pub number_of : Option Value → Option ℤ
number_of (Some (value.Num n)) = Some n
number_of (Some (value.Text text)) = number_in text
number_of _ = None

abbrev pub number_made : Result ℤ ErrorKind → Result Made ErrorKind
number_made (Ok n) = Ok (made.Value (value.Num n))
number_made (Err e) = Err e

-- a text itself, and the empty text where the argument is missing
abbrev pub message_of : Option Value → Option (List ℕ)
message_of None = Some []
message_of (Some (value.Text message)) = Some message
message_of (Some _) = None

abbrev pub error_made : Result (List ℕ) ErrorKind → Result Made ErrorKind
error_made (Ok message) = Ok (made.Object (text_property (codes "name") (codes "Error") ∷ text_property (codes "message") message ∷ []))
error_made (Err e) = Err e

-- `String(v)`, `Number(v)` and `Error(m)`; nothing else is a function
unfoldable pub called : Native → Option Value → Result Made ErrorKind
called builtin.String argument = text_made (text_of (codes "String") argument)
called builtin.Number argument = number_made (or_refused (codes "Number") (number_of argument))
called builtin.Error argument = error_made (or_refused (codes "Error") (message_of argument))
called _ argument = Err error.NotFunction

abbrev pub native : Native → List Value → Result Made ErrorKind
native which arguments = called which (slice_get arguments 0)

-- ---- called as methods

abbrev pub of_object : List ℕ → Option MethodName
of_object key = if is_same key (codes "keys") then Some name.Keys else None

abbrev pub of_array : List ℕ → Option MethodName
of_array key = if is_same key (codes "isArray") then Some name.IsArray else None

-- the method of that name
unfoldable pub named : Value → List ℕ → Option MethodName
named (value.Native builtin.Object) key = of_object key
named (value.Native builtin.Array) key = of_array key
named _ key = None

abbrev pub properties_in : Option Cell → Option (List Property)
properties_in (Some (cell.Obj properties)) = Some properties
properties_in _ = None

-- the properties of an object
unfoldable pub properties_of : Option Value → List Cell → Option (List Property)
properties_of (Some (value.Obj at)) store = properties_in (slice_get store at)
properties_of _ store = None

-- the names of an object's properties, in the order of their making
abbrev pub names : List Property → List Value
names properties = map (λ p. value.Text p.name) properties

abbrev pub keys : Option (List Property) → Result Made ErrorKind
keys (Some properties) = Ok (made.Array (names properties))
keys None = Err (error.BadArgument (codes "Object.keys"))

abbrev pub is_array : Option Value → Bool
is_array (Some (value.Arr at)) = true
is_array _ = false

abbrev pub by_method : Option MethodName → List ℕ → Option Value → List Cell → Result Made ErrorKind
by_method (Some name.Keys) key argument store = keys (properties_of argument store)
by_method (Some name.IsArray) key argument store = Ok (made.Value (value.Bool (is_array argument)))
by_method None key argument store = Err (error.NoSuchProperty key)

unfoldable pub method : Value → List ℕ → List Value → List Cell → Result Made ErrorKind
method base key arguments store = by_method (named base key) key (slice_get arguments 0) store

-- ---- steps beside the one of the call's node

abbrev pub count : Option (List Property) → ℕ
count (Some properties) = length properties
count None = 0

-- `Object.keys` takes one for each name
abbrev pub cost_by : Option MethodName → Option Value → List Cell → ℕ
cost_by (Some name.Keys) argument store = count (properties_of argument store)
cost_by _ argument store = 0

unfoldable pub method_cost : Value → List ℕ → List Value → List Cell → ℕ
method_cost base key arguments store = cost_by (named base key) (slice_get arguments 0) store

-- the units of the text that is made for a value; a text itself isn't made anew
abbrev pub units_made : Value → ℕ
units_made (value.Text text) = 0
units_made v = units_in_text (join_text v)
  where
    units_in_text : Option (List ℕ) → ℕ
    units_in_text (Some text) = units_of text
    units_in_text None = 0

-- the steps for the text that is made for a value
abbrev pub text_cost : Value → ℕ
text_cost v = units_made v / 256
