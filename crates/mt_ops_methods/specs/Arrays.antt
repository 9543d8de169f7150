-- The methods of arrays, with the store after them.
use Rattle.std.specs.Prelude.{ℕ, ◌+◌, ◌-◌, pos, List, [], ◌∷◌, ◌++◌, length, take, Option, Some, Result, Ok, Err, slice_get, slice_set, slice_range, position}
use Rattle.mt_ops_methods.specs.Arguments.{given, range, place_number}
use Rattle.mt_ops_methods.specs.Joining.{join}
use Rattle.mt_ops_methods.specs.declared.name.MethodName.{MethodName}
use Rattle.mt_ops_methods.specs.declared.name.MethodName.TheVariants as name
use Rattle.mt_ops.specs.Equality.{same}
use Rattle.mt_ops.specs.Errors.{settled}
use Rattle.mt_ops.specs.declared.error.ErrorKind.{ErrorKind}
use Rattle.mt_ops.specs.declared.error.ErrorKind.TheVariants as error
use Rattle.mt_ops.specs.declared.outcome.Outcome.{Outcome}
use Rattle.mt_ops.specs.declared.outcome.Outcome.TheVariants as outcome
use Rattle.mt_value.specs.declared.cell.Cell.{Cell}
use Rattle.mt_value.specs.declared.cell.Cell.TheVariants as cell
use Rattle.mt_value.specs.declared.value.Value.{Value}
use Rattle.mt_value.specs.declared.value.Value.TheVariants as value

-- a value goes behind the items; the answer is their new number
abbrev pub pushed : List Value → Value → ℕ → List Cell → Outcome × List Cell
pushed items v at store = (outcome.Value (value.Num (pos (length items + 1))), slice_set store at (cell.Arr (items ++ v ∷ [])))

-- the last item is taken out, and is the answer; undefined where there is none
abbrev pub popped : List Value → ℕ → List Cell → Outcome × List Cell
popped items at store =
    (outcome.Value (given (slice_get items (length items - 1))), slice_set store at (cell.Arr (take (length items - 1) items)))

-- the items from one place to another
abbrev pub part : List Value → Result (ℕ × ℕ) ErrorKind → Result (List Value) ErrorKind
part items (Ok p) = Ok (slice_range items p.0 p.1)
part items (Err e) = Err e

-- a new array with these items goes last into the store
abbrev pub made : Result (List Value) ErrorKind → List Cell → Outcome × List Cell
made (Ok items) store = (outcome.Value (value.Arr (length store)), store ++ cell.Arr items ∷ [])
made (Err e) store = settled (Err e) store

-- the first place of an item that is the same as the value
unfoldable pub place : List Value → Value → Value
place items v = place_number (position (λ item. same item v) items)

-- ---- the same of a cell, which has no such property where it is no array

unfoldable pub part_at : Option Cell → List ℕ → Option Value → Option Value → Result (List Value) ErrorKind
part_at (Some (cell.Arr items)) key from to = part items (range (length items) from to)
part_at _ key from to = Err (error.NoSuchProperty key)

unfoldable pub pushed_at : Option Cell → List ℕ → Value → ℕ → List Cell → Outcome × List Cell
pushed_at (Some (cell.Arr items)) key v at store = pushed items v at store
pushed_at _ key v at store = settled (Err (error.NoSuchProperty key)) store

unfoldable pub popped_at : Option Cell → List ℕ → ℕ → List Cell → Outcome × List Cell
popped_at (Some (cell.Arr items)) key at store = popped items at store
popped_at _ key at store = settled (Err (error.NoSuchProperty key)) store

-- the methods that leave the store as it is
unfoldable pub value_at : Option Cell → Option MethodName → List ℕ → Option Value → Result Value ErrorKind
value_at (Some (cell.Arr items)) (Some name.IndexOf) key argument = Ok (place items (given argument))
value_at (Some (cell.Arr items)) (Some name.Join) key argument = join items argument
value_at _ _ key argument = Err (error.NoSuchProperty key)

-- a method of the array in a cell; a key that names none is no property
unfoldable pub array_method : Option MethodName → ℕ → List ℕ → List Value → List Cell → Outcome × List Cell
array_method (Some name.Slice) at key arguments store = made (part_at (slice_get store at) key (slice_get arguments 0) (slice_get arguments 1)) store
array_method (Some name.Push) at key arguments store = pushed_at (slice_get store at) key (given (slice_get arguments 0)) at store
array_method (Some name.Pop) at key arguments store = popped_at (slice_get store at) key at store
array_method method at key arguments store = settled (value_at (slice_get store at) method key (slice_get arguments 0)) store
