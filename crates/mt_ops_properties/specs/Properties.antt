-- Reading and writing the properties of values.
use Rattle.std.specs.Prelude.{ℕ, List, Option, Some, Result, Ok, Err, slice_get, slice_set}
use Rattle.mt_ops.specs.Errors.{settled}
use Rattle.mt_ops.specs.declared.error.ErrorKind.{ErrorKind}
use Rattle.mt_ops.specs.declared.outcome.Outcome.{Outcome}
use Rattle.mt_ops.specs.declared.outcome.Outcome.TheVariants as outcome
use Rattle.mt_ops_properties.specs.Arrays.{array_property, array_written}
use Rattle.mt_ops_properties.specs.Keys.{no_such}
use Rattle.mt_ops_properties.specs.Objects.{object_property, object_written}
use Rattle.mt_ops_properties.specs.Texts.{text_property}
use Rattle.mt_value.specs.declared.cell.Cell.{Cell}
use Rattle.mt_value.specs.declared.cell.Cell.TheVariants as cell
use Rattle.mt_value.specs.declared.cell.Property.{Property}
use Rattle.mt_value.specs.declared.value.Value.{Value}
use Rattle.mt_value.specs.declared.value.Value.TheVariants as value

-- ---- reading

abbrev pub cell_property : Option Cell → Value → Result Value ErrorKind
cell_property (Some (cell.Arr items)) key = array_property items key
cell_property (Some (cell.Obj properties)) key = object_property properties key
cell_property _ key = no_such key

unfoldable pub property : List Cell → Value → Value → Result Value ErrorKind
property store (value.Text text) key = text_property text key
property store (value.Arr at) key = cell_property (slice_get store at) key
property store (value.Obj at) key = cell_property (slice_get store at) key
property store base key = no_such key

-- ---- writing

abbrev pub array_cell : Result (List Value) ErrorKind → Result Cell ErrorKind
array_cell (Ok items) = Ok (cell.Arr items)
array_cell (Err e) = Err e

abbrev pub object_cell : Result (List Property) ErrorKind → Result Cell ErrorKind
object_cell (Ok properties) = Ok (cell.Obj properties)
object_cell (Err e) = Err e

-- what a cell becomes
abbrev pub cell_written : Option Cell → Value → Value → Result Cell ErrorKind
cell_written (Some (cell.Arr items)) key v = array_cell (array_written items key v)
cell_written (Some (cell.Obj properties)) key v = object_cell (object_written properties key v)
cell_written _ key v = no_such key

-- the cell stands in the place of the old one
abbrev pub with_cell : List Cell → ℕ → Result Cell ErrorKind → Result (List Cell) ErrorKind
with_cell store at (Ok c) = Ok (slice_set store at c)
with_cell store at (Err e) = Err e

-- what a store becomes
unfoldable pub store_written : List Cell → Value → Value → Value → Result (List Cell) ErrorKind
store_written store (value.Arr at) key v = with_cell store at (cell_written (slice_get store at) key v)
store_written store (value.Obj at) key v = with_cell store at (cell_written (slice_get store at) key v)
store_written store base key v = no_such key

-- the answer is the value that was written
abbrev pub answered : Value → List Cell → Result (List Cell) ErrorKind → Outcome × List Cell
answered v store (Ok new) = (outcome.Value v, new)
answered v store (Err e) = settled (Err e) store

abbrev pub written : List Cell → Value → Value → Value → Outcome × List Cell
written store base key v = answered v store (store_written store base key v)
