-- What a call of a method costs.
use Rattle.std.specs.Prelude.{ℕ, ◌+◌, ◌-◌, ◌/◌, ◌^◌, min, List, length, sum, map, Option, Some, Result, Ok, Err, if◌then◌else◌, slice_get}
use Rattle.std.specs.List.{list_all}
use Rattle.mt_ops_methods.specs.Arguments.{named, range}
use Rattle.mt_ops_methods.specs.Joining.{is_shown, joined}
use Rattle.mt_ops_methods.specs.declared.cost.Work.{Work}
use Rattle.mt_ops_methods.specs.declared.name.MethodName.{MethodName}
use Rattle.mt_ops_methods.specs.declared.name.MethodName.TheVariants as name
use Rattle.mt_ops.specs.declared.error.ErrorKind.{ErrorKind}
use Rattle.mt_tree.specs.Text.{units_of}
use Rattle.mt_value.specs.declared.cell.Cell.{Cell}
use Rattle.mt_value.specs.declared.cell.Cell.TheVariants as cell
use Rattle.mt_value.specs.declared.value.Value.{Value}
use Rattle.mt_value.specs.declared.value.Value.TheVariants as value

-- a count stays at the last value of its type
abbrev pub counted : ℕ → ℕ
counted n = min n (2 ^ 64 - 1)

abbrev pub work : ℕ → ℕ → Work
work units items = record { units = counted units; items = items }

abbrev pub steps : Work → ℕ
steps w = counted (w.units / 256 + w.items)

-- ---- texts: a search or a cut works through the whole text, and not at all where the arguments are refused

abbrev pub cut_work : List ℕ → Result (ℕ × ℕ) ErrorKind → Work
cut_work text (Ok p) = work (units_of text) 0
cut_work text (Err e) = work 0 0

abbrev pub search_work : List ℕ → Option Value → Work
search_work text (Some (value.Text sought)) = work (units_of text) 0
search_work text _ = work 0 0

unfoldable pub text_work : List ℕ → Option MethodName → List Value → Work
text_work text (Some name.Slice) arguments = cut_work text (range (units_of text) (slice_get arguments 0) (slice_get arguments 1))
text_work text (Some name.IndexOf) arguments = search_work text (slice_get arguments 0)
text_work text _ arguments = work 0 0

-- ---- arrays

abbrev pub part_work : List Value → Result (ℕ × ℕ) ErrorKind → Work
part_work items (Ok p) = work 0 (length items)
part_work items (Err e) = work 0 0

-- the units of both texts of a pair
abbrev pub pair_units : ℕ → Value → ℕ
pair_units units (value.Text text) = units_of text + units
pair_units units _ = 0

-- a text is compared with each item that is a text
abbrev pub compared : List Value → Option Value → ℕ
compared items (Some (value.Text sought)) = sum (map (pair_units (units_of sought)) items)
compared items _ = 0

-- a joined text counts as made where it is too long too; where an item has no text none is made
unfoldable pub join_work : List Value → Option Value → Work
join_work items (Some (value.Text separator)) = if list_all is_shown items then work (units_of (joined separator items)) (length items) else work 0 (length items)
join_work items _ = work 0 0

unfoldable pub array_work : Option Cell → Option MethodName → List Value → Work
array_work (Some (cell.Arr items)) (Some name.Slice) arguments = part_work items (range (length items) (slice_get arguments 0) (slice_get arguments 1))
array_work (Some (cell.Arr items)) (Some name.IndexOf) arguments = work (compared items (slice_get arguments 0)) (length items)
array_work (Some (cell.Arr items)) (Some name.Join) arguments = join_work items (slice_get arguments 0)
array_work _ _ arguments = work 0 0

unfoldable pub method_work : Value → List ℕ → List Value → List Cell → Work
method_work (value.Text text) key arguments store = text_work text (named key) arguments
method_work (value.Arr at) key arguments store = array_work (slice_get store at) (named key) arguments
method_work _ key arguments store = work 0 0

-- a step for each 256 units, and one for each item
unfoldable pub method_cost : Value → List ℕ → List Value → List Cell → ℕ
method_cost base key arguments store = steps (method_work base key arguments store)
