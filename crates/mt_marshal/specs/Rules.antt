-- The rules of marshalling, by what a node is, by where it stands and by what was counted.
use Rattle.std.specs.Prelude.{ℕ, ◌+◌, ◌==◌, ◌&&◌, ◌||◌, nat_lt, if◌then◌else◌, Bool, true, false, List, [], map, sum, Option, None, Some, slice_get}
use Rattle.std.specs.List.{list_any}
use Rattle.mt_marshal.specs.declared.counts.Counts.{Counts}
use Rattle.mt_marshal.specs.declared.rule.MarshalRule.{MarshalRule}
use Rattle.mt_marshal.specs.declared.rule.MarshalRule.TheVariants as rule
use Rattle.mt_ops_methods.specs.Costs.{counted}
use Rattle.mt_syntax.specs.DataLimits.{text_bytes}
use Rattle.mt_value.specs.declared.cell.Cell.{Cell}
use Rattle.mt_value.specs.declared.cell.Cell.TheVariants as cell
use Rattle.mt_value.specs.declared.cell.Property.{Property}
use Rattle.mt_value.specs.declared.value.Value.{Value}
use Rattle.mt_value.specs.declared.value.Value.TheVariants as value
use Rattle.mt_tree.specs.Limits.{data_node_limit, data_byte_limit}

abbrev pub number_of : MarshalRule → ℕ
number_of rule.M1 = 1
number_of rule.M2 = 2
number_of rule.M3 = 3
number_of rule.M4 = 4
number_of rule.M5 = 5
number_of rule.M6 = 6

-- ---- what a node is

abbrev pub is_callable : Value → Bool
is_callable (value.Fun at) = true
is_callable (value.Native n) = true
is_callable _ = false

abbrev pub is_html : Value → Bool
is_html (value.Html at) = true
is_html _ = false

-- client code, a call of a service, a node of the document or an event
abbrev pub is_opaque : Value → Bool
is_opaque (value.Code at) = true
is_opaque (value.Frame at) = true
is_opaque (value.Node n) = true
is_opaque (value.Event n) = true
is_opaque _ = false

abbrev pub is_nested : Value → Bool
is_nested (value.Arr at) = true
is_nested (value.Obj at) = true
is_nested _ = false

abbrev pub stands_on : List ℕ → Value → Bool
stands_on path (value.Arr at) = list_any (λ p. p == at) path
stands_on path (value.Obj at) = list_any (λ p. p == at) path
stands_on path _ = false

-- ---- what stands in a cell

abbrev pub items_in : Option Cell → List Value
items_in (Some (cell.Arr items)) = items
items_in _ = []

abbrev pub properties_in : Option Cell → List Property
properties_in (Some (cell.Obj properties)) = properties
properties_in _ = []

-- ---- what is counted

abbrev pub name_bytes : Property → ℕ
name_bytes p = text_bytes p.name

-- an object's names count when the object is met
abbrev pub bytes_of : List Cell → Value → ℕ
bytes_of store (value.Text text) = text_bytes text
bytes_of store (value.Svc name) = text_bytes name
bytes_of store (value.Obj at) = sum (map name_bytes (properties_in (slice_get store at)))
bytes_of store _ = 0

-- A node more is met. A count stays at the last value of its type, which is far above the limits.
abbrev pub met : List Cell → Value → Counts → Counts
met store v c = record { nodes = counted (c.nodes + 1); bytes = counted (c.bytes + bytes_of store v) }

-- ---- the first rule that a node breaks, with what was counted up to it and for it. The path has the addresses of the arrays and objects
-- in which the node stands, and `levels` more of them may stand in one another.

abbrev pub broken : ℕ → List ℕ → Value → Counts → Option MarshalRule
broken levels path v c =
    if is_callable v then Some rule.M1 else
    if is_html v then Some rule.M2 else
    if is_opaque v then Some rule.M3 else
    if stands_on path v then Some rule.M4 else
    if (is_nested v && (levels == 0)) || nat_lt data_node_limit c.nodes then Some rule.M5 else
    if nat_lt data_byte_limit c.bytes then Some rule.M6 else
    None
