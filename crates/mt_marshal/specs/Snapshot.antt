-- Snapshots: a list of values as data, or the first rule of marshalling that is broken. The values are walked in order and depth first.
-- One list has one count of nodes and one of bytes. Depth and path are those of each value of the list.
use Rattle.std.specs.Prelude.{ℕ, zero, suc, List, [], ◌∷◌, ◌++◌, map, Option, None, Some, Result, Ok, Err, slice_get}
use Rattle.mt_marshal.specs.Rules.{broken, items_in, met, properties_in}
use Rattle.mt_marshal.specs.Walks.{Walk, ◌>>=◌, pure, all}
use Rattle.mt_marshal.specs.declared.counts.Counts.{Counts}
use Rattle.mt_marshal.specs.declared.refusal.Refused.{Refused}
use Rattle.mt_marshal.specs.declared.refusal.Refused.TheVariants as refused
use Rattle.mt_marshal.specs.declared.rule.MarshalRule.{MarshalRule}
use Rattle.mt_marshal.specs.declared.rule.MarshalRule.TheVariants as rule
use Rattle.mt_tree.specs.declared.data.Data.{Data}
use Rattle.mt_tree.specs.declared.data.Data as «data»
use Rattle.mt_tree.specs.declared.data.Entry.{Entry}
use Rattle.mt_value.specs.declared.cell.Cell.{Cell}
use Rattle.mt_value.specs.declared.cell.Property.{Property}
use Rattle.mt_value.specs.declared.value.Value.{Value}
use Rattle.mt_value.specs.declared.value.Value.TheVariants as value

abbrev pub refuse : {A : Type 0} → MarshalRule → Walk A
refuse r c = Err (refused.Rule r c.nodes c.bytes)

abbrev pub unless : Option MarshalRule → Walk (Unit {0})
unless None = pure tt
unless (Some r) = refuse r

-- a value that has no parts
abbrev pub plain : Value → Data
plain value.Null = «data».Null
plain (value.Bool b) = «data».Bool b
plain (value.Num n) = «data».Num n
plain (value.Text text) = «data».Text text
plain (value.Svc name) = «data».Svc name
plain _ = «data».Undefined

-- what stands at an address, where nothing in it stands at an address of the path
abbrev pub At : Type 0
At = List ℕ → ℕ → Walk Data

-- where no array and no object may stand any more
abbrev pub too_deep : At
too_deep path at = refuse rule.M5

-- a value that breaks no rule
abbrev pub inside : At → At → List ℕ → Value → Walk Data
inside array object path (value.Arr at) = array path at
inside array object path (value.Obj at) = object path at
inside array object path v = pure (plain v)

-- an entry, by what its value walks to
unfoldable pub entry : (Value → Walk Data) → Property → Walk Entry
entry walk p = walk p.value >>= λ d. pure (record { name = p.name; value = d })

module _ (store : List Cell) where
  -- a value is counted, and then the rules are tried
  unfoldable pub enter : ℕ → List ℕ → Value → Walk (Unit {0})
  enter levels path v = λ c. let counts = met store v c in unless (broken levels path v counts) counts

  unfoldable pub node : ℕ → At → At → List ℕ → Value → Walk Data
  node levels array object path v = enter levels path v >>= λ _. inside array object path v

  module _ (below : List ℕ → Value → Walk Data) where
    unfoldable pub array : At
    array path at = all (map (below (path ++ at ∷ [])) (items_in (slice_get store at))) >>= λ items. pure («data».Arr items)

    unfoldable pub object : At
    object path at = all (map (entry (below (path ++ at ∷ []))) (properties_in (slice_get store at))) >>= λ entries. pure («data».Obj entries)

  -- a value, in which that many arrays and objects may stand in one another
  unfoldable pub datum : ℕ → List ℕ → Value → Walk Data
  datum zero = node zero too_deep too_deep
  datum (suc levels) = node (suc levels) (array (datum levels)) (object (datum levels))

  -- the same of what stands at an address
  unfoldable pub array_at : ℕ → At
  array_at zero = too_deep
  array_at (suc levels) = array (datum levels)

  unfoldable pub object_at : ℕ → At
  object_at zero = too_deep
  object_at (suc levels) = object (datum levels)

abbrev pub data_alone : Result (List Data × Counts) Refused → Result (List Data) Refused
data_alone (Ok r) = Ok r.0
data_alone (Err e) = Err e

abbrev pub nothing : Counts
nothing = record { nodes = 0; bytes = 0 }

-- the data of the values, with what was counted
abbrev pub walked : List Cell → List Value → Result (List Data × Counts) Refused
walked store values = all (map (datum store 40 []) values) nothing

unfoldable pub snap : List Cell → List Value → Result (List Data) Refused
snap store values = data_alone (walked store values)
