-- Fresh cells for data. The cell of an array or an object stands behind those of its items and values.
use Rattle.std.specs.Prelude.{List, [], ◌∷◌, ◌++◌, length}
use Rattle.mt_tree.specs.declared.data.Data.{Data}
use Rattle.mt_tree.specs.declared.data.Data.TheOpen.{Data-F, Entry-F}
use Rattle.mt_tree.specs.declared.data.Data.TheFolds.{fold-Data}
use Rattle.mt_value.specs.declared.cell.Cell.{Cell}
use Rattle.mt_value.specs.declared.cell.Cell.TheVariants as cell
use Rattle.mt_value.specs.declared.cell.Property.{Property}
use Rattle.mt_value.specs.declared.value.Value.{Value}
use Rattle.mt_value.specs.declared.value.Value.TheVariants as value

-- a result, with the store after it
abbrev pub Built : Type 0 → Type 0
Built A = List Cell → A × List Cell

abbrev pub built_plain : {A : Type 0} → A → Built A
built_plain a store = (a, store)

abbrev pub built_all : {A : Type 0} → List (Built A) → Built (List A)
built_all [] store = ([], store)
built_all (b ∷ bs) store =
    let first = b store in
    let rest = built_all bs first.1 in
    (first.0 ∷ rest.0, rest.1)

abbrev pub built_array : Built (List Value) → Built Value
built_array items store = let r = items store in (value.Arr (length r.1), r.1 ++ cell.Arr r.0 ∷ [])

abbrev pub built_object : Built (List Property) → Built Value
built_object properties store = let r = properties store in (value.Obj (length r.1), r.1 ++ cell.Obj r.0 ∷ [])

abbrev pub data_step : Data-F (Built Value) (Built Property) → Built Value
data_step Data-F.Undefined = built_plain value.Undefined
data_step Data-F.Null = built_plain value.Null
data_step (Data-F.Bool b) = built_plain (value.Bool b)
data_step (Data-F.Num n) = built_plain (value.Num n)
data_step (Data-F.Text text) = built_plain (value.Text text)
data_step (Data-F.Arr items) = built_array (built_all items)
data_step (Data-F.Obj entries) = built_object (built_all entries)
data_step (Data-F.Svc name) = built_plain (value.Svc name)

abbrev pub entry_step : Entry-F (Built Value) (Built Property) → Built Property
entry_step e store = let r = e.value store in (record { name = e.name; value = r.0 }, r.1)

unfoldable pub build : Data → Built Value
build = fold-Data (Built Value) (Built Property) data_step entry_step
