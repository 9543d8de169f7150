-- A walk reads of the store what a host sees.
use Rattle.std.proofs.Common.{◌≡◌, ℕ, zero, suc, ◌+◌, List, [], ◌∷◌, ◌++◌, map, Option, None, Some, refl, ap, ◌∙◌}
use Rattle.std.specs.Prelude.{Result, slice_get, sum}
use Rattle.std.specs.Option.{option_map}
use Rattle.std.proofs.lemmas.Option.{slice_get-map}
use Rattle.mt_eval_meaning.specs.Host.{seen, seen_cell}
use Rattle.mt_marshal.specs.Rules.{broken, bytes_of, items_in, name_bytes, properties_in}
use Rattle.mt_marshal.specs.Snapshot.{array, datum, enter, entry, inside, node, nothing, object, too_deep, unless, walked}
use Rattle.mt_marshal.specs.Walks.{Walk, ◌>>=◌, all, pure}
use Rattle.mt_marshal.specs.declared.counts.Counts.{Counts}
use Rattle.mt_marshal.specs.declared.refusal.Refused.{Refused}
use Rattle.mt_ops_methods.specs.Costs.{counted}
use Rattle.mt_tree.specs.declared.data.Data.{Data}
use Rattle.mt_tree.specs.declared.data.Data as «data»
use Rattle.mt_value.specs.declared.cell.Cell.{Cell}
use Rattle.mt_value.specs.declared.cell.Cell.TheVariants as cell
use Rattle.mt_value.specs.declared.value.Value.{Value}
use Rattle.mt_value.specs.declared.value.Value.TheVariants as value

seen_items_in : (c : Option Cell) → items_in (option_map seen_cell c) ≡ items_in c
seen_items_in None = refl
seen_items_in (Some (cell.Variable v)) = refl
seen_items_in (Some (cell.Arr items)) = refl
seen_items_in (Some (cell.Obj properties)) = refl
seen_items_in (Some (cell.Fun f)) = refl
seen_items_in (Some (cell.Frame f)) = refl
seen_items_in (Some (cell.Html h)) = refl
seen_items_in (Some (cell.Code c)) = refl

seen_properties_in : (c : Option Cell) → properties_in (option_map seen_cell c) ≡ properties_in c
seen_properties_in None = refl
seen_properties_in (Some (cell.Variable v)) = refl
seen_properties_in (Some (cell.Arr items)) = refl
seen_properties_in (Some (cell.Obj properties)) = refl
seen_properties_in (Some (cell.Fun f)) = refl
seen_properties_in (Some (cell.Frame f)) = refl
seen_properties_in (Some (cell.Html h)) = refl
seen_properties_in (Some (cell.Code c)) = refl

module _ (store : List Cell) where
  seen_items : (at : ℕ) → items_in (slice_get (seen store) at) ≡ items_in (slice_get store at)
  seen_items at = ap items_in (slice_get-map seen_cell store at) ∙ seen_items_in (slice_get store at)

  seen_properties : (at : ℕ) → properties_in (slice_get (seen store) at) ≡ properties_in (slice_get store at)
  seen_properties at = ap properties_in (slice_get-map seen_cell store at) ∙ seen_properties_in (slice_get store at)

  seen_bytes : (v : Value) → bytes_of (seen store) v ≡ bytes_of store v
  seen_bytes value.Undefined = refl
  seen_bytes value.Null = refl
  seen_bytes (value.Bool b) = refl
  seen_bytes (value.Num n) = refl
  seen_bytes (value.Text text) = refl
  seen_bytes (value.Arr at) = refl
  seen_bytes (value.Obj at) = ap (λ ps. sum (map name_bytes ps)) (seen_properties at)
  seen_bytes (value.Fun at) = refl
  seen_bytes (value.Svc name) = refl
  seen_bytes (value.Frame at) = refl
  seen_bytes (value.Html at) = refl
  seen_bytes (value.Code at) = refl
  seen_bytes (value.Node n) = refl
  seen_bytes (value.Event n) = refl
  seen_bytes (value.Native n) = refl

  abbrev entered : ℕ → List ℕ → Value → Counts → ℕ → Result (Unit {0} × Counts) Refused
  entered levels path v c bytes =
      let counts : Counts = record { nodes = counted (c.nodes + 1); bytes = counted (c.bytes + bytes) } in
      unless (broken levels path v counts) counts

  seen_enter : enter (seen store) ≡ enter store
  unfolding enter
  seen_enter = λ i levels path v c. entered levels path v c (seen_bytes v i)

  seen_node : node (seen store) ≡ node store
  unfolding node
  seen_node = λ i levels array object path v. seen_enter i levels path v >>= λ _. inside array object path v

  seen_array : (below : List ℕ → Value → Walk Data) → array (seen store) below ≡ array store below
  unfolding array
  seen_array below = λ i path at. all (map (below (path ++ at ∷ [])) (seen_items at i)) >>= λ items. pure («data».Arr items)

  seen_object : (below : List ℕ → Value → Walk Data) → object (seen store) below ≡ object store below
  unfolding object
  seen_object below = λ i path at. all (map (entry (below (path ++ at ∷ []))) (seen_properties at i)) >>= λ entries. pure («data».Obj entries)

  seen_datum : (levels : ℕ) → datum (seen store) levels ≡ datum store levels
  unfolding datum
  seen_datum zero = λ i. seen_node i zero too_deep too_deep
  seen_datum (suc levels) = λ i. seen_node i (suc levels) (seen_array (seen_datum levels i) i) (seen_object (seen_datum levels i) i)

  pub seen_walked : (values : List Value) → walked (seen store) values ≡ walked store values
  seen_walked values = λ i. all (map (seen_datum 40 i []) values) nothing
