-- Data are built the same on what is seen of a store.
use Rattle.std.proofs.Common.{◌≡◌, ℕ, List, [], ◌∷◌, ◌++◌, length, map, refl, sym, ap, ap₂, ◌∙◌, subst}
use Rattle.mt_eval_meaning.specs.States.{Numbered}
use Rattle.mt_eval_agreement.proofs.Keeps.{Keeps, keep_spend}
use Rattle.mt_eval_agreement.proofs.Views.{View, Sim, sim_bind, sim_on_state}
use Rattle.mt_eval_agreement.proofs.Stores.{SameFunctions, same_functions, functions_both, functions_added, seen_added, seen_length}
use Rattle.mt_eval_meaning.specs.Building.{Built, build, built_plain, built_all, built_array, built_object, data_step, entry_step}
use Rattle.mt_eval_meaning.specs.Expressions.{built, build_cells}
use Rattle.mt_eval_meaning.specs.Host.{seen}
use Rattle.mt_eval_meaning.specs.Runs.{gives}
use Rattle.mt_syntax.specs.DataLimits.{nodes_of_data}
use Rattle.mt_tree.specs.declared.data.Data.{Data, roll-Data}
use Rattle.mt_tree.specs.declared.data.Data.TheFolds.{fold-Entry, ind-Data, map-Data, map-Entry, fold-roll-Data, fold-roll-Entry}
use Rattle.mt_tree.specs.declared.data.Data.TheOpen.{Data-F, Entry-F}
use Rattle.mt_tree.specs.declared.data.Entry.{Entry, roll-Entry}
use Rattle.mt_value.specs.declared.cell.Cell.{Cell}
use Rattle.mt_value.specs.declared.cell.Cell.TheVariants as cell
use Rattle.mt_value.specs.declared.cell.Property.{Property}
use Rattle.mt_value.specs.declared.value.Value.{Value}
use Rattle.mt_value.specs.declared.value.Value.TheVariants as value

module _ (table : List Numbered) where
  pub record BuildsSame {A : Type 0} (b : Built A) : Type 0 where
    pub result : (store : List Cell) → (b (seen store)).0 ≡ (b store).0
    pub cells : (store : List Cell) → (b (seen store)).1 ≡ seen (b store).1
    pub functions : (store : List Cell) → SameFunctions table store (b store).1

  plain_same : {A : Type 0} (x : A) → BuildsSame (built_plain x)
  plain_same x = record { result = λ store. refl; cells = λ store. refl; functions = same_functions table }

  cons_same : {A : Type 0} (b : Built A) (bs : List (Built A)) → BuildsSame b → BuildsSame (built_all bs) → BuildsSame (built_all (b ∷ bs))
  cons_same {A = A} b bs h k = record {
    result = λ store. ap₂ (λ (x : A) (xs : List A). x ∷ xs) (h.result store) (ap (λ (z : List Cell). (built_all bs z).0) (h.cells store) ∙ k.result (b store).1);
    cells = λ store. ap (λ (z : List Cell). (built_all bs z).1) (h.cells store) ∙ k.cells (b store).1;
    functions = λ store. functions_both table store (b store).1 (built_all bs (b store).1).1 (h.functions store) (k.functions (b store).1);
  }

  array_same : (items : Built (List Value)) → BuildsSame items → BuildsSame (built_array items)
  array_same items h = record {
    result = λ store. ap (λ (z : List Cell). value.Arr (length z)) (h.cells store) ∙ ap value.Arr (seen_length (items store).1);
    cells = λ store. ap₂ (λ (z : List Cell) (vs : List Value). z ++ cell.Arr vs ∷ []) (h.cells store) (h.result store) ∙ sym (seen_added (items store).1 (cell.Arr (items store).0) tt);
    functions = λ store. functions_both table store (items store).1 ((items store).1 ++ cell.Arr (items store).0 ∷ []) (h.functions store) (functions_added table (items store).1 (cell.Arr (items store).0) tt);
  }

  object_same : (ps : Built (List Property)) → BuildsSame ps → BuildsSame (built_object ps)
  object_same ps h = record {
    result = λ store. ap (λ (z : List Cell). value.Obj (length z)) (h.cells store) ∙ ap value.Obj (seen_length (ps store).1);
    cells = λ store. ap₂ (λ (z : List Cell) (xs : List Property). z ++ cell.Obj xs ∷ []) (h.cells store) (h.result store) ∙ sym (seen_added (ps store).1 (cell.Obj (ps store).0) tt);
    functions = λ store. functions_both table store (ps store).1 ((ps store).1 ++ cell.Obj (ps store).0 ∷ []) (h.functions store) (functions_added table (ps store).1 (cell.Obj (ps store).0) tt);
  }

  named_same : (name : List ℕ) (v : Built Value) → BuildsSame v → BuildsSame (entry_step (record { name = name; value = v }))
  named_same name v h = record {
    result = λ store. ap (λ (w : Value). record { name = name; value = w }) (h.result store);
    cells = h.cells;
    functions = h.functions;
  }

  -- ---- by layers

  build_entry : Entry → Built Property
  build_entry = fold-Entry (Built Value) (Built Property) data_step entry_step

  abbrev IsBuiltSame : Data → Type 0
  IsBuiltSame d = BuildsSame (build d)

  abbrev IsEntryBuiltSame : Entry → Type 0
  IsEntryBuiltSame e = BuildsSame (build_entry e)

  abbrev SameData : Type 0
  SameData = (d : Data) × IsBuiltSame d

  abbrev SameEntry : Type 0
  SameEntry = (e : Entry) × IsEntryBuiltSame e

  items_same : (ds : List SameData) → BuildsSame (built_all (map build (map (λ (d : SameData). d.0) ds)))
  items_same [] = plain_same []
  items_same (d ∷ ds) = cons_same (build d.0) (map build (map (λ (d : SameData). d.0) ds)) d.1 (items_same ds)

  entries_same : (es : List SameEntry) → BuildsSame (built_all (map build_entry (map (λ (e : SameEntry). e.0) es)))
  entries_same [] = plain_same []
  entries_same (e ∷ es) = cons_same (build_entry e.0) (map build_entry (map (λ (e : SameEntry). e.0) es)) e.1 (entries_same es)

  layer_same : (x : Data-F Data Entry) → BuildsSame (data_step (map-Data Data Entry (Built Value) (Built Property) build build_entry x)) → IsBuiltSame (roll-Data x)
  unfolding build build_entry
  layer_same x h = subst (λ (b : Built Value). BuildsSame b) (sym (fold-roll-Data (Built Value) (Built Property) data_step entry_step x)) h

  by_layer : (y : Data-F SameData SameEntry) → IsBuiltSame (roll-Data (map-Data SameData SameEntry Data Entry (λ d. d.0) (λ e. e.0) y))
  by_layer Data-F.Undefined = layer_same Data-F.Undefined (plain_same value.Undefined)
  by_layer Data-F.Null = layer_same Data-F.Null (plain_same value.Null)
  by_layer (Data-F.Bool b) = layer_same (Data-F.Bool b) (plain_same (value.Bool b))
  by_layer (Data-F.Num n) = layer_same (Data-F.Num n) (plain_same (value.Num n))
  by_layer (Data-F.Text text) = layer_same (Data-F.Text text) (plain_same (value.Text text))
  by_layer (Data-F.Arr ds) = layer_same (Data-F.Arr (map (λ d. d.0) ds)) (array_same (built_all (map build (map (λ (d : SameData). d.0) ds))) (items_same ds))
  by_layer (Data-F.Obj es) = layer_same (Data-F.Obj (map (λ e. e.0) es)) (object_same (built_all (map build_entry (map (λ (e : SameEntry). e.0) es))) (entries_same es))
  by_layer (Data-F.Svc name) = layer_same (Data-F.Svc name) (plain_same (value.Svc name))

  entry_same : (x : Entry-F Data Entry) → IsBuiltSame x.value → IsEntryBuiltSame (roll-Entry x)
  unfolding build build_entry
  entry_same x h = subst (λ (b : Built Property). BuildsSame b) (sym (fold-roll-Entry (Built Value) (Built Property) data_step entry_step x)) (named_same x.name (build x.value) h)

  builds : (d : Data) → IsBuiltSame d
  builds = ind-Data IsBuiltSame IsEntryBuiltSame (λ x y is. subst (λ z. IsBuiltSame (roll-Data z)) is (by_layer y)) (λ x y is. subst (λ z. IsEntryBuiltSame (roll-Entry z)) is (entry_same (map-Entry SameData SameEntry Data Entry (λ d. d.0) (λ e. e.0) y) y.value.1))

  keep_build : (d : Data) → Keeps table (build_cells d)
  unfolding build_cells
  keep_build d = record {
    run = λ s. record {
      same = ap₂ (λ (v : Value) (cells : List Cell). gives v (record s { store = cells })) ((builds d).result s.store) ((builds d).cells s.store);
      functions = (builds d).functions s.store;
    };
  }

pub sim_built : {K L : Type 0} (through : View K L) (d : Data) → Sim through (built d) (built d)
unfolding built
sim_built through d = sim_bind through (sim_on_state through (keep_spend through.table (nodes_of_data d))) (λ _. sim_on_state through (keep_build through.table d))
