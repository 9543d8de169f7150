-- What building data leaves of a state.
use Rattle.std.proofs.Common.{◌≡◌, ℕ, suc, ◌+◌, ◌<◌, ◌≤◌, ◌^◌, Bool, true, ◌&&◌, List, [], ◌∷◌, ◌++◌, length, map, sum, refl, sym, ap, subst, ◌∙◌, arith}
use Rattle.std.specs.Prelude.{All, IsTrue}
use Rattle.std.specs.List.{list_all}
use Rattle.std.proofs.lemmas.Bool.{and_parts}
use Rattle.std.proofs.lemmas.List.{length-map}
use Rattle.std.proofs.lemmas.List.Sums.{sum_by-cons}
use Rattle.std.proofs.lemmas.List.Elements.{All-cons, All-nil, All-push, All-weaker}
use Rattle.mt_eval_keeps.specs.Growth.{Owning, GrewTo, OwnValue, FitsCell}
use Rattle.mt_eval_keeps.proofs.Runs.{same_cells, cells_then, Runs, runs_bind, good_less, Value'}
use Rattle.mt_eval_keeps.proofs.Steps.{Pays, added_grew, added_names, good_store, store_grew, runs_spend}
use Rattle.mt_eval_meaning.specs.Building.{Built, build, built_plain, built_all, built_array, built_object, data_step, entry_step}
use Rattle.mt_eval_meaning.specs.Expressions as forms
use Rattle.mt_eval_meaning.specs.State.{on_state}
use Rattle.mt_eval_meaning.specs.declared.state.State.{State}
use Rattle.mt_syntax.specs.Data.{are_property_names, data_step as step_of_data}
use Rattle.mt_syntax.specs.DataLimits.{entry_value_step, nodes_of_data, nodes_of_entry, nodes_step}
use Rattle.mt_tree.specs.declared.data.Data.{Data, roll-Data}
use Rattle.mt_tree.specs.declared.data.Data.TheFolds.{ind-Data, map-Data, map-Entry, fold-Entry, fold-roll-Data, fold-roll-Entry}
use Rattle.mt_tree.specs.declared.data.Data.TheOpen.{Data-F, Entry-F}
use Rattle.mt_tree.specs.declared.data.Entry.{Entry, roll-Entry}
use Rattle.mt_value.proofs.Laws.{lawful_added, value_kept, values_kept}
use Rattle.mt_value.specs.Lawful.{Keeps, LawfulValue, Lawful}
use Rattle.mt_value.specs.Limits.{data_fits, text_fits}
use Rattle.mt_value.specs.declared.cell.Cell.{Cell}
use Rattle.mt_value.specs.declared.cell.Cell.TheVariants as cell
use Rattle.mt_value.specs.declared.cell.Property.{Property}
use Rattle.mt_value.specs.declared.value.Value.{Value}
use Rattle.mt_value.specs.declared.value.Value.TheVariants as value

-- ---- the test of data, one level at a time

unfoldable build_entry : Entry → Built Property
build_entry = fold-Entry (Built Value) (Built Property) data_step entry_step

abbrev Tested : Type 0
Tested = List ℕ × Bool

abbrev fits_step : Data-F Bool Tested → Bool
fits_step (Data-F.Text text) = text_fits text
fits_step (Data-F.Svc name) = text_fits name
fits_step layer = step_of_data layer

abbrev tested_step : Entry-F Bool Tested → Tested
tested_step e = (e.name, text_fits e.name && e.value)

unfoldable tested : Entry → Tested
tested = fold-Entry Bool Tested fits_step tested_step

fits_level : (x : Data-F Data Entry) → data_fits (roll-Data x) ≡ fits_step (map-Data Data Entry Bool Tested data_fits tested x)
unfolding data_fits tested
fits_level x = fold-roll-Data Bool Tested fits_step tested_step x

tested_level : (x : Entry-F Data Entry) → tested (roll-Entry x) ≡ (x.name, text_fits x.name && data_fits x.value)
unfolding data_fits tested
tested_level x = fold-roll-Entry Bool Tested fits_step tested_step x

both : (a b : Bool) → a ≡ true → b ≡ true → (a && b) ≡ true
both a b first second = (λ i. first i && b) ∙ second

-- ---- what is built, of at most `m` nodes

module _ {H : Type 0} (owns : Owning H) (most : ℕ) (small : most < 2 ^ 53) where
  module _ (h : H) (n m : ℕ) (room : m + n ≤ most) where
    abbrev pub Q : Cell → Type 0
    Q = FitsCell owns most h n

    pub record Val (store : List Cell) (v : Value) : Type 0 where
      pub lawful : LawfulValue store v
      pub own : OwnValue owns h v

    val_kept : (old new : List Cell) → Keeps old new → (v : Value) → Val old v → Val new v
    val_kept old new k v f = record { lawful = value_kept old new k v f.lawful; own = f.own }

    pub record Stays {A : Type 0} (L : List Cell → A → Type 0) (store : List Cell) (built : A × List Cell) : Type 0 where
      pub grew : GrewTo store built.1
      pub lawful : Lawful built.1
      pub cells : All Q built.1
      pub value : L built.1 built.0

    abbrev pub Builds : {A : Type 0} → (List Cell → A → Type 0) → Built A → Type 0
    Builds L b = (store : List Cell) → Lawful store → All Q store → Stays L store (b store)

    plain_stays : {A : Type 0} (L : List Cell → A → Type 0) (a : A) → ((store : List Cell) → L store a) → Builds L (built_plain a)
    plain_stays L a k store lawful cells = record { grew = same_cells store; lawful = lawful; cells = cells; value = k store }

    record ItemsOf (k : ℕ) (store : List Cell) (vs : List Value) : Type 0 where
      pub values : All (Val store) vs
      pub count : length vs ≡ k

    record PropertyOf (name : List ℕ) (store : List Cell) (p : Property) : Type 0 where
      pub value : Val store p.value
      pub name-is : p.name ≡ name

    record PropertiesOf (names : List (List ℕ)) (store : List Cell) (ps : List Property) : Type 0 where
      pub values : All (λ p. Val store p.value) ps
      pub names-are : map (λ (p : Property). p.name) ps ≡ names

    items_cons : (k : ℕ) (b : Built Value) (bs : List (Built Value)) → Builds Val b → Builds (ItemsOf k) (built_all bs) → Builds (ItemsOf (suc k)) (built_all (b ∷ bs))
    items_cons k b bs f g store lawful cells =
        let first = f store lawful cells in
        let rest = g (b store).1 first.lawful first.cells in
        let end = (built_all bs (b store).1).1 in
        record {
          grew = cells_then store (b store).1 end first.grew rest.grew;
          lawful = rest.lawful;
          cells = rest.cells;
          value = record {
            values = All-cons (Val end) (b store).0 (built_all bs (b store).1).0 (val_kept (b store).1 end rest.grew.kinds (b store).0 first.value) rest.value.values;
            count = ap suc rest.value.count;
          };
        }

    array_stays : (k : ℕ) (items : Built (List Value)) → k ≤ m → Builds (ItemsOf k) items → Builds Val (built_array items)
    array_stays k items few f store lawful cells =
        let r = items store in
        let made = f store lawful cells in
        let c = cell.Arr r.0 in
        let added = added_grew r.1 (c ∷ []) in
        let count : length r.0 ≤ m = subst (λ j. j ≤ m) (sym made.value.count) few in
        record {
          grew = cells_then store r.1 (r.1 ++ c ∷ []) made.grew added;
          lawful = lawful_added r.1 c made.lawful (record { values = values_kept r.1 (r.1 ++ c ∷ []) added.kinds r.0 (All-weaker (Val r.1) (LawfulValue r.1) (λ v x. x.lawful) r.0 made.value.values); count = omega (arith, count, room, small) });
          cells = All-push Q r.1 c made.cells (record { own = All-weaker (Val r.1) (OwnValue owns h) (λ v x. x.own) r.0 made.value.values; room = omega (arith, count, room) });
          value = record { lawful = added_names r.1 c; own = tt };
        }

    properties_cons : (name : List ℕ) (names : List (List ℕ)) (b : Built Property) (bs : List (Built Property)) → Builds (PropertyOf name) b → Builds (PropertiesOf names) (built_all bs) → Builds (PropertiesOf (name ∷ names)) (built_all (b ∷ bs))
    properties_cons name names b bs f g store lawful cells =
        let first = f store lawful cells in
        let rest = g (b store).1 first.lawful first.cells in
        let end = (built_all bs (b store).1).1 in
        record {
          grew = cells_then store (b store).1 end first.grew rest.grew;
          lawful = rest.lawful;
          cells = rest.cells;
          value = record {
            values = All-cons (λ (p : Property). Val end p.value) (b store).0 (built_all bs (b store).1).0 (val_kept (b store).1 end rest.grew.kinds (b store).0.value first.value.value) rest.value.values;
            names-are = λ i. first.value.name-is i ∷ rest.value.names-are i;
          };
        }

    named_stays : (name : List ℕ) (v : Built Value) → Builds Val v → Builds (PropertyOf name) (entry_step (record { name = name; value = v }))
    named_stays name v f store lawful cells =
        let made = f store lawful cells in
        record { grew = made.grew; lawful = made.lawful; cells = made.cells; value = record { value = made.value; name-is = refl } }

    texts_fit : (ps : List Property) → list_all text_fits (map (λ (p : Property). p.name) ps) ≡ true → All (λ p. IsTrue (text_fits p.name)) ps
    texts_fit [] k = All-nil (λ (p : Property). IsTrue (text_fits p.name))
    texts_fit (p ∷ ps) k =
        let parts = and_parts (text_fits p.name) (list_all text_fits (map (λ (q : Property). q.name) ps)) k in
        All-cons (λ (q : Property). IsTrue (text_fits q.name)) p ps parts.0 (texts_fit ps parts.1)

    object_stays : (names : List (List ℕ)) (properties : Built (List Property)) → are_property_names names ≡ true → list_all text_fits names ≡ true → length names ≤ m → Builds (PropertiesOf names) properties → Builds Val (built_object properties)
    object_stays names properties good fit few f store lawful cells =
        let r = properties store in
        let made = f store lawful cells in
        let c = cell.Obj r.0 in
        let grown = r.1 ++ c ∷ [] in
        let added = added_grew r.1 (c ∷ []) in
        let count : length r.0 ≤ m = subst (λ j. j ≤ m) (sym (ap length made.value.names-are) ∙ length-map r.0 (λ (p : Property). p.name)) few in
        record {
          grew = cells_then store r.1 grown made.grew added;
          lawful = lawful_added r.1 c made.lawful (record {
            values = All-weaker (λ p. Val r.1 p.value) (λ p. LawfulValue grown p.value) (λ p x. value_kept r.1 grown added.kinds p.value x.lawful) r.0 made.value.values;
            texts = texts_fit r.0 (ap (list_all text_fits) made.value.names-are ∙ fit);
            names = ap are_property_names made.value.names-are ∙ good;
            count = omega (arith, count, room, small);
          });
          cells = All-push Q r.1 c made.cells (record { own = All-weaker (λ p. Val r.1 p.value) (λ p. OwnValue owns h p.value) (λ p x. x.own) r.0 made.value.values; room = omega (arith, count, room) });
          value = record { lawful = added_names r.1 c; own = tt };
        }

    -- ---- by induction

    abbrev IsKept : Data → Type 0
    IsKept d = (1 ≤ nodes_of_data d) × (IsTrue (data_fits d) → nodes_of_data d ≤ m → Builds Val (build d))

    record IsEntryKept (e : Entry) : Type 0 where
      pub some : 1 ≤ nodes_of_entry e
      pub name : IsTrue (tested e).1 → IsTrue (text_fits (tested e).0)
      pub kept : IsTrue (tested e).1 → nodes_of_entry e ≤ m → Builds (PropertyOf (tested e).0) (build_entry e)

    abbrev Keeping : Type 0
    Keeping = (d : Data) × IsKept d

    abbrev KeepingEntry : Type 0
    KeepingEntry = (e : Entry) × IsEntryKept e

    abbrev data_in : List Keeping → List Data
    data_in = map (λ (d : Keeping). d.0)

    abbrev entries_in : List KeepingEntry → List Entry
    entries_in = map (λ (e : KeepingEntry). e.0)

    items_kept : (ds : List Keeping) → list_all (λ b. b) (map data_fits (data_in ds)) ≡ true → sum (map nodes_of_data (data_in ds)) ≤ m → Builds (ItemsOf (length ds)) (built_all (map build (data_in ds)))
    items_kept [] fit few = plain_stays (ItemsOf 0) [] (λ store. record { values = All-nil (Val store); count = refl })
    items_kept (d ∷ ds) fit few =
        let parts = and_parts (data_fits d.0) (list_all (λ b. b) (map data_fits (data_in ds))) fit in
        items_cons (length ds) (build d.0) (map build (data_in ds)) (d.1.1 parts.0 (omega (arith, few, sum_by-cons (λ k. k) (nodes_of_data d.0) (map nodes_of_data (data_in ds))))) (items_kept ds parts.1 (omega (arith, few, sum_by-cons (λ k. k) (nodes_of_data d.0) (map nodes_of_data (data_in ds)))))

    fewer_items : (ds : List Keeping) → length ds ≤ sum (map nodes_of_data (data_in ds))
    fewer_items [] = omega arith
    fewer_items (d ∷ ds) = omega (arith, d.1.0, fewer_items ds, sum_by-cons (λ k. k) (nodes_of_data d.0) (map nodes_of_data (data_in ds)))

    abbrev names_of : List KeepingEntry → List (List ℕ)
    names_of es = map (λ (t : Tested). t.0) (map tested (entries_in es))

    entries_kept : (es : List KeepingEntry) → list_all (λ (t : Tested). t.1) (map tested (entries_in es)) ≡ true → sum (map nodes_of_entry (entries_in es)) ≤ m
        → Builds (PropertiesOf (names_of es)) (built_all (map build_entry (entries_in es)))
    entries_kept [] fit few = plain_stays (PropertiesOf []) [] (λ store. record { values = All-nil (λ (p : Property). Val store p.value); names-are = refl })
    entries_kept (e ∷ es) fit few =
        let parts = and_parts (tested e.0).1 (list_all (λ (t : Tested). t.1) (map tested (entries_in es))) fit in
        properties_cons (tested e.0).0 (names_of es) (build_entry e.0) (map build_entry (entries_in es)) (e.1.kept parts.0 (omega (arith, few, sum_by-cons (λ k. k) (nodes_of_entry e.0) (map nodes_of_entry (entries_in es))))) (entries_kept es parts.1 (omega (arith, few, sum_by-cons (λ k. k) (nodes_of_entry e.0) (map nodes_of_entry (entries_in es)))))

    fewer_entries : (es : List KeepingEntry) → length (names_of es) ≤ sum (map nodes_of_entry (entries_in es))
    fewer_entries [] = omega arith
    fewer_entries (e ∷ es) = omega (arith, e.1.some, fewer_entries es, sum_by-cons (λ k. k) (nodes_of_entry e.0) (map nodes_of_entry (entries_in es)))

    names_fit : (es : List KeepingEntry) → list_all (λ (t : Tested). t.1) (map tested (entries_in es)) ≡ true → list_all text_fits (names_of es) ≡ true
    names_fit [] fit = refl
    names_fit (e ∷ es) fit =
        let parts = and_parts (tested e.0).1 (list_all (λ (t : Tested). t.1) (map tested (entries_in es))) fit in
        both (text_fits (tested e.0).0) (list_all text_fits (names_of es)) (e.1.name parts.0) (names_fit es parts.1)

    layer_kept : (x : Data-F Data Entry) → 1 ≤ nodes_step (map-Data Data Entry ℕ ℕ nodes_of_data nodes_of_entry x)
        → (fits_step (map-Data Data Entry Bool Tested data_fits tested x) ≡ true → nodes_step (map-Data Data Entry ℕ ℕ nodes_of_data nodes_of_entry x) ≤ m → Builds Val (data_step (map-Data Data Entry (Built Value) (Built Property) build build_entry x)))
        → IsKept (roll-Data x)
    unfolding build build_entry
    layer_kept x some f =
        let count = fold-roll-Data ℕ ℕ nodes_step entry_value_step x in
        (subst (λ k. 1 ≤ k) (sym count) some, λ fit few. subst (λ (b : Built Value). Builds Val b) (sym (fold-roll-Data (Built Value) (Built Property) data_step entry_step x)) (f (sym (fits_level x) ∙ fit) (subst (λ k. k ≤ m) count few)))

    plain : (v : Value) → ((store : List Cell) → LawfulValue store v) → OwnValue owns h v → Builds Val (built_plain v)
    plain v l o = plain_stays Val v (λ store. record { lawful = l store; own = o })

    by_layer : (y : Data-F Keeping KeepingEntry) → IsKept (roll-Data (map-Data Keeping KeepingEntry Data Entry (λ d. d.0) (λ e. e.0) y))
    by_layer Data-F.Undefined = layer_kept Data-F.Undefined (omega arith) (λ fit few. plain value.Undefined (λ store. tt) tt)
    by_layer Data-F.Null = layer_kept Data-F.Null (omega arith) (λ fit few. plain value.Null (λ store. tt) tt)
    by_layer (Data-F.Bool b) = layer_kept (Data-F.Bool b) (omega arith) (λ fit few. plain (value.Bool b) (λ store. tt) tt)
    by_layer (Data-F.Num k) = layer_kept (Data-F.Num k) (omega arith) (λ fit few. plain (value.Num k) (λ store. fit) tt)
    by_layer (Data-F.Text text) = layer_kept (Data-F.Text text) (omega arith) (λ fit few. plain (value.Text text) (λ store. fit) tt)
    by_layer (Data-F.Arr ds) =
        layer_kept (Data-F.Arr (data_in ds)) (omega arith)
        (λ fit few. array_stays (length ds) (built_all (map build (data_in ds))) (omega (arith, few, fewer_items ds)) (items_kept ds fit (omega (arith, few))))
    by_layer (Data-F.Obj es) =
        layer_kept (Data-F.Obj (entries_in es)) (omega arith)
        (λ fit few.
        let parts = and_parts (are_property_names (names_of es)) (list_all (λ (t : Tested). t.1) (map tested (entries_in es))) fit in
        object_stays (names_of es) (built_all (map build_entry (entries_in es))) parts.0 (names_fit es parts.1) (omega (arith, few, fewer_entries es)) (entries_kept es parts.1 (omega (arith, few))))
    by_layer (Data-F.Svc name) = layer_kept (Data-F.Svc name) (omega arith) (λ fit few. plain (value.Svc name) (λ store. fit) tt)

    entry_kept : (x : Entry-F Data Entry) → IsKept x.value → IsEntryKept (roll-Entry x)
    unfolding build build_entry
    entry_kept x f =
        let count = fold-roll-Entry ℕ ℕ nodes_step entry_value_step x in
        let level = tested_level x in
        record {
          some = subst (λ k. 1 ≤ k) (sym count) f.0;
          name = λ fit. ap (λ (t : Tested). text_fits t.0) level ∙ (and_parts (text_fits x.name) (data_fits x.value) (ap (λ (t : Tested). t.1) (sym level) ∙ fit)).0;
          kept = λ fit few.
              subst (λ (b : Built Property). Builds (PropertyOf (tested (roll-Entry x)).0) b) (sym (fold-roll-Entry (Built Value) (Built Property) data_step entry_step x))
              (subst (λ name. Builds (PropertyOf name) (entry_step (record { name = x.name; value = build x.value }))) (ap (λ (t : Tested). t.0) (sym level))
              (named_stays x.name (build x.value) (f.1 (and_parts (text_fits x.name) (data_fits x.value) (ap (λ (t : Tested). t.1) (sym level) ∙ fit)).1 (subst (λ k. k ≤ m) count few))));
        }

    kept : (d : Data) → IsKept d
    kept = ind-Data IsKept IsEntryKept (λ x y is. subst (λ z. IsKept (roll-Data z)) is (by_layer y)) (λ x y is. subst (λ z. IsEntryKept (roll-Entry z)) is (entry_kept (map-Entry Keeping KeepingEntry Data Entry (λ d. d.0) (λ e. e.0) y) y.value.1))

    pub build_stays : (d : Data) → IsTrue (data_fits d) → nodes_of_data d ≤ m → Builds Val (build d)
    build_stays d = (kept d).1

  -- ---- a value in the place of a dollar

  cells_run : {first : State × H} (c : ℕ) (d : Data) → IsTrue (data_fits d) → Runs owns most first (suc (nodes_of_data d) + c) (suc c) (on_state (forms.build_cells d)) (Value' owns most)
  unfolding forms.build_cells
  cells_run c d fit = record {
    run = λ x s g good.
        let n = s.0.budget + (suc c + x) in
        let less : n ≤ s.0.budget + (suc (nodes_of_data d) + c + x) = omega arith in
        let low = good_less owns most (s.0.budget + (suc (nodes_of_data d) + c + x)) n s less good in
        let same : nodes_of_data d ≤ nodes_of_data d = omega arith in
        let k = build_stays s.1 n (nodes_of_data d) (omega (arith, good.room)) d fit same s.0.store good.store low.cells in
        record {
          good = good_store owns most (s.0.budget + (suc (nodes_of_data d) + c + x)) n s (build d s.0.store).1 less good k.grew k.lawful k.cells;
          grew = store_grew owns most s (build d s.0.store).1 k.grew;
          budget = omega arith;
          holds = record { lawful = k.value.lawful; own = k.value.own };
        };
  }

  pub built_pays : (d : Data) (first : State × H) → IsTrue (data_fits d) → Pays owns most (Value' owns most) first (forms.built d)
  unfolding forms.built
  built_pays d first fit = record { runs = λ c t g. runs_bind owns most (runs_spend owns most (suc (nodes_of_data d) + c) (nodes_of_data d) (omega arith)) (λ _ u f _. cells_run c d fit) }
