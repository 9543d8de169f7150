-- What building data keeps of a lawful store.
use Rattle.std.proofs.Common.{◌≡◌, ℕ, suc, ◌<◌, ◌≤◌, ◌^◌, Bool, true, ◌&&◌, List, [], ◌∷◌, ◌++◌, length, map, sum, refl, sym, ap, subst, ◌∙◌, arith}
use Rattle.std.specs.Prelude.{All, IsTrue}
use Rattle.std.specs.List.{list_all}
use Rattle.std.proofs.lemmas.Bool.{and_parts}
use Rattle.std.proofs.lemmas.List.{length-map}
use Rattle.std.proofs.lemmas.List.Sums.{sum_by-cons}
use Rattle.std.proofs.lemmas.List.Elements.{All-cons, All-nil, All-weaker}
use Rattle.mt_eval_steps.specs.Entries.{build_entry}
use Rattle.mt_marshal.proofs.Parts.{Tested, fits_level, fits_step, tested, tested_level}
use Rattle.mt_marshal.specs.Lawful.{Stays}
use Rattle.mt_eval_meaning.specs.Building.{Built, build, built_plain, built_all, built_array, built_object, data_step, entry_step}
use Rattle.mt_syntax.specs.Data.{are_property_names}
use Rattle.mt_syntax.specs.DataLimits.{entry_value_step, nodes_of_data, nodes_of_entry, nodes_step}
use Rattle.mt_tree.specs.declared.data.Data.{Data, roll-Data}
use Rattle.mt_tree.specs.declared.data.Data.TheFolds.{ind-Data, map-Data, map-Entry, fold-roll-Data, fold-roll-Entry}
use Rattle.mt_tree.specs.declared.data.Data.TheOpen.{Data-F, Entry-F}
use Rattle.mt_tree.specs.declared.data.Entry.{Entry, roll-Entry}
use Rattle.mt_value.proofs.Laws.{keeps_added, keeps_all, lawful_added, value_kept, values_kept}
use Rattle.mt_value.specs.Lawful.{kind_of, Names, LawfulValue, Lawful}
use Rattle.mt_value.specs.Limits.{data_fits, text_fits}
use Rattle.mt_value.specs.declared.cell.Cell.{Cell}
use Rattle.mt_value.specs.declared.cell.Cell.TheVariants as cell
use Rattle.mt_value.specs.declared.cell.Property.{Property}
use Rattle.mt_value.specs.declared.value.Value.{Value}
use Rattle.mt_value.specs.declared.value.Value.TheVariants as value

both : (a b : Bool) → a ≡ true → b ≡ true → (a && b) ≡ true
both a b first second = (λ i. first i && b) ∙ second

-- ---- what is built on a lawful store

abbrev Builds : {A : Type 0} → (List Cell → A → Type 0) → Built A → Type 0
Builds L b = (store : List Cell) → Lawful store → Stays L store (b store)

plain_stays : {A : Type 0} (L : List Cell → A → Type 0) (a : A) → ((store : List Cell) → L store a) → Builds L (built_plain a)
plain_stays L a h store lawful = record { keeps = λ kind at named. named; lawful = lawful; value = h store }

pub names_last : (store : List Cell) (c : Cell) → Names (store ++ c ∷ []) (kind_of c) (length store)
names_last [] c = refl
names_last (first ∷ store) c = names_last store c

record ItemsOf (n : ℕ) (store : List Cell) (vs : List Value) : Type 0 where
  pub values : All (LawfulValue store) vs
  pub count : length vs ≡ n

record PropertyOf (name : List ℕ) (store : List Cell) (p : Property) : Type 0 where
  pub value : LawfulValue store p.value
  pub name-is : p.name ≡ name

record PropertiesOf (names : List (List ℕ)) (store : List Cell) (ps : List Property) : Type 0 where
  pub values : All (λ p. LawfulValue store p.value) ps
  pub names-are : map (λ (p : Property). p.name) ps ≡ names

items_none : Builds (ItemsOf 0) (built_plain [])
items_none = plain_stays (ItemsOf 0) [] (λ store. record { values = All-nil (LawfulValue store); count = refl })

items_cons : (n : ℕ) (b : Built Value) (bs : List (Built Value)) → Builds LawfulValue b → Builds (ItemsOf n) (built_all bs) → Builds (ItemsOf (suc n)) (built_all (b ∷ bs))
items_cons n b bs h k store lawful =
    let first = h store lawful in
    let rest = k (b store).1 first.lawful in
    let end = (built_all bs (b store).1).1 in
    record {
      keeps = keeps_all store (b store).1 end first.keeps rest.keeps;
      lawful = rest.lawful;
      value = record {
        values = All-cons (LawfulValue end) (b store).0 (built_all bs (b store).1).0 (value_kept (b store).1 end rest.keeps (b store).0 first.value) rest.value.values;
        count = ap suc rest.value.count;
      };
    }

array_stays : (n : ℕ) (items : Built (List Value)) → n < 2 ^ 53 → Builds (ItemsOf n) items → Builds LawfulValue (built_array items)
array_stays n items few h store lawful =
    let r = items store in
    let made = h store lawful in
    let c = cell.Arr r.0 in
    let added = keeps_added r.1 (c ∷ []) in
    record {
      keeps = keeps_all store r.1 (r.1 ++ c ∷ []) made.keeps added;
      lawful = lawful_added r.1 c made.lawful (record { values = values_kept r.1 (r.1 ++ c ∷ []) added r.0 made.value.values; count = subst (λ k. k < 2 ^ 53) (sym made.value.count) few });
      value = names_last r.1 c;
    }

properties_none : Builds (PropertiesOf []) (built_plain [])
properties_none = plain_stays (PropertiesOf []) [] (λ store. record { values = All-nil (λ (p : Property). LawfulValue store p.value); names-are = refl })

properties_cons : (name : List ℕ) (names : List (List ℕ)) (b : Built Property) (bs : List (Built Property)) → Builds (PropertyOf name) b → Builds (PropertiesOf names) (built_all bs) → Builds (PropertiesOf (name ∷ names)) (built_all (b ∷ bs))
properties_cons name names b bs h k store lawful =
    let first = h store lawful in
    let rest = k (b store).1 first.lawful in
    let end = (built_all bs (b store).1).1 in
    record {
      keeps = keeps_all store (b store).1 end first.keeps rest.keeps;
      lawful = rest.lawful;
      value = record {
        values = All-cons (λ (p : Property). LawfulValue end p.value) (b store).0 (built_all bs (b store).1).0 (value_kept (b store).1 end rest.keeps (b store).0.value first.value.value) rest.value.values;
        names-are = λ i. first.value.name-is i ∷ rest.value.names-are i;
      };
    }

named_stays : (name : List ℕ) (v : Built Value) → Builds LawfulValue v → Builds (PropertyOf name) (entry_step (record { name = name; value = v }))
named_stays name v h store lawful =
    let made = h store lawful in
    record { keeps = made.keeps; lawful = made.lawful; value = record { value = made.value; name-is = refl } }

texts_fit : (ps : List Property) → list_all text_fits (map (λ (p : Property). p.name) ps) ≡ true → All (λ p. IsTrue (text_fits p.name)) ps
texts_fit [] h = All-nil (λ (p : Property). IsTrue (text_fits p.name))
texts_fit (p ∷ ps) h =
    let parts = and_parts (text_fits p.name) (list_all text_fits (map (λ (q : Property). q.name) ps)) h in
    All-cons (λ (q : Property). IsTrue (text_fits q.name)) p ps parts.0 (texts_fit ps parts.1)

object_stays : (names : List (List ℕ)) (properties : Built (List Property)) → are_property_names names ≡ true → list_all text_fits names ≡ true → length names < 2 ^ 53 → Builds (PropertiesOf names) properties → Builds LawfulValue (built_object properties)
object_stays names properties good fit few h store lawful =
    let r = properties store in
    let made = h store lawful in
    let c = cell.Obj r.0 in
    let grown = r.1 ++ c ∷ [] in
    let added = keeps_added r.1 (c ∷ []) in
    record {
      keeps = keeps_all store r.1 grown made.keeps added;
      lawful = lawful_added r.1 c made.lawful (record {
        values = All-weaker (λ p. LawfulValue r.1 p.value) (λ p. LawfulValue grown p.value) (λ p. value_kept r.1 grown added p.value) r.0 made.value.values;
        texts = texts_fit r.0 (ap (list_all text_fits) made.value.names-are ∙ fit);
        names = ap are_property_names made.value.names-are ∙ good;
        count = subst (λ k. k < 2 ^ 53) (sym (ap length made.value.names-are) ∙ length-map r.0 (λ (p : Property). p.name)) few;
      });
      value = names_last r.1 c;
    }

-- ---- by induction

abbrev IsKept : Data → Type 0
IsKept d = (1 ≤ nodes_of_data d) × (IsTrue (data_fits d) → nodes_of_data d < 2 ^ 53 → Builds LawfulValue (build d))

record IsEntryKept (e : Entry) : Type 0 where
  pub some : 1 ≤ nodes_of_entry e
  pub name : IsTrue (tested e).1 → IsTrue (text_fits (tested e).0)
  pub kept : IsTrue (tested e).1 → nodes_of_entry e < 2 ^ 53 → Builds (PropertyOf (tested e).0) (build_entry e)

abbrev Keeping : Type 0
Keeping = (d : Data) × IsKept d

abbrev KeepingEntry : Type 0
KeepingEntry = (e : Entry) × IsEntryKept e

abbrev data_in : List Keeping → List Data
data_in = map (λ (d : Keeping). d.0)

abbrev entries_in : List KeepingEntry → List Entry
entries_in = map (λ (e : KeepingEntry). e.0)

items_kept : (ds : List Keeping) → list_all (λ b. b) (map data_fits (data_in ds)) ≡ true → sum (map nodes_of_data (data_in ds)) < 2 ^ 53 → Builds (ItemsOf (length ds)) (built_all (map build (data_in ds)))
items_kept [] fit few = items_none
items_kept (d ∷ ds) fit few =
    let parts = and_parts (data_fits d.0) (list_all (λ b. b) (map data_fits (data_in ds))) fit in
    items_cons (length ds) (build d.0) (map build (data_in ds)) (d.1.1 parts.0 (omega (arith, few, sum_by-cons (λ n. n) (nodes_of_data d.0) (map nodes_of_data (data_in ds))))) (items_kept ds parts.1 (omega (arith, few, sum_by-cons (λ n. n) (nodes_of_data d.0) (map nodes_of_data (data_in ds)))))

fewer_items : (ds : List Keeping) → length ds ≤ sum (map nodes_of_data (data_in ds))
fewer_items [] = omega arith
fewer_items (d ∷ ds) = omega (arith, d.1.0, fewer_items ds, sum_by-cons (λ n. n) (nodes_of_data d.0) (map nodes_of_data (data_in ds)))

abbrev names_of : List KeepingEntry → List (List ℕ)
names_of es = map (λ (t : Tested). t.0) (map tested (entries_in es))

entries_kept : (es : List KeepingEntry) → list_all (λ (t : Tested). t.1) (map tested (entries_in es)) ≡ true → sum (map nodes_of_entry (entries_in es)) < 2 ^ 53
    → Builds (PropertiesOf (names_of es)) (built_all (map build_entry (entries_in es)))
entries_kept [] fit few = properties_none
entries_kept (e ∷ es) fit few =
    let parts = and_parts (tested e.0).1 (list_all (λ (t : Tested). t.1) (map tested (entries_in es))) fit in
    properties_cons (tested e.0).0 (names_of es) (build_entry e.0) (map build_entry (entries_in es)) (e.1.kept parts.0 (omega (arith, few, sum_by-cons (λ n. n) (nodes_of_entry e.0) (map nodes_of_entry (entries_in es))))) (entries_kept es parts.1 (omega (arith, few, sum_by-cons (λ n. n) (nodes_of_entry e.0) (map nodes_of_entry (entries_in es)))))

fewer_entries : (es : List KeepingEntry) → length (names_of es) ≤ sum (map nodes_of_entry (entries_in es))
fewer_entries [] = omega arith
fewer_entries (e ∷ es) = omega (arith, e.1.some, fewer_entries es, sum_by-cons (λ n. n) (nodes_of_entry e.0) (map nodes_of_entry (entries_in es)))

names_fit : (es : List KeepingEntry) → list_all (λ (t : Tested). t.1) (map tested (entries_in es)) ≡ true → list_all text_fits (names_of es) ≡ true
names_fit [] fit = refl
names_fit (e ∷ es) fit =
    let parts = and_parts (tested e.0).1 (list_all (λ (t : Tested). t.1) (map tested (entries_in es))) fit in
    both (text_fits (tested e.0).0) (list_all text_fits (names_of es)) (e.1.name parts.0) (names_fit es parts.1)

layer_kept : (x : Data-F Data Entry) → 1 ≤ nodes_step (map-Data Data Entry ℕ ℕ nodes_of_data nodes_of_entry x)
    → (fits_step (map-Data Data Entry Bool Tested data_fits tested x) ≡ true → nodes_step (map-Data Data Entry ℕ ℕ nodes_of_data nodes_of_entry x) < 2 ^ 53 → Builds LawfulValue (data_step (map-Data Data Entry (Built Value) (Built Property) build build_entry x)))
    → IsKept (roll-Data x)
unfolding build build_entry
layer_kept x some h =
    let count = fold-roll-Data ℕ ℕ nodes_step entry_value_step x in
    (subst (λ n. 1 ≤ n) (sym count) some, λ fit few. subst (λ (b : Built Value). Builds LawfulValue b) (sym (fold-roll-Data (Built Value) (Built Property) data_step entry_step x)) (h (sym (fits_level x) ∙ fit) (subst (λ n. n < 2 ^ 53) count few)))

by_layer : (y : Data-F Keeping KeepingEntry) → IsKept (roll-Data (map-Data Keeping KeepingEntry Data Entry (λ d. d.0) (λ e. e.0) y))
by_layer Data-F.Undefined = layer_kept Data-F.Undefined (omega arith) (λ fit few. plain_stays LawfulValue value.Undefined (λ store. tt))
by_layer Data-F.Null = layer_kept Data-F.Null (omega arith) (λ fit few. plain_stays LawfulValue value.Null (λ store. tt))
by_layer (Data-F.Bool b) = layer_kept (Data-F.Bool b) (omega arith) (λ fit few. plain_stays LawfulValue (value.Bool b) (λ store. tt))
by_layer (Data-F.Num n) = layer_kept (Data-F.Num n) (omega arith) (λ fit few. plain_stays LawfulValue (value.Num n) (λ store. fit))
by_layer (Data-F.Text text) = layer_kept (Data-F.Text text) (omega arith) (λ fit few. plain_stays LawfulValue (value.Text text) (λ store. fit))
by_layer (Data-F.Arr ds) =
    layer_kept (Data-F.Arr (data_in ds)) (omega arith)
    (λ fit few. array_stays (length ds) (built_all (map build (data_in ds))) (omega (arith, few, fewer_items ds)) (items_kept ds fit (omega (arith, few))))
by_layer (Data-F.Obj es) =
    layer_kept (Data-F.Obj (entries_in es)) (omega arith)
    (λ fit few.
    let parts = and_parts (are_property_names (names_of es)) (list_all (λ (t : Tested). t.1) (map tested (entries_in es))) fit in
    object_stays (names_of es) (built_all (map build_entry (entries_in es))) parts.0 (names_fit es parts.1) (omega (arith, few, fewer_entries es)) (entries_kept es parts.1 (omega (arith, few))))
by_layer (Data-F.Svc name) = layer_kept (Data-F.Svc name) (omega arith) (λ fit few. plain_stays LawfulValue (value.Svc name) (λ store. fit))

entry_kept : (x : Entry-F Data Entry) → IsKept x.value → IsEntryKept (roll-Entry x)
unfolding build build_entry
entry_kept x h =
    let count = fold-roll-Entry ℕ ℕ nodes_step entry_value_step x in
    let level = tested_level x in
    record {
      some = subst (λ n. 1 ≤ n) (sym count) h.0;
      name = λ fit. ap (λ (t : Tested). text_fits t.0) level ∙ (and_parts (text_fits x.name) (data_fits x.value) (ap (λ (t : Tested). t.1) (sym level) ∙ fit)).0;
      kept = λ fit few.
          subst (λ (b : Built Property). Builds (PropertyOf (tested (roll-Entry x)).0) b) (sym (fold-roll-Entry (Built Value) (Built Property) data_step entry_step x))
          (subst (λ name. Builds (PropertyOf name) (entry_step (record { name = x.name; value = build x.value }))) (ap (λ (t : Tested). t.0) (sym level))
          (named_stays x.name (build x.value) (h.1 (and_parts (text_fits x.name) (data_fits x.value) (ap (λ (t : Tested). t.1) (sym level) ∙ fit)).1 (subst (λ n. n < 2 ^ 53) count few))));
    }

kept : (d : Data) → IsKept d
kept = ind-Data IsKept IsEntryKept (λ x y is. subst (λ z. IsKept (roll-Data z)) is (by_layer y)) (λ x y is. subst (λ z. IsEntryKept (roll-Entry z)) is (entry_kept (map-Entry Keeping KeepingEntry Data Entry (λ d. d.0) (λ e. e.0) y) y.value.1))

pub build_stays : (d : Data) (store : List Cell) → IsTrue (data_fits d) → nodes_of_data d < 2 ^ 53 → Lawful store → Stays LawfulValue store (build d store)
build_stays d store fit few lawful = (kept d).1 fit few store lawful
