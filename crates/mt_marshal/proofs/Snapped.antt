-- The snapshot of what was built of data is the data.
use Rattle.std.proofs.Common.{◌≡◌, ℕ, ℤ, zero, suc, ◌+◌, ◌≤◌, ◌<◌, Bool, false, ◌&&◌, List, [], ◌∷◌, ◌++◌, length, map, sum, Some, Ok, refl, sym, ap, subst, ◌∙◌, append_assoc, arith, rules}
use Rattle.std.specs.Prelude.{◌==◌, Result, slice_get}
use Rattle.std.specs.List.{list_any}
use Rattle.std.proofs.lemmas.Bool.{le-ltb, ne_eqb}
use Rattle.std.proofs.lemmas.List.{append-nil}
use Rattle.std.proofs.lemmas.List.Sums.{sum_by-cons}
use denote.Hole.Carrier.{roll}
use Rattle.mt_tree.specs.declared.data.Data.{Data, roll-Data, the_lemmas}
use Rattle.mt_tree.specs.declared.data.Data as «data»
use Rattle.mt_tree.specs.declared.data.Data.TheFolds.{ind-Data, map-Data, fold-roll-Data}
use Rattle.mt_tree.specs.declared.data.Data.TheOpen.{Data-F}
use Rattle.mt_tree.specs.declared.data.Entry.{Entry}
use Rattle.mt_syntax.specs.DataLimits.{AreWithinLimits, bytes_of_data, bytes_of_entry, depth_of_data, depth_of_entry, nodes_of_data, nodes_of_entry, text_bytes}
use Rattle.mt_syntax.specs.Depth.{greatest}
use Rattle.mt_value.specs.declared.cell.Cell.{Cell}
use Rattle.mt_value.specs.declared.cell.Cell.TheVariants as cell
use Rattle.mt_value.specs.declared.cell.Property.{Property}
use Rattle.mt_value.specs.declared.value.Value.{Value}
use Rattle.mt_value.specs.declared.value.Value.TheVariants as value
use Rattle.mt_ops_methods.specs.Costs.{counted}
use Rattle.mt_eval_meaning.specs.Building.{Built, build, built_all, built_array, built_object, data_step, entry_step}
use Rattle.mt_eval_steps.specs.Entries.{build_entry}
use Rattle.mt_marshal.specs.Rules.{bytes_of, is_callable, is_html, is_nested, is_opaque, items_in, name_bytes, properties_in, stands_on}
use Rattle.mt_marshal.specs.Snapshot.{At, array, array_at, data_alone, datum, enter, entry, inside, node, nothing, object, object_at, plain, snap}
use Rattle.mt_marshal.specs.Walks.{all_behind, and_then, pure}
use Rattle.mt_marshal.specs.declared.counts.Counts.{Counts}
use Rattle.mt_marshal.specs.declared.refusal.Refused.{Refused}
use Rattle.mt_marshal.proofs.Levels.{datum_is}
use Rattle.mt_marshal.proofs.Parts.{bytes_of_entries, bytes_of_items, bytes_of_one, depth_of_entries, depth_of_items, depth_of_one, nodes_of_entries, nodes_of_items, nodes_of_one}

-- ---- stores with the same beginning

abbrev Extends : List Cell → List Cell → Type 0
Extends store large = (more : List Cell) × (large ≡ store ++ more)

extends_itself : (store : List Cell) → Extends store store
extends_itself store = ([], sym (append-nil store))

extends_twice : (a b c : List Cell) → Extends a b → Extends b c → Extends a c
extends_twice a b c x y = (x.0 ++ y.0, y.1 ∙ ap (λ s. s ++ y.0) x.1 ∙ append_assoc a x.0 y.0)

extends_by : (store : List Cell) (c : Cell) → Extends store (store ++ c ∷ [])
extends_by store c = (c ∷ [], refl)

longer : (a b : List Cell) → Extends a b → length a ≤ length b
longer a b x = omega (arith, ap length x.1, by a x.0)
  where
    by : (xs ys : List Cell) → length xs ≤ length (xs ++ ys)
    by [] ys = omega arith
    by (x ∷ xs) ys = omega (arith, by xs ys)

last_of : (store more : List Cell) (c : Cell) → slice_get ((store ++ c ∷ []) ++ more) (length store) ≡ Some c
last_of [] more c = refl
last_of (x ∷ store) more c = last_of store more c

stands_last : (store large : List Cell) (c : Cell) → Extends (store ++ c ∷ []) large → slice_get large (length store) ≡ Some c
stands_last store large c x = ap (λ s. slice_get s (length store)) x.1 ∙ last_of store x.0 c

-- ---- paths that lie behind a store

abbrev Behind : ℕ → List ℕ → Type 0
Behind n [] = Unit {0}
Behind n (p ∷ path) = (n ≤ p) × Behind n path

behind_less : (m n : ℕ) (path : List ℕ) → m ≤ n → Behind n path → Behind m path
behind_less m n [] le b = tt
behind_less m n (p ∷ path) le b = (omega (arith, b.0), behind_less m n path le b.1)

behind_more : (n at : ℕ) (path : List ℕ) → n ≤ at → Behind n path → Behind n (path ++ at ∷ [])
behind_more n at [] le b = (le, tt)
behind_more n at (p ∷ path) le b = (b.0, behind_more n at path le b.1)

apart : (n at : ℕ) (path : List ℕ) → at < n → Behind n path → list_any (λ p. p == at) path ≡ false
apart n at [] lt b = refl
apart n at (p ∷ path) lt b = rw (ne_eqb p at (λ e. omega (arith, b.0)), apart n at path lt b.1) refl

-- ---- counts

abbrev grow : Counts → ℕ → ℕ → Counts
grow c nodes bytes = record { nodes = c.nodes + nodes; bytes = c.bytes + bytes }

record Fit (c : Counts) (n b : ℕ) : Type 0 where
  pub nodes : c.nodes + n ≤ 20000
  pub bytes : c.bytes + b ≤ 262144

grow_twice : (c : Counts) (m n a b x y : ℕ) → m + n ≡ x → a + b ≡ y → grow (grow c m a) n b ≡ grow c x y
grow_twice c m n a b x y nodes bytes =
    let p : c.nodes + m + n ≡ c.nodes + x = omega (arith, nodes) in
    let q : c.bytes + a + b ≡ c.bytes + y = omega (arith, bytes) in
    λ i. record { nodes = p i; bytes = q i }

grow_nothing : (c : Counts) → grow c 0 0 ≡ c
grow_nothing c =
    let p : c.nodes + 0 ≡ c.nodes = omega arith in
    let q : c.bytes + 0 ≡ c.bytes = omega arith in
    λ i. record { nodes = p i; bytes = q i }

module _ (store : List Cell) where
  -- a node that breaks no rule is counted
  enters : (levels : ℕ) (path : List ℕ) (v : Value) (c : Counts) → is_callable v ≡ false → is_html v ≡ false → is_opaque v ≡ false → stands_on path v ≡ false → (is_nested v && (levels == 0)) ≡ false
      → Fit c 1 (bytes_of store v) → enter store levels path v c ≡ Ok (tt, grow c 1 (bytes_of store v))
  unfolding enter
  enters levels path v c callable html opaque path_free nested fit =
      let nodes : counted (c.nodes + 1) ≡ c.nodes + 1 = omega (arith, fit.nodes) in
      let bytes : counted (c.bytes + bytes_of store v) ≡ c.bytes + bytes_of store v = omega (arith, fit.bytes) in
      rw (nodes, bytes, callable, html, opaque, path_free, nested, le-ltb 20000 (c.nodes + 1) fit.nodes, le-ltb 262144 (c.bytes + bytes_of store v) fit.bytes) refl

-- ---- what is shown of each datum and of what is built of it

record Snaps (d : Data) (b : Built Value) : Type 0 where
  pub grows : (start : List Cell) → Extends start (b start).1
  pub walks : (start large : List Cell) (levels : ℕ) (path : List ℕ) (c : Counts) → Extends (b start).1 large → depth_of_data d ≤ levels → Fit c (nodes_of_data d) (bytes_of_data d) → Behind (length (b start).1) path
      → datum large levels path (b start).0 c ≡ Ok (d, grow c (nodes_of_data d) (bytes_of_data d))

record SnapsEntry (e : Entry) (b : Built Property) : Type 0 where
  pub grows : (start : List Cell) → Extends start (b start).1
  pub named : (start : List Cell) → (b start).0.name ≡ e.name
  pub walks : (start large : List Cell) (levels : ℕ) (path : List ℕ) (c : Counts) → Extends (b start).1 large → depth_of_entry e ≤ levels → Fit c (nodes_of_entry e) (bytes_of_data e.value) → Behind (length (b start).1) path
      → entry (datum large levels path) (b start).0 c ≡ Ok (e, grow c (nodes_of_entry e) (bytes_of_data e.value))

abbrev Known : Type 0
Known = (d : Data) × Snaps d (build d)

abbrev KnownEntry : Type 0
KnownEntry = (e : Entry) × SnapsEntry e (build_entry e)

abbrev data_in : List Known → List Data
data_in = map (λ (d : Known). d.0)

abbrev entries_in : List KnownEntry → List Entry
entries_in = map (λ (e : KnownEntry). e.0)

-- ---- lists

items_grow : (ds : List Known) (start : List Cell) → Extends start (built_all (map build (data_in ds)) start).1
items_grow [] start = extends_itself start
items_grow (d ∷ ds) start = let mid = (build d.0 start).1 in extends_twice start mid (built_all (map build (data_in ds)) mid).1 (d.1.grows start) (items_grow ds mid)

items_walk : (ds : List Known) (start large : List Cell) (levels : ℕ) (path : List ℕ) (done : List Data) (c : Counts) → Extends (built_all (map build (data_in ds)) start).1 large → greatest (map depth_of_data (data_in ds)) ≤ levels
    → Fit c (sum (map nodes_of_data (data_in ds))) (sum (map bytes_of_data (data_in ds))) → Behind (length (built_all (map build (data_in ds)) start).1) path
    → all_behind done (map (datum large levels path) (built_all (map build (data_in ds)) start).0) c ≡ Ok (done ++ data_in ds, grow c (sum (map nodes_of_data (data_in ds))) (sum (map bytes_of_data (data_in ds))))
items_walk [] start large levels path done c x deep fit behind = λ i. Ok (sym (append-nil done) i, sym (grow_nothing c) i)
items_walk (d ∷ ds) start large levels path done c x deep fit behind =
    let rest : List Data = data_in ds in
    let mid = (build d.0 start).1 in
    let end = (built_all (map build rest) mid).1 in
    let inner : Extends mid large = extends_twice mid end large (items_grow ds mid) x in
    let nodes = sum_by-cons (λ n. n) (nodes_of_data d.0) (map nodes_of_data rest) in
    let bytes = sum_by-cons (λ n. n) (bytes_of_data d.0) (map bytes_of_data rest) in
    let next : Counts = grow c (nodes_of_data d.0) (bytes_of_data d.0) in
    let first : datum large levels path (build d.0 start).0 c ≡ Ok (d.0, next) =
    d.1.walks start large levels path c inner (omega (arith, deep)) (record { nodes = omega (arith, fit.nodes, nodes); bytes = omega (arith, fit.bytes, bytes) }) (behind_less (length mid) (length end) path (longer mid end (items_grow ds mid)) behind) in
    let others = items_walk ds mid large levels path (done ++ d.0 ∷ []) next x (omega (arith, deep)) (record { nodes = omega (arith, fit.nodes, nodes); bytes = omega (arith, fit.bytes, bytes) }) behind in
    ap (λ r. and_then r (λ a. all_behind (done ++ a ∷ []) (map (datum large levels path) (built_all (map build rest) mid).0))) first ∙ others
    ∙ (λ i. Ok (append_assoc done (d.0 ∷ []) rest i, grow_twice c (nodes_of_data d.0) (sum (map nodes_of_data rest)) (bytes_of_data d.0) (sum (map bytes_of_data rest)) _ _ (sym nodes) (sym bytes) i))

value_bytes : List Entry → ℕ
value_bytes es = sum (map (λ (e : Entry). bytes_of_data e.value) es)

names_bytes : List Entry → ℕ
names_bytes es = sum (map (λ (e : Entry). text_bytes e.name) es)

value_bytes_more : (e : Entry) (es : List Entry) → value_bytes (e ∷ es) ≡ bytes_of_data e.value + value_bytes es
unfolding value_bytes
value_bytes_more e es = sum_by-cons (λ n. n) (bytes_of_data e.value) (map (λ (e : Entry). bytes_of_data e.value) es)

names_bytes_more : (e : Entry) (es : List Entry) → names_bytes (e ∷ es) ≡ text_bytes e.name + names_bytes es
unfolding names_bytes
names_bytes_more e es = sum_by-cons (λ n. n) (text_bytes e.name) (map (λ (e : Entry). text_bytes e.name) es)

names_and_values : (es : List Entry) → sum (map bytes_of_entry es) ≡ names_bytes es + value_bytes es
unfolding names_bytes value_bytes
names_and_values [] = omega arith
names_and_values (e ∷ es) = omega (arith, sum_by-cons (λ n. n) (bytes_of_entry e) (map bytes_of_entry es), bytes_of_one e, names_and_values es, names_bytes_more e es, value_bytes_more e es)

entries_grow : (es : List KnownEntry) (start : List Cell) → Extends start (built_all (map build_entry (entries_in es)) start).1
entries_grow [] start = extends_itself start
entries_grow (e ∷ es) start = let mid = (build_entry e.0 start).1 in extends_twice start mid (built_all (map build_entry (entries_in es)) mid).1 (e.1.grows start) (entries_grow es mid)

names_built : (es : List KnownEntry) (start : List Cell) → sum (map name_bytes (built_all (map build_entry (entries_in es)) start).0) ≡ names_bytes (entries_in es)
unfolding names_bytes
names_built [] start = refl
names_built (e ∷ es) start =
    let p = (build_entry e.0 start).0 in
    let mid = (build_entry e.0 start).1 in
    let built : List Property = (built_all (map build_entry (entries_in es)) mid).0 in
    sum_by-cons (λ n. n) (name_bytes p) (map name_bytes built) ∙ omega (arith, ap text_bytes (e.1.named start), names_built es mid) ∙ sym (names_bytes_more e.0 (entries_in es))

entries_walk : (es : List KnownEntry) (start large : List Cell) (levels : ℕ) (path : List ℕ) (done : List Entry) (c : Counts) → Extends (built_all (map build_entry (entries_in es)) start).1 large → greatest (map depth_of_entry (entries_in es)) ≤ levels
    → Fit c (sum (map nodes_of_entry (entries_in es))) (value_bytes (entries_in es)) → Behind (length (built_all (map build_entry (entries_in es)) start).1) path
    → all_behind done (map (entry (datum large levels path)) (built_all (map build_entry (entries_in es)) start).0) c ≡ Ok (done ++ entries_in es, grow c (sum (map nodes_of_entry (entries_in es))) (value_bytes (entries_in es)))
unfolding value_bytes
entries_walk [] start large levels path done c x deep fit behind = λ i. Ok (sym (append-nil done) i, sym (grow_nothing c) i)
entries_walk (e ∷ es) start large levels path done c x deep fit behind =
    let rest : List Entry = entries_in es in
    let mid = (build_entry e.0 start).1 in
    let end = (built_all (map build_entry rest) mid).1 in
    let inner : Extends mid large = extends_twice mid end large (entries_grow es mid) x in
    let nodes = sum_by-cons (λ n. n) (nodes_of_entry e.0) (map nodes_of_entry rest) in
    let bytes = value_bytes_more e.0 rest in
    let next : Counts = grow c (nodes_of_entry e.0) (bytes_of_data e.0.value) in
    let first : entry (datum large levels path) (build_entry e.0 start).0 c ≡ Ok (e.0, next) =
    e.1.walks start large levels path c inner (omega (arith, deep)) (record { nodes = omega (arith, fit.nodes, nodes); bytes = omega (arith, fit.bytes, bytes) }) (behind_less (length mid) (length end) path (longer mid end (entries_grow es mid)) behind) in
    let others = entries_walk es mid large levels path (done ++ e.0 ∷ []) next x (omega (arith, deep)) (record { nodes = omega (arith, fit.nodes, nodes); bytes = omega (arith, fit.bytes, bytes) }) behind in
    ap (λ r. and_then r (λ a. all_behind (done ++ a ∷ []) (map (entry (datum large levels path)) (built_all (map build_entry rest) mid).0))) first ∙ others
    ∙ (λ i. Ok (append_assoc done (e.0 ∷ []) rest i, grow_twice c (nodes_of_entry e.0) (sum (map nodes_of_entry rest)) (bytes_of_data e.0.value) (value_bytes rest) _ _ (sym nodes) (sym bytes) i))

-- ---- one level

build_Arr : (ds : List Data) → build («data».Arr ds) ≡ built_array (built_all (map build ds))
unfolding build build_entry roll-Data roll
build_Arr ds = fold-roll-Data (Built Value) (Built Property) data_step entry_step (Data-F.Arr ds)

build_Obj : (es : List Entry) → build («data».Obj es) ≡ built_object (built_all (map build_entry es))
unfolding build build_entry roll-Data roll
build_Obj es = fold-roll-Data (Built Value) (Built Property) data_step entry_step (Data-F.Obj es)

module _ (v : Value) where
  -- a value without parts walks to itself
  plain_walks : is_callable v ≡ false → is_html v ≡ false → is_opaque v ≡ false → ((path : List ℕ) → stands_on path v ≡ false) → is_nested v ≡ false
      → ((array object : At) (path : List ℕ) (c : Counts) → inside array object path v c ≡ Ok (plain v, c))
      → (store : List Cell) (levels : ℕ) (path : List ℕ) (c : Counts) → Fit c 1 (bytes_of store v) → datum store levels path v c ≡ Ok (plain v, grow c 1 (bytes_of store v))
  unfolding node
  plain_walks callable html opaque free nested alone store levels path c fit =
      datum_is store levels path v c ∙ ap (λ r. and_then r (λ u. inside (array_at store levels) (object_at store levels) path v)) (enters store levels path v c callable html opaque (free path) (rw nested refl) fit)
      ∙ alone (array_at store levels) (object_at store levels) path (grow c 1 (bytes_of store v))

-- data without parts are built as values without parts
record IsFlat (v : Value) (d : Data) : Type 0 where
  pub built : build d ≡ (λ store. (v, store))
  pub plain-is : plain v ≡ d
  pub depth : depth_of_data d ≡ 0
  pub nodes : nodes_of_data d ≡ 1
  pub bytes : (store : List Cell) → bytes_of store v ≡ bytes_of_data d

snaps_flat : (v : Value) (d : Data) → IsFlat v d
    → ((store : List Cell) (levels : ℕ) (path : List ℕ) (c : Counts) → Fit c 1 (bytes_of store v) → datum store levels path v c ≡ Ok (plain v, grow c 1 (bytes_of store v))) → Snaps d (build d)
snaps_flat v d f walks =
    subst (λ (b : Built Value). Snaps d b) (sym f.built) (record {
      grows = λ start. extends_itself start;
      walks = λ start large levels path c x deep fit behind.
          walks large levels path c (record { nodes = omega (arith, fit.nodes, f.nodes); bytes = omega (arith, fit.bytes, f.bytes large) })
          ∙ (λ i. Ok (f.plain-is i, record { nodes = c.nodes + sym f.nodes i; bytes = c.bytes + f.bytes large i }));
    })

snaps_Undefined : Snaps «data».Undefined (build «data».Undefined)
unfolding build
snaps_Undefined =
    snaps_flat value.Undefined «data».Undefined (record { built = search (rules, the_lemmas); plain-is = refl; depth = search (rules, the_lemmas); nodes = search (rules, the_lemmas); bytes = λ store. search (rules, the_lemmas) })
    (plain_walks value.Undefined refl refl refl (λ path. refl) refl (λ array object path c. refl))

snaps_Null : Snaps «data».Null (build «data».Null)
unfolding build
snaps_Null =
    snaps_flat value.Null «data».Null (record { built = search (rules, the_lemmas); plain-is = refl; depth = search (rules, the_lemmas); nodes = search (rules, the_lemmas); bytes = λ store. search (rules, the_lemmas) })
    (plain_walks value.Null refl refl refl (λ path. refl) refl (λ array object path c. refl))

snaps_Bool : (b : Bool) → Snaps («data».Bool b) (build («data».Bool b))
unfolding build
snaps_Bool b =
    snaps_flat (value.Bool b) («data».Bool b) (record { built = search (rules, the_lemmas); plain-is = refl; depth = search (rules, the_lemmas); nodes = search (rules, the_lemmas); bytes = λ store. search (rules, the_lemmas) })
    (plain_walks (value.Bool b) refl refl refl (λ path. refl) refl (λ array object path c. refl))

snaps_Num : (n : ℤ) → Snaps («data».Num n) (build («data».Num n))
unfolding build
snaps_Num n =
    snaps_flat (value.Num n) («data».Num n) (record { built = search (rules, the_lemmas); plain-is = refl; depth = search (rules, the_lemmas); nodes = search (rules, the_lemmas); bytes = λ store. search (rules, the_lemmas) })
    (plain_walks (value.Num n) refl refl refl (λ path. refl) refl (λ array object path c. refl))

snaps_Text : (cs : List ℕ) → Snaps («data».Text cs) (build («data».Text cs))
unfolding build
snaps_Text cs =
    snaps_flat (value.Text cs) («data».Text cs) (record { built = search (rules, the_lemmas); plain-is = refl; depth = search (rules, the_lemmas); nodes = search (rules, the_lemmas); bytes = λ store. search (rules, the_lemmas) })
    (plain_walks (value.Text cs) refl refl refl (λ path. refl) refl (λ array object path c. refl))

snaps_Svc : (cs : List ℕ) → Snaps («data».Svc cs) (build («data».Svc cs))
unfolding build
snaps_Svc cs =
    snaps_flat (value.Svc cs) («data».Svc cs) (record { built = search (rules, the_lemmas); plain-is = refl; depth = search (rules, the_lemmas); nodes = search (rules, the_lemmas); bytes = λ store. search (rules, the_lemmas) })
    (plain_walks (value.Svc cs) refl refl refl (λ path. refl) refl (λ array object path c. refl))

module _ (store : List Cell) (k : ℕ) (path : List ℕ) (at : ℕ) (c d : Counts) where
  array_walks : (items : List Value) (r : Result (List Data × Counts) Refused) → enter store (suc k) path (value.Arr at) c ≡ Ok (tt, d) → slice_get store at ≡ Some (cell.Arr items)
      → all_behind [] (map (datum store k (path ++ at ∷ [])) items) d ≡ r → datum store (suc k) path (value.Arr at) c ≡ and_then r (λ items. pure («data».Arr items))
  unfolding node array array_at
  array_walks items r entered stands walked =
      datum_is store (suc k) path (value.Arr at) c ∙ ap (λ r. and_then r (λ u. inside (array_at store (suc k)) (object_at store (suc k)) path (value.Arr at))) entered
      ∙ ap (λ o. and_then (all_behind [] (map (datum store k (path ++ at ∷ [])) (items_in o)) d) (λ items. pure («data».Arr items))) stands ∙ ap (λ r. and_then r (λ items. pure («data».Arr items))) walked

  object_walks : (properties : List Property) (r : Result (List Entry × Counts) Refused) → enter store (suc k) path (value.Obj at) c ≡ Ok (tt, d) → slice_get store at ≡ Some (cell.Obj properties)
      → all_behind [] (map (entry (datum store k (path ++ at ∷ []))) properties) d ≡ r → datum store (suc k) path (value.Obj at) c ≡ and_then r (λ entries. pure («data».Obj entries))
  unfolding node object object_at
  object_walks properties r entered stands walked =
      datum_is store (suc k) path (value.Obj at) c ∙ ap (λ r. and_then r (λ u. inside (array_at store (suc k)) (object_at store (suc k)) path (value.Obj at))) entered
      ∙ ap (λ o. and_then (all_behind [] (map (entry (datum store k (path ++ at ∷ []))) (properties_in o)) d) (λ entries. pure («data».Obj entries))) stands ∙ ap (λ r. and_then r (λ entries. pure («data».Obj entries))) walked

length_push : (store : List Cell) (c : Cell) → length (store ++ c ∷ []) ≡ suc (length store)
length_push [] c = refl
length_push (x ∷ store) c = ap suc (length_push store c)

module _ (ds : List Known) (start large : List Cell) where
  abbrev items_built : List Value × List Cell
  items_built = built_all (map build (data_in ds)) start

  abbrev array_store : List Cell
  array_store = items_built.1 ++ cell.Arr items_built.0 ∷ []

  walks_Arr : (levels : ℕ) (path : List ℕ) (c : Counts) → Extends array_store large → depth_of_data («data».Arr (data_in ds)) ≤ levels → Fit c (nodes_of_data («data».Arr (data_in ds))) (bytes_of_data («data».Arr (data_in ds)))
      → Behind (length array_store) path
      → datum large levels path (value.Arr (length items_built.1)) c ≡ Ok («data».Arr (data_in ds), grow c (nodes_of_data («data».Arr (data_in ds))) (bytes_of_data («data».Arr (data_in ds))))
  walks_Arr zero path c x deep fit behind = absurd (omega (arith, deep, depth_of_items (data_in ds)))
  walks_Arr (suc k) path c x deep fit behind =
      let all = data_in ds in
      let at = length items_built.1 in
      let size = length_push items_built.1 (cell.Arr items_built.0) in
      let nodes = nodes_of_items all in
      let bytes = bytes_of_items all in
      let counted_once : Fit c 1 0 = record { nodes = omega (arith, fit.nodes, nodes); bytes = omega (arith, fit.bytes) } in
      let entered = enters large (suc k) path (value.Arr at) c refl refl refl (apart (length array_store) at path (omega (arith, size)) behind) (ne_eqb (suc k) 0 (λ e. omega arith)) counted_once in
      let outside : Behind at path = behind_less at (length array_store) path (omega (arith, size)) behind in
      let walked = items_walk ds start large k (path ++ at ∷ []) [] (grow c 1 0) (extends_twice items_built.1 array_store large (extends_by items_built.1 (cell.Arr items_built.0)) x) (omega (arith, deep, depth_of_items all))
      (record { nodes = omega (arith, fit.nodes, nodes); bytes = omega (arith, fit.bytes, bytes) }) (behind_more at at path (omega arith) outside) in
      array_walks large k path at c (grow c 1 0) items_built.0 _ entered (stands_last items_built.1 large (cell.Arr items_built.0) x) walked
      ∙ (λ i. Ok («data».Arr all, grow_twice c 1 (sum (map nodes_of_data all)) 0 (sum (map bytes_of_data all)) (nodes_of_data («data».Arr all)) (bytes_of_data («data».Arr all)) (omega (arith, nodes)) (omega (arith, bytes)) i))

module _ (es : List KnownEntry) (start large : List Cell) where
  abbrev entries_built : List Property × List Cell
  entries_built = built_all (map build_entry (entries_in es)) start

  abbrev object_store : List Cell
  object_store = entries_built.1 ++ cell.Obj entries_built.0 ∷ []

  walks_Obj : (levels : ℕ) (path : List ℕ) (c : Counts) → Extends object_store large → depth_of_data («data».Obj (entries_in es)) ≤ levels → Fit c (nodes_of_data («data».Obj (entries_in es))) (bytes_of_data («data».Obj (entries_in es)))
      → Behind (length object_store) path
      → datum large levels path (value.Obj (length entries_built.1)) c ≡ Ok («data».Obj (entries_in es), grow c (nodes_of_data («data».Obj (entries_in es))) (bytes_of_data («data».Obj (entries_in es))))
  walks_Obj zero path c x deep fit behind = absurd (omega (arith, deep, depth_of_entries (entries_in es)))
  walks_Obj (suc k) path c x deep fit behind =
      let all = entries_in es in
      let at = length entries_built.1 in
      let size = length_push entries_built.1 (cell.Obj entries_built.0) in
      let nodes = nodes_of_entries all in
      let stands = stands_last entries_built.1 large (cell.Obj entries_built.0) x in
      let own : bytes_of large (value.Obj at) ≡ names_bytes all = ap (λ o. sum (map name_bytes (properties_in o))) stands ∙ names_built es start in
      let bytes : bytes_of_data («data».Obj all) ≡ names_bytes all + value_bytes all = bytes_of_entries all ∙ names_and_values all in
      let counted_once : Fit c 1 (bytes_of large (value.Obj at)) = record { nodes = omega (arith, fit.nodes, nodes); bytes = omega (arith, fit.bytes, bytes, own) } in
      let entered = enters large (suc k) path (value.Obj at) c refl refl refl (apart (length object_store) at path (omega (arith, size)) behind) (ne_eqb (suc k) 0 (λ e. omega arith)) counted_once in
      let outside : Behind at path = behind_less at (length object_store) path (omega (arith, size)) behind in
      let next : Counts = grow c 1 (bytes_of large (value.Obj at)) in
      let walked = entries_walk es start large k (path ++ at ∷ []) [] next (extends_twice entries_built.1 object_store large (extends_by entries_built.1 (cell.Obj entries_built.0)) x) (omega (arith, deep, depth_of_entries all))
      (record { nodes = omega (arith, fit.nodes, nodes); bytes = omega (arith, fit.bytes, bytes, own) }) (behind_more at at path (omega arith) outside) in
      object_walks large k path at c next entries_built.0 _ entered stands walked
      ∙ (λ i. Ok («data».Obj all, grow_twice c 1 (sum (map nodes_of_entry all)) (bytes_of large (value.Obj at)) (value_bytes all) (nodes_of_data («data».Obj all)) (bytes_of_data («data».Obj all)) (omega (arith, nodes)) (omega (arith, bytes, own)) i))

snaps_Arr : (ds : List Known) → Snaps («data».Arr (data_in ds)) (build («data».Arr (data_in ds)))
snaps_Arr ds =
    subst (λ (b : Built Value). Snaps («data».Arr (data_in ds)) b) (sym (build_Arr (data_in ds)))
    (record { grows = λ start. extends_twice start _ _ (items_grow ds start) (extends_by _ _); walks = λ start large levels path c x deep fit behind. walks_Arr ds start large levels path c x deep fit behind })

snaps_Obj : (es : List KnownEntry) → Snaps («data».Obj (entries_in es)) (build («data».Obj (entries_in es)))
snaps_Obj es =
    subst (λ (b : Built Value). Snaps («data».Obj (entries_in es)) b) (sym (build_Obj (entries_in es)))
    (record { grows = λ start. extends_twice start _ _ (entries_grow es start) (extends_by _ _); walks = λ start large levels path c x deep fit behind. walks_Obj es start large levels path c x deep fit behind })

build_Entry : (name : List ℕ) (d : Data) → build_entry (record { name = name; value = d }) ≡ entry_step (record { name = name; value = build d })
unfolding build build_entry
build_Entry name d = search (rules, the_lemmas)

walks_Entry : (name : List ℕ) (d : Known) (start large : List Cell) (levels : ℕ) (path : List ℕ) (c : Counts) → Extends (build d.0 start).1 large → depth_of_entry (record { name = name; value = d.0 }) ≤ levels
    → Fit c (nodes_of_entry (record { name = name; value = d.0 })) (bytes_of_data d.0) → Behind (length (build d.0 start).1) path
    → entry (datum large levels path) (record { name = name; value = (build d.0 start).0 }) c ≡ Ok (record { name = name; value = d.0 }, grow c (nodes_of_entry (record { name = name; value = d.0 })) (bytes_of_data d.0))
unfolding entry
walks_Entry name d start large levels path c x deep fit behind =
    let e : Entry = record { name = name; value = d.0 } in
    let nodes = nodes_of_one e in
    ap (λ r. and_then r (λ d. pure (record { name = name; value = d }))) (d.1.walks start large levels path c x (omega (arith, deep, depth_of_one e)) (record { nodes = omega (arith, fit.nodes, nodes); bytes = fit.bytes }) behind)
    ∙ (λ i. Ok (e, record { nodes = c.nodes + sym nodes i; bytes = c.bytes + bytes_of_data d.0 }))

snaps_Entry : (name : List ℕ) (d : Known) → SnapsEntry (record { name = name; value = d.0 }) (build_entry (record { name = name; value = d.0 }))
snaps_Entry name d =
    subst (λ (b : Built Property). SnapsEntry (record { name = name; value = d.0 }) b) (sym (build_Entry name d.0))
    (record { grows = d.1.grows; named = λ start. refl; walks = λ start large levels path c x deep fit behind. walks_Entry name d start large levels path c x deep fit behind })

by_layer : (y : Data-F Known KnownEntry) → Snaps (roll-Data (map-Data Known KnownEntry Data Entry (λ d. d.0) (λ e. e.0) y)) (build (roll-Data (map-Data Known KnownEntry Data Entry (λ d. d.0) (λ e. e.0) y)))
unfolding roll-Data roll
by_layer Data-F.Undefined = snaps_Undefined
by_layer Data-F.Null = snaps_Null
by_layer (Data-F.Bool b) = snaps_Bool b
by_layer (Data-F.Num n) = snaps_Num n
by_layer (Data-F.Text cs) = snaps_Text cs
by_layer (Data-F.Arr ds) = snaps_Arr ds
by_layer (Data-F.Obj es) = snaps_Obj es
by_layer (Data-F.Svc cs) = snaps_Svc cs

all_snap : (d : Data) → Snaps d (build d)
all_snap =
    ind-Data (λ d. Snaps d (build d)) (λ e. SnapsEntry e (build_entry e)) (λ x y is. subst (λ z. Snaps (roll-Data z) (build (roll-Data z))) is (by_layer y))
    (λ x y is. subst (λ z. SnapsEntry (record { name = z.name; value = z.value }) (build_entry (record { name = z.name; value = z.value }))) is (snaps_Entry y.name y.value))

known : List Data → List Known
known [] = []
known (d ∷ ds) = (d, all_snap d) ∷ known ds

known_data : (ds : List Data) → data_in (known ds) ≡ ds
unfolding known
known_data [] = refl
known_data (d ∷ ds) = ap (λ es. d ∷ es) (known_data ds)

abbrev IsSnapped : List Data → Type 0
IsSnapped ds = AreWithinLimits ds → (start : List Cell) → snap (built_all (map build ds) start).1 (built_all (map build ds) start).0 ≡ Ok ds

each_snapped : (ds : List Known) → IsSnapped (data_in ds)
unfolding snap
each_snapped ds w start =
    let end = (built_all (map build (data_in ds)) start).1 in
    ap data_alone (items_walk ds start end 40 [] [] nothing (extends_itself end) w.depth (record { nodes = omega (arith, w.nodes); bytes = omega (arith, w.bytes) }) tt)

pub built_is_snapped : (ds : List Data) → IsSnapped ds
built_is_snapped ds = subst IsSnapped (known_data ds) (each_snapped (known ds))
