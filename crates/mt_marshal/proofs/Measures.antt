-- What a walk gives is as large as what it counts, and is data where its values are lawful.
use Rattle.std.proofs.Common.{◌≡◌, ℕ, ℤ, zero, suc, ◌+◌, ◌≤◌, Bool, true, false, ◌&&◌, List, [], ◌∷◌, ◌++◌, map, sum, None, Some, Ok, Err, refl, sym, ap, subst, ◌∙◌, arith, rules}
use Rattle.std.specs.Prelude.{Option, Result, IfOk, IsTrue, All, slice_get, if◌then◌else◌, ◌||◌, ◌==◌, nat_lt}
use Rattle.std.specs.List.{list_all}
use Rattle.std.specs.Str.{all_scalars}
use Rattle.std.proofs.lemmas.Bool.{and_parts}
use Rattle.std.proofs.lemmas.Bool.Decides.{nat_tests}
use Rattle.std.proofs.lemmas.List.Sums.{sum_by-cons}
use Rattle.std.proofs.lemmas.List.Elements.{All-cons, All-head, All-nil, All-tail}
use Rattle.mt_marshal.proofs.Chains.{Chain, chain_of, same_given}
use Rattle.mt_marshal.proofs.Parts.{entry_is_data, nodes_of_items, nodes_of_entries, nodes_of_one, bytes_of_items, bytes_of_entries, bytes_of_one, depth_of_items, depth_of_entries, depth_of_one, data_of_items, data_of_entries, data_of_entry, characters_of_items, characters_of_entries, characters_of_entry, characters_of_text, characters_of_service, data_of_number, data_of_text, data_of_service, fits_of_number, fits_of_text, fits_of_service, Tested, tested, fits_of_items, fits_of_entries, fits_of_one, names_of_entries}
use Rattle.mt_marshal.specs.Characters.{has_characters, entry_has_characters}
use Rattle.mt_marshal.specs.Rules.{broken, bytes_of, is_callable, is_html, is_nested, is_opaque, items_in, met, name_bytes, properties_in, stands_on}
use Rattle.mt_marshal.specs.Snapshot.{At, array, data_alone, datum, enter, entry, inside, node, nothing, object, plain, snap, too_deep, unless}
use Rattle.mt_marshal.specs.Walks.{Does, all, and_then, pure}
use Rattle.mt_marshal.specs.declared.counts.Counts.{Counts}
use Rattle.mt_marshal.specs.declared.refusal.Refused.{Refused}
use Rattle.mt_marshal.specs.declared.rule.MarshalRule.{MarshalRule}
use Rattle.mt_marshal.specs.declared.rule.MarshalRule.TheVariants as rule
use Rattle.mt_ops_methods.specs.Costs.{counted}
use Rattle.mt_syntax.specs.Data.{is_data, are_property_names}
use Rattle.mt_syntax.specs.DataLimits.{AreWithinLimits, bytes_of_data, bytes_of_entry, depth_of_data, depth_of_entry, nodes_of_data, nodes_of_entry, text_bytes}
use Rattle.mt_syntax.specs.Depth.{greatest}
use Rattle.mt_tree.specs.declared.data.Data.{Data, the_lemmas}
use Rattle.mt_tree.specs.declared.data.Data as «data»
use Rattle.mt_tree.specs.declared.data.Entry.{Entry}
use Rattle.mt_value.specs.Lawful.{LawfulValue, LawfulCell, Lawful}
use Rattle.mt_value.specs.Limits.{data_fits, text_fits}
use Rattle.mt_value.specs.declared.cell.Cell.{Cell}
use Rattle.mt_value.specs.declared.cell.Cell.TheVariants as cell
use Rattle.mt_value.specs.declared.cell.Property.{Property}
use Rattle.mt_value.specs.declared.value.Value.{Value}
use Rattle.mt_value.specs.declared.value.Value.TheVariants as value
use Rattle.mt_tree.specs.Limits.{data_byte_limit, data_node_limit}

-- the counts are within the limits
pub record IsSmall (c : Counts) : Type 0 where
  pub nodes : c.nodes ≤ data_node_limit
  pub bytes : c.bytes ≤ data_byte_limit

both : (a b : Bool) → a ≡ true → b ≡ true → (a && b) ≡ true
both a b first second = (λ i. first i && b) ∙ second

at_place : {A : Type 0} (P : A → Type 0) (xs : List A) (i : ℕ) (x : A) → All P xs → slice_get xs i ≡ Some x → P x
at_place P [] i x h is = absurd (cc)
at_place P (y ∷ ys) zero x h is = let e : y ≡ x = cc in subst P e (All-head P y ys h)
at_place P (y ∷ ys) (suc i) x h is = at_place P ys i x (All-tail P y ys h) is

-- ---- data that have no parts

record IsBare (d : Data) : Type 0 where
  pub nodes : nodes_of_data d ≡ 1
  pub bytes : bytes_of_data d ≡ 0
  pub depth : depth_of_data d ≡ 0
  pub whole : is_data d ≡ true
  pub fits : data_fits d ≡ true

undefined : IsBare «data».Undefined
unfolding data_fits
undefined = record { nodes = search (rules, the_lemmas); bytes = search (rules, the_lemmas); depth = search (rules, the_lemmas); whole = search (rules, the_lemmas); fits = search (rules, the_lemmas) }

null : IsBare «data».Null
unfolding data_fits
null = record { nodes = search (rules, the_lemmas); bytes = search (rules, the_lemmas); depth = search (rules, the_lemmas); whole = search (rules, the_lemmas); fits = search (rules, the_lemmas) }

truth : (b : Bool) → IsBare («data».Bool b)
unfolding data_fits
truth b = record { nodes = search (rules, the_lemmas); bytes = search (rules, the_lemmas); depth = search (rules, the_lemmas); whole = search (rules, the_lemmas); fits = search (rules, the_lemmas) }

number_nodes : (n : ℤ) → nodes_of_data («data».Num n) ≡ 1
number_nodes n = search (rules, the_lemmas)

number_bytes : (n : ℤ) → bytes_of_data («data».Num n) ≡ 0
number_bytes n = search (rules, the_lemmas)

number_depth : (n : ℤ) → depth_of_data («data».Num n) ≡ 0
number_depth n = search (rules, the_lemmas)

text_nodes : (cs : List ℕ) → nodes_of_data («data».Text cs) ≡ 1
text_nodes cs = search (rules, the_lemmas)

bytes_of_text : (cs : List ℕ) → bytes_of_data («data».Text cs) ≡ text_bytes cs
bytes_of_text cs = search (rules, the_lemmas)

text_depth : (cs : List ℕ) → depth_of_data («data».Text cs) ≡ 0
text_depth cs = search (rules, the_lemmas)

service_nodes : (cs : List ℕ) → nodes_of_data («data».Svc cs) ≡ 1
service_nodes cs = search (rules, the_lemmas)

bytes_of_service : (cs : List ℕ) → bytes_of_data («data».Svc cs) ≡ text_bytes cs
bytes_of_service cs = search (rules, the_lemmas)

service_depth : (cs : List ℕ) → depth_of_data («data».Svc cs) ≡ 0
service_depth cs = search (rules, the_lemmas)

-- ---- a node that was counted and breaks no rule

cut : (n : ℕ) → counted n ≤ data_byte_limit → counted n ≡ n
cut n small = omega (arith, small)

none_broken : (a b c d e f : Bool) → (if a then Some rule.M1 else if b then Some rule.M2 else if c then Some rule.M3 else if d then Some rule.M4 else if e then Some rule.M5 else if f then Some rule.M6 else None) ≡ None → (e ≡ false) × (f ≡ false)
none_broken true b c d e f is = absurd (cc)
none_broken false true c d e f is = absurd (cc)
none_broken false false true d e f is = absurd (cc)
none_broken false false false true e f is = absurd (cc)
none_broken false false false false true f is = absurd (cc)
none_broken false false false false false true is = absurd (cc)
none_broken false false false false false false is = (refl, refl)

unbroken : (levels : ℕ) (path : List ℕ) (v : Value) (c : Counts) → broken levels path v c ≡ None → IsSmall c
unbroken levels path v c is =
    let tests = none_broken (is_callable v) (is_html v) (is_opaque v) (stands_on path v) ((is_nested v && (levels == 0)) || nat_lt data_node_limit c.nodes) (nat_lt data_byte_limit c.bytes) is in
    record { nodes = grind (arith, nat_tests, tests.0); bytes = grind (arith, nat_tests, tests.1) }

module _ (store : List Cell) where
  -- what was counted for a value that walked to data
  record Measured (levels : ℕ) (v : Value) (c : Counts) (d : Data) (e : Counts) : Type 0 where
    pub depth : depth_of_data d ≤ levels
    pub nodes : e.nodes ≡ c.nodes + nodes_of_data d
    pub bytes : e.bytes ≡ c.bytes + bytes_of_data d
    pub small : IsSmall e
    pub whole : Lawful store → LawfulValue store v → has_characters d ≡ true → is_data d ≡ true
    pub fits : Lawful store → LawfulValue store v → data_fits d ≡ true

  record MeasuredEntry (levels : ℕ) (p : Property) (c : Counts) (x : Entry) (e : Counts) : Type 0 where
    pub name : x.name ≡ p.name
    pub value : Measured levels p.value c x.value e

  record Entered (v : Value) (c e : Counts) : Type 0 where
    pub nodes : e.nodes ≡ suc c.nodes
    pub bytes : e.bytes ≡ c.bytes + bytes_of store v
    pub small : IsSmall e

  entered : (levels : ℕ) (path : List ℕ) (v : Value) (c e : Counts) (u : Unit {0}) → enter store levels path v c ≡ Ok (u, e) → Entered v c e
  unfolding enter
  entered levels path v c e u is = by (broken levels path v (met store v c)) refl is
    where
      by : (o : Option MarshalRule) → broken levels path v (met store v c) ≡ o → unless o (met store v c) ≡ Ok (u, e) → Entered v c e
      by None none same =
          let small = unbroken levels path v (met store v c) none in
          let e-is = ap (λ (z : Unit {0} × Counts). z.1) (same_given (tt, met store v c) (u, e) same) in
          subst (Entered v c) e-is (record { nodes = omega (arith, cut (c.nodes + 1) (omega (arith, small.nodes))); bytes = cut (c.bytes + bytes_of store v) small.bytes; small = small })
      by (Some rule) broke same = absurd (cc)

  -- ---- items one after another

  record AllMeasured (levels : ℕ) (vs : List Value) (c : Counts) (ds : List Data) (e : Counts) : Type 0 where
    pub depth : greatest (map depth_of_data ds) ≤ levels
    pub nodes : e.nodes ≡ c.nodes + sum (map nodes_of_data ds)
    pub bytes : e.bytes ≡ c.bytes + sum (map bytes_of_data ds)
    pub small : IsSmall c → IsSmall e
    pub whole : Lawful store → All (LawfulValue store) vs → list_all has_characters ds ≡ true → list_all is_data ds ≡ true
    pub fits : Lawful store → All (LawfulValue store) vs → list_all data_fits ds ≡ true

  all_measured : (levels : ℕ) (vs : List Value) (c : Counts) (ds : List Data) (e : Counts) → Chain (Measured levels) vs c ds e → AllMeasured levels vs c ds e
  all_measured levels [] c [] e same = record { depth = omega arith; nodes = ap (λ (x : Counts). x.nodes) (sym same) ∙ omega arith; bytes = ap (λ (x : Counts). x.bytes) (sym same) ∙ omega arith; small = subst IsSmall same; whole = λ lawful values texts. refl; fits = λ lawful values. refl }
  all_measured levels (v ∷ vs) c (d ∷ ds) e chain =
      let one = chain.1.0 in
      let rest = all_measured levels vs chain.0 ds e chain.1.1 in
      record {
        depth = omega (arith, one.depth, rest.depth);
        nodes = omega (arith, one.nodes, rest.nodes, sum_by-cons (λ n. n) (nodes_of_data d) (map nodes_of_data ds));
        bytes = omega (arith, one.bytes, rest.bytes, sum_by-cons (λ n. n) (bytes_of_data d) (map bytes_of_data ds));
        small = λ h. rest.small one.small;
        whole = λ lawful values texts.
            let parts = and_parts (has_characters d) (list_all has_characters ds) texts in
            both (is_data d) (list_all is_data ds) (one.whole lawful (All-head (LawfulValue store) v vs values) parts.0) (rest.whole lawful (All-tail (LawfulValue store) v vs values) parts.1);
        fits = λ lawful values. both (data_fits d) (list_all data_fits ds) (one.fits lawful (All-head (LawfulValue store) v vs values)) (rest.fits lawful (All-tail (LawfulValue store) v vs values));
      }
  all_measured levels [] c (d ∷ ds) e chain = absurd chain
  all_measured levels (v ∷ vs) c [] e chain = absurd chain

  record AllMeasuredEntries (levels : ℕ) (ps : List Property) (c : Counts) (xs : List Entry) (e : Counts) : Type 0 where
    pub names : map (λ (x : Entry). x.name) xs ≡ map (λ (p : Property). p.name) ps
    pub depth : greatest (map depth_of_entry xs) ≤ levels
    pub nodes : e.nodes ≡ c.nodes + sum (map nodes_of_entry xs)
    pub bytes : e.bytes + sum (map name_bytes ps) ≡ c.bytes + sum (map bytes_of_entry xs)
    pub small : IsSmall c → IsSmall e
    pub whole : Lawful store → All (λ p. LawfulValue store p.value) ps → list_all entry_has_characters xs ≡ true → list_all entry_is_data xs ≡ true
    pub fits : Lawful store → All (λ p. LawfulValue store p.value) ps → All (λ p. IsTrue (text_fits p.name)) ps → list_all (λ (t : Tested). t.1) (map tested xs) ≡ true

  all_entries_measured : (levels : ℕ) (ps : List Property) (c : Counts) (xs : List Entry) (e : Counts) → Chain (MeasuredEntry levels) ps c xs e → AllMeasuredEntries levels ps c xs e
  all_entries_measured levels [] c [] e same = record { names = refl; depth = omega arith; nodes = ap (λ (x : Counts). x.nodes) (sym same) ∙ omega arith; bytes = ap (λ (x : Counts). x.bytes + 0) (sym same); small = subst IsSmall same; whole = λ lawful values texts. refl; fits = λ lawful values texts. refl }
  all_entries_measured levels (p ∷ ps) c (x ∷ xs) e chain =
      let one = chain.1.0 in
      let rest = all_entries_measured levels ps chain.0 xs e chain.1.1 in
      record {
        names = λ i. one.name i ∷ rest.names i;
        depth = omega (arith, one.value.depth, rest.depth, depth_of_one x);
        nodes = omega (arith, one.value.nodes, rest.nodes, nodes_of_one x, sum_by-cons (λ n. n) (nodes_of_entry x) (map nodes_of_entry xs));
        bytes = omega (arith, one.value.bytes, rest.bytes, bytes_of_one x, ap text_bytes one.name, sum_by-cons (λ n. n) (bytes_of_entry x) (map bytes_of_entry xs), sum_by-cons (λ n. n) (name_bytes p) (map name_bytes ps));
        small = λ h. rest.small one.value.small;
        whole = λ lawful values texts.
            let parts = and_parts (entry_has_characters x) (list_all entry_has_characters xs) texts in
            let own = and_parts (all_scalars x.name) (has_characters x.value) (sym (characters_of_entry x) ∙ parts.0) in
            let value = one.value.whole lawful (All-head (λ p. LawfulValue store p.value) p ps values) own.1 in
            both (entry_is_data x) (list_all entry_is_data xs) (data_of_entry x ∙ both (all_scalars x.name) (is_data x.value) own.0 value) (rest.whole lawful (All-tail (λ p. LawfulValue store p.value) p ps values) parts.1);
        fits = λ lawful values texts.
            let name = ap text_fits one.name ∙ All-head (λ p. IsTrue (text_fits p.name)) p ps texts in
            let value = one.value.fits lawful (All-head (λ p. LawfulValue store p.value) p ps values) in
            both (tested x).1 (list_all (λ (t : Tested). t.1) (map tested xs)) (ap (λ (t : Tested). t.1) (fits_of_one x) ∙ both (text_fits x.name) (data_fits x.value) name value)
            (rest.fits lawful (All-tail (λ p. LawfulValue store p.value) p ps values) (All-tail (λ p. IsTrue (text_fits p.name)) p ps texts));
      }
  all_entries_measured levels [] c (x ∷ xs) e chain = absurd chain
  all_entries_measured levels (p ∷ ps) c [] e chain = absurd chain

  -- ---- a node

  -- what is given of what stands at an address, once the node is entered
  abbrev AtGives : ℕ → (ℕ → Value) → At → Type 0
  AtGives levels named walk = (path : List ℕ) (at : ℕ) (b c : Counts) (d : Data) (e : Counts) → Entered (named at) b c → walk path at c ≡ Ok (d, e) → Measured levels (named at) b d e

  leaf : (levels : ℕ) (v : Value) (b c : Counts) (d : Data) (e : Counts) → Entered v b c → nodes_of_data (plain v) ≡ 1 → bytes_of_data (plain v) ≡ bytes_of store v → depth_of_data (plain v) ≡ 0
      → (LawfulValue store v → has_characters (plain v) ≡ true → is_data (plain v) ≡ true) → (LawfulValue store v → data_fits (plain v) ≡ true) → ◌≡◌ {A = Result (Data × Counts) Refused} (Ok (plain v, c)) (Ok (d, e)) → Measured levels v b d e
  leaf levels v b c d e h nodes bytes depth whole fits is =
      let same = same_given (plain v, c) (d, e) is in
      let d-is = ap (λ (z : Data × Counts). z.0) same in
      let e-is = ap (λ (z : Data × Counts). z.1) same in
      subst (λ d. Measured levels v b d e) d-is (subst (Measured levels v b (plain v)) e-is (record {
        depth = omega (arith, depth);
        nodes = omega (arith, h.nodes, nodes);
        bytes = h.bytes ∙ ap (λ n. b.bytes + n) (sym bytes);
        small = h.small;
        whole = λ lawful. whole;
        fits = λ lawful. fits;
      }))

  module _ (levels : ℕ) (array object : At) (arrays : AtGives levels value.Arr array) (objects : AtGives levels value.Obj object) (path : List ℕ) where
    inside_gives : (v : Value) (b c : Counts) (d : Data) (e : Counts) → Entered v b c → inside array object path v c ≡ Ok (d, e) → Measured levels v b d e
    inside_gives (value.Arr at) b c d e h is = arrays path at b c d e h is
    inside_gives (value.Obj at) b c d e h is = objects path at b c d e h is
    inside_gives value.Null b c d e h is = leaf levels value.Null b c d e h null.nodes null.bytes null.depth (λ h texts. null.whole) (λ h. null.fits) is
    inside_gives (value.Bool t) b c d e h is = let bool = truth t in leaf levels (value.Bool t) b c d e h bool.nodes bool.bytes bool.depth (λ h texts. bool.whole) (λ h. bool.fits) is
    inside_gives (value.Num n) b c d e h is = leaf levels (value.Num n) b c d e h (number_nodes n) (number_bytes n) (number_depth n) (λ h texts. data_of_number n ∙ h) (λ h. fits_of_number n ∙ h) is
    inside_gives (value.Text text) b c d e h is = leaf levels (value.Text text) b c d e h (text_nodes text) (bytes_of_text text) (text_depth text) (λ h texts. data_of_text text ∙ (sym (characters_of_text text) ∙ texts)) (λ h. fits_of_text text ∙ h) is
    inside_gives (value.Svc name) b c d e h is = leaf levels (value.Svc name) b c d e h (service_nodes name) (bytes_of_service name) (service_depth name) (λ h texts. data_of_service name ∙ (sym (characters_of_service name) ∙ texts)) (λ h. fits_of_service name ∙ h) is
    inside_gives v b c d e h is = leaf levels v b c d e h undefined.nodes undefined.bytes undefined.depth (λ h texts. undefined.whole) (λ h. undefined.fits) is

    node_gives : (v : Value) (c : Counts) (d : Data) (e : Counts) → node store levels array object path v c ≡ Ok (d, e) → Measured levels v c d e
    unfolding node
    node_gives v c d e is = by (enter store levels path v c) refl is
      where
        by : (r : Result (Unit {0} × Counts) Refused) → enter store levels path v c ≡ r → and_then r (λ _. inside array object path v) ≡ Ok (d, e) → Measured levels v c d e
        by (Ok r) came is = inside_gives v c r.1 d e (entered levels path v c r.1 r.0 came) is
        by (Err x) came is = absurd (cc)

  -- ---- arrays and objects, by what is below them

  abbrev DatumGives : ℕ → Type 0
  DatumGives levels = (path : List ℕ) (v : Value) (c : Counts) (d : Data) (e : Counts) → datum store levels path v c ≡ Ok (d, e) → Measured levels v c d e

  too_deep_gives : (levels : ℕ) (named : ℕ → Value) → AtGives levels named too_deep
  too_deep_gives levels named path at b c d e h is = absurd (cc)

  items_lawful : (o : Option Cell) → ((x : Cell) → o ≡ Some x → LawfulCell store x) → All (LawfulValue store) (items_in o)
  items_lawful (Some (cell.Arr items)) h = (h (cell.Arr items) refl).values
  items_lawful _ h = All-nil (LawfulValue store)

  values_lawful : (o : Option Cell) → ((x : Cell) → o ≡ Some x → LawfulCell store x) → All (λ p. LawfulValue store p.value) (properties_in o)
  values_lawful (Some (cell.Obj properties)) h = (h (cell.Obj properties) refl).values
  values_lawful _ h = All-nil (λ (p : Property). LawfulValue store p.value)

  names_lawful : (o : Option Cell) → ((x : Cell) → o ≡ Some x → LawfulCell store x) → are_property_names (map (λ (p : Property). p.name) (properties_in o)) ≡ true
  names_lawful (Some (cell.Obj properties)) h = (h (cell.Obj properties) refl).names
  names_lawful _ h = refl

  texts_lawful : (o : Option Cell) → ((x : Cell) → o ≡ Some x → LawfulCell store x) → All (λ p. IsTrue (text_fits p.name)) (properties_in o)
  texts_lawful (Some (cell.Obj properties)) h = (h (cell.Obj properties) refl).texts
  texts_lawful _ h = All-nil (λ (p : Property). IsTrue (text_fits p.name))

  cell_at : (at : ℕ) → Lawful store → (x : Cell) → slice_get store at ≡ Some x → LawfulCell store x
  cell_at at lawful x is = at_place (LawfulCell store) store at x lawful.cells is

  module _ (levels : ℕ) (below : DatumGives levels) where
    array_gives : AtGives (suc levels) value.Arr (array store (datum store levels))
    unfolding array
    array_gives path at b c d e h is = by (all (map (datum store levels (path ++ at ∷ [])) (items_in (slice_get store at))) c) refl is
      where
        by : (r : Result (List Data × Counts) Refused) → all (map (datum store levels (path ++ at ∷ [])) (items_in (slice_get store at))) c ≡ r → and_then r (λ ds. pure («data».Arr ds)) ≡ Ok (d, e) → Measured (suc levels) (value.Arr at) b d e
        by (Ok r) walked same =
            let given = same_given («data».Arr r.0, r.1) (d, e) same in
            let d-is = ap (λ (z : Data × Counts). z.0) given in
            let e-is = ap (λ (z : Data × Counts). z.1) given in
            let each = all_measured levels (items_in (slice_get store at)) c r.0 r.1 (chain_of (Measured levels) (datum store levels (path ++ at ∷ [])) (below (path ++ at ∷ [])) (items_in (slice_get store at)) r.0 c r.1 walked) in
            subst (λ d. Measured (suc levels) (value.Arr at) b d e) d-is (subst (Measured (suc levels) (value.Arr at) b («data».Arr r.0)) e-is (record {
              depth = omega (arith, each.depth, depth_of_items r.0);
              nodes = omega (arith, each.nodes, h.nodes, nodes_of_items r.0);
              bytes = omega (arith, each.bytes, h.bytes, bytes_of_items r.0);
              small = each.small h.small;
              whole = λ lawful named texts. data_of_items r.0 ∙ each.whole lawful (items_lawful (slice_get store at) (cell_at at lawful)) (sym (characters_of_items r.0) ∙ texts);
              fits = λ lawful named. fits_of_items r.0 ∙ each.fits lawful (items_lawful (slice_get store at) (cell_at at lawful));
            }))
        by (Err x) walked same = absurd (cc)

    entry_gives : (path : List ℕ) (p : Property) (c : Counts) (x : Entry) (e : Counts) → entry (datum store levels path) p c ≡ Ok (x, e) → MeasuredEntry levels p c x e
    unfolding entry
    entry_gives path p c x e is = by (datum store levels path p.value c) refl is
      where
        by : (r : Result (Data × Counts) Refused) → datum store levels path p.value c ≡ r → and_then r (λ d. pure (record { name = p.name; value = d })) ≡ Ok (x, e) → MeasuredEntry levels p c x e
        by (Ok r) walked same =
            let given = same_given {A = Entry} (record { name = p.name; value = r.0 }, r.1) (x, e) same in
            let x-is = ap (λ (z : Entry × Counts). z.0) given in
            let e-is = ap (λ (z : Entry × Counts). z.1) given in
            subst (λ x. MeasuredEntry levels p c x e) x-is (record { name = refl; value = subst (Measured levels p.value c r.0) e-is (below path p.value c r.0 r.1 walked) })
        by (Err y) walked same = absurd (cc)

    object_gives : AtGives (suc levels) value.Obj (object store (datum store levels))
    unfolding object
    object_gives path at b c d e h is = by (all (map (entry (datum store levels (path ++ at ∷ []))) (properties_in (slice_get store at))) c) refl is
      where
        by : (r : Result (List Entry × Counts) Refused) → all (map (entry (datum store levels (path ++ at ∷ []))) (properties_in (slice_get store at))) c ≡ r → and_then r (λ es. pure («data».Obj es)) ≡ Ok (d, e) → Measured (suc levels) (value.Obj at) b d e
        by (Ok r) walked same =
            let given = same_given («data».Obj r.0, r.1) (d, e) same in
            let d-is = ap (λ (z : Data × Counts). z.0) given in
            let e-is = ap (λ (z : Data × Counts). z.1) given in
            let each = all_entries_measured levels (properties_in (slice_get store at)) c r.0 r.1 (chain_of (MeasuredEntry levels) (entry (datum store levels (path ++ at ∷ []))) (entry_gives (path ++ at ∷ [])) (properties_in (slice_get store at)) r.0 c r.1 walked) in
            subst (λ d. Measured (suc levels) (value.Obj at) b d e) d-is (subst (Measured (suc levels) (value.Obj at) b («data».Obj r.0)) e-is (record {
              depth = omega (arith, each.depth, depth_of_entries r.0);
              nodes = omega (arith, each.nodes, h.nodes, nodes_of_entries r.0);
              bytes = omega (arith, each.bytes, h.bytes, bytes_of_entries r.0);
              small = each.small h.small;
              whole = λ lawful named texts.
                  let names = ap are_property_names each.names ∙ names_lawful (slice_get store at) (cell_at at lawful) in
                  let values = each.whole lawful (values_lawful (slice_get store at) (cell_at at lawful)) (sym (characters_of_entries r.0) ∙ texts) in
                  data_of_entries r.0 ∙ both (are_property_names (map (λ (x : Entry). x.name) r.0)) (list_all entry_is_data r.0) names values;
              fits = λ lawful named.
                  let cell_is = cell_at at lawful in
                  let names = ap are_property_names (names_of_entries r.0 ∙ each.names) ∙ names_lawful (slice_get store at) cell_is in
                  fits_of_entries r.0 ∙ both (are_property_names (map (λ (t : Tested). t.0) (map tested r.0))) (list_all (λ (t : Tested). t.1) (map tested r.0)) names (each.fits lawful (values_lawful (slice_get store at) cell_is) (texts_lawful (slice_get store at) cell_is));
            }))
        by (Err x) walked same = absurd (cc)

  datum_gives : (levels : ℕ) → DatumGives levels
  unfolding datum
  datum_gives zero path v c d e is = node_gives zero too_deep too_deep (too_deep_gives zero value.Arr) (too_deep_gives zero value.Obj) path v c d e is
  datum_gives (suc n) path v c d e is = node_gives (suc n) (array store (datum store n)) (object store (datum store n)) (array_gives n (datum_gives n)) (object_gives n (datum_gives n)) path v c d e is

-- ---- what a snapshot gives

given : (store : List Cell) (vs : List Value) (ds : List Data) → snap store vs ≡ Ok ds → (e : Counts) × AllMeasured store 40 vs nothing ds e
unfolding snap
given store vs ds is = by (all (map (datum store 40 []) vs) nothing) refl is
  where
    by : (r : Result (List Data × Counts) Refused) → all (map (datum store 40 []) vs) nothing ≡ r → data_alone r ≡ Ok ds → (e : Counts) × AllMeasured store 40 vs nothing ds e
    by (Ok r) walked same =
        let ds-is : r.0 ≡ ds = (cc) in
        subst (λ ds. (e : Counts) × AllMeasured store 40 vs nothing ds e) ds-is (r.1, all_measured store 40 vs nothing r.0 r.1 (chain_of (Measured store 40) (datum store 40 []) (datum_gives store 40 []) vs r.0 nothing r.1 walked))
    by (Err x) walked same = absurd (cc)

all_from_test : (ds : List Data) → list_all data_fits ds ≡ true → All (λ d. IsTrue (data_fits d)) ds
all_from_test [] h = All-nil (λ (d : Data). IsTrue (data_fits d))
all_from_test (d ∷ ds) h =
    let parts = and_parts (data_fits d) (list_all data_fits ds) h in
    All-cons (λ (d : Data). IsTrue (data_fits d)) d ds parts.0 (all_from_test ds parts.1)

pub all_fit : (store : List Cell) (vs : List Value) (ds : List Data) → snap store vs ≡ Ok ds → Lawful store → All (LawfulValue store) vs → list_all data_fits ds ≡ true
all_fit store vs ds is = (given store vs ds is).1.fits

pub data_fit : (store : List Cell) (vs : List Value) (ds : List Data) → snap store vs ≡ Ok ds → Lawful store → All (LawfulValue store) vs → All (λ d. IsTrue (data_fits d)) ds
data_fit store vs ds is lawful values = all_from_test ds (all_fit store vs ds is lawful values)

within_limits : (store : List Cell) (vs : List Value) (ds : List Data) → snap store vs ≡ Ok ds → list_all has_characters ds ≡ true → Lawful store → All (LawfulValue store) vs → AreWithinLimits ds
within_limits store vs ds is texts lawful values =
    let found = given store vs ds is in
    let all = found.1 in
    let small = all.small (record { nodes = omega arith; bytes = omega arith }) in
    record {
      «data» = all.whole lawful values texts;
      depth = all.depth;
      nodes = omega (arith, all.nodes, small.nodes);
      bytes = omega (arith, all.bytes, small.bytes);
    }

snap_gives : (store : List Cell) (vs : List Value) (path : List ℕ) (ds : List Data) (new : Counts) → path ≡ [] → all (map (datum store 40 path) vs) nothing ≡ Ok (ds, new) → snap store vs ≡ Ok ds
unfolding snap
snap_gives store vs path ds new start is = ap data_alone (subst (λ p. all (map (datum store 40 p) vs) nothing ≡ Ok (ds, new)) start is)

-- ---- what the code of a snapshot gives

pub limits_hold : (store : List Cell) (vs : List Value) (path : List ℕ) (r : Result (List Data) Refused) (new : Counts) → path ≡ [] → Does (all (map (datum store 40 path) vs) nothing) r new
    → IfOk r (λ ds. list_all has_characters ds ≡ true) → Lawful store → All (LawfulValue store) vs → IfOk r (λ ds. AreWithinLimits ds)
limits_hold store vs path (Ok ds) new start is texts lawful values = within_limits store vs ds (snap_gives store vs path ds new start is) texts lawful values
limits_hold store vs path (Err e) new start is texts lawful values = tt

pub fits_hold : (store : List Cell) (vs : List Value) (path : List ℕ) (r : Result (List Data) Refused) (new : Counts) → path ≡ [] → Does (all (map (datum store 40 path) vs) nothing) r new
    → Lawful store → All (LawfulValue store) vs → IfOk r (λ ds. All (λ d. IsTrue (data_fits d)) ds)
fits_hold store vs path (Ok ds) new start is lawful values = data_fit store vs ds (snap_gives store vs path ds new start is) lawful values
fits_hold store vs path (Err e) new start is lawful values = tt
