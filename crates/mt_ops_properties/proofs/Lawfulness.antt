-- What reading and writing keep of a lawful store.
use Rattle.std.proofs.Common.{◌≡◌, ℕ, zero, suc, ◌<◌, ◌^◌, ◌==◌, nat_lt, ℤ, pos, negsuc, Bool, true, false, ◌&&◌, not, List, [], ◌∷◌, ◌++◌, length, map, get_or, Option, None, Some, refl, sym, ap, subst, ◌∙◌, arith}
use Rattle.std.specs.Prelude.{Result, Ok, Err, OnOk, IsTrue, codes, if◌then◌else◌, All, slice_get, slice_set, ◌||◌}
use Rattle.std.specs.List.{list_any}
use Rattle.std.specs.Option.{option_map}
use Rattle.std.proofs.lemmas.Bool.Decides.{nat_tests}
use Rattle.std.proofs.lemmas.List.{map-append}
use Rattle.std.proofs.Math.Seq.{map-set_same}
use Rattle.std.proofs.lemmas.List.Elements.{All-head, All-tail, All-set, All-push}
use Rattle.std.proofs.lemmas.List.Folds.{list_any-append}
use Rattle.std.proofs.lemmas.Slice.Eq.{bytes_eq-Decides}
use Rattle.mt_ops.specs.Lawful.{LawfulAnswer}
use Rattle.mt_ops.specs.declared.error.ErrorKind.{ErrorKind}
use Rattle.mt_ops.specs.declared.error.ErrorKind.TheVariants as error
use Rattle.mt_ops.specs.declared.outcome.Refusal.{Refusal}
use Rattle.mt_ops_properties.specs.Arrays.{or_undefined, item_at, array_property, item_written, array_written}
use Rattle.mt_ops_properties.specs.Changes.{Leaves}
use Rattle.mt_ops_properties.specs.Counts.{HoldsFew}
use Rattle.mt_ops_properties.specs.Keys.{no_such, bad_name}
use Rattle.mt_ops_properties.specs.Objects.{name_of, place_of, value_at, named_value, object_property, put_at, with_property, named_written, object_written}
use Rattle.mt_ops_properties.specs.Properties.{cell_property, property, array_cell, object_cell, cell_written}
use Rattle.mt_ops_properties.specs.Texts.{part_or_error, unit_at, text_property}
use Rattle.mt_ops_properties.proofs.Texts.{one_unit}
use Rattle.mt_tree.specs.Text.{units_of}
use Rattle.mt_tree.specs.Units.{cut}
use Rattle.mt_value.proofs.Laws.{keeps_put, cell_kept, lawful_put}
use Rattle.mt_value.specs.Lawful.{Kind, kind_of, Names, Keeps, LawfulValue, LawfulProperties, LawfulItems, LawfulCell, Lawful}
use Rattle.mt_syntax.specs.Data.{are_distinct, are_property_names, is_in_range, spells_whole_number}
use Rattle.mt_value.specs.Limits.{text_fits}
use Rattle.mt_value.specs.Names.{is_same}
use Rattle.mt_value.specs.declared.cell.Cell.{Cell}
use Rattle.mt_value.specs.declared.cell.Cell.TheVariants as cell
use Rattle.mt_value.specs.declared.cell.Property.{Property}
use Rattle.mt_value.specs.declared.value.Value.{Value}
use Rattle.mt_value.specs.declared.value.Value.TheVariants as value

-- what holds of each item holds of the one at a place
module _ {A : Type 0} (P : A → Type 0) where
  at_place : (xs : List A) (i : ℕ) (x : A) → All P xs → slice_get xs i ≡ Some x → P x
  at_place [] i x h is = absurd (cc)
  at_place (y ∷ ys) zero x h is = let e : y ≡ x = cc in subst P e (All-head P y ys h)
  at_place (y ∷ ys) (suc i) x h is = at_place ys i x (All-tail P y ys h) is

-- ---- reading

module _ (store : List Cell) where
  undefined_or : (o : Option Value) → ((v : Value) → o ≡ Some v → LawfulValue store v) → LawfulValue store (or_undefined o)
  undefined_or (Some v) h = h v refl
  undefined_or None h = tt

  item_lawful : (items : List Value) (n : ℤ) → All (LawfulValue store) items → LawfulValue store (or_undefined (item_at items n))
  item_lawful items (pos n) h = undefined_or (slice_get items n) (λ v is. at_place (LawfulValue store) items n v h is)
  item_lawful items (negsuc n) h = tt

  count_lawful : (items : List Value) → length items < 2 ^ 53 → IsTrue (is_in_range (pos (length items)))
  count_lawful items h = grind (arith, nat_tests)

  array_lawful : (items : List Value) (key : Value) → LawfulItems store items → LawfulAnswer store (array_property items key)
  unfolding array_property
  array_lawful items (value.Num n) h = item_lawful items n h.values
  array_lawful items (value.Text name) h = by (is_same name (codes "length"))
    where
      by : (b : Bool) → LawfulAnswer store (if b then Ok (value.Num (pos (length items))) else no_such (value.Text name))
      by true = count_lawful items h.count
      by false = tt
  array_lawful items _ h = tt

  value_lawful : (properties : List Property) (at : Option ℕ) → All (λ p. LawfulValue store p.value) properties → LawfulValue store (or_undefined (value_at properties at))
  value_lawful properties None h = tt
  value_lawful properties (Some at) h = by (slice_get properties at) refl
    where
      by : (o : Option Property) → slice_get properties at ≡ o → LawfulValue store (or_undefined (option_map (λ p. p.value) o))
      by None is = tt
      by (Some p) is = at_place (λ q. LawfulValue store q.value) properties at p h is

  object_lawful : (properties : List Property) (key : Value) → LawfulProperties store properties → LawfulAnswer store (object_property properties key)
  unfolding object_property
  object_lawful properties key h = by (name_of key)
    where
      by : (r : Result (List ℕ) ErrorKind) → LawfulAnswer store (named_value properties r)
      by (Ok name) = value_lawful properties (place_of name properties) h.values
      by (Err e) = tt

  cell_lawful : (o : Option Cell) (key : Value) → ((c : Cell) → o ≡ Some c → LawfulCell store c) → LawfulAnswer store (cell_property o key)
  cell_lawful (Some (cell.Arr items)) key h = array_lawful items key (h (cell.Arr items) refl)
  cell_lawful (Some (cell.Obj properties)) key h = object_lawful properties key (h (cell.Obj properties) refl)
  cell_lawful _ key h = tt

  cell_at : (at : ℕ) → Lawful store → (c : Cell) → slice_get store at ≡ Some c → LawfulCell store c
  cell_at at lawful c is = at_place (LawfulCell store) store at c lawful.cells is

  units_lawful : (text : List ℕ) → IsTrue (text_fits text) → IsTrue (is_in_range (pos (units_of text)))
  units_lawful text h = grind (arith, nat_tests)

  one_fits : (part : List ℕ) → units_of part ≡ 1 → IsTrue (text_fits part)
  one_fits part h = grind (arith, nat_tests)

  unit_lawful : (text : List ℕ) (n : ℤ) → LawfulAnswer store (unit_at text n)
  unit_lawful text (pos n) = by (nat_lt n (units_of text)) (cut text n (suc n)) refl
    where
      by : (b : Bool) (o : Option (List ℕ)) → cut text n (suc n) ≡ o → LawfulAnswer store (if b then part_or_error o else Ok value.Undefined)
      by true (Some part) is = one_fits part (one_unit text part n is)
      by true None is = tt
      by false o is = tt
  unit_lawful text (negsuc n) = tt

  text_lawful : (text : List ℕ) (key : Value) → IsTrue (text_fits text) → LawfulAnswer store (text_property text key)
  unfolding text_property
  text_lawful text (value.Num n) h = unit_lawful text n
  text_lawful text (value.Text name) h = by (is_same name (codes "length"))
    where
      by : (b : Bool) → LawfulAnswer store (if b then Ok (value.Num (pos (units_of text))) else no_such (value.Text name))
      by true = units_lawful text h
      by false = tt
  text_lawful text _ h = tt

  pub property_lawful : (base key : Value) → Lawful store → LawfulValue store base → LawfulAnswer store (property store base key)
  unfolding property
  property_lawful (value.Text text) key lawful h = text_lawful text key h
  property_lawful (value.Arr at) key lawful h = cell_lawful (slice_get store at) key (cell_at at lawful)
  property_lawful (value.Obj at) key lawful h = cell_lawful (slice_get store at) key (cell_at at lawful)
  property_lawful _ key lawful h = tt

-- ---- writing an item

-- what holds of each part of what a write comes to
abbrev Each : {A : Type 0} → (A → Type 0) → Result (List A) ErrorKind → Type 0
Each P (Ok xs) = All P xs
Each P (Err e) = Unit {0}

module _ (P : Value → Type 0) (items : List Value) (v : Value) (each : All P items) (new : P v) where
  item_each : (n : ℤ) → Each P (item_written items n v)
  item_each (pos n) = by (nat_lt n (length items)) (n == length items)
    where
      by : (a b : Bool) → Each P (if a then Ok (slice_set items n v) else if b then Ok (items ++ v ∷ []) else Err error.IndexOutOfRange)
      by true b = All-set P items n v new each
      by false true = All-push P items v each new
      by false false = tt
  item_each (negsuc n) = tt

  array_each : (key : Value) → Each P (array_written items key v)
  unfolding array_written
  array_each (value.Num n) = item_each n
  array_each _ = tt

-- ---- writing a property

same_is : (a b : List ℕ) → is_same a b ≡ true → a ≡ b
same_is a b e = (bytes_eq-Decides a b).0 e

is_other : (a b : List ℕ) → is_same a b ≡ false → is_same b a ≡ false
is_other a b e = by (is_same b a) refl
  where
    by : (r : Bool) → is_same b a ≡ r → is_same b a ≡ false
    by false f = f
    by true t = absurd (let e' : is_same a b ≡ true = (bytes_eq-Decides a b).1 (sym (same_is b a t)) in cc)

or_false : (a b : Bool) → (a || b) ≡ false → (a ≡ false) × (b ≡ false)
or_false true b e = absurd (cc)
or_false false b e = (refl, e)

and_true : (a b : Bool) → (a && b) ≡ true → (a ≡ true) × (b ≡ true)
and_true true b e = (refl, e)
and_true false b e = absurd (cc)

not_true : (a : Bool) → not a ≡ true → a ≡ false
not_true true e = absurd (cc)
not_true false e = refl

module _ (name : List ℕ) where
  -- the property at the place has the name
  named_there : (ps : List Property) (d : Property) (at : ℕ) → place_of name ps ≡ Some at → name ≡ (get_or ps at d).name
  named_there [] d at is = absurd (cc)
  named_there (p ∷ ps) d at is = by (is_same name p.name) refl (place_of name ps) (λ k e. named_there ps d k e) at is
    where
      by : (b : Bool) → is_same name p.name ≡ b → (o : Option ℕ) → ((k : ℕ) → o ≡ Some k → name ≡ (get_or ps k d).name) → (at : ℕ) → (if b then Some 0 else option_map suc o) ≡ Some at
          → name ≡ (get_or (p ∷ ps) at d).name
      by true t o rest zero is = same_is name p.name t
      by true t o rest (suc at) is = absurd (cc)
      by false f None rest at is = absurd (cc)
      by false f (Some k) rest zero is = absurd (cc)
      by false f (Some k) rest (suc at) is = rest at (let e : k ≡ at = cc in ap Option.Some e)

  -- a name that is not there differs from each that is
  none_same : (ps : List Property) → place_of name ps ≡ None → list_any (is_same name) (map (λ p. p.name) ps) ≡ false
  none_same [] is = refl
  none_same (p ∷ ps) is = by (is_same name p.name) (place_of name ps) (λ e. none_same ps e) is
    where
      by : (b : Bool) (o : Option ℕ) → (o ≡ None → list_any (is_same name) (map (λ p. p.name) ps) ≡ false) → (if b then Some 0 else option_map suc o) ≡ None
          → (b || list_any (is_same name) (map (λ p. p.name) ps)) ≡ false
      by true o rest is = absurd (cc)
      by false None rest is = rest refl
      by false (Some k) rest is = absurd (cc)

  distinct_push : (ns : List (List ℕ)) → list_any (is_same name) ns ≡ false → are_distinct ns ≡ true → are_distinct (ns ++ name ∷ []) ≡ true
  distinct_push [] none distinct = refl
  distinct_push (n ∷ ns) none distinct =
      let others = or_false (is_same name n) (list_any (is_same name) ns) none in
      let apart = and_true (not (list_any (is_same n) ns)) (are_distinct ns) distinct in
      rw (list_any-append (is_same n) ns (name ∷ []), not_true (list_any (is_same n) ns) apart.0, is_other name n others.0, distinct_push ns others.1 apart.1) refl

  names_push : (ns : List (List ℕ)) → list_any (is_same name) ns ≡ false → spells_whole_number name ≡ false → are_property_names ns ≡ true → are_property_names (ns ++ name ∷ []) ≡ true
  names_push ns none word are =
      let both = and_true (are_distinct ns) (not (list_any spells_whole_number ns)) are in
      rw (distinct_push ns none both.0, list_any-append spells_whole_number ns (name ∷ []), not_true (list_any spells_whole_number ns) both.1, word) refl

module _ (store : List Cell) (name : List ℕ) (v : Value) where
  with_lawful : (ps : List Property) → LawfulProperties store ps → IsTrue (text_fits name) → spells_whole_number name ≡ false → LawfulValue store v → length (with_property ps name v) < 2 ^ 53
      → LawfulProperties store (with_property ps name v)
  with_lawful ps h fits word lawful count = by (place_of name ps) refl count
    where
      by : (o : Option ℕ) → place_of name ps ≡ o → length (put_at ps o (record { name = name; value = v })) < 2 ^ 53 → LawfulProperties store (put_at ps o (record { name = name; value = v }))
      by (Some at) is count =
          let p : Property = record { name = name; value = v } in
          record {
            values = All-set (λ p. LawfulValue store p.value) ps at p lawful h.values;
            texts = All-set (λ p. IsTrue (text_fits p.name)) ps at p fits h.texts;
            names = ap are_property_names (map-set_same (λ p. p.name) ps at p p (named_there name ps p at is)) ∙ h.names;
            count = count;
          }
      by None is count =
          let p : Property = record { name = name; value = v } in
          record {
            values = All-push (λ p. LawfulValue store p.value) ps p h.values lawful;
            texts = All-push (λ p. IsTrue (text_fits p.name)) ps p h.texts fits;
            names = ap are_property_names (map-append (λ p. p.name) ps (p ∷ [])) ∙ names_push name (map (λ p. p.name) ps) (none_same name ps is) word h.names;
            count = count;
          }

-- a key that is a name fits, and spells no whole number
name_ok : (store : List Cell) (key : Value) (name : List ℕ) → name_of key ≡ Ok name → LawfulValue store key → IsTrue (text_fits name) × (spells_whole_number name ≡ false)
unfolding name_of
name_ok store (value.Text text) name is h = by (spells_whole_number text) refl is
  where
    by : (b : Bool) → spells_whole_number text ≡ b → (if b then bad_name (value.Text text) else Ok text) ≡ Ok name → IsTrue (text_fits name) × (spells_whole_number name ≡ false)
    by true t is = absurd (cc)
    by false f is = let e : text ≡ name = cc in (subst (λ n. IsTrue (text_fits n)) e h, subst (λ n. spells_whole_number n ≡ false) e f)
name_ok store _ name is h = absurd (cc)

-- ---- writing a cell

module _ (store : List Cell) (v : Value) (lawful : LawfulValue store v) where
  array_new : (r : Result (List Value) ErrorKind) → Each (LawfulValue store) r → (new : Cell) → array_cell r ≡ Ok new → HoldsFew new → LawfulCell store new × (Kind.array ≡ kind_of new)
  array_new (Ok items) each (cell.Arr new) is few = let e : items ≡ new = cc in (record { values = subst (All (LawfulValue store)) e each; count = few }, refl)
  array_new (Ok items) each _ is few = absurd (cc)
  array_new (Err e) each new is few = absurd (cc)

  object_new : (ps : List Property) (key : Value) → LawfulProperties store ps → LawfulValue store key → (r : Result (List ℕ) ErrorKind) → name_of key ≡ r
      → (new : Cell) → object_cell (named_written ps r v) ≡ Ok new → HoldsFew new → LawfulCell store new × (Kind.object ≡ kind_of new)
  object_new ps key h fits (Ok name) named (cell.Obj new) is few =
      let e : with_property ps name v ≡ new = cc in
      let ok = name_ok store key name named fits in
      (subst (LawfulProperties store) e (with_lawful store name v ps h ok.0 ok.1 lawful (subst (λ ps. length ps < 2 ^ 53) (sym e) few)), refl)
  object_new ps key h fits (Ok name) named _ is few = absurd (cc)
  object_new ps key h fits (Err e) named new is few = absurd (cc)

  cell_new : (old new : Cell) (key : Value) → LawfulCell store old → LawfulValue store key → cell_written (Some old) key v ≡ Ok new → HoldsFew new → LawfulCell store new × (kind_of old ≡ kind_of new)
  unfolding object_written
  cell_new (cell.Arr items) new key h fits is few = array_new (array_written items key v) (array_each (LawfulValue store) items v h.values lawful key) new is few
  cell_new (cell.Obj ps) new key h fits is few = object_new ps key h fits (name_of key) refl new is few
  cell_new _ new key h fits is few = absurd (cc)

-- the cell is put in the place of the old one
pub changed_lawful : (store : List Cell) (at : ℕ) (old new : Cell) (key v : Value) (answer : Result (Unit {0}) Refusal) → slice_get store at ≡ Some old
    → Leaves (cell_written (Some old) key v) answer old new → (HoldsFew old → OnOk answer (HoldsFew new)) → Lawful store → LawfulValue store key → LawfulValue store v
    → OnOk answer (Lawful (slice_set store at new) × Keeps store (slice_set store at new))
changed_lawful store at old new key v (Err e) there is few lawful k h = tt
changed_lawful store at old new key v (Ok done) there is few lawful k h =
    let old_lawful = cell_at store at lawful old there in
    let made = cell_new store v h old new key old_lawful k is (few (holds_few old old_lawful)) in
    let same : Names store (kind_of new) at = ap (option_map kind_of) there ∙ ap Option.Some made.1 in
    let keeps = keeps_put store at new same in
    (lawful_put store at new same lawful (cell_kept store (slice_set store at new) keeps new made.0), keeps)
  where
    holds_few : (c : Cell) → LawfulCell store c → HoldsFew c
    holds_few (cell.Arr items) h = h.count
    holds_few (cell.Obj ps) h = h.count
    holds_few _ h = tt
