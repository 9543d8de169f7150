-- What writes and methods leave of a store, and of what is the host's own in it.
use Rattle.std.proofs.Common.{◌≡◌, ℕ, suc, ◌+◌, ◌-◌, ◌≤◌, ◌<◌, ◌^◌, ◌==◌, nat_lt, ℤ, pos, negsuc, List, [], ◌∷◌, ◌++◌, length, take, drop, Option, None, Some, Bool, true, false, Result, Ok, Err, refl, ap, arith}
use Rattle.std.specs.Prelude.{All, slice_get, slice_set, if◌then◌else◌}
use Rattle.std.specs.Option.{option_map}
use Rattle.std.specs.List.{list_all}
use Rattle.std.proofs.Math.ListN.{length-set}
use Rattle.std.proofs.lemmas.List.{length-append, length-take, length-drop}
use Rattle.std.proofs.lemmas.List.Elements.{All-push, All-set, All-take, All-drop, All-weaker}
use Rattle.mt_eval_keeps.specs.Growth.{Owning, OwnValue, FitsCell}
use Rattle.mt_eval_keeps.proofs.Operations.{all_at}
use Rattle.mt_eval_keeps.proofs.Steps.{Leaves, OwnAnswer, settled_leaves, added_grew, put_grew}
use Rattle.mt_ops_methods.proofs.Lawfulness.{text_lawful, part_at_lawful, made_lawful, value_at_lawful, pushed_lawful, popped_lawful, given_lawful}
use Rattle.mt_ops_methods.specs.Arguments.{given, named, range, place_number, word}
use Rattle.mt_ops_methods.specs.Arrays as array
use Rattle.mt_ops_methods.specs.Joining.{is_shown, joined as joined_items, join}
use Rattle.mt_ops_methods.specs.Methods.{method}
use Rattle.mt_ops_methods.specs.Texts as text
use Rattle.mt_ops_methods.specs.declared.name.MethodName.{MethodName}
use Rattle.mt_ops_methods.specs.declared.name.MethodName.TheVariants as name
use Rattle.mt_ops.specs.Errors.{settled}
use Rattle.mt_ops.specs.Lawful.{StaysLawful, LawfulAnswer}
use Rattle.mt_ops.specs.declared.error.ErrorKind.{ErrorKind}
use Rattle.mt_ops.specs.declared.error.ErrorKind.TheVariants as error
use Rattle.mt_ops_properties.proofs.Lawfulness.{changed_lawful}
use Rattle.mt_ops_properties.specs.Arrays.{item_written, array_written}
use Rattle.mt_ops_properties.specs.Keys.{key_text}
use Rattle.mt_ops_properties.specs.Objects.{name_of, place_of, put_at, named_written, object_written}
use Rattle.mt_ops_properties.specs.Properties.{array_cell, object_cell, cell_written, with_cell, store_written, answered, written}
use Rattle.mt_tree.specs.Units.{cut, find}
use Rattle.mt_tree.specs.Text.{units_of}
use Rattle.mt_value.proofs.Laws.{value_kept}
use Rattle.mt_value.specs.Lawful.{Kind, kind_of, Names, LawfulValue, Lawful}
use Rattle.mt_value.specs.Limits.{text_fits}
use Rattle.mt_value.specs.declared.cell.Cell.{Cell}
use Rattle.mt_value.specs.declared.cell.Cell.TheVariants as cell
use Rattle.mt_value.specs.declared.cell.Property.{Property}
use Rattle.mt_value.specs.declared.value.Value.{Value}
use Rattle.mt_value.specs.declared.value.Value.TheVariants as value

module _ {H : Type 0} (owns : Owning H) (most : ℕ) (h : H) where
  abbrev Own : Value → Type 0
  Own = OwnValue owns h

  abbrev Answer : Result Value ErrorKind → Type 0
  Answer = OwnAnswer owns most h

  -- ---- writing

  module _ (small : most < 2 ^ 53) (n : ℕ) where
    -- each part is own, and at most one is new
    abbrev pub Grown : {A : Type 0} → (A → Type 0) → ℕ → Result (List A) ErrorKind → Type 0
    Grown P m (Ok xs) = All P xs × (length xs ≤ suc m)
    Grown P m (Err e) = Unit {0}

    item_grown : (items : List Value) (key : ℤ) (v : Value) → All Own items → Own v → Grown Own (length items) (item_written items key v)
    item_grown items (pos k) v all new = by (nat_lt k (length items)) (k == length items)
      where
        by : (a b : Bool) → Grown Own (length items) (if a then Ok (slice_set items k v) else if b then Ok (items ++ v ∷ []) else Err error.IndexOutOfRange)
        by true b = (All-set Own items k v new all, omega (arith, length-set items k v))
        by false true = (All-push Own items v all new, omega (arith, length-append items (v ∷ [])))
        by false false = tt
    item_grown items (negsuc k) v all new = tt

    array_grown : (items : List Value) (key v : Value) → All Own items → Own v → Grown Own (length items) (array_written items key v)
    unfolding array_written
    array_grown items (value.Num k) v all new = item_grown items k v all new
    array_grown items _ v all new = tt

    pub object_grown : (ps : List Property) (key v : Value) → All (λ p. Own p.value) ps → Own v → Grown (λ p. Own p.value) (length ps) (object_written ps key v)
    unfolding object_written
    object_grown ps key v all new = by (name_of key)
      where
        put : (name : List ℕ) (o : Option ℕ) → Grown (λ p. Own p.value) (length ps) (Ok (put_at ps o (record { name = name; value = v })))
        put name (Some at) = let p : Property = record { name = name; value = v } in (All-set (λ p. Own p.value) ps at p new all, omega (arith, length-set ps at p))
        put name None = let p : Property = record { name = name; value = v } in (All-push (λ p. Own p.value) ps p all new, omega (arith, length-append ps (p ∷ [])))

        by : (r : Result (List ℕ) ErrorKind) → Grown (λ p. Own p.value) (length ps) (named_written ps r v)
        by (Ok name) = put name (place_of name ps)
        by (Err e) = tt

    module _ (store : List Cell) (key v : Value) (lawful : Lawful store) (k : LawfulValue store key) (w : LawfulValue store v) (new : Own v)
        (cells : All (FitsCell owns most h (suc n)) store) (room : 64 + n ≤ most) where
      fewer : All (FitsCell owns most h n) store
      fewer = All-weaker (FitsCell owns most h (suc n)) (FitsCell owns most h n) (λ c f. record { own = f.own; room = omega (arith, f.room) }) store cells

      failed : (e : ErrorKind) → Leaves owns most h n store (settled (Err e) store)
      failed e = settled_leaves owns most h n store (Err e) tt tt lawful fewer room

      put_array : (at : ℕ) (items : List Value) → slice_get store at ≡ Some (cell.Arr items) → (r : Result (List Value) ErrorKind) → array_written items key v ≡ r → Grown Own (length items) r
          → Leaves owns most h n store (answered v store (with_cell store at (array_cell r)))
      put_array at items is (Ok xs) made g =
          let old = all_at (FitsCell owns most h (suc n)) store at (cell.Arr items) cells is in
          let few : length xs + n ≤ most = omega (arith, g.1, old.room) in
          let c = cell.Arr xs in
          let l = changed_lawful store at (cell.Arr items) c key v (Ok tt) is (ap array_cell made) (λ _. omega (arith, few, small)) lawful k w in
          let named : Names store Kind.array at = ap (option_map kind_of) is in
          record {
            stays = record { store = l.0; value = value_kept store (slice_set store at c) l.1 v w; keeps = l.1 };
            grew = put_grew store at c refl named;
            own = new;
            cells = All-set (FitsCell owns most h n) store at c (record { own = g.0; room = few }) fewer;
          }
      put_array at items is (Err e) made g = failed e

      put_object : (at : ℕ) (ps : List Property) → slice_get store at ≡ Some (cell.Obj ps) → (r : Result (List Property) ErrorKind) → object_written ps key v ≡ r → Grown (λ p. Own p.value) (length ps) r
          → Leaves owns most h n store (answered v store (with_cell store at (object_cell r)))
      put_object at ps is (Ok xs) made g =
          let old = all_at (FitsCell owns most h (suc n)) store at (cell.Obj ps) cells is in
          let few : length xs + n ≤ most = omega (arith, g.1, old.room) in
          let c = cell.Obj xs in
          let l = changed_lawful store at (cell.Obj ps) c key v (Ok tt) is (ap object_cell made) (λ _. omega (arith, few, small)) lawful k w in
          let named : Names store Kind.object at = ap (option_map kind_of) is in
          record {
            stays = record { store = l.0; value = value_kept store (slice_set store at c) l.1 v w; keeps = l.1 };
            grew = put_grew store at c refl named;
            own = new;
            cells = All-set (FitsCell owns most h n) store at c (record { own = g.0; room = few }) fewer;
          }
      put_object at ps is (Err e) made g = failed e

      write_at : (at : ℕ) (o : Option Cell) → slice_get store at ≡ o → Leaves owns most h n store (answered v store (with_cell store at (cell_written o key v)))
      write_at at (Some (cell.Arr items)) is =
          let old = all_at (FitsCell owns most h (suc n)) store at (cell.Arr items) cells is in
          put_array at items is (array_written items key v) refl (array_grown items key v old.own new)
      write_at at (Some (cell.Obj ps)) is =
          let old = all_at (FitsCell owns most h (suc n)) store at (cell.Obj ps) cells is in
          put_object at ps is (object_written ps key v) refl (object_grown ps key v old.own new)
      write_at at _ is = failed (error.NoSuchProperty (key_text key))

      pub written_leaves : (base : Value) → Leaves owns most h n store (written store base key v)
      unfolding store_written
      written_leaves (value.Arr at) = write_at at (slice_get store at) refl
      written_leaves (value.Obj at) = write_at at (slice_get store at) refl
      written_leaves _ = failed (error.NoSuchProperty (key_text key))

    -- ---- methods

    module _ (store : List Cell) (lawful : Lawful store) (cells : All (FitsCell owns most h (suc n)) store) (room : 64 + n ≤ most) (key : List ℕ) (arguments : List Value)
        (fit : All (LawfulValue store) arguments) (own : All Own arguments) where
      lower : All (FitsCell owns most h n) store
      lower = All-weaker (FitsCell owns most h (suc n)) (FitsCell owns most h n) (λ c f. record { own = f.own; room = omega (arith, f.room) }) store cells

      own_given : (xs : List Value) (i : ℕ) → All Own xs → Own (given (slice_get xs i))
      own_given xs i k = by (slice_get xs i) refl
        where
          by : (o : Option Value) → slice_get xs i ≡ o → Own (given o)
          by None is = tt
          by (Some v) is = all_at Own xs i v k is

      settled_here : (r : Result Value ErrorKind) → LawfulAnswer store r → Answer r → Leaves owns most h n store (settled r store)
      settled_here r l o = settled_leaves owns most h n store r l o lawful lower room

      own_place_number : (o : Option ℕ) → Own (place_number o)
      own_place_number None = tt
      own_place_number (Some k) = tt

      own_text_method : (t : List ℕ) (m : Option MethodName) → Answer (text.text_method t m key arguments)
      unfolding text.text_method text.place
      own_text_method t (Some name.Slice) = by (range (units_of t) (slice_get arguments 0) (slice_get arguments 1))
        where
          cut_by : (o : Option (List ℕ)) → Answer (text.part_or_error o)
          cut_by None = tt
          cut_by (Some part) = tt

          by : (r : Result (ℕ × ℕ) ErrorKind) → Answer (text.part t r)
          by (Ok p) = cut_by (cut t p.0 p.1)
          by (Err e) = tt
      own_text_method t (Some name.IndexOf) = by (slice_get arguments 0)
        where
          by : (o : Option Value) → Answer (text.place t o)
          by (Some (value.Text sought)) = own_place_number (find sought t)
          by _ = tt
      own_text_method t _ = tt

      own_join : (items : List Value) (o : Option Value) → Answer (join items o)
      unfolding join
      own_join items (Some (value.Text separator)) = by (list_all is_shown items) (text_fits (joined_items separator items))
        where
          by : (a b : Bool) → Answer (if a then (if b then Ok (value.Text (joined_items separator items)) else Err error.TextTooLong) else Err (error.BadArgument (word name.Join)))
          by true true = tt
          by true false = tt
          by false b = tt
      own_join items _ = tt

      own_value : (c : Option Cell) (m : Option MethodName) (o : Option Value) → Answer (array.value_at c m key o)
      unfolding array.value_at array.place
      own_value (Some (cell.Arr items)) (Some name.IndexOf) o = own_place_number _
      own_value (Some (cell.Arr items)) (Some name.Join) o = own_join items o
      own_value _ _ o = tt

      abbrev PartOwn : Result (List Value) ErrorKind → Type 0
      PartOwn (Ok xs) = All Own xs × (length xs + n ≤ most)
      PartOwn (Err e) = Unit {0}

      part_own : (at : ℕ) (c : Option Cell) → slice_get store at ≡ c → (from to : Option Value) → PartOwn (array.part_at c key from to)
      unfolding array.part_at
      part_own at (Some (cell.Arr items)) is from to = by (range (length items) from to)
        where
          by : (r : Result (ℕ × ℕ) ErrorKind) → PartOwn (array.part items r)
          by (Ok p) =
              let old = all_at (FitsCell owns most h (suc n)) store at (cell.Arr items) cells is in
              (All-take Own (p.1 - p.0) (drop p.0 items) (All-drop Own p.0 items old.own), omega (arith, old.room, length-take (p.1 - p.0) (drop p.0 items), length-drop p.0 items))
          by (Err e) = tt
      part_own at _ is from to = tt

      made_leaves : (r : Result (List Value) ErrorKind) → PartOwn r → StaysLawful store (array.made r store).1 (array.made r store).0 → Leaves owns most h n store (array.made r store)
      made_leaves (Ok xs) k stays = record { stays = stays; grew = added_grew store (cell.Arr xs ∷ []); own = tt; cells = All-push (FitsCell owns most h n) store (cell.Arr xs) lower (record { own = k.0; room = k.1 }) }
      made_leaves (Err e) k stays = settled_here (Err e) tt tt

      pushed_leaves : (at : ℕ) (v : Value) → LawfulValue store v → Own v → (c : Option Cell) → slice_get store at ≡ c → Leaves owns most h n store (array.pushed_at c key v at store)
      unfolding array.pushed_at
      pushed_leaves at v l o (Some (cell.Arr items)) is =
          let old = all_at (FitsCell owns most h (suc n)) store at (cell.Arr items) cells is in
          let c = cell.Arr (items ++ v ∷ []) in
          let few : length (items ++ v ∷ []) + n ≤ most = omega (arith, old.room, length-append items (v ∷ [])) in
          let named : Names store Kind.array at = ap (option_map kind_of) is in
          record {
            stays = pushed_lawful store lawful items v at is (omega (arith, old.room, small)) l;
            grew = put_grew store at c refl named;
            own = tt;
            cells = All-set (FitsCell owns most h n) store at c (record { own = All-push Own items v old.own o; room = few }) lower;
          }
      pushed_leaves at v l o _ is = settled_here (Err (error.NoSuchProperty key)) tt tt

      popped_leaves : (at : ℕ) (c : Option Cell) → slice_get store at ≡ c → Leaves owns most h n store (array.popped_at c key at store)
      unfolding array.popped_at
      popped_leaves at (Some (cell.Arr items)) is =
          let old = all_at (FitsCell owns most h (suc n)) store at (cell.Arr items) cells is in
          let c = cell.Arr (take (length items - 1) items) in
          let few : length (take (length items - 1) items) + n ≤ most = omega (arith, old.room, length-take (length items - 1) items) in
          let named : Names store Kind.array at = ap (option_map kind_of) is in
          record {
            stays = popped_lawful store lawful items at is;
            grew = put_grew store at c refl named;
            own = own_given items (length items - 1) old.own;
            cells = All-set (FitsCell owns most h n) store at c (record { own = All-take Own (length items - 1) items old.own; room = few }) lower;
          }
      popped_leaves at _ is = settled_here (Err (error.NoSuchProperty key)) tt tt

      array_leaves : (m : Option MethodName) (at : ℕ) → Leaves owns most h n store (array.array_method m at key arguments store)
      unfolding array.array_method
      array_leaves (Some name.Slice) at =
          let r = array.part_at (slice_get store at) key (slice_get arguments 0) (slice_get arguments 1) in
          made_leaves r (part_own at (slice_get store at) refl (slice_get arguments 0) (slice_get arguments 1)) (made_lawful store lawful r (part_at_lawful store lawful at key (slice_get arguments 0) (slice_get arguments 1)))
      array_leaves (Some name.Push) at = pushed_leaves at (given (slice_get arguments 0)) (given_lawful store arguments 0 fit) (own_given arguments 0 own) (slice_get store at) refl
      array_leaves (Some name.Pop) at = popped_leaves at (slice_get store at) refl
      array_leaves m at = settled_here (array.value_at (slice_get store at) m key (slice_get arguments 0)) (value_at_lawful store lawful at m key (slice_get arguments 0)) (own_value (slice_get store at) m (slice_get arguments 0))

      pub method_leaves : (base : Value) → LawfulValue store base → Leaves owns most h n store (method base key arguments store)
      unfolding method
      method_leaves (value.Text t) l = settled_here (text.text_method t (named key) key arguments) (text_lawful store t (named key) key arguments l) (own_text_method t (named key))
      method_leaves (value.Arr at) l = array_leaves (named key) at
      method_leaves _ l = settled_here (Err (error.NoSuchProperty key)) tt tt
