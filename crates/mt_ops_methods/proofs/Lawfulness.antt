-- What a method keeps of a lawful store.
use Rattle.std.proofs.Common.{◌≡◌, ℕ, zero, suc, ◌+◌, ◌-◌, ◌<◌, ◌≤◌, ◌^◌, Bool, true, false, List, [], ◌∷◌, ◌++◌, length, take, drop, Option, None, Some, refl, sym, ap, subst, ◌∙◌, arith}
use Rattle.std.specs.Prelude.{Result, Ok, Err, IfOk, IsTrue, All, pos, if◌then◌else◌, slice_get, slice_set, position}
use Rattle.std.specs.List.{list_all}
use Rattle.std.specs.Option.{option_map}
use Rattle.std.proofs.lemmas.Bool.Decides.{nat_tests}
use Rattle.std.proofs.lemmas.List.{length-append, length-take, length-drop}
use Rattle.std.proofs.lemmas.List.Elements.{All-head, All-tail, All-push, All-take, All-drop}
use Rattle.std.proofs.lemmas.List.Quantifiers.{position-Some}
use Rattle.mt_ops_methods.proofs.Cells.{at_end}
use Rattle.mt_ops_methods.specs.Arguments.{given, range, place_number, word}
use Rattle.mt_ops_methods.specs.Arrays as array
use Rattle.mt_ops_methods.specs.Joining.{is_shown, joined, join}
use Rattle.mt_ops_methods.specs.Texts as text
use Rattle.mt_ops_methods.specs.declared.name.MethodName.{MethodName}
use Rattle.mt_ops_methods.specs.declared.name.MethodName.TheVariants as name
use Rattle.mt_ops.proofs.Lawfulness.{settled_lawful}
use Rattle.mt_ops.specs.Equality.{same}
use Rattle.mt_ops.specs.Lawful.{StaysLawful, LawfulAnswer}
use Rattle.mt_ops.specs.declared.error.ErrorKind.{ErrorKind}
use Rattle.mt_ops.specs.declared.error.ErrorKind.TheVariants as error
use Rattle.mt_ops.specs.declared.outcome.Outcome.{Outcome}
use Rattle.mt_tree.specs.Text.{units_of}
use Rattle.mt_tree.specs.declared.fault.NoMemory.{NoMemory}
use Rattle.mt_tree.proofs.Finding.{find_is_first}
use Rattle.mt_tree.proofs.Cuts.{cut_is_between, units_of-append}
use Rattle.mt_tree.specs.Units.{cut, find}
use Rattle.mt_value.proofs.Laws.{keeps_added, keeps_put, lawful_added, lawful_put, value_kept, values_kept}
use Rattle.mt_value.specs.Lawful.{Kind, kind_of, Names, Keeps, LawfulValue, LawfulItems, LawfulCell, Lawful}
use Rattle.mt_syntax.specs.Data.{is_in_range}
use Rattle.mt_value.specs.Limits.{text_fits}
use Rattle.mt_value.specs.declared.cell.Cell.{Cell}
use Rattle.mt_value.specs.declared.cell.Cell.TheVariants as cell
use Rattle.mt_value.specs.declared.value.Value.{Value}
use Rattle.mt_value.specs.declared.value.Value.TheVariants as value

-- an answer that is the one meant leaves what is meant
pub meant_lawful : (result : Result Outcome NoMemory) (old new : List Cell) (r : Outcome × List Cell) → IfOk result (λ o. (o, new) ≡ r) → StaysLawful old r.1 r.0 → IfOk result (λ o. StaysLawful old new o)
meant_lawful (Ok o) old new r is h = subst (λ s. StaysLawful old s.1 s.0) (sym is) h
meant_lawful (Err e) old new r is h = tt

-- ---- texts

fits : (text : List ℕ) → IsTrue (text_fits text) → units_of text ≤ 2 ^ 20
fits text h = grind (arith, nat_tests, h)

few : (n : ℕ) → n ≤ 2 ^ 20 → IsTrue (is_in_range (pos n))
few n h = grind (arith, nat_tests)

part_fits : (t : List ℕ) (a b : ℕ) (part : List ℕ) → IsTrue (text_fits t) → cut t a b ≡ Some part → IsTrue (text_fits part)
part_fits t a b part h is =
    let between = (cut_is_between t a b part).0 is in
    let whole = ap units_of between.2 ∙ units_of-append between.0 (part ++ between.1) in
    let rest = units_of-append part between.1 in
    let small : units_of part ≤ 2 ^ 20 = omega (arith, whole, rest, fits t h) in
    grind (arith, nat_tests, small)

place_fits : (t sought : List ℕ) (n : ℕ) → IsTrue (text_fits t) → find sought t ≡ Some n → IsTrue (is_in_range (pos n))
place_fits t sought n h is =
    let there = ((find_is_first sought t n).0 is).0 in
    let whole = ap units_of there.2 ∙ units_of-append there.0 (sought ++ there.1) in
    few n (omega (arith, whole, there.3, fits t h))

module _ (store : List Cell) where
  part_lawful : (t : List ℕ) (r : Result (ℕ × ℕ) ErrorKind) → IsTrue (text_fits t) → LawfulAnswer store (text.part t r)
  part_lawful t (Ok p) h = by (cut t p.0 p.1) refl
    where
      by : (o : Option (List ℕ)) → cut t p.0 p.1 ≡ o → LawfulAnswer store (text.part_or_error (cut t p.0 p.1))
      by None is = rw is tt
      by (Some part) is = rw is (part_fits t p.0 p.1 part h is)
  part_lawful t (Err e) h = tt

  number_lawful : (o : Option ℕ) → ((n : ℕ) → o ≡ Some n → IsTrue (is_in_range (pos n))) → LawfulValue store (place_number o)
  number_lawful None h = refl
  number_lawful (Some n) h = h n refl

  sought_lawful : (t : List ℕ) (argument : Option Value) → IsTrue (text_fits t) → LawfulAnswer store (text.place t argument)
  unfolding text.place
  sought_lawful t (Some (value.Text sought)) h = number_lawful (find sought t) (λ n is. place_fits t sought n h is)
  sought_lawful t _ h = tt

  pub text_lawful : (t : List ℕ) (method : Option MethodName) (key : List ℕ) (arguments : List Value) → IsTrue (text_fits t) → LawfulAnswer store (text.text_method t method key arguments)
  unfolding text.text_method
  text_lawful t (Some name.Slice) key arguments h = part_lawful t (range (units_of t) (slice_get arguments 0) (slice_get arguments 1)) h
  text_lawful t (Some name.IndexOf) key arguments h = sought_lawful t (slice_get arguments 0) h
  text_lawful t _ key arguments h = tt

-- ---- the items of an array

all_at : {A : Type 0} (P : A → Type 0) (xs : List A) (i : ℕ) (x : A) → All P xs → slice_get xs i ≡ Some x → P x
all_at P [] i x h is = absurd (cc)
all_at P (y ∷ xs) zero x h is = let same : y ≡ x = cc in subst P same (All-head P y xs h)
all_at P (y ∷ xs) (suc i) x h is = all_at P xs i x (All-tail P y xs h) is

pub given_lawful : (store : List Cell) (arguments : List Value) (i : ℕ) → All (LawfulValue store) arguments → LawfulValue store (given (slice_get arguments i))
given_lawful store arguments i h = by (slice_get arguments i) refl
  where
    by : (o : Option Value) → slice_get arguments i ≡ o → LawfulValue store (given (slice_get arguments i))
    by None is = rw is tt
    by (Some v) is = rw is (all_at (LawfulValue store) arguments i v h is)

below : (n : ℕ) → n < 2 ^ 53 → IsTrue (is_in_range (pos n))
below n h = grind (arith, nat_tests)

abbrev LawfulPart : List Cell → Result (List Value) ErrorKind → Type 0
LawfulPart store (Ok items) = LawfulItems store items
LawfulPart store (Err e) = Unit {0}

joined_lawful : (store : List Cell) (items : List Value) (argument : Option Value) → LawfulAnswer store (join items argument)
unfolding join
joined_lawful store items (Some (value.Text separator)) = by (list_all is_shown items) (text_fits (joined separator items)) refl
  where
    by : (a b : Bool) → text_fits (joined separator items) ≡ b → LawfulAnswer store (if a then (if b then Ok (value.Text (joined separator items)) else Err error.TextTooLong) else Err (error.BadArgument (word name.Join)))
    by true true t = t
    by true false t = tt
    by false b t = tt
joined_lawful store items _ = tt

module _ (store : List Cell) (lawful : Lawful store) where
  items_lawful : (at : ℕ) (items : List Value) → slice_get store at ≡ Some (cell.Arr items) → LawfulItems store items
  items_lawful at items is = all_at (LawfulCell store) store at (cell.Arr items) lawful.cells is

  range_lawful : (items : List Value) (r : Result (ℕ × ℕ) ErrorKind) → LawfulItems store items → LawfulPart store (array.part items r)
  range_lawful items (Ok p) h = record {
    values = All-take (LawfulValue store) (p.1 - p.0) (drop p.0 items) (All-drop (LawfulValue store) p.0 items h.values);
    count = omega (arith, h.count, length-take (p.1 - p.0) (drop p.0 items), length-drop p.0 items);
  }
  range_lawful items (Err e) h = tt

  pub part_at_lawful : (at : ℕ) (key : List ℕ) (from to : Option Value) → LawfulPart store (array.part_at (slice_get store at) key from to)
  unfolding array.part_at
  part_at_lawful at key from to = by (slice_get store at) refl
    where
      by : (c : Option Cell) → slice_get store at ≡ c → LawfulPart store (array.part_at c key from to)
      by (Some (cell.Arr items)) is = range_lawful items (range (length items) from to) (items_lawful at items is)
      by _ is = tt

  pub made_lawful : (m : Result (List Value) ErrorKind) → LawfulPart store m → StaysLawful store (array.made m store).1 (array.made m store).0
  made_lawful (Ok items) h =
      let c = cell.Arr items in
      let grown = store ++ c ∷ [] in
      let keeps : Keeps store grown = keeps_added store (c ∷ []) in
      record {
        store = lawful_added store c lawful (record { values = values_kept store grown keeps items h.values; count = h.count });
        value = ap (option_map kind_of) (at_end store c);
        keeps = keeps;
      }
  made_lawful (Err e) h = settled_lawful (Err e) store tt lawful

  place_lawful : (items : List Value) (v : Value) → LawfulItems store items → LawfulValue store (array.place items v)
  unfolding array.place
  place_lawful items v h =
      number_lawful store (position (λ item. same item v) items)
      (λ n is. below n (let within = (position-Some (λ item. same item v) items n v is).0 in omega (arith, within, h.count)))

  pub value_at_lawful : (at : ℕ) (method : Option MethodName) (key : List ℕ) (argument : Option Value) → LawfulAnswer store (array.value_at (slice_get store at) method key argument)
  unfolding array.value_at
  value_at_lawful at method key argument = by (slice_get store at) method refl
    where
      by : (c : Option Cell) (m : Option MethodName) → slice_get store at ≡ c → LawfulAnswer store (array.value_at c m key argument)
      by (Some (cell.Arr items)) (Some name.IndexOf) is = place_lawful items (given argument) (items_lawful at items is)
      by (Some (cell.Arr items)) (Some name.Join) is = joined_lawful store items argument
      by _ _ is = tt

  pub pushed_lawful : (items : List Value) (v : Value) (at : ℕ) → slice_get store at ≡ Some (cell.Arr items) → length items + 1 < 2 ^ 53 → LawfulValue store v
      → StaysLawful store (array.pushed items v at store).1 (array.pushed items v at store).0
  pushed_lawful items v at is room h =
      let c = cell.Arr (items ++ v ∷ []) in
      let changed = slice_set store at c in
      let named : Names store Kind.array at = ap (option_map kind_of) is in
      let keeps : Keeps store changed = keeps_put store at c named in
      let old = items_lawful at items is in
      record {
        store = lawful_put store at c named lawful (record {
          values = values_kept store changed keeps (items ++ v ∷ []) (All-push (LawfulValue store) items v old.values h);
          count = omega (arith, room, length-append items (v ∷ []));
        });
        value = below (length items + 1) room;
        keeps = keeps;
      }

  pub popped_lawful : (items : List Value) (at : ℕ) → slice_get store at ≡ Some (cell.Arr items) → StaysLawful store (array.popped items at store).1 (array.popped items at store).0
  popped_lawful items at is =
      let c = cell.Arr (take (length items - 1) items) in
      let changed = slice_set store at c in
      let named : Names store Kind.array at = ap (option_map kind_of) is in
      let keeps : Keeps store changed = keeps_put store at c named in
      let old = items_lawful at items is in
      record {
        store = lawful_put store at c named lawful (record {
          values = values_kept store changed keeps (take (length items - 1) items) (All-take (LawfulValue store) (length items - 1) items old.values);
          count = omega (arith, old.count, length-take (length items - 1) items);
        });
        value = value_kept store changed keeps (given (slice_get items (length items - 1))) (given_lawful store items (length items - 1) old.values);
        keeps = keeps;
      }
