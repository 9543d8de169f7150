-- What the builtins keep of a lawful store.
use Rattle.std.proofs.Common.{◌≡◌, ℕ, zero, suc, ◌-◌, ◌^◌, ◌<◌, ◌≤◌, ◌&&◌, nat_le, ℤ, pos, neg_ℤ, Bool, true, false, List, [], ◌∷◌, ◌++◌, length, map, drop, Option, None, Some, refl, sym, ap, subst, ◌∙◌, arith}
use Rattle.std.specs.Prelude.{Result, Ok, Err, IfOk, IsTrue, All, codes, if◌then◌else◌, slice_get}
use Rattle.std.specs.Option.{option_map}
use Rattle.std.specs.Fmt.{signed_decimal}
use Rattle.std.specs.Str.Parse.{digits_value, starts_with_minus}
use Rattle.std.proofs.lemmas.Bool.Decides.{nat_tests}
use Rattle.std.proofs.lemmas.List.{length-map, append-nil}
use Rattle.std.proofs.lemmas.List.Elements.{All-nil, All-cons, All-head, All-tail}
use Rattle.mt_builtins.proofs.Units.{units_of_number}
use Rattle.mt_builtins.specs.Builtins.{or_refused, text_of, text_made, number_of, number_made, message_of, error_made, called, native, named, properties_in, properties_of, names, keys, is_array, by_method, method}
use Rattle.mt_builtins.specs.Lawful.{LawfulDone, LeavesLawful}
use Rattle.mt_builtins.specs.Making.{ended, ended_for}
use Rattle.mt_builtins.specs.Numbers.{is_whole, within, number_in}
use Rattle.mt_builtins.specs.declared.made.Made.{Made}
use Rattle.mt_builtins.specs.declared.made.Made.TheVariants as made
use Rattle.mt_builtins.specs.declared.methods.MethodName.{MethodName}
use Rattle.mt_builtins.specs.declared.methods.MethodName.TheVariants as name
use Rattle.mt_eval_meaning.specs.declared.exit.Done.{Done}
use Rattle.mt_ops_methods.specs.Arguments.{given}
use Rattle.mt_ops.proofs.Lawfulness.{settled_lawful}
use Rattle.mt_ops.specs.Errors.{text_property}
use Rattle.mt_ops.specs.Texts.{join_text}
use Rattle.mt_ops.specs.declared.error.ErrorKind.{ErrorKind}
use Rattle.mt_tree.specs.declared.fault.NoMemory.{NoMemory}
use Rattle.mt_value.proofs.Laws.{cell_kept, keeps_added, lawful_added}
use Rattle.mt_value.specs.Lawful.{Kind, kind_of, Names, Keeps, Lawful, LawfulCell, LawfulItems, LawfulProperties, LawfulValue}
use Rattle.mt_syntax.specs.Data.{is_in_range}
use Rattle.mt_value.specs.Limits.{text_fits}
use Rattle.mt_value.specs.declared.cell.Cell.{Cell}
use Rattle.mt_value.specs.declared.cell.Cell.TheVariants as cell
use Rattle.mt_value.specs.declared.cell.Property.{Property}
use Rattle.mt_value.specs.declared.value.Native.{Native}
use Rattle.mt_value.specs.declared.value.Native.TheVariants as builtin
use Rattle.mt_value.specs.declared.value.Value.{Value}
use Rattle.mt_value.specs.declared.value.Value.TheVariants as value

-- what is made is lawful in the store
abbrev pub LawfulMade : List Cell → Result Made ErrorKind → Type 0
LawfulMade store (Ok (made.Value v)) = LawfulValue store v
LawfulMade store (Ok (made.Array items)) = LawfulItems store items
LawfulMade store (Ok (made.Object properties)) = LawfulProperties store properties
LawfulMade store (Err e) = Unit {0}

at_end : (store : List Cell) (c : Cell) → Names (store ++ c ∷ []) (kind_of c) (length store)
at_end [] c = refl
at_end (d ∷ store) c = at_end store c

-- ---- putting it behind the cells

module _ (store : List Cell) (lawful : Lawful store) where
  grown_lawful : (c : Cell) → LawfulCell store c → Lawful (store ++ c ∷ [])
  grown_lawful c h = lawful_added store c lawful (cell_kept store (store ++ c ∷ []) (keeps_added store (c ∷ [])) c h)

  pub ended_lawful : (r : Result Made ErrorKind) → LawfulMade store r → LeavesLawful store (ended r store).1 (ended r store).0
  ended_lawful (Ok (made.Value v)) h = subst (λ new. LeavesLawful store new (ended (Ok (made.Value v)) store).0) (sym (append-nil store)) (record { store = lawful; value = h; keeps = λ kind at named. named })
  ended_lawful (Ok (made.Array items)) h = record { store = grown_lawful (cell.Arr items) h; value = at_end store (cell.Arr items); keeps = keeps_added store (cell.Arr items ∷ []) }
  ended_lawful (Ok (made.Object properties)) h = record { store = grown_lawful (cell.Obj properties) h; value = at_end store (cell.Obj properties); keeps = keeps_added store (cell.Obj properties ∷ []) }
  ended_lawful (Err e) h = let kept = settled_lawful (Err e) store tt lawful in record { store = kept.store; value = kept.value; keeps = kept.keeps }

-- an answer that is the one meant leaves what is meant
pub answer_lawful : (result : Result Done NoMemory) (r : Result Made ErrorKind) (old new : List Cell) → IfOk result (λ d. (d, new) ≡ ended r old) → LawfulMade old r → Lawful old → IfOk result (λ d. LeavesLawful old new d)
answer_lawful (Ok d) r old new is h lawful = subst (λ s. LeavesLawful old s.1 s.0) (sym is) (ended_lawful old lawful r h)
answer_lawful (Err e) r old new is h lawful = tt

-- ---- what is made

abbrev pub LawfulArgument : List Cell → Option Value → Type 0
LawfulArgument store None = Unit {0}
LawfulArgument store (Some v) = LawfulValue store v

text_lawful : (store : List Cell) (v : Value) → LawfulValue store v → LawfulMade store (text_made (or_refused (codes "String") (join_text v)))
unfolding join_text
text_lawful store value.Undefined h = refl
text_lawful store value.Null h = refl
text_lawful store (value.Bool true) h = refl
text_lawful store (value.Bool false) h = refl
text_lawful store (value.Num n) h = let few = units_of_number n h in grind (arith, nat_tests)
text_lawful store (value.Text text) h = h
text_lawful store _ h = tt

within_lawful : (store : List Cell) (n : ℤ) → LawfulMade store (number_made (or_refused (codes "Number") (within n)))
within_lawful store n = by (is_in_range n) refl
  where
    by : (b : Bool) → is_in_range n ≡ b → LawfulMade store (number_made (or_refused (codes "Number") (if b then Some n else None)))
    by true t = t
    by false f = tt

number_in_lawful : (store : List Cell) (text : List ℕ) → LawfulMade store (number_made (or_refused (codes "Number") (number_in text)))
unfolding number_in
number_in_lawful store text = by (is_whole text) (starts_with_minus text && is_whole (drop 1 text))
  where
    by : (a b : Bool) → LawfulMade store (number_made (or_refused (codes "Number")
        (if a then within (pos (digits_value 10 text)) else if b then within (neg_ℤ (pos (digits_value 10 (drop 1 text)))) else None)))
    by true b = within_lawful store (pos (digits_value 10 text))
    by false true = within_lawful store (neg_ℤ (pos (digits_value 10 (drop 1 text))))
    by false false = tt

number_lawful : (store : List Cell) (argument : Option Value) → LawfulArgument store argument → LawfulMade store (number_made (or_refused (codes "Number") (number_of argument)))
number_lawful store (Some (value.Num n)) h = h
number_lawful store (Some (value.Text text)) h = number_in_lawful store text
number_lawful store _ h = tt

module _ (P : Property → Type 0) where
  both_hold : (p q : Property) → P p → P q → All P (p ∷ q ∷ [])
  both_hold p q h k = All-cons P p (q ∷ []) h (All-cons P q [] k (All-nil P))

object_lawful : (store : List Cell) (message : List ℕ) → IsTrue (text_fits message) → LawfulMade store (error_made (Ok message))
object_lawful store message h =
    let first = text_property (codes "name") (codes "Error") in
    let second = text_property (codes "message") message in
    record {
      values = both_hold (λ p. LawfulValue store p.value) first second refl h;
      texts = both_hold (λ p. IsTrue (text_fits p.name)) first second refl refl;
      names = refl;
      count = omega arith;
    }

error_lawful : (store : List Cell) (argument : Option Value) → LawfulArgument store argument → LawfulMade store (error_made (or_refused (codes "Error") (message_of argument)))
error_lawful store None h = object_lawful store [] refl
error_lawful store (Some (value.Text message)) h = object_lawful store message h
error_lawful store (Some _) h = tt

pub called_lawful : (store : List Cell) (which : Native) (argument : Option Value) → LawfulArgument store argument → LawfulMade store (called which argument)
unfolding called
called_lawful store builtin.String None h = text_lawful store value.Undefined tt
called_lawful store builtin.String (Some v) h = text_lawful store v h
called_lawful store builtin.Number argument h = number_lawful store argument h
called_lawful store builtin.Error argument h = error_lawful store argument h
called_lawful store _ argument h = tt

first_lawful : (store : List Cell) (arguments : List Value) → All (LawfulValue store) arguments → LawfulArgument store (slice_get arguments 0)
first_lawful store [] h = tt
first_lawful store (v ∷ vs) h = All-head (LawfulValue store) v vs h

pub native_lawful : (store : List Cell) (which : Native) (arguments : List Value) → All (LawfulValue store) arguments → LawfulMade store (native which arguments)
native_lawful store which arguments h = called_lawful store which (slice_get arguments 0) (first_lawful store arguments h)

-- ---- methods

named_texts : (store : List Cell) (properties : List Property) → All (λ p. IsTrue (text_fits p.name)) properties → All (LawfulValue store) (names properties)
named_texts store [] h = All-nil (LawfulValue store)
named_texts store (p ∷ ps) h = All-cons (LawfulValue store) (value.Text p.name) (names ps) (All-head (λ p. IsTrue (text_fits p.name)) p ps h) (named_texts store ps (All-tail (λ p. IsTrue (text_fits p.name)) p ps h))

all_at : {A : Type 0} (P : A → Type 0) (xs : List A) (i : ℕ) (x : A) → All P xs → slice_get xs i ≡ Some x → P x
all_at P [] i x h is = absurd (cc)
all_at P (y ∷ xs) zero x h is = let same : y ≡ x = cc in subst P same (All-head P y xs h)
all_at P (y ∷ xs) (suc i) x h is = all_at P xs i x (All-tail P y xs h) is

module _ (store : List Cell) (lawful : Lawful store) where
  keys_lawful : (c : Option Cell) (at : ℕ) → slice_get store at ≡ c → LawfulMade store (keys (properties_in c))
  keys_lawful (Some (cell.Obj properties)) at is =
      let all = all_at (LawfulCell store) store at (cell.Obj properties) lawful.cells is in
      record { values = named_texts store properties all.texts; count = omega (arith, all.count, length-map properties (λ (p : Property). value.Text p.name)) }
  keys_lawful _ at is = tt

  properties_lawful : (argument : Option Value) → LawfulMade store (keys (properties_of argument store))
  unfolding properties_of
  properties_lawful (Some (value.Obj at)) = keys_lawful (slice_get store at) at refl
  properties_lawful _ = tt

  by_lawful : (m : Option MethodName) (key : List ℕ) (argument : Option Value) → LawfulMade store (by_method m key argument store)
  by_lawful (Some name.Keys) key argument = properties_lawful argument
  by_lawful (Some name.IsArray) key argument = tt
  by_lawful None key argument = tt

  pub method_lawful : (base : Value) (key : List ℕ) (arguments : List Value) → LawfulMade store (method base key arguments store)
  unfolding method
  method_lawful base key arguments = by_lawful (named base key) key (slice_get arguments 0)
