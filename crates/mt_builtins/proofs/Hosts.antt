-- What the calls of this crate leave, as a host answers it.
use Rattle.std.proofs.Common.{◌≡◌, ℕ, ◌-◌, min, nat_le, Bool, true, false, List, [], ◌∷◌, ◌++◌, length, map, Option, None, Some, refl, sym, ap, ◌∙◌, arith}
use Rattle.std.specs.Prelude.{Result, Ok, Err, IfOk, slice_get, if◌then◌else◌}
use Rattle.std.specs.Option.{option_map}
use Rattle.std.proofs.lemmas.List.{length-map, append-nil}
use Rattle.std.proofs.lemmas.Option.{slice_get-map}
use Rattle.mt_builtins.specs.Builtins.{properties_in, properties_of, by_method, cost_by, named, method, method_cost}
use Rattle.mt_builtins.specs.Making.{outcome_of, added_of, ended, ended_for, answer, answer_for}
use Rattle.mt_builtins.specs.declared.made.Made.{Made}
use Rattle.mt_builtins.specs.declared.methods.MethodName.{MethodName}
use Rattle.mt_builtins.specs.declared.methods.MethodName.TheVariants as name
use Rattle.mt_eval_meaning.specs.Host.{Answer, added_cell, answered, seen, seen_cell}
use Rattle.mt_eval_meaning.specs.declared.exit.Done.{Done}
use Rattle.mt_eval_meaning.specs.declared.exit.Done.TheVariants as done
use Rattle.mt_eval_meaning.specs.declared.exit.Stop.TheVariants as stop
use Rattle.mt_ops.specs.declared.error.ErrorKind.{ErrorKind}
use Rattle.mt_tree.specs.declared.fault.NoMemory.{NoMemory}
use Rattle.mt_value.specs.declared.cell.Cell.{Cell}
use Rattle.mt_value.specs.declared.cell.Cell.TheVariants as cell
use Rattle.mt_value.specs.declared.cell.Property.{Property}
use Rattle.mt_value.specs.declared.value.Value.{Value}
use Rattle.mt_value.specs.declared.value.Value.TheVariants as value

seen_length : (store : List Cell) → length (seen store) ≡ length store
seen_length store = length-map store seen_cell

at_most : (n : ℕ) → min n n ≡ n
at_most n = omega arith

left_over : (steps budget : ℕ) → min (budget - steps) budget ≡ budget - steps
left_over steps budget = omega arith

-- ---- calls that take no steps

pub hosted : {H : Type 0} (r : Result Made ErrorKind) (host : H) (store : List Cell) (budget : ℕ)
    → answered (answer r host (seen store) budget) store budget ≡ ((ended r store).0, (ended r store).1, host, budget)
hosted r host store budget = rw (seen_length store, at_most budget) refl

pub answers : {H : Type 0} (done : Done) (new : List Cell) (r : Result Made ErrorKind) (host : H) (store : List Cell) (budget : ℕ)
    → (done, new) ≡ ended r store → (done, new, host, budget) ≡ answered (answer r host (seen store) budget) store budget
answers done new r host store budget e = ap (λ p. (p.0, p.1, host, budget)) e ∙ sym (hosted r host store budget)

-- what a call gives, where it has memory
pub answers_given : {H : Type 0} (result : Result Done NoMemory) (new : List Cell) (r : Result Made ErrorKind) (host : H) (store : List Cell) (budget : ℕ)
    → IfOk result (λ done. (done, new) ≡ ended r store) → IfOk result (λ done. (done, new, host, budget) ≡ answered (answer r host (seen store) budget) store budget)
answers_given (Ok done) new r host store budget e = answers done new r host store budget e
answers_given (Err f) new r host store budget e = tt

-- ---- calls that take steps

module _ {H : Type 0} (steps : ℕ) (r : Result Made ErrorKind) (host : H) (store : List Cell) (budget : ℕ) where
  abbrev as_left : Bool → Done × List Cell × ℕ
  as_left enough = if enough then (outcome_of (length store) r, store ++ map added_cell (added_of r), budget - steps) else (done.Stop stop.Budget, store, budget)

  abbrev as_answered : Bool → Answer H
  as_answered enough =
      if enough then record { outcome = outcome_of (length (seen store)) r; added = added_of r; host = host; budget = budget - steps }
      else record { outcome = done.Stop stop.Budget; added = []; host = host; budget = budget }

  in_both : (enough : Bool) → answered (as_answered enough) store budget ≡ ((as_left enough).0, (as_left enough).1, host, (as_left enough).2)
  in_both true = rw (seen_length store, left_over steps budget) refl
  in_both false = rw (append-nil store, at_most budget) refl

  pub answers_for : (done : Done) (new : List Cell) (left : ℕ) → (done, new, left) ≡ ended_for steps r store budget
      → (done, new, host, left) ≡ answered (answer_for steps r host (seen store) budget) store budget
  answers_for done new left e = ap (λ p. (p.0, p.1, host, p.2)) e ∙ sym (in_both (nat_le steps budget))

pub answers_given_for : {H : Type 0} (result : Result Done NoMemory) (new : List Cell) (left steps : ℕ) (r : Result Made ErrorKind) (host : H) (store : List Cell) (budget : ℕ)
    → IfOk result (λ done. (done, new, left) ≡ ended_for steps r store budget) → IfOk result (λ done. (done, new, host, left) ≡ answered (answer_for steps r host (seen store) budget) store budget)
answers_given_for (Ok done) new left steps r host store budget e = answers_for steps r host store budget done new left e
answers_given_for (Err f) new left steps r host store budget e = tt

-- ---- a method reads of the store what a host sees

seen_properties_in : (c : Option Cell) → properties_in (option_map seen_cell c) ≡ properties_in c
seen_properties_in None = refl
seen_properties_in (Some (cell.Variable v)) = refl
seen_properties_in (Some (cell.Arr items)) = refl
seen_properties_in (Some (cell.Obj properties)) = refl
seen_properties_in (Some (cell.Fun f)) = refl
seen_properties_in (Some (cell.Frame f)) = refl
seen_properties_in (Some (cell.Html h)) = refl
seen_properties_in (Some (cell.Code c)) = refl

seen_properties : (argument : Option Value) (store : List Cell) → properties_of argument (seen store) ≡ properties_of argument store
unfolding properties_of
seen_properties (Some (value.Obj at)) store = ap properties_in (slice_get-map seen_cell store at) ∙ seen_properties_in (slice_get store at)
seen_properties None store = refl
seen_properties (Some value.Undefined) store = refl
seen_properties (Some value.Null) store = refl
seen_properties (Some (value.Bool b)) store = refl
seen_properties (Some (value.Num n)) store = refl
seen_properties (Some (value.Text text)) store = refl
seen_properties (Some (value.Arr at)) store = refl
seen_properties (Some (value.Fun at)) store = refl
seen_properties (Some (value.Svc text)) store = refl
seen_properties (Some (value.Frame at)) store = refl
seen_properties (Some (value.Html at)) store = refl
seen_properties (Some (value.Code at)) store = refl
seen_properties (Some (value.Node n)) store = refl
seen_properties (Some (value.Event n)) store = refl
seen_properties (Some (value.Native n)) store = refl

seen_by : (m : Option MethodName) (key : List ℕ) (argument : Option Value) (store : List Cell) → by_method m key argument (seen store) ≡ by_method m key argument store
seen_by (Some name.Keys) key argument store = rw (seen_properties argument store) refl
seen_by (Some name.IsArray) key argument store = refl
seen_by None key argument store = refl

seen_cost_by : (m : Option MethodName) (argument : Option Value) (store : List Cell) → cost_by m argument (seen store) ≡ cost_by m argument store
seen_cost_by (Some name.Keys) argument store = rw (seen_properties argument store) refl
seen_cost_by (Some name.IsArray) argument store = refl
seen_cost_by None argument store = refl

pub seen_method : (base : Value) (key : List ℕ) (arguments : List Value) (store : List Cell) → method base key arguments (seen store) ≡ method base key arguments store
unfolding method
seen_method base key arguments store = seen_by (named base key) key (slice_get arguments 0) store

pub seen_cost : (base : Value) (key : List ℕ) (arguments : List Value) (store : List Cell) → method_cost base key arguments (seen store) ≡ method_cost base key arguments store
unfolding method_cost
seen_cost base key arguments store = seen_cost_by (named base key) (slice_get arguments 0) store
