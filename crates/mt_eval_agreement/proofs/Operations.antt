-- Operations on the store do the same on what is seen of it.
use Rattle.std.proofs.Common.{◌≡◌, ℕ, List, [], ◌∷◌, ◌++◌, length, Option, Some, Result, Ok, Err, refl, sym, ap, subst}
use Rattle.std.specs.Prelude.{slice_get, take, ◌-◌}
use Rattle.mt_eval_meaning.specs.States.{Numbered}
use Rattle.mt_eval_agreement.proofs.Keeps.{Keeps, KeepsAt, keep_spend, keep_bind, seen_state}
use Rattle.mt_eval_agreement.proofs.Stores.{IsPlain, seen_added, seen_set, seen_length, seen_at, SameFunctions, same_functions, functions_added, functions_set}
use Rattle.mt_eval_meaning.specs.Calls.{plain_method}
use Rattle.mt_eval_meaning.specs.Host.{seen, seen_cell}
use Rattle.mt_eval_meaning.specs.Runs.{gives, leaves, and_then}
use Rattle.mt_eval_meaning.specs.State.{spend, operate, outcome_ran}
use Rattle.mt_eval_meaning.specs.declared.exit.Exit.TheVariants as exit
use Rattle.mt_eval_meaning.specs.declared.state.State.{State}
use Rattle.mt_ops_methods.specs.Arguments.{named, given}
use Rattle.mt_ops_methods.specs.Arrays.{made, part_at, pushed_at, popped_at, value_at, array_method}
use Rattle.mt_ops_methods.specs.Costs.{method_cost, method_work, array_work, steps as method_steps}
use Rattle.mt_ops_methods.specs.Methods.{method}
use Rattle.mt_ops_methods.specs.Texts.{text_method}
use Rattle.mt_ops_methods.specs.declared.name.MethodName.{MethodName}
use Rattle.mt_ops_methods.specs.declared.name.MethodName.TheVariants as name
use Rattle.mt_ops.specs.Errors.{settled, error_cell}
use Rattle.mt_ops.specs.declared.error.ErrorKind.{ErrorKind}
use Rattle.mt_ops.specs.declared.error.ErrorKind.TheVariants as error
use Rattle.mt_ops.specs.declared.outcome.Outcome.{Outcome}
use Rattle.mt_ops.specs.declared.outcome.Outcome.TheVariants as outcome
use Rattle.mt_ops_properties.specs.Arrays.{array_written}
use Rattle.mt_ops_properties.specs.Keys.{key_text}
use Rattle.mt_ops_properties.specs.Objects.{object_written}
use Rattle.mt_ops_properties.specs.Properties.{property, cell_property, array_cell, object_cell, cell_written, with_cell, store_written, answered, written}
use Rattle.mt_value.specs.declared.cell.Cell.{Cell}
use Rattle.mt_value.specs.declared.cell.Cell.TheVariants as cell
use Rattle.mt_value.specs.declared.cell.Property.{Property}
use Rattle.mt_value.specs.declared.value.Value.{Value}
use Rattle.mt_value.specs.declared.value.Value.TheVariants as value

abbrev Done : Type 0
Done = Outcome × List Cell

module _ (table : List Numbered) where
  -- from one store
  pub record Same (store : List Cell) (r q : Done) : Type 0 where
    pub ending : q.0 ≡ r.0
    pub cells : q.1 ≡ seen r.1
    pub functions : SameFunctions table store r.1

  run_at : (o : Outcome) (s : State) (cells seen_cells : List Cell) → seen_cells ≡ seen cells → SameFunctions table s.store cells
      → KeepsAt table s (outcome_ran o (record s { store = cells })) (outcome_ran o (record (seen_state s) { store = seen_cells }))
  run_at (outcome.Value v) s cells others e f = record { same = ap (λ (z : List Cell). gives v (record s { store = z })) e; functions = f }
  run_at (outcome.Throw v) s cells others e f = record { same = ap (λ (z : List Cell). leaves (exit.Throw v) (record s { store = z })) e; functions = f }

  pub keep_operate : (f : List Cell → Done) → ((store : List Cell) → Same store (f store) (f (seen store))) → Keeps table (operate f)
  unfolding operate
  keep_operate f k = record {
    run = λ s.
        let h = k s.store in
        subst (λ (o : Outcome). KeepsAt table s (outcome_ran (f s.store).0 (record s { store = (f s.store).1 })) (outcome_ran o (record (seen_state s) { store = (f (seen s.store)).1 })))
        (sym h.ending) (run_at (f s.store).0 s (f s.store).1 (f (seen s.store)).1 h.cells h.functions);
  }

  same_settled : (r : Result Value ErrorKind) (store : List Cell) → Same store (settled r store) (settled r (seen store))
  same_settled (Ok v) store = record { ending = refl; cells = refl; functions = same_functions table store }
  same_settled (Err e) store = record {
    ending = ap (λ n. outcome.Throw (value.Obj n)) (seen_length store);
    cells = sym (seen_added store (error_cell e) tt);
    functions = functions_added table store (error_cell e) tt;
  }

  -- what is done for a value that is read of the store
  same_along : (f : Result Value ErrorKind) (r : Result Value ErrorKind) (store : List Cell) → r ≡ f → Same store (settled f store) (settled r (seen store))
  same_along f r store e = subst (λ (z : Result Value ErrorKind). Same store (settled f store) (settled z (seen store))) (sym e) (same_settled f store)

  -- ---- reading

  cell_seen : (key : Value) (c : Cell) → cell_property (Some (seen_cell c)) key ≡ cell_property (Some c) key
  cell_seen key (cell.Fun f) = refl
  cell_seen key (cell.Variable v) = refl
  cell_seen key (cell.Arr items) = refl
  cell_seen key (cell.Obj properties) = refl
  cell_seen key (cell.Frame f) = refl
  cell_seen key (cell.Html h) = refl
  cell_seen key (cell.Code c) = refl

  property_seen : (store : List Cell) (base key : Value) → property (seen store) base key ≡ property store base key
  unfolding property
  property_seen store (value.Arr at) key = seen_at (λ o. cell_property o key) (cell_seen key) store at
  property_seen store (value.Obj at) key = seen_at (λ o. cell_property o key) (cell_seen key) store at
  property_seen store _ key = refl

  pub keep_property : (base key : Value) → Keeps table (operate (λ store. settled (property store base key) store))
  keep_property base key = keep_operate (λ store. settled (property store base key) store) (λ store. same_along (property store base key) (property (seen store) base key) store (property_seen store base key))

  -- ---- writing

  written_seen : (key v : Value) (c : Cell) → cell_written (Some (seen_cell c)) key v ≡ cell_written (Some c) key v
  written_seen key v (cell.Fun f) = refl
  written_seen key v (cell.Variable w) = refl
  written_seen key v (cell.Arr items) = refl
  written_seen key v (cell.Obj properties) = refl
  written_seen key v (cell.Frame f) = refl
  written_seen key v (cell.Html h) = refl
  written_seen key v (cell.Code c) = refl

  -- a plain cell is put in the place of a plain one, or an error is thrown
  put_array : (store : List Cell) (at : ℕ) (v : Value) (d : Cell) → slice_get store at ≡ Some d → IsPlain d → (r : Result (List Value) ErrorKind)
      → Same store (answered v store (with_cell store at (array_cell r))) (answered v (seen store) (with_cell (seen store) at (array_cell r)))
  put_array store at v d is p (Ok items) = record { ending = refl; cells = sym (seen_set store at (cell.Arr items) tt); functions = functions_set table store at d (cell.Arr items) is p tt }
  put_array store at v d is p (Err e) = same_settled (Err e) store

  put_object : (store : List Cell) (at : ℕ) (v : Value) (d : Cell) → slice_get store at ≡ Some d → IsPlain d → (r : Result (List Property) ErrorKind)
      → Same store (answered v store (with_cell store at (object_cell r))) (answered v (seen store) (with_cell (seen store) at (object_cell r)))
  put_object store at v d is p (Ok ps) = record { ending = refl; cells = sym (seen_set store at (cell.Obj ps) tt); functions = functions_set table store at d (cell.Obj ps) is p tt }
  put_object store at v d is p (Err e) = same_settled (Err e) store

  write_in : (store : List Cell) (at : ℕ) (key v : Value) (o : Option Cell) → slice_get store at ≡ o
      → Same store (answered v store (with_cell store at (cell_written o key v))) (answered v (seen store) (with_cell (seen store) at (cell_written o key v)))
  write_in store at key v (Some (cell.Arr items)) is = put_array store at v (cell.Arr items) is tt (array_written items key v)
  write_in store at key v (Some (cell.Obj ps)) is = put_object store at v (cell.Obj ps) is tt (object_written ps key v)
  write_in store at key v _ is = same_settled (Err (error.NoSuchProperty (key_text key))) store

  write_at : (store : List Cell) (at : ℕ) (key v : Value)
      → Same store (answered v store (with_cell store at (cell_written (slice_get store at) key v))) (answered v (seen store) (with_cell (seen store) at (cell_written (slice_get (seen store) at) key v)))
  write_at store at key v =
      subst (λ (z : Result Cell ErrorKind). Same store (answered v store (with_cell store at (cell_written (slice_get store at) key v))) (answered v (seen store) (with_cell (seen store) at z)))
      (sym (seen_at (λ o. cell_written o key v) (written_seen key v) store at)) (write_in store at key v (slice_get store at) refl)

  write_all : (base key v : Value) (store : List Cell) → Same store (written store base key v) (written (seen store) base key v)
  unfolding store_written
  write_all (value.Arr at) key v store = write_at store at key v
  write_all (value.Obj at) key v store = write_at store at key v
  write_all _ key v store = same_settled (Err (error.NoSuchProperty (key_text key))) store

  pub keep_written : (base key v : Value) → Keeps table (operate (λ store. written store base key v))
  keep_written base key v = keep_operate (λ store. written store base key v) (write_all base key v)

  -- ---- methods

  same_made : (r : Result (List Value) ErrorKind) (store : List Cell) → Same store (made r store) (made r (seen store))
  same_made (Ok items) store = record {
    ending = ap (λ n. outcome.Value (value.Arr n)) (seen_length store);
    cells = sym (seen_added store (cell.Arr items) tt);
    functions = functions_added table store (cell.Arr items) tt;
  }
  same_made (Err e) store = same_settled (Err e) store

  part_seen : (key : List ℕ) (a b : Option Value) (c : Cell) → part_at (Some (seen_cell c)) key a b ≡ part_at (Some c) key a b
  unfolding part_at
  part_seen key a b (cell.Fun f) = refl
  part_seen key a b (cell.Variable w) = refl
  part_seen key a b (cell.Arr items) = refl
  part_seen key a b (cell.Obj properties) = refl
  part_seen key a b (cell.Frame f) = refl
  part_seen key a b (cell.Html h) = refl
  part_seen key a b (cell.Code c) = refl

  value_seen : (m : Option MethodName) (key : List ℕ) (a : Option Value) (c : Cell) → value_at (Some (seen_cell c)) m key a ≡ value_at (Some c) m key a
  unfolding value_at
  value_seen m key a (cell.Fun f) = refl
  value_seen m key a (cell.Variable w) = refl
  value_seen m key a (cell.Arr items) = refl
  value_seen m key a (cell.Obj properties) = refl
  value_seen m key a (cell.Frame f) = refl
  value_seen m key a (cell.Html h) = refl
  value_seen m key a (cell.Code c) = refl

  work_seen : (m : Option MethodName) (arguments : List Value) (c : Cell) → array_work (Some (seen_cell c)) m arguments ≡ array_work (Some c) m arguments
  unfolding array_work
  work_seen m arguments (cell.Fun f) = refl
  work_seen m arguments (cell.Variable w) = refl
  work_seen m arguments (cell.Arr items) = refl
  work_seen m arguments (cell.Obj properties) = refl
  work_seen m arguments (cell.Frame f) = refl
  work_seen m arguments (cell.Html h) = refl
  work_seen m arguments (cell.Code c) = refl

  -- a cell that is no array is no array either as it is seen
  push_seen : (key : List ℕ) (v : Value) (at : ℕ) (store : List Cell) (c : Cell) → pushed_at (Some (seen_cell c)) key v at store ≡ pushed_at (Some c) key v at store
  unfolding pushed_at
  push_seen key v at store (cell.Fun f) = refl
  push_seen key v at store (cell.Variable w) = refl
  push_seen key v at store (cell.Arr items) = refl
  push_seen key v at store (cell.Obj properties) = refl
  push_seen key v at store (cell.Frame f) = refl
  push_seen key v at store (cell.Html h) = refl
  push_seen key v at store (cell.Code c) = refl

  push_in : (store : List Cell) (at : ℕ) (key : List ℕ) (v : Value) (o : Option Cell) → slice_get store at ≡ o → Same store (pushed_at o key v at store) (pushed_at o key v at (seen store))
  unfolding pushed_at
  push_in store at key v (Some (cell.Arr items)) is = record { ending = refl; cells = sym (seen_set store at (cell.Arr (items ++ v ∷ [])) tt); functions = functions_set table store at (cell.Arr items) (cell.Arr (items ++ v ∷ [])) is tt tt }
  push_in store at key v _ is = same_settled (Err (error.NoSuchProperty key)) store

  pop_seen : (key : List ℕ) (at : ℕ) (store : List Cell) (c : Cell) → popped_at (Some (seen_cell c)) key at store ≡ popped_at (Some c) key at store
  unfolding popped_at
  pop_seen key at store (cell.Fun f) = refl
  pop_seen key at store (cell.Variable w) = refl
  pop_seen key at store (cell.Arr items) = refl
  pop_seen key at store (cell.Obj properties) = refl
  pop_seen key at store (cell.Frame f) = refl
  pop_seen key at store (cell.Html h) = refl
  pop_seen key at store (cell.Code c) = refl

  pop_in : (store : List Cell) (at : ℕ) (key : List ℕ) (o : Option Cell) → slice_get store at ≡ o → Same store (popped_at o key at store) (popped_at o key at (seen store))
  unfolding popped_at
  pop_in store at key (Some (cell.Arr items)) is = record { ending = refl; cells = sym (seen_set store at (cell.Arr (take (length items - 1) items)) tt); functions = functions_set table store at (cell.Arr items) (cell.Arr (take (length items - 1) items)) is tt tt }
  pop_in store at key _ is = same_settled (Err (error.NoSuchProperty key)) store

  same_for : (store : List Cell) (r q q' : Done) → q' ≡ q → Same store r q → Same store r q'
  same_for store r q q' e h = subst (λ (z : Done). Same store r z) (sym e) h

  array_all : (m : Option MethodName) (at : ℕ) (key : List ℕ) (arguments : List Value) (store : List Cell) → Same store (array_method m at key arguments store) (array_method m at key arguments (seen store))
  unfolding array_method
  array_all (Some name.Slice) at key arguments store =
      let a = slice_get arguments 0 in
      let b = slice_get arguments 1 in
      subst (λ (z : Result (List Value) ErrorKind). Same store (made (part_at (slice_get store at) key a b) store) (made z (seen store))) (sym (seen_at (λ o. part_at o key a b) (part_seen key a b) store at)) (same_made (part_at (slice_get store at) key a b) store)
  array_all (Some name.Push) at key arguments store =
      let v = given (slice_get arguments 0) in
      same_for store (pushed_at (slice_get store at) key v at store) (pushed_at (slice_get store at) key v at (seen store)) (pushed_at (slice_get (seen store) at) key v at (seen store)) (seen_at (λ o. pushed_at o key v at (seen store)) (push_seen key v at (seen store)) store at) (push_in store at key v (slice_get store at) refl)
  array_all (Some name.Pop) at key arguments store =
      same_for store (popped_at (slice_get store at) key at store) (popped_at (slice_get store at) key at (seen store)) (popped_at (slice_get (seen store) at) key at (seen store)) (seen_at (λ o. popped_at o key at (seen store)) (pop_seen key at (seen store)) store at) (pop_in store at key (slice_get store at) refl)
  array_all m at key arguments store =
      let a = slice_get arguments 0 in
      same_along (value_at (slice_get store at) m key a) (value_at (slice_get (seen store) at) m key a) store (seen_at (λ o. value_at o m key a) (value_seen m key a) store at)

  method_all : (base : Value) (key : List ℕ) (arguments : List Value) (store : List Cell) → Same store (method base key arguments store) (method base key arguments (seen store))
  unfolding method
  method_all (value.Text text) key arguments store = same_settled (text_method text (named key) key arguments) store
  method_all (value.Arr at) key arguments store = array_all (named key) at key arguments store
  method_all _ key arguments store = same_settled (Err (error.NoSuchProperty key)) store

  cost_seen : (base : Value) (key : List ℕ) (arguments : List Value) (store : List Cell) → method_cost base key arguments (seen store) ≡ method_cost base key arguments store
  unfolding method_cost method_work
  cost_seen (value.Arr at) key arguments store = ap (λ w. method_steps w) (seen_at (λ o. array_work o (named key) arguments) (work_seen (named key) arguments) store at)
  cost_seen _ key arguments store = refl

  pub keep_method : (base : Value) (key : List ℕ) (arguments : List Value) → Keeps table (plain_method base key arguments)
  unfolding plain_method
  keep_method base key arguments = record {
    run = λ s.
        let both = keep_bind table (keep_spend table (method_cost base key arguments s.store)) (λ _. keep_operate (method base key arguments) (method_all base key arguments)) in
        subst (λ (n : ℕ). KeepsAt table s (and_then (spend (method_cost base key arguments s.store) s) (λ _. operate (method base key arguments))) (and_then (spend n (seen_state s)) (λ _. operate (method base key arguments))))
        (sym (cost_seen base key arguments s.store)) (both.run s);
  }
