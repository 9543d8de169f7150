-- Steps on the state that do the same on what is seen of the store, and leave the functions in it as they are.
use Rattle.std.proofs.Common.{◌≡◌, ℕ, suc, ◌-◌, nat_lt, List, Option, Some, Bool, true, false, cond, Result, Ok, Err, refl, sym, ap, ap₂, ◌∙◌, subst}
use Rattle.std.specs.Prelude.{slice_get, is_some}
use Rattle.mt_eval_meaning.specs.States.{Numbered}
use Rattle.mt_eval_agreement.proofs.Stores.{IsPlain, seen_added, seen_set, seen_length, seen_at, SameFunctions, same_functions, functions_both, functions_added, functions_set}
use Rattle.mt_eval_meaning.specs.Host.{seen, seen_cell}
use Rattle.mt_eval_meaning.specs.References.{variable_value, assignable, variable_put, read_variable, write_variable, read_global, write_global, write_name, declare_variable, declare, declare_global, global_value}
use Rattle.mt_eval_meaning.specs.Runs.{Ran, gives, leaves, Run, and_then}
use Rattle.mt_eval_meaning.specs.State.{spend, throw, or_throw, operate, add_cell, put_cell, put_global}
use Rattle.mt_eval_meaning.specs.declared.exit.Exit.TheVariants as exit
use Rattle.mt_eval_meaning.specs.declared.exit.Stop.TheVariants as stop
use Rattle.mt_eval_meaning.specs.declared.reference.Referent.{Referent}
use Rattle.mt_eval_meaning.specs.declared.reference.Referent.TheVariants as refers
use Rattle.mt_eval_meaning.specs.declared.state.State.{State}
use Rattle.mt_ops.specs.Errors.{settled, error_cell}
use Rattle.mt_ops.specs.declared.error.ErrorKind.{ErrorKind}
use Rattle.mt_ops.specs.declared.error.ErrorKind.TheVariants as error
use Rattle.mt_value.specs.Globals.{value_of}
use Rattle.mt_value.specs.declared.cell.Cell.{Cell}
use Rattle.mt_value.specs.declared.cell.Cell.TheVariants as cell
use Rattle.mt_value.specs.declared.value.Value.{Value}
use Rattle.mt_value.specs.declared.value.Value.TheVariants as value

abbrev pub seen_state : State → State
seen_state s = record s { store = seen s.store }

abbrev pub seen_ran : {A : Type 0} → Ran State A → Ran State A
seen_ran (gives a s) = gives a (seen_state s)
seen_ran (leaves e s) = leaves e (seen_state s)

abbrev pub end : {A : Type 0} → Ran State A → State
end (gives a s) = s
end (leaves e s) = s

module _ (table : List Numbered) where
  -- from one state
  pub record KeepsAt {A : Type 0} (s : State) (r q : Ran State A) : Type 0 where
    pub same : q ≡ seen_ran r
    pub functions : SameFunctions table s.store (end r).store

  pub record Keeps {A : Type 0} (m : Run State A) : Type 0 where
    pub run : (s : State) → KeepsAt s (m s) (m (seen_state s))

  keeps_here : {A : Type 0} (s : State) (r : Ran State A) → (end r).store ≡ s.store → KeepsAt s r (seen_ran r)
  keeps_here s r e = record { same = refl; functions = subst (λ (z : List Cell). SameFunctions table s.store z) (sym e) (same_functions table s.store) }

  pub keep_pure : {A : Type 0} (a : A) → Keeps (λ s. gives a s)
  keep_pure a = record { run = λ s. keeps_here s (gives a s) refl }

  bind_at : {A B : Type 0} (f : A → Run State B) (s : State) (r q : Ran State A) → KeepsAt s r q → ((a : A) → Keeps (f a)) → KeepsAt s (and_then r f) (and_then q f)
  bind_at f s (gives a t) q k h =
      let rest = (h a).run t in
      record {
        same = ap (λ z. and_then z f) k.same ∙ rest.same;
        functions = functions_both table s.store t.store (end (f a t)).store k.functions rest.functions;
      }
  bind_at f s (leaves e t) q k h = record { same = ap (λ z. and_then z f) k.same; functions = k.functions }

  pub keep_bind : {A B : Type 0} {m : Run State A} {f : A → Run State B} → Keeps m → ((a : A) → Keeps (f a)) → Keeps (λ s. and_then (m s) f)
  keep_bind {m = m} {f = f} k h = record { run = λ s. bind_at f s (m s) (m (seen_state s)) (k.run s) h }

  spend_at : (b : Bool) (n : ℕ) (s : State)
      → KeepsAt s (cond {A = Ran State (Unit {0})} b (gives tt (record s { budget = n })) (leaves (exit.Stop stop.Budget) s)) (cond {A = Ran State (Unit {0})} b (gives tt (record (seen_state s) { budget = n })) (leaves (exit.Stop stop.Budget) (seen_state s)))
  spend_at true n s = keeps_here s (gives tt (record s { budget = n })) refl
  spend_at false n s = keeps_here s (leaves (exit.Stop stop.Budget) s) refl

  pub keep_spend : (more : ℕ) → Keeps (spend more)
  unfolding spend
  keep_spend more = record { run = λ s. spend_at (nat_lt more s.budget) (s.budget - suc more) s }

  pub keep_throw : {A : Type 0} (e : ErrorKind) → Keeps (throw {A = A} e)
  unfolding throw
  keep_throw e = record {
    run = λ s. record {
      same = ap₂ (λ n cells. leaves (exit.Throw (value.Obj n)) (record s { store = cells })) (seen_length s.store) (sym (seen_added s.store (error_cell e) tt));
      functions = functions_added table s.store (error_cell e) tt;
    };
  }

  pub keep_or_throw : {A : Type 0} (r : Result A ErrorKind) → Keeps (or_throw r)
  keep_or_throw (Ok a) = keep_pure a
  keep_or_throw (Err e) = keep_throw e

  pub keep_add : (c : Cell) → IsPlain c → Keeps (add_cell c)
  unfolding add_cell
  keep_add c p = record {
    run = λ s. record {
      same = ap₂ (λ n cells. gives n (record s { store = cells })) (seen_length s.store) (sym (seen_added s.store c p));
      functions = functions_added table s.store c p;
    };
  }

  pub keep_global : (name : List ℕ) (v : Value) → Keeps (put_global name v)
  unfolding put_global
  keep_global name v = record { run = λ s. keeps_here s (put_global name v s) refl }

  -- a step that does what it does for what is read of the state
  along : {A : Type 0} (s : State) (r : Run State A) (q : Run State A) → q ≡ r → KeepsAt s (r s) (r (seen_state s)) → KeepsAt s (r s) (q (seen_state s))
  along s r q e k = subst (λ (z : Run State _). KeepsAt s (r s) (z (seen_state s))) (sym e) k

  -- ---- variables

  value_seen : (text : List ℕ) (c : Cell) → variable_value text (Some (seen_cell c)) ≡ variable_value text (Some c)
  value_seen text (cell.Fun f) = refl
  value_seen text (cell.Variable v) = refl
  value_seen text (cell.Arr items) = refl
  value_seen text (cell.Obj properties) = refl
  value_seen text (cell.Frame f) = refl
  value_seen text (cell.Html h) = refl
  value_seen text (cell.Code c) = refl

  assignable_seen : (text : List ℕ) (b : Bool) (c : Cell) → assignable text b (Some (seen_cell c)) ≡ assignable text b (Some c)
  assignable_seen text b (cell.Fun f) = refl
  assignable_seen text b (cell.Variable v) = refl
  assignable_seen text b (cell.Arr items) = refl
  assignable_seen text b (cell.Obj properties) = refl
  assignable_seen text b (cell.Frame f) = refl
  assignable_seen text b (cell.Html h) = refl
  assignable_seen text b (cell.Code c) = refl

  pub keep_read_variable : (text : List ℕ) (at : ℕ) → Keeps (read_variable text at)
  unfolding read_variable
  keep_read_variable text at = record {
    run = λ s.
        let r = or_throw (variable_value text (slice_get s.store at)) in
        along s r (or_throw (variable_value text (slice_get (seen s.store) at))) (ap or_throw (seen_at (variable_value text) (value_seen text) s.store at)) ((keep_or_throw (variable_value text (slice_get s.store at))).run s);
  }

  -- a cell that is put in the place of a plain one
  put_at : (at : ℕ) (d c : Cell) (s : State) → slice_get s.store at ≡ Some d → IsPlain d → IsPlain c → KeepsAt s (put_cell at c s) (put_cell at c (seen_state s))
  unfolding put_cell
  put_at at d c s is pd pc = record {
    same = ap (λ cells. gives tt (record s { store = cells })) (sym (seen_set s.store at c pc));
    functions = functions_set table s.store at d c is pd pc;
  }

  thrown_at : {A B : Type 0} (e : ErrorKind) (s : State) (f : A → Run State B) → KeepsAt s (and_then (throw {A = A} e s) f) (and_then (throw {A = A} e (seen_state s)) f)
  unfolding throw
  thrown_at {B = B} e s f = (keep_throw {A = B} e).run s

  write_at : (text : List ℕ) (at : ℕ) (b : Bool) (v : Value) (s : State) (o : Option Cell) → slice_get s.store at ≡ o
      → KeepsAt s (and_then (or_throw (assignable text b o) s) (λ _. put_cell at (cell.Variable (Some v)))) (and_then (or_throw (assignable text b o) (seen_state s)) (λ _. put_cell at (cell.Variable (Some v))))
  write_at text at true v s (Some (cell.Variable (Some w))) is = thrown_at (error.Constant text) s (λ _. put_cell at (cell.Variable (Some v)))
  write_at text at false v s (Some (cell.Variable (Some w))) is = put_at at (cell.Variable (Some w)) (cell.Variable (Some v)) s is tt tt
  write_at text at b v s _ is = thrown_at (error.BeforeDeclaration text) s (λ _. put_cell at (cell.Variable (Some v)))

  pub keep_write_variable : (text : List ℕ) (at : ℕ) (b : Bool) (v : Value) → Keeps (write_variable text at b v)
  unfolding write_variable
  keep_write_variable text at b v = record {
    run = λ s.
        subst (λ (z : Result (Unit {0}) ErrorKind). KeepsAt s (and_then (or_throw (assignable text b (slice_get s.store at)) s) (λ _. put_cell at (cell.Variable (Some v)))) (and_then (or_throw z (seen_state s)) (λ _. put_cell at (cell.Variable (Some v)))))
        (sym (seen_at (assignable text b) (assignable_seen text b) s.store at)) (write_at text at b v s (slice_get s.store at) refl);
  }

  declare_at : (at : ℕ) (v : Value) (s : State) (o : Option Cell) → slice_get s.store at ≡ o → KeepsAt s (variable_put o at v s) (variable_put o at v (seen_state s))
  declare_at at v s (Some (cell.Variable w)) is = put_at at (cell.Variable w) (cell.Variable (Some v)) s is tt tt
  declare_at at v s _ is = (keep_pure tt).run s

  put_seen : (at : ℕ) (v : Value) (c : Cell) → variable_put (Some (seen_cell c)) at v ≡ variable_put (Some c) at v
  put_seen at v (cell.Fun f) = refl
  put_seen at v (cell.Variable w) = refl
  put_seen at v (cell.Arr items) = refl
  put_seen at v (cell.Obj properties) = refl
  put_seen at v (cell.Frame f) = refl
  put_seen at v (cell.Html h) = refl
  put_seen at v (cell.Code c) = refl

  pub keep_declare_variable : (at : ℕ) (v : Value) → Keeps (declare_variable at v)
  unfolding declare_variable
  keep_declare_variable at v = record {
    run = λ s.
        subst (λ (z : Run State (Unit {0})). KeepsAt s (variable_put (slice_get s.store at) at v s) (z (seen_state s)))
        (sym (seen_at (λ o. variable_put o at v) (put_seen at v) s.store at)) (declare_at at v s (slice_get s.store at) refl);
  }

  pub keep_read_global : (text : List ℕ) → Keeps (read_global text)
  unfolding read_global
  keep_read_global text = record { run = λ s. (keep_or_throw (global_value text (value_of text s.globals))).run s }

  pub keep_write_global : (text : List ℕ) (v : Value) → Keeps (write_global text v)
  unfolding write_global
  keep_write_global text v = record {
    run = λ s.
        let r = global_value text (value_of text s.globals) in
        bind_at (λ _. put_global text v) s (or_throw r s) (or_throw r (seen_state s)) ((keep_or_throw r).run s) (λ _. keep_global text v);
  }

  pub keep_write_name : (text : List ℕ) (r : Referent) (v : Value) → Keeps (write_name text r v)
  keep_write_name text (refers.Variable at b) v = keep_write_variable text at b v
  keep_write_name text refers.Service v = keep_throw (error.Constant text)
  keep_write_name text (refers.Builtin n) v = keep_throw (error.Constant text)
  keep_write_name text refers.Global v = keep_write_global text v

  pub keep_declare : (text : List ℕ) (r : Referent) (v : Value) → Keeps (declare text r v)
  keep_declare text (refers.Variable at b) v = keep_declare_variable at v
  keep_declare text refers.Service v = keep_pure tt
  keep_declare text (refers.Builtin n) v = keep_pure tt
  keep_declare text refers.Global v = keep_global text v

  declared_at : (b : Bool) (text : List ℕ) (s : State)
      → KeepsAt s (cond {A = Ran State (Unit {0})} b (gives tt s) (put_global text value.Undefined s)) (cond {A = Ran State (Unit {0})} b (gives tt (seen_state s)) (put_global text value.Undefined (seen_state s)))
  declared_at true text s = (keep_pure tt).run s
  declared_at false text s = (keep_global text value.Undefined).run s

  pub keep_declare_global : (text : List ℕ) → Keeps (declare_global text)
  unfolding declare_global
  keep_declare_global text = record { run = λ s. declared_at (is_some (value_of text s.globals)) text s }

  -- ---- operations whose value or error the operands alone give

  settled_at : (r : Result Value ErrorKind) (s : State) → KeepsAt s (operate (settled r) s) (operate (settled r) (seen_state s))
  unfolding operate throw
  settled_at (Ok v) s = (keep_pure v).run s
  settled_at (Err e) s = (keep_throw {A = Value} e).run s

  pub keep_settled : (r : Result Value ErrorKind) → Keeps (operate (settled r))
  keep_settled r = record { run = λ s. settled_at r s }
