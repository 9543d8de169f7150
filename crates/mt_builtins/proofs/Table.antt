-- The calls of a plain host, as its table says.
use Rattle.std.proofs.Common.{◌≡◌, ℕ, List, refl, sym, subst}
use Rattle.std.specs.Prelude.{Result, Ok, Err, IfOk, OnOk, slice_get, codes}
use Rattle.mt_builtins.proofs.Hosts.{answers, answers_given, answers_given_for, seen_method, seen_cost}
use Rattle.mt_builtins.specs.Builtins as builtin
use Rattle.mt_builtins.specs.Making.{ended, ended_for, answer}
use Rattle.mt_eval_meaning.specs.Host.{Answering, answered, seen}
use Rattle.mt_eval_meaning.specs.declared.exit.Done.{Done}
use Rattle.mt_ops.specs.declared.error.ErrorKind.TheVariants as error
use Rattle.mt_builtins.specs.Plain.{Plain, with_line, undefined_or, called, invoked, past, unmade}
use Rattle.mt_tree.specs.declared.fault.NoMemory.{NoMemory}
use Rattle.mt_value.specs.declared.cell.Cell.{Cell}
use Rattle.mt_value.specs.declared.value.Native.{Native}
use Rattle.mt_value.specs.declared.value.Native.TheVariants as native
use Rattle.mt_value.specs.declared.value.Value.{Value}

of_others : (which : Native) (arguments : List Value) → (which ≡ native.Log → ⊥) → called which arguments ≡ answer (builtin.native which arguments)
unfolding called
of_others native.Log arguments other = absurd (other refl)
of_others native.Object arguments other = refl
of_others native.Array arguments other = refl
of_others native.Document arguments other = refl
of_others native.String arguments other = refl
of_others native.Number arguments other = refl
of_others native.Error arguments other = refl
of_others native.Alert arguments other = refl
of_others native.Event arguments other = refl

of_log : (result : Result Done NoMemory) (arguments : List Value) (log : Plain) (store new : List Cell) (budget : ℕ) (new_log : Plain)
    → IfOk result (λ done. (done, new) ≡ ended (undefined_or (builtin.text_of (codes "log") (slice_get arguments 0))) store)
    → OnOk result (new_log ≡ with_line (builtin.text_of (codes "log") (slice_get arguments 0)) log)
    → IfOk result (λ done. (done, new, new_log, budget) ≡ answered (called native.Log arguments log (seen store) budget) store budget)
unfolding called
of_log (Ok done) arguments log store new budget new_log e f =
    let text = builtin.text_of (codes "log") (slice_get arguments 0) in
    subst (λ l. (done, new, l, budget) ≡ answered (answer (undefined_or text) (with_line text log) (seen store) budget) store budget) (sym f)
    (answers done new (undefined_or text) (with_line text log) store budget e)
of_log (Err g) arguments log store new budget new_log e f = tt

pub log_answers : (which : Native) → which ≡ native.Log → (result : Result Done NoMemory) (arguments : List Value) (log : Plain) (store new : List Cell) (budget : ℕ) (new_log : Plain)
    → IfOk result (λ done. (done, new) ≡ ended (undefined_or (builtin.text_of (codes "log") (slice_get arguments 0))) store)
    → OnOk result (new_log ≡ with_line (builtin.text_of (codes "log") (slice_get arguments 0)) log)
    → IfOk result (λ done. (done, new, new_log, budget) ≡ answered (called which arguments log (seen store) budget) store budget)
log_answers which is result arguments log store new budget new_log e f =
    subst (λ w. IfOk result (λ done. (done, new, new_log, budget) ≡ answered (called w arguments log (seen store) budget) store budget)) (sym is)
    (of_log result arguments log store new budget new_log e f)

module _ (result : Result Done NoMemory) (arguments : List Value) (log : Plain) (store new : List Cell) (budget : ℕ) where
  pub other_answers : (which : Native) → (which ≡ native.Log → ⊥) → IfOk result (λ done. (done, new) ≡ ended (builtin.native which arguments) store)
      → IfOk result (λ done. (done, new, log, budget) ≡ answered (called which arguments log (seen store) budget) store budget)
  other_answers which other e =
      subst (λ (f : Answering Plain). IfOk result (λ done. (done, new, log, budget) ≡ answered (f log (seen store) budget) store budget)) (sym (of_others which arguments other))
      (answers_given result new (builtin.native which arguments) log store budget e)

  pub method_answers : (base : Value) (key : List ℕ) (left : ℕ)
      → IfOk result (λ done. (done, new, left) ≡ ended_for (builtin.method_cost base key arguments store) (builtin.method base key arguments store) store budget)
      → IfOk result (λ done. (done, new, log, left) ≡ answered (invoked base key arguments log (seen store) budget) store budget)
  unfolding invoked
  method_answers base key left e =
      rw (seen_cost base key arguments store, seen_method base key arguments store)
      (answers_given_for result new left (builtin.method_cost base key arguments store) (builtin.method base key arguments store) log store budget e)

pub unmade_answers : (result : Result Done NoMemory) (host new_host : Plain) (store new : List Cell) (budget : ℕ) → new_host ≡ past host
    → IfOk result (λ done. (done, new) ≡ ended (Err error.NotFunction) store)
    → IfOk result (λ done. (done, new, new_host, budget) ≡ answered (unmade host (seen store) budget) store budget)
unmade_answers result host new_host store new budget is e =
    subst (λ h. IfOk result (λ done. (done, new, h, budget) ≡ answered (unmade host (seen store) budget) store budget)) (sym is)
    (answers_given result new (Err error.NotFunction) (past host) store budget e)
