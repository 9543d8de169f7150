-- What the call of the function in a cell is.
use Rattle.std.proofs.Common.{◌≡◌, ℕ, zero, suc, ◌-◌, ◌<◌, List, Some, None, refl, ap, ◌∙◌, arith, slice_get}
use Rattle.mt_eval_meaning.specs.Host.{Meaning}
use Rattle.mt_eval_meaning.specs.Runs.{leaves}
use Rattle.mt_eval_meaning.specs.State.{Eval, on_state, throw}
use Rattle.mt_eval_meaning.specs.declared.exit.Exit.TheVariants as exit
use Rattle.mt_eval_meaning.specs.declared.exit.Stop.TheVariants as stop
use Rattle.mt_eval_meaning.specs.declared.state.State.{State}
use Rattle.mt_ops.specs.declared.error.ErrorKind.TheVariants as error
use Rattle.mt_eval_meaning.specs.Slots.{function_body, function_in, with_function, entered_by, parts}
use Rattle.mt_eval_meaning.specs.declared.function.Function.{Function}
use Rattle.mt_value.specs.declared.cell.FunCell.{FunCell}
use Rattle.mt_value.specs.declared.value.Value.{Value}
use Rattle.mt_tree.specs.Limits.{depth_limit}

module _ {H : Type 0} (functions : List Function) (host : Meaning H) (depth at : ℕ) (arguments : List Value) (s : State × H) where
  -- what is done with the function, where that many calls may begin
  abbrev entered : ℕ → FunCell → Eval H Value
  entered zero f = λ s. leaves (exit.Stop stop.Depth) s
  entered (suc left) f = function_body functions (parts functions host left depth_limit) (slice_get functions f.function) f.captured at arguments

  enters : (calls : ℕ) → (parts functions host calls depth).outside.enter at arguments s ≡ entered_by (entered calls) (function_in (slice_get s.0.store at)) s
  unfolding parts with_function
  enters zero = refl
  enters (suc left) = refl

  pub no_function : (calls : ℕ) → function_in (slice_get s.0.store at) ≡ None → (parts functions host calls depth).outside.enter at arguments s ≡ on_state (throw error.NotFunction) s
  no_function calls e = enters calls ∙ ap (λ f. entered_by (entered calls) f s) e

  pub no_call : (calls : ℕ) (f : FunCell) → function_in (slice_get s.0.store at) ≡ Some f → calls ≡ 0 → (parts functions host calls depth).outside.enter at arguments s ≡ leaves (exit.Stop stop.Depth) s
  no_call calls f e none = enters calls ∙ ap (λ g. entered_by (entered calls) g s) e ∙ ap (λ n. entered n f s) none

  pub one_call : (calls : ℕ) (f : FunCell) → function_in (slice_get s.0.store at) ≡ Some f → 0 < calls
      → (parts functions host calls depth).outside.enter at arguments s ≡ function_body functions (parts functions host (calls - 1) depth_limit) (slice_get functions f.function) f.captured at arguments s
  one_call calls f e some =
      let one : calls ≡ suc (calls - 1) = omega arith in
      enters calls ∙ ap (λ g. entered_by (entered calls) g s) e ∙ ap (λ n. entered n f s) one
