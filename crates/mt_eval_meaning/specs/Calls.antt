-- Calls: of functions, services and builtins by their values, and of methods by their names.
use Rattle.std.specs.Prelude.{ℕ, Bool, true, false, ◌||◌, not, if◌then◌else◌, List, Option, None, Some}
use Rattle.mt_eval_meaning.specs.Host.{Outside}
use Rattle.mt_eval_meaning.specs.References.{host_key, get}
use Rattle.mt_eval_meaning.specs.Runs.{Run, ◌>>=◌, ◌>>◌, pure, all}
use Rattle.mt_eval_meaning.specs.State.{Eval, on_state, spend, throw, operate}
use Rattle.mt_eval_meaning.specs.declared.callee.Callee.{Callee}
use Rattle.mt_eval_meaning.specs.declared.callee.Callee.TheVariants as callee
use Rattle.mt_eval_meaning.specs.declared.state.State.{State}
use Rattle.mt_ops_methods.specs.Costs.{method_cost}
use Rattle.mt_ops_methods.specs.Methods.{method as method_of}
use Rattle.mt_ops.specs.declared.error.ErrorKind.TheVariants as error
use Rattle.mt_ops_properties.specs.Costs.{steps, property_units}
use Rattle.mt_value.specs.declared.value.Value.{Value}
use Rattle.mt_value.specs.declared.value.Value.TheVariants as value

abbrev pub is_object : Value → Bool
is_object (value.Obj at) = true
is_object _ = false

-- the name of the method that a key gives; of an object, and by a key that is no text, the property is called
abbrev pub method_name : Value → Value → Option (List ℕ)
method_name base (value.Text key) = if is_object base then None else Some key
method_name base _ = None

-- a method of the language takes the steps of the call and of its work at once, before the work
unfoldable pub plain_method : Value → List ℕ → List Value → Run State Value
plain_method base key arguments = λ s. (spend (method_cost base key arguments s.store) >> operate (method_of base key arguments)) s

module _ {K : Type 0} (outside : Outside K) where
  -- ---- the callee, before the arguments are evaluated

  unfoldable pub plain_callee : Eval K Value → Eval K Callee
  plain_callee e = do
    f ← e
    pure (callee.Function f)

  -- The property is read now, or a method is to be chosen once the arguments are there.
  abbrev pub member_by : Option (List ℕ) → Value → Value → Eval K Callee
  member_by (Some key) base k = do
    on_state (spend 0)
    pure (callee.Method base key)
  member_by None base k = do
    on_state (spend (steps (property_units base k)))
    f ← get outside base k
    pure (callee.Function f)

  unfoldable pub member_callee : Eval K Value → Eval K Value → Eval K Callee
  member_callee a k = do
    base ← a
    key ← k
    member_by (method_name base key) base key

  -- ---- the call

  abbrev pub applied : Value → List Value → Eval K Value
  applied (value.Fun at) arguments = outside.enter at arguments
  applied (value.Svc name) arguments = outside.frame name arguments
  applied (value.Native n) arguments = outside.native n arguments
  applied _ arguments = on_state (throw error.NotFunction)

  unfoldable pub hosted_method : Value → List ℕ → List Value → Eval K Value
  hosted_method base key arguments = do
    on_state (spend 0)
    outside.method base key arguments

  abbrev pub method_by : Option (List ℕ) → Value → List ℕ → List Value → Eval K Value
  method_by (Some text) base key arguments = hosted_method base key arguments
  method_by None base key arguments = on_state (plain_method base key arguments)

  unfoldable pub applied_function : Value → List Value → Eval K Value
  applied_function f arguments = do
    on_state (spend 0)
    applied f arguments

  abbrev pub invoked : Callee → List Value → Eval K Value
  invoked (callee.Function f) arguments = applied_function f arguments
  invoked (callee.Method base key) arguments = method_by (host_key base (value.Text key)) base key arguments

  unfoldable pub call : Eval K Callee → List (Eval K Value) → Eval K Value
  call called arguments = do
    f ← called
    values ← all arguments
    invoked f values
