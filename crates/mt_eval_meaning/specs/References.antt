-- What names and targets stand for while code is evaluated, and how they are read and written.
use Rattle.std.specs.Prelude.{ℕ, Bool, true, false, if◌then◌else◌, List, [], Option, None, Some, Result, Ok, Err, slice_get, is_some}
use Rattle.mt_eval_meaning.specs.Host.{Outside}
use Rattle.mt_eval_meaning.specs.Runs.{Run, gives, and_then, ◌>>=◌, pure}
use Rattle.mt_eval_meaning.specs.State.{Eval, on_state, throw, or_throw, operate, put_cell, put_global}
use Rattle.mt_eval_meaning.specs.declared.reference.Reference.{Reference}
use Rattle.mt_eval_meaning.specs.declared.reference.Reference.TheVariants as reference
use Rattle.mt_eval_meaning.specs.declared.reference.Referent.{Referent}
use Rattle.mt_eval_meaning.specs.declared.reference.Referent.TheVariants as referent
use Rattle.mt_eval_meaning.specs.declared.state.State.{State}
use Rattle.mt_ops.specs.Errors.{settled}
use Rattle.mt_ops.specs.declared.error.ErrorKind.{ErrorKind}
use Rattle.mt_ops.specs.declared.error.ErrorKind.TheVariants as error
use Rattle.mt_ops_properties.specs.Properties.{property as property_of, written}
use Rattle.mt_value.specs.Globals.{value_of}
use Rattle.mt_value.specs.declared.cell.Cell.{Cell}
use Rattle.mt_value.specs.declared.cell.Cell.TheVariants as cell
use Rattle.mt_value.specs.declared.value.Native.{Native}
use Rattle.mt_value.specs.declared.value.Native.TheVariants as native
use Rattle.mt_value.specs.declared.value.Value.{Value}
use Rattle.mt_value.specs.declared.value.Value.TheVariants as value

-- ---- names

-- the value of a variable, which is not there before its declaration
abbrev pub variable_value : List ℕ → Option Cell → Result Value ErrorKind
variable_value text (Some (cell.Variable (Some v))) = Ok v
variable_value text _ = Err (error.BeforeDeclaration text)

-- a variable may be assigned once it is declared, and where it is no constant
abbrev pub assignable : List ℕ → Bool → Option Cell → Result (Unit {0}) ErrorKind
assignable text constant (Some (cell.Variable (Some v))) = if constant then Err (error.Constant text) else Ok tt
assignable text constant _ = Err (error.BeforeDeclaration text)

abbrev pub global_value : List ℕ → Option Value → Result Value ErrorKind
global_value text (Some v) = Ok v
global_value text None = Err (error.NotDefined text)

unfoldable pub read_variable : List ℕ → ℕ → Run State Value
read_variable text at = λ s. or_throw (variable_value text (slice_get s.store at)) s

unfoldable pub write_variable : List ℕ → ℕ → Bool → Value → Run State (Unit {0})
write_variable text at constant v = λ s. and_then (or_throw (assignable text constant (slice_get s.store at)) s) (λ _. put_cell at (cell.Variable (Some v)))

unfoldable pub read_global : List ℕ → Run State Value
read_global text = λ s. or_throw (global_value text (value_of text s.globals)) s

unfoldable pub write_global : List ℕ → Value → Run State (Unit {0})
write_global text v = λ s. and_then (or_throw (global_value text (value_of text s.globals)) s) (λ _. put_global text v)

abbrev pub write_name : List ℕ → Referent → Value → Run State (Unit {0})
write_name text (referent.Variable at constant) v = write_variable text at constant v
write_name text referent.Service v = throw (error.Constant text)
write_name text (referent.Builtin n) v = throw (error.Constant text)
write_name text referent.Global v = write_global text v

-- no binding names a cell that is no variable
abbrev pub variable_put : Option Cell → ℕ → Value → Run State (Unit {0})
variable_put (Some (cell.Variable old)) at v = put_cell at (cell.Variable (Some v))
variable_put _ at v = pure tt

unfoldable pub declare_variable : ℕ → Value → Run State (Unit {0})
declare_variable at v = λ s. variable_put (slice_get s.store at) at v s

-- a declaration gives what it declares its first value, whether or not it is a constant
abbrev pub declare : List ℕ → Referent → Value → Run State (Unit {0})
declare text (referent.Variable at constant) v = declare_variable at v
declare text referent.Global v = put_global text v
declare text referent.Service v = pure tt
declare text (referent.Builtin n) v = pure tt

-- a global variable that isn't declared yet becomes undefined
unfoldable pub declare_global : List ℕ → Run State (Unit {0})
declare_global text = λ s. if is_some (value_of text s.globals) then gives tt s else put_global text value.Undefined s

-- ---- properties

-- a value whose properties and methods are the host's
abbrev pub is_hosted : Value → Bool
is_hosted (value.Frame at) = true
is_hosted (value.Node n) = true
is_hosted (value.Event n) = true
is_hosted (value.Native n) = true
is_hosted _ = false

-- the key by which the host is asked, where it is asked
abbrev pub host_key : Value → Value → Option (List ℕ)
host_key base (value.Text key) = if is_hosted base then Some key else None
host_key base _ = None

module _ {K : Type 0} (outside : Outside K) where
  -- the name `event` is asked of the host
  abbrev pub read_builtin : Native → Eval K Value
  read_builtin native.Event = outside.native native.Event []
  read_builtin n = pure (value.Native n)

  abbrev pub read_name : List ℕ → Referent → Eval K Value
  read_name text (referent.Variable at constant) = on_state (read_variable text at)
  read_name text referent.Service = pure (value.Svc text)
  read_name text (referent.Builtin n) = read_builtin n
  read_name text referent.Global = on_state (read_global text)

  abbrev pub get_by : Option (List ℕ) → Value → Value → Eval K Value
  get_by (Some text) base key = outside.get base text
  get_by None base key = on_state (operate (λ store. settled (property_of store base key) store))

  unfoldable pub get : Value → Value → Eval K Value
  get base key = get_by (host_key base key) base key

  abbrev pub set_by : Option (List ℕ) → Value → Value → Value → Eval K Value
  set_by (Some text) base key v = outside.set base text v
  set_by None base key v = on_state (operate (λ store. written store base key v))

  unfoldable pub set : Value → Value → Value → Eval K (Unit {0})
  set base key v = do
    answer ← set_by (host_key base key) base key v
    pure tt

  -- ---- both

  abbrev pub read : Reference → Eval K Value
  read (reference.Name text r) = read_name text r
  read (reference.Property base key) = get base key

  abbrev pub write : Reference → Value → Eval K (Unit {0})
  write (reference.Name text r) v = on_state (write_name text r v)
  write (reference.Property base key) v = set base key v
