-- What the outcome of an operation is to an evaluation.
use Rattle.std.specs.Prelude.{◌≡◌, ◌≢◌, [], ◌∷◌, ◌++◌, length, Result, Ok, Err}
use Rattle.mt_eval_meaning.specs.declared.exit.Done.{Done}
use Rattle.mt_eval_meaning.specs.declared.exit.Done.TheVariants as done
use Rattle.mt_eval_meaning.specs.declared.exit.Exit.{Exit}
use Rattle.mt_eval_meaning.specs.declared.exit.Exit.TheVariants as exit
use Rattle.mt_eval_meaning.specs.declared.state.State.{State}
use Rattle.mt_ops.specs.Errors.{error_cell}
use Rattle.mt_ops.specs.declared.error.ErrorKind.{ErrorKind}
use Rattle.mt_ops.specs.declared.outcome.Outcome.{Outcome}
use Rattle.mt_ops.specs.declared.outcome.Outcome.TheVariants as outcome
use Rattle.mt_value.specs.declared.value.Value.{Value}
use Rattle.mt_value.specs.declared.value.Value.TheVariants as value

abbrev pub value_or_throw : Outcome → Result Value Exit
value_or_throw (outcome.Value v) = Ok v
value_or_throw (outcome.Throw v) = Err (exit.Throw v)

abbrev pub value_or_exit : Done → Result Value Exit
value_or_exit (done.Value v) = Ok v
value_or_exit (done.Throw v) = Err (exit.Throw v)
value_or_exit (done.Stop w) = Err (exit.Stop w)

-- an evaluation that is left by a throw of the error, as a fresh object that goes last into the store, or for want of memory
pub record Throws (e : ErrorKind) (old : State) (left : Exit) (new : State) : Type 0 where
  pub thrown : left ≢ exit.NoMemory → left ≡ exit.Throw (value.Obj (length old.store))
  pub state : left ≢ exit.NoMemory → new ≡ record old { store = old.store ++ error_cell e ∷ [] }
