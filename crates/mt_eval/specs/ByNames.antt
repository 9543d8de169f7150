-- How a whole job ends by names, where it ended on slots.
use Rattle.std.specs.Prelude.{◌≡◌, ℕ, List}
use Rattle.mt_eval_meaning.specs.Agreement.{start_environment}
use Rattle.mt_eval_meaning.specs.States.{Numbered}
use Rattle.mt_eval_meaning.specs.Stores.{StateStands}
use Rattle.mt_eval.specs.Jobs.{state}
use Rattle.mt_eval_meaning.specs.Entering.{Named}
use Rattle.mt_eval_meaning.specs.Host.{done_ran}
use Rattle.mt_eval_meaning.specs.Names.{Environment}
use Rattle.mt_eval_meaning.specs.Runs.{Ran, gives, leaves}
use Rattle.mt_eval_meaning.specs.declared.exit.Done.{Done}
use Rattle.mt_eval_meaning.specs.declared.exit.Done.TheVariants as done
use Rattle.mt_eval_meaning.specs.declared.exit.Exit.TheVariants as exit
use Rattle.mt_eval_meaning.specs.declared.state.State.{State}
use Rattle.mt_syntax.specs.declared.program.Tilde.{Tilde}
use Rattle.mt_syntax.specs.declared.tree.Stmt.{Stmt}
use Rattle.mt_value.specs.Globals.{Variables}
use Rattle.mt_value.specs.declared.cell.Cell.{Cell}
use Rattle.mt_value.specs.declared.value.Value.{Value}

-- how a file by names ends whose unit ended so: a file has no value, and gives the environment of its top
abbrev pub file_ran : {H : Type 0} → List Stmt → Done → State × Named H → Ran (State × Named H) Environment
file_ran items (done.Value v) n = gives (start_environment items) n
file_ran items (done.Throw v) n = leaves (exit.Throw v) n
file_ran items (done.Stop w) n = leaves (exit.Stop w) n

module _ {H : Type 0} (tildes : List Tilde) (table : List Numbered) where
  -- the same value, throw or stop, in a state for which what is left stands
  abbrev pub EndsByNames : Ran (State × Named H) Value → Done → List Cell → Variables → H → ℕ → Type 0
  EndsByNames ran ending store globals host left = (n : State × Named H) × (ran ≡ done_ran ending n) × StateStands tildes table (state store globals left, host) n

  abbrev pub StartsByNames : List Stmt → Ran (State × Named H) Environment → Done → List Cell → Variables → H → ℕ → Type 0
  StartsByNames items ran ending store globals host left = (n : State × Named H) × (ran ≡ file_ran items ending n) × StateStands tildes table (state store globals left, host) n
