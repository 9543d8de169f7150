-- How a whole job ends, with what it leaves apart.
use Rattle.std.specs.Prelude.{◌≡◌, ℕ, List}
use Rattle.mt_eval_meaning.specs.Host.{done_ran}
use Rattle.mt_eval_meaning.specs.Runs.{Ran}
use Rattle.mt_eval_meaning.specs.declared.exit.Done.{Done}
use Rattle.mt_eval_meaning.specs.declared.state.State.{State}
use Rattle.mt_value.specs.Globals.{Variables}
use Rattle.mt_value.specs.declared.cell.Cell.{Cell}
use Rattle.mt_value.specs.declared.value.Value.{Value}

abbrev pub state : List Cell → Variables → ℕ → State
state store globals left = record { store = store; globals = globals; budget = left }

-- the evaluation ends so, with this store, these global variables, this host and these steps left
abbrev pub Ends : {H : Type 0} → Ran (State × H) Value → Done → List Cell → Variables → H → ℕ → Type 0
Ends ran done store globals host left = ran ≡ done_ran done (state store globals left, host)
