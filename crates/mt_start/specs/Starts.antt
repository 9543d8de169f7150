-- How the start of an application ends.
use Rattle.std.specs.Prelude.{◌≡◌, ◌++◌, ℕ, List, [], codes, decimal, if◌then◌else◌}
use Rattle.mt_eval_meaning.specs.Entering.{Named}
use Rattle.mt_eval_meaning.specs.Evaluation.{file, server_surroundings}
use Rattle.mt_eval_meaning.specs.Names.{Environment}
use Rattle.mt_eval_meaning.specs.Runs.{Ran, gives, leaves}
use Rattle.mt_eval_meaning.specs.declared.exit.Exit.{Exit}
use Rattle.mt_eval_meaning.specs.declared.exit.Exit.TheVariants as exit
use Rattle.mt_eval_meaning.specs.declared.exit.Stop.{Stop}
use Rattle.mt_eval_meaning.specs.declared.exit.Stop.TheVariants as stop
use Rattle.mt_eval_meaning.specs.declared.state.State.{State}
use Rattle.mt_ops_properties.specs.ErrorText.{error_text}
use Rattle.mt_source.specs.Sources.{IsSourceOf, IsRefusedWith}
use Rattle.mt_stage.specs.Accepted.{broken_places}
use Rattle.mt_builtins.specs.Plain.{Plain, fresh, plain}
use Rattle.mt_start.specs.declared.startup.Startup.{Startup}
use Rattle.mt_start.specs.declared.startup.Startup.TheVariants.{Started, Failed, NotBuilt, Refused}
use Rattle.mt_syntax.specs.declared.program.Program.{Program}
use Rattle.mt_value.specs.declared.cell.Cell.{Cell}
use Rattle.mt_tree.specs.Limits.{step_limit}

-- an empty store and no global variables
abbrev pub empty_state : State
empty_state = record { store = []; globals = []; budget = step_limit }

-- the top level of the file, by names
unfoldable pub start_of : Program → Ran (State × Named Plain) Environment
start_of program = file (server_surroundings program) plain program.items (empty_state, record { host = fresh; closures = [] })

-- ---- what is reported of it

pub data Ending : Type 0 where
  -- the end was reached, with these lines in the log
  started : List ℕ → Ending
  -- it was left by a throw or a stop, with this text
  failed : List ℕ → Ending
  -- it made what the host does not build
  unbuilt : Ending

abbrev pub stop_text : Stop → List ℕ
stop_text stop.Budget = codes "stop budget"
stop_text stop.Depth = codes "stop depth"
stop_text (stop.Marshal rule) = codes "stop marshal M" ++ decimal rule

abbrev pub exit_text : List Cell → Exit → List ℕ
exit_text store (exit.Throw v) = error_text store v
exit_text store (exit.Stop w) = stop_text w
exit_text store exit.NoMemory = []

abbrev pub ending_of : Ran (State × Named Plain) Environment → Ending
ending_of (gives environment s) = if s.1.host.beyond then unbuilt else started s.1.host.log
ending_of (leaves x s) = if s.1.host.beyond then unbuilt else failed (exit_text s.0.store x)

-- the ending of a run on slots
abbrev pub ending_on : {A : Type 0} → Ran (State × Plain) A → Ending
ending_on (gives a s) = if s.1.beyond then unbuilt else started s.1.log
ending_on (leaves x s) = if s.1.beyond then unbuilt else failed (exit_text s.0.store x)

-- the text is accepted, and its program starts with this ending
abbrev pub StartsAs : List ℕ → Ending → Type 0
StartsAs text ending = (program : Program) × IsSourceOf text program × (broken_places program ≡ []) × (ending_of (start_of program) ≡ ending)

-- what is reported of an ending
abbrev pub EndsLike : Ending → Startup → Type 0
EndsLike ending (Started log) = ending ≡ started log.items
EndsLike ending (Failed error) = ending ≡ failed error
EndsLike ending NotBuilt = ending ≡ unbuilt
EndsLike ending (Refused refusal) = ⊥

abbrev pub StartMeans : List ℕ → Startup → Type 0
StartMeans text (Started log) = StartsAs text (started log.items)
StartMeans text (Failed error) = StartsAs text (failed error)
StartMeans text NotBuilt = StartsAs text unbuilt
StartMeans text (Refused refusal) = IsRefusedWith text refusal
