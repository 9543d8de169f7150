-- What may happen to a state between two jobs.
use Rattle.std.specs.Prelude.{ℕ, List, []}
use Rattle.mt_eval_meaning.specs.declared.state.State.{State}
use Rattle.mt_value.specs.declared.cell.Cell.{Cell}

-- before all jobs
abbrev pub empty_state : ℕ → State
empty_state steps = record { store = []; globals = []; budget = steps }

module _ {H : Type 0} where
  -- the state with other steps that are left, as a job begins
  abbrev pub with_steps : ℕ → State × H → State × H
  with_steps steps s = (record s.0 { budget = steps }, s.1)

  abbrev pub with_store : State × H → List Cell → State × H
  with_store s store = (record s.0 { store = store }, s.1)

  abbrev pub with_host : State × H → H → State × H
  with_host s host = (s.0, host)
