-- The state of an evaluation, and the steps on it that stand below all others. What else an evaluation changes, as its host, stands beside
-- the state.
use Rattle.std.specs.Prelude.{ℕ, suc, ◌-◌, ◌^◌, nat_lt, if◌then◌else◌, List, [], ◌∷◌, ◌++◌, length, Result, Ok, Err, slice_set}
use Rattle.mt_eval_meaning.specs.Runs.{Ran, gives, leaves, Run}
use Rattle.mt_eval_meaning.specs.declared.exit.Exit.TheVariants as exit
use Rattle.mt_eval_meaning.specs.declared.exit.Stop.TheVariants as stop
use Rattle.mt_eval_meaning.specs.declared.state.State.{State}
use Rattle.mt_ops.specs.Errors.{error_cell}
use Rattle.mt_ops.specs.declared.error.ErrorKind.{ErrorKind}
use Rattle.mt_ops.specs.declared.outcome.Outcome.{Outcome}
use Rattle.mt_ops.specs.declared.outcome.Outcome.TheVariants as outcome
use Rattle.mt_value.specs.Globals.{assigned}
use Rattle.mt_value.specs.declared.cell.Cell.{Cell}
use Rattle.mt_value.specs.declared.value.Value.{Value}
use Rattle.mt_value.specs.declared.value.Value.TheVariants as value

-- ---- steps on the state alone

-- Takes one step and that many more. Where they are more than what is left, the job stops and nothing is taken.
unfoldable pub spend : ℕ → Run State (Unit {0})
spend more = λ s. if nat_lt more s.budget then gives tt (record s { budget = s.budget - suc more }) else leaves (exit.Stop stop.Budget) s

-- a fresh object for the error is thrown
unfoldable pub throw : {A : Type 0} → ErrorKind → Run State A
throw e = λ s. leaves (exit.Throw (value.Obj (length s.store))) (record s { store = s.store ++ error_cell e ∷ [] })

abbrev pub or_throw : {A : Type 0} → Result A ErrorKind → Run State A
or_throw (Ok a) = λ s. gives a s
or_throw (Err e) = throw e

abbrev pub outcome_ran : Outcome → State → Ran State Value
outcome_ran (outcome.Value v) s = gives v s
outcome_ran (outcome.Throw v) s = leaves (exit.Throw v) s

-- an operation on the store
unfoldable pub operate : (List Cell → Outcome × List Cell) → Run State Value
operate f = λ s. outcome_ran (f s.store).0 (record s { store = (f s.store).1 })

-- a new cell goes behind all others, and its address is given
unfoldable pub add_cell : Cell → Run State ℕ
add_cell cell = λ s. gives (length s.store) (record s { store = s.store ++ cell ∷ [] })

unfoldable pub put_cell : ℕ → Cell → Run State (Unit {0})
put_cell at cell = λ s. gives tt (record s { store = slice_set s.store at cell })

unfoldable pub put_global : List ℕ → Value → Run State (Unit {0})
put_global name v = λ s. gives tt (record s { globals = assigned name v s.globals })

-- ---- evaluations: steps on the state and on what stands beside it

abbrev pub Eval : Type 0 → Type 0 → Type 0
Eval K A = Run (State × K) A

module _ {K A : Type 0} where
  abbrev pub beside : K → Ran State A → Ran (State × K) A
  beside k (gives a s) = gives a (s, k)
  beside k (leaves e s) = leaves e (s, k)

  -- a step on the state alone
  abbrev pub on_state : Run State A → Eval K A
  on_state p = λ s. beside s.1 (p s.0)

  abbrev pub with_budget : ℕ → Ran (State × K) A → Ran (State × K) A
  with_budget budget (gives a s) = gives a (record s.0 { budget = budget }, s.1)
  with_budget budget (leaves e s) = leaves e (record s.0 { budget = budget }, s.1)

  -- an evaluation that takes no steps from what is left
  unfoldable pub unmetered : Eval K A → Eval K A
  unmetered p = λ s. with_budget s.0.budget (p (record s.0 { budget = 2 ^ 64 - 1 }, s.1))
