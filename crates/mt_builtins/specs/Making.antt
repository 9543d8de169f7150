-- What a call makes: a value, or an error that is thrown, with the cell that it adds to the store.
use Rattle.std.specs.Prelude.{ℕ, ◌-◌, nat_le, List, [], ◌∷◌, ◌++◌, length, map, codes, if◌then◌else◌, Result, Ok, Err}
use Rattle.mt_builtins.specs.declared.made.Made.{Made}
use Rattle.mt_builtins.specs.declared.made.Made.TheVariants as made
use Rattle.mt_eval_meaning.specs.Host.{Added, Answering, added_cell}
use Rattle.mt_eval_meaning.specs.Host.Added.{array, object}
use Rattle.mt_eval_meaning.specs.declared.exit.Done.{Done}
use Rattle.mt_eval_meaning.specs.declared.exit.Done.TheVariants as done
use Rattle.mt_eval_meaning.specs.declared.exit.Stop.TheVariants as stop
use Rattle.mt_ops.specs.Errors.{error_name, error_message, text_property}
use Rattle.mt_ops.specs.declared.error.ErrorKind.{ErrorKind}
use Rattle.mt_value.specs.declared.cell.Cell.{Cell}
use Rattle.mt_value.specs.declared.cell.Property.{Property}
use Rattle.mt_value.specs.declared.value.Value.TheVariants as value

-- the properties of the object that an error is thrown as
abbrev pub error_properties : ErrorKind → List Property
error_properties e = text_property (codes "name") (error_name e) ∷ text_property (codes "message") (error_message e) ∷ []

-- the outcome, where the store has that many cells: a cell that is added goes behind them
abbrev pub outcome_of : ℕ → Result Made ErrorKind → Done
outcome_of cells (Ok (made.Value v)) = done.Value v
outcome_of cells (Ok (made.Array items)) = done.Value (value.Arr cells)
outcome_of cells (Ok (made.Object properties)) = done.Value (value.Obj cells)
outcome_of cells (Err e) = done.Throw (value.Obj cells)

abbrev pub added_of : Result Made ErrorKind → List Added
added_of (Ok (made.Value v)) = []
added_of (Ok (made.Array items)) = array items ∷ []
added_of (Ok (made.Object properties)) = object properties ∷ []
added_of (Err e) = object (error_properties e) ∷ []

-- the outcome and the new store
abbrev pub ended : Result Made ErrorKind → List Cell → Done × List Cell
ended r store = (outcome_of (length store) r, store ++ map added_cell (added_of r))

-- the same of a call that takes a number of steps before its work, with the steps that are left; where they are more than what
-- is left, the job stops and nothing is taken
abbrev pub ended_for : ℕ → Result Made ErrorKind → List Cell → ℕ → Done × List Cell × ℕ
ended_for steps r store budget =
    if nat_le steps budget then (outcome_of (length store) r, store ++ map added_cell (added_of r), budget - steps) else (done.Stop stop.Budget, store, budget)

-- ---- as a host answers that stays as it is

abbrev pub answer : {H : Type 0} → Result Made ErrorKind → Answering H
answer r = λ host store budget. record { outcome = outcome_of (length store) r; added = added_of r; host = host; budget = budget }

abbrev pub answer_for : {H : Type 0} → ℕ → Result Made ErrorKind → Answering H
answer_for steps r = λ host store budget.
    if nat_le steps budget then record { outcome = outcome_of (length store) r; added = added_of r; host = host; budget = budget - steps }
    else record { outcome = done.Stop stop.Budget; added = []; host = host; budget = budget }
