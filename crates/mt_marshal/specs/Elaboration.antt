-- What holds the data of values, as they are at this moment: client code, of the number of a tilde and of the values of its dollars, and a
-- frame, of the name of a service and of its arguments. A job pays for the walk.
use Rattle.std.specs.Prelude.{ℕ, ◌+◌, ◌-◌, ◌/◌, nat_le, List, [], ◌∷◌, length, if◌then◌else◌, Result, Ok, Err}
use Rattle.mt_eval_meaning.specs.Host.{Added, Answering}
use Rattle.mt_eval_meaning.specs.Host.Added.{code, frame}
use Rattle.mt_eval_meaning.specs.declared.exit.Done.{Done}
use Rattle.mt_eval_meaning.specs.declared.exit.Done.TheVariants as done
use Rattle.mt_eval_meaning.specs.declared.exit.Stop.TheVariants as stop
use Rattle.mt_marshal.specs.Rules.{number_of}
use Rattle.mt_marshal.specs.Snapshot.{walked}
use Rattle.mt_marshal.specs.declared.counts.Counts.{Counts}
use Rattle.mt_marshal.specs.declared.refusal.Refused.{Refused}
use Rattle.mt_marshal.specs.declared.refusal.Refused.TheVariants as refused
use Rattle.mt_marshal.specs.declared.paying.Paid.{Paid}
use Rattle.mt_marshal.specs.declared.paying.Paid.TheVariants as paid
use Rattle.mt_tree.specs.declared.data.Data.{Data}
use Rattle.mt_value.specs.declared.value.Value.{Value}
use Rattle.mt_value.specs.declared.value.Value.TheVariants as value

-- what a walk gives, with what it counted
abbrev pub Walked : Type 0
Walked = Result (List Data × Counts) Refused

-- a step for each node, and one for each 256 bytes
abbrev pub steps : ℕ → ℕ → ℕ
steps nodes bytes = nodes + bytes / 256

-- a walk that is refused costs what it counted too; none is refused for want of memory
abbrev pub cost : Walked → ℕ
cost (Ok r) = steps r.1.nodes r.1.bytes
cost (Err (refused.Rule r nodes bytes)) = steps nodes bytes
cost (Err refused.NoMemory) = 0

-- what a walk gives the job that pays for it
abbrev pub paid_by : Walked → Paid
paid_by (Ok r) = paid.Data r.0
paid_by (Err (refused.Rule r nodes bytes)) = paid.Stopped (stop.Marshal (number_of r))
paid_by (Err refused.NoMemory) = paid.Stopped stop.Budget

-- with the steps that are left: where the cost is more than these, the job stops and nothing is taken
abbrev pub paid_for : Walked → ℕ → Paid × ℕ
paid_for w budget = if nat_le (cost w) budget then (paid_by w, budget - cost w) else (paid.Stopped stop.Budget, budget)

-- what is made of the data: a cell behind those of the store, and the value that names it
pub record Making : Type 0 where
  pub cell : List Data → Added
  pub value : ℕ → Value

abbrev pub code_of : ℕ → Making
code_of tilde = record { cell = λ ds. code (record { tilde = tilde; values = ds }); value = λ at. value.Code at }

abbrev pub frame_of : List ℕ → Making
frame_of service = record { cell = λ ds. frame (record { service = service; arguments = ds }); value = λ at. value.Frame at }

-- where the store has that many cells
abbrev pub outcome_of : Making → ℕ → Paid → Done
outcome_of m cells (paid.Data ds) = done.Value (m.value cells)
outcome_of m cells (paid.Stopped w) = done.Stop w

abbrev pub added_of : Making → Paid → List Added
added_of m (paid.Data ds) = m.cell ds ∷ []
added_of m (paid.Stopped w) = []

-- as a host answers that stays as it is
abbrev pub answer : {H : Type 0} → Making → Paid × ℕ → Answering H
answer m p = λ host store budget. record { outcome = outcome_of m (length store) p.0; added = added_of m p.0; host = host; budget = p.1 }

unfoldable pub made : {H : Type 0} → Making → List Value → Answering H
made m values = λ host store budget. answer m (paid_for (walked store values) budget) host store budget

abbrev pub elaborated : {H : Type 0} → ℕ → List Value → Answering H
elaborated tilde = made (code_of tilde)

abbrev pub framed : {H : Type 0} → List ℕ → List Value → Answering H
framed service = made (frame_of service)
