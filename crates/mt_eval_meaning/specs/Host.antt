-- What lies outside the language: a host does it, and answers.
use Rattle.std.specs.Prelude.{ℕ, min, List, [], ◌++◌, map}
use Rattle.mt_eval_meaning.specs.Runs.{Ran, gives, leaves}
use Rattle.mt_eval_meaning.specs.State.{Eval}
use Rattle.mt_eval_meaning.specs.declared.exit.Done.{Done}
use Rattle.mt_eval_meaning.specs.declared.exit.Done.TheVariants as done
use Rattle.mt_eval_meaning.specs.declared.exit.Exit.TheVariants as exit
use Rattle.mt_eval_meaning.specs.declared.named_value.NamedValue.{NamedValue}
use Rattle.mt_tree.specs.declared.closure.Closure.{Closure as Client}
use Rattle.mt_tree.specs.declared.html.Html.{Html}
use Rattle.mt_value.specs.declared.cell.Cell.{Cell}
use Rattle.mt_value.specs.declared.cell.Cell.TheVariants as cell
use Rattle.mt_value.specs.declared.cell.FrameCell.{FrameCell}
use Rattle.mt_value.specs.declared.cell.Property.{Property}
use Rattle.mt_value.specs.declared.value.Native.{Native}
use Rattle.mt_value.specs.declared.value.Value.{Value}

-- a cell of a function that says nothing of it
abbrev pub blank : Cell
blank = cell.Fun (record { function = 0; captured = [] })

abbrev pub seen_cell : Cell → Cell
seen_cell (cell.Fun f) = blank
seen_cell (cell.Variable v) = cell.Variable v
seen_cell (cell.Arr items) = cell.Arr items
seen_cell (cell.Obj properties) = cell.Obj properties
seen_cell (cell.Frame f) = cell.Frame f
seen_cell (cell.Html h) = cell.Html h
seen_cell (cell.Code c) = cell.Code c

-- the store as a host sees it, without what functions hold
abbrev pub seen : List Cell → List Cell
seen store = map seen_cell store

-- a cell that a host may add, which is no variable and no function
pub data Added : Type 0 where
  array : List Value → Added
  object : List Property → Added
  frame : FrameCell → Added
  html : Html Client → Added
  code : Client → Added

abbrev pub added_cell : Added → Cell
added_cell (array items) = cell.Arr items
added_cell (object properties) = cell.Obj properties
added_cell (frame f) = cell.Frame f
added_cell (html h) = cell.Html h
added_cell (code c) = cell.Code c

pub record Answer (H : Type 0) : Type 0 where
  pub outcome : Done
  -- the cells that go behind those of the store
  pub added : List Added
  pub host : H
  -- the steps that it leaves; more than it was given count as those
  pub budget : ℕ

-- a call, by what the host, the store that it sees and the budget are
abbrev pub Answering : Type 0 → Type 0
Answering H = H → List Cell → ℕ → Answer H

-- what the calls of a host mean
pub record Meaning (H : Type 0) : Type 0 where
  pub native : Native → List Value → Answering H
  pub method : Value → List ℕ → List Value → Answering H
  pub get : Value → List ℕ → Answering H
  pub set : Value → List ℕ → Value → Answering H
  pub frame : List ℕ → List Value → Answering H
  pub staged : ℕ → List Value → Answering H
  pub element : List ℕ → List NamedValue → List Value → Answering H

-- the outcome, the new store, the new host and the steps that are left
abbrev pub answered : {H : Type 0} → Answer H → List Cell → ℕ → Done × List Cell × H × ℕ
answered a store budget = (a.outcome, store ++ map added_cell a.added, a.host, min a.budget budget)

abbrev pub done_ran : {S : Type 0} → Done → S → Ran S Value
done_ran (done.Value v) s = gives v s
done_ran (done.Throw v) s = leaves (exit.Throw v) s
done_ran (done.Stop w) s = leaves (exit.Stop w) s

-- a call of the host as a step on the state and the host
unfoldable pub does : {H : Type 0} → Answering H → Eval H Value
does call = λ s.
    let r = answered (call s.1 (seen s.0.store) s.0.budget) s.0.store s.0.budget in
    done_ran r.0 (record s.0 { store = r.1; budget = r.3 }, r.2)

-- What lies outside of an expression: the calls of the host, and the call of the function in a cell, as evaluations.
pub record Outside (K : Type 0) : Type 0 where
  pub native : Native → List Value → Eval K Value
  pub method : Value → List ℕ → List Value → Eval K Value
  pub get : Value → List ℕ → Eval K Value
  pub set : Value → List ℕ → Value → Eval K Value
  pub frame : List ℕ → List Value → Eval K Value
  pub staged : ℕ → List Value → Eval K Value
  pub element : List ℕ → List NamedValue → List Value → Eval K Value
  pub enter : ℕ → List Value → Eval K Value

-- `on_host` is a step on the host where it is a part of what stands beside the state, and `enter` calls the function in a cell
abbrev pub outside_by : {H K : Type 0} → Meaning H → (Eval H Value → Eval K Value) → (ℕ → List Value → Eval K Value) → Outside K
outside_by host on_host enter = record {
  native = λ which arguments. on_host (does (host.native which arguments));
  method = λ base key arguments. on_host (does (host.method base key arguments));
  get = λ base key. on_host (does (host.get base key));
  set = λ base key v. on_host (does (host.set base key v));
  frame = λ service arguments. on_host (does (host.frame service arguments));
  staged = λ tilde values. on_host (does (host.staged tilde values));
  element = λ tag attributes children. on_host (does (host.element tag attributes children));
  enter = enter;
}
