-- A run by names that ends as a run on slots, by how the job ended.
use Rattle.std.proofs.Common.{◌≡◌, ℕ, List, [], Result, Ok, Err, IfOk, subst}
use Rattle.mt_eval_agreement.proofs.Whole.{called_law, client_law, start_law}
use Rattle.mt_eval_meaning.specs.Agreement.{EndsAs, StartsAs, without_functions}
use Rattle.mt_eval_meaning.specs.Code.{ClientCodeStands, FileStands, TableStands}
use Rattle.mt_eval_meaning.specs.States.{Numbered, keeping_whole}
use Rattle.mt_eval_meaning.specs.Stores.{StateStands}
use Rattle.mt_eval.specs.Jobs.{Ends, state}
use Rattle.mt_eval.specs.ByNames.{EndsByNames, StartsByNames}
use Rattle.mt_eval_meaning.specs.Entering.{Named}
use Rattle.mt_eval_meaning.specs.Evaluation.{called, client_code, file}
use Rattle.mt_eval_meaning.specs.Host.{Meaning, done_ran}
use Rattle.mt_eval_meaning.specs.Names.{Environment, Surroundings}
use Rattle.mt_eval_meaning.specs.Runs.{Ran}
use Rattle.mt_eval_meaning.specs.declared.exit.Done.{Done}
use Rattle.mt_eval_meaning.specs.declared.exit.Done.TheVariants as done
use Rattle.mt_eval_meaning.specs.declared.state.State.{State}
use Rattle.mt_eval_meaning.specs.Slots as slots
use Rattle.mt_eval_meaning.specs.declared.function.Function.{Function}
use Rattle.mt_eval_meaning.specs.declared.function.Unit.{Unit as Unit'}
use Rattle.mt_syntax.specs.declared.program.Tilde.{Tilde}
use Rattle.mt_syntax.specs.declared.tree.Stmt.{Stmt}
use Rattle.mt_tree.specs.declared.fault.NoMemory.{NoMemory}
use Rattle.mt_value.specs.Globals.{Variables}
use Rattle.mt_value.specs.declared.cell.Cell.{Cell}
use Rattle.mt_value.specs.declared.value.Value.{Value}

module _ {H : Type 0} (tildes : List Tilde) (table : List Numbered) (store : List Cell) (globals : Variables) (host : H) (left : ℕ) where
  module _ (ran : Ran (State × Named H) Value) where
    ends_by : (ending : Done) → EndsAs tildes table ran (done_ran ending (state store globals left, host)) → EndsByNames tildes table ran ending store globals host left
    ends_by (done.Value v) ends = ends
    ends_by (done.Throw v) ends = ends
    ends_by (done.Stop w) ends = ends

    pub ends_by_names : (r : Ran (State × H) Value) (ending : Done) → EndsAs tildes table ran r → Ends r ending store globals host left → EndsByNames tildes table ran ending store globals host left
    ends_by_names r ending ends is = ends_by ending (subst (λ (x : Ran (State × H) Value). EndsAs tildes table ran x) is ends)

  module _ (items : List Stmt) (ran : Ran (State × Named H) Environment) where
    starts_by : (ending : Done) → StartsAs tildes table items ran (done_ran ending (state store globals left, host)) → StartsByNames tildes table items ran ending store globals host left
    starts_by (done.Value v) starts = starts
    starts_by (done.Throw v) starts = starts
    starts_by (done.Stop w) starts = starts

    pub starts_by_names : (r : Ran (State × H) Value) (ending : Done) → StartsAs tildes table items ran r → Ends r ending store globals host left → StartsByNames tildes table items ran ending store globals host left
    starts_by_names r ending starts is = starts_by ending (subst (λ (x : Ran (State × H) Value). StartsAs tildes table items ran x) is starts)

-- ---- of what a call answers

module _ {H : Type 0} (around : Surroundings) (functions : List Function) (table : List Numbered) (host : Meaning H) (stands : TableStands around functions table) (begin : State × H) (store : List Cell) (globals : Variables) (after : H) (left : ℕ) where
  pub file_by_names : (u : Unit') (items : List Stmt) → FileStands around functions table u items → begin.0.store ≡ [] → (result : Result Done NoMemory)
      → IfOk result (λ ending. Ends (slots.unit functions host u begin) ending store globals after left)
      → IfOk result (λ ending. StartsByNames around.tildes table items (file (keeping_whole around) host items (without_functions begin)) ending store globals after left)
  file_by_names u items code empty (Ok ending) is =
      starts_by_names around.tildes table store globals after left items (file (keeping_whole around) host items (without_functions begin)) (slots.unit functions host u begin) ending (start_law around functions table host stands u items code begin empty) is
  file_by_names u items code empty (Err e) is = tt

  pub client_code_by_names : (u : Unit') (items : List Stmt) → ClientCodeStands around functions table u items → (n : State × Named H) → StateStands around.tildes table begin n → (result : Result Done NoMemory)
      → IfOk result (λ ending. Ends (slots.unit functions host u begin) ending store globals after left)
      → IfOk result (λ ending. EndsByNames around.tildes table (client_code (keeping_whole around) host items n) ending store globals after left)
  client_code_by_names u items code n now (Ok ending) is =
      let law = client_law around functions table host stands u items code in
      ends_by_names around.tildes table store globals after left (client_code (keeping_whole around) host items n) (slots.unit functions host u begin) ending (law.ends begin n now) is
  client_code_by_names u items code n now (Err e) is = tt

  pub call_by_names : (f : Value) (arguments : List Value) (n : State × Named H) → StateStands around.tildes table begin n → (result : Result Done NoMemory)
      → IfOk result (λ ending. Ends (slots.called functions host f arguments begin) ending store globals after left)
      → IfOk result (λ ending. EndsByNames around.tildes table (called (keeping_whole around) host f arguments n) ending store globals after left)
  call_by_names f arguments n now (Ok ending) is =
      let law = called_law around functions table host stands f arguments in
      ends_by_names around.tildes table store globals after left (called (keeping_whole around) host f arguments n) (slots.called functions host f arguments begin) ending (law.ends begin n now) is
  call_by_names f arguments n now (Err e) is = tt
