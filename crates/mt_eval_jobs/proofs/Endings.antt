-- What a job keeps that ended so.
use Rattle.std.proofs.Common.{ℕ, List, Result, Ok, Err, IfOk, subst}
use Rattle.std.specs.Prelude.{All}
use Rattle.mt_eval.specs.Jobs.{Ends, state}
use Rattle.mt_eval_jobs.specs.Kept.{EndsKept}
use Rattle.mt_eval_keeps.proofs.Whole.{called_kept, unit_kept}
use Rattle.mt_eval_keeps.specs.Kept.{Fit, IsFit, IsLawful, RunKept, Tests, UnitFits}
use Rattle.mt_eval_meaning.specs.Host.{Meaning, done_ran}
use Rattle.mt_eval_meaning.specs.Runs.{Ran}
use Rattle.mt_eval_meaning.specs.declared.exit.Done.{Done}
use Rattle.mt_eval_meaning.specs.declared.exit.Done.TheVariants as done
use Rattle.mt_eval_meaning.specs.declared.state.State.{State}
use Rattle.mt_eval_meaning.specs.Slots as slots
use Rattle.mt_eval_meaning.specs.declared.function.Function.{Function}
use Rattle.mt_eval_meaning.specs.declared.function.Unit.{Unit as Unit'}
use Rattle.mt_tree.specs.declared.fault.NoMemory.{NoMemory}
use Rattle.mt_value.specs.Globals.{Variables}
use Rattle.mt_value.specs.declared.cell.Cell.{Cell}
use Rattle.mt_value.specs.declared.value.Value.{Value}

module _ {H : Type 0} (tests : Tests H) (most : ℕ) (s : State × H) (store : List Cell) (globals : Variables) (host : H) (left : ℕ) where
  of_done : (d : Done) → RunKept tests most s (done_ran d (state store globals left, host)) → EndsKept tests most s d store globals host left
  of_done (done.Value v) k = k
  of_done (done.Throw v) k = k
  of_done (done.Stop w) k = k

  ends_kept : (r : Ran (State × H) Value) (result : Result Done NoMemory) → RunKept tests most s r → IfOk result (λ d. Ends r d store globals host left) → IfOk result (λ d. EndsKept tests most s d store globals host left)
  ends_kept r (Ok d) k is = of_done d (subst (RunKept tests most s) is k)
  ends_kept r (Err e) k is = tt

-- of what the evaluator answers, where it began with a state beside a host
module _ {H : Type 0} (tests : Tests H) (most : ℕ) (host : Meaning H) (functions : List Function) (fit : Fit tests most host functions) (before : State) (own : H)
    (store : List Cell) (globals : Variables) (after : H) (left : ℕ) (result : Result Done NoMemory) (lawful : IsLawful tests most (before, own)) where
  pub unit_ends : (u : Unit') → UnitFits tests u → IfOk result (λ d. Ends (slots.unit functions host u (before, own)) d store globals after left) → IfOk result (λ d. EndsKept tests most (before, own) d store globals after left)
  unit_ends u code is = ends_kept tests most (before, own) store globals after left (slots.unit functions host u (before, own)) result (unit_kept tests most host functions fit u code (before, own) lawful) is

  pub call_ends : (f : Value) (arguments : List Value) → IsFit tests (before, own) f → All (IsFit tests (before, own)) arguments → IfOk result (λ d. Ends (slots.called functions host f arguments (before, own)) d store globals after left)
      → IfOk result (λ d. EndsKept tests most (before, own) d store globals after left)
  call_ends f arguments h ks is = ends_kept tests most (before, own) store globals after left (slots.called functions host f arguments (before, own)) result (called_kept tests most host functions fit f arguments (before, own) lawful h ks) is
