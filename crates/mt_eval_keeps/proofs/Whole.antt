-- Whole jobs keep all.
use Rattle.std.proofs.Common.{ℕ, ◌+◌, List, subst, arith}
use Rattle.std.specs.Prelude.{All}
use Rattle.mt_eval_keeps.specs.Growth.{Good}
use Rattle.mt_eval_keeps.specs.Kept.{Tests, owns, allowed, tildes, Fit, UnitFits, IsLawful, IsFit, ExitFits, RunKept}
use Rattle.mt_eval_keeps.proofs.Building.{built_pays}
use Rattle.mt_eval_keeps.proofs.Levels.{unit_runs, called_runs}
use Rattle.mt_eval_keeps.proofs.Runs.{same, After, left_with, FitsExit, Value'}
use Rattle.mt_eval_meaning.specs.Host.{Meaning}
use Rattle.mt_eval_meaning.specs.Runs.{Ran, gives, leaves}
use Rattle.mt_eval_meaning.specs.declared.exit.Exit.{Exit}
use Rattle.mt_eval_meaning.specs.declared.exit.Exit.TheVariants as exit
use Rattle.mt_eval_meaning.specs.declared.state.State.{State}
use Rattle.mt_eval_meaning.specs.Slots as slots
use Rattle.mt_eval_meaning.specs.declared.function.Function.{Function}
use Rattle.mt_eval_meaning.specs.declared.function.Unit.{Unit as Unit'}
use Rattle.mt_value.specs.declared.value.Value.{Value}

module _ {H : Type 0} (tests : Tests H) (most : ℕ) (host : Meaning H) (functions : List Function) (fit : Fit tests most host functions) where
  exit_fits : (e : Exit) (t : State × H) → FitsExit (owns tests) most e t → ExitFits tests e t
  exit_fits (exit.Throw v) t h = h
  exit_fits exit.NoMemory t h = tt
  exit_fits (exit.Stop w) t h = tt

  kept : (s : State × H) (r : Ran (State × H) Value) → After (owns tests) most s (left_with (owns tests) most 0) (left_with (owns tests) most (0 + 0)) (Value' (owns tests) most) r → RunKept tests most s r
  kept s (gives v t) k = (record { lawful = subst (λ n. Good (owns tests) most n t) (omega arith) k.good; grew = k.grew; budget = k.budget }, k.holds)
  kept s (leaves e t) k = (record { lawful = subst (λ n. Good (owns tests) most n t) (omega arith) k.good; grew = k.grew; budget = k.budget }, exit_fits e t k.exit)

  start : (s : State × H) → IsLawful tests most s → Good (owns tests) most (s.0.budget + (0 + 0)) s
  start s good = subst (λ n. Good (owns tests) most n s) (omega arith) good

  pub unit_kept : (u : Unit') → UnitFits tests u → (s : State × H) → IsLawful tests most s → RunKept tests most s (slots.unit functions host u s)
  unit_kept u h s good =
      kept s (slots.unit functions host u s)
      ((unit_runs (owns tests) most (allowed tests) (tildes tests) fit.small (λ d first f _. built_pays (owns tests) most fit.small d first f) functions fit.code host fit.keeps (λ t k. k.1) u h s 0 good.host.1).run 0 s (same (owns tests) most s) (start s good))

  pub called_kept : (f : Value) (arguments : List Value) (s : State × H) → IsLawful tests most s → IsFit tests s f → All (IsFit tests s) arguments → RunKept tests most s (slots.called functions host f arguments s)
  called_kept f arguments s good h ks =
      kept s (slots.called functions host f arguments s)
      ((called_runs (owns tests) most (allowed tests) (tildes tests) fit.small (λ d first f _. built_pays (owns tests) most fit.small d first f) functions fit.code host fit.keeps (λ t k. k.1) f arguments s 0 h ks).run 0 s (same (owns tests) most s) (start s good))
