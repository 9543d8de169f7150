-- How an evaluation ends, by its result.
use Rattle.std.proofs.Common.{◌≡◌, Result, subst}
use Rattle.mt_eval_meaning.specs.Host.{done_ran}
use Rattle.mt_eval_meaning.specs.Runs.{Ran, Evals}
use Rattle.mt_eval_meaning.specs.declared.exit.Done.{Done}
use Rattle.mt_eval_meaning.specs.declared.exit.Done.TheVariants as done
use Rattle.mt_eval_meaning.specs.declared.exit.Exit.{Exit}
use Rattle.mt_eval_meaning.specs.declared.state.State.{State}
use Rattle.mt_eval_steps.specs.Outcomes.{value_or_exit}
use Rattle.mt_value.specs.declared.value.Value.{Value}

ends : {H : Type 0} (ran : Ran (State × H) Value) (d : Done) (s : State × H) → Evals ran (value_or_exit d) s → ran ≡ done_ran d s
ends ran (done.Value v) s h = h
ends ran (done.Throw v) s h = h (λ e. cc)
ends ran (done.Stop w) s h = h (λ e. cc)

pub ended : {H : Type 0} (ran : Ran (State × H) Value) (r : Result Value Exit) (d : Done) (s : State × H) → Evals ran r s → r ≡ value_or_exit d → ran ≡ done_ran d s
ended ran r d s h is = ends ran d s (subst (λ x. Evals ran x s) is h)
