-- Functions that evaluate the expressions and statements of a level.
use Rattle.std.specs.Prelude.{ℕ, ◌+◌, ◌*◌, ◌≤◌, List, Result}
use Rattle.std.specs.declared.alloc.Global.{Global}
use denote.Ref.{Bor, MutBor}
use Rattle.mt_eval_meaning.specs.Host.{Meaning}
use Rattle.mt_eval_meaning.specs.Runs.{Evals}
use Rattle.mt_eval_meaning.specs.declared.completion.Completion.{Completion}
use Rattle.mt_eval_meaning.specs.declared.exit.Exit.{Exit}
use Rattle.mt_eval_meaning.specs.declared.state.State.{State}
use Rattle.mt_eval_meaning.specs.Slots.{parts}
use Rattle.mt_eval_meaning.specs.declared.expr.Expr.{Expr}
use Rattle.mt_eval_meaning.specs.declared.function.Function.{Function}
use Rattle.mt_eval_meaning.specs.declared.stmt.Stmt.{Stmt}
use Rattle.mt_value.specs.declared.value.Value.{Value}

-- the place of a level among all: first the calls that are left, then the depth
abbrev pub rank : ℕ → ℕ → ℕ
rank calls depth = calls * 64 + depth

-- what a function is given, but for what it evaluates, and what it gives beside the state and the host
abbrev pub Given : Type 0 → Type 0 → Type 1
Given H X = Global → Bor (List Function) → ℕ → ℕ → Bor (List ℕ) → MutBor State → MutBor H → Bor X → Type 0

abbrev pub Gives : Type 0 → Type 0 → Type 0 → Type 1
Gives H X A = Global → Bor (List Function) → ℕ → ℕ → Bor (List ℕ) → MutBor State → MutBor H → Bor X → Result A Exit → MutBor State → MutBor H → Type 0

-- both functions may be called on each level up to this one, and do what the definition says
pub record Nests {H : Type 0} (host : Meaning H) (level : ℕ)
    (pre : Given H Expr) (post : Gives H Expr Value) (pre_stmt : Given H Stmt) (post_stmt : Gives H Stmt Completion) : Type 0 where
  pub callable : (alloc : Global) (functions : Bor (List Function)) (calls depth : ℕ) (activation : Bor (List ℕ)) (old : MutBor State) (host_old : MutBor H) (e : Bor Expr) → rank calls depth ≤ level
      → pre alloc functions calls depth activation old host_old e
  pub evals : (alloc : Global) (functions : Bor (List Function)) (calls depth : ℕ) (activation : Bor (List ℕ)) (old new : MutBor State) (host_old host_new : MutBor H) (e : Bor Expr)
      → (r : Result Value Exit)
      → post alloc functions calls depth activation old host_old e r new host_new
      → Evals ((parts functions.now host calls depth).expr e.now activation.now (old.now, host_old.now)) r (new.now, host_new.now)
  pub callable_stmt : (alloc : Global) (functions : Bor (List Function)) (calls depth : ℕ) (activation : Bor (List ℕ)) (old : MutBor State) (host_old : MutBor H) (t : Bor Stmt)
      → rank calls depth ≤ level
      → pre_stmt alloc functions calls depth activation old host_old t
  pub evals_stmt : (alloc : Global) (functions : Bor (List Function)) (calls depth : ℕ) (activation : Bor (List ℕ)) (old new : MutBor State) (host_old host_new : MutBor H) (t : Bor Stmt)
      → (r : Result Completion Exit)
      → post_stmt alloc functions calls depth activation old host_old t r new host_new
      → Evals ((parts functions.now host calls depth).stmt t.now activation.now (old.now, host_old.now)) r (new.now, host_new.now)
