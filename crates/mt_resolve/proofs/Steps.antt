-- One level in terms of the one below.
use Rattle.std.proofs.Common.{◌≡◌, ℕ, suc, ◌-◌, ◌<◌, List, ap, arith}
use Rattle.std.specs.Prelude.{None}
use Rattle.mt_eval_meaning.specs.Scopes.{Scope}
use Rattle.mt_eval_meaning.specs.Names.{Surroundings}
use Rattle.mt_eval_meaning.specs.Runs.{leaves}
use Rattle.mt_eval_meaning.specs.declared.exit.Exit.TheVariants as exit
use Rattle.mt_eval_meaning.specs.declared.exit.Stop.TheVariants as stop
use Rattle.mt_resolve.specs.Resolving.{level, at, node, act, function}
use Rattle.mt_eval_meaning.specs.declared.function.Function.{Function}
use Rattle.mt_syntax.specs.declared.tree.Expr as syntax_expr
use Rattle.mt_syntax.specs.declared.tree.Function as syntax_function
use Rattle.mt_syntax.specs.declared.tree.Stmt as syntax_stmt

deeper : {X : Type 0} (f : ℕ → X) (n : ℕ) → 0 < n → f n ≡ f (suc (n - 1))
deeper f n some = let e : n ≡ suc (n - 1) = omega arith in ap f e

pub no_expr : (around : Surroundings) (first depth : ℕ) (scope : Scope) (e : syntax_expr.Expr) (fs : List Function)
    → depth ≡ 0 → (at around first depth).expr scope e fs ≡ leaves (exit.Stop stop.Depth) fs
unfolding at
no_expr around first depth scope e fs z = ap (λ k. (level around first k).expr scope e fs) z

pub one_expr : (around : Surroundings) (first depth : ℕ) (scope : Scope) (e : syntax_expr.Expr) (fs : List Function)
    → 0 < depth → (at around first depth).expr scope e fs ≡ node around first (at around first (depth - 1)) scope e fs
unfolding at
one_expr around first depth scope e fs some = deeper (λ k. (level around first k).expr scope e fs) depth some

pub no_stmt : (around : Surroundings) (first depth : ℕ) (scope : Scope) (size : ℕ) (t : syntax_stmt.Stmt) (fs : List Function)
    → depth ≡ 0 → (at around first depth).stmt scope size t fs ≡ leaves (exit.Stop stop.Depth) fs
unfolding at
no_stmt around first depth scope size t fs z = ap (λ k. (level around first k).stmt scope size t fs) z

pub one_stmt : (around : Surroundings) (first depth : ℕ) (scope : Scope) (size : ℕ) (t : syntax_stmt.Stmt) (fs : List Function)
    → 0 < depth → (at around first depth).stmt scope size t fs ≡ act around first (at around first (depth - 1)) scope size t fs
unfolding at
one_stmt around first depth scope size t fs some = deeper (λ k. (level around first k).stmt scope size t fs) depth some

pub no_function : (around : Surroundings) (first depth : ℕ) (scope : Scope) (f : syntax_function.Function) (fs : List Function)
    → depth ≡ 0 → (at around first depth).function scope f fs ≡ leaves (exit.Stop stop.Depth) fs
unfolding at
no_function around first depth scope f fs z = ap (λ k. (level around first k).function scope f fs) z

pub one_function : (around : Surroundings) (first depth : ℕ) (scope : Scope) (f : syntax_function.Function) (fs : List Function)
    → 0 < depth → (at around first depth).function scope f fs ≡ function around first (at around first (depth - 1)) scope None f fs
unfolding at
one_function around first depth scope f fs some = deeper (λ k. (level around first k).function scope f fs) depth some
