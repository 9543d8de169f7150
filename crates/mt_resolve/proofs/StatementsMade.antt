-- What statements become stands for them.
use Rattle.std.proofs.Common.{◌≡◌, ℕ, suc, ◌+◌, ◌≤◌, List, [], ◌++◌, length, Option, false, refl, sym, subst, arith}
use Rattle.mt_eval_meaning.specs.Code.{AllStand, OptionalStands, ExprStandsTo, StmtStandsTo, DeclStands, StartStands, StmtStands}
use Rattle.mt_eval_meaning.specs.Scopes.{Scope, with_name, with_lexicals}
use Rattle.mt_eval_meaning.specs.States.{Numbered}
use Rattle.mt_eval_meaning.specs.Hoisting.{lexicals}
use Rattle.mt_eval_meaning.specs.Names.{Surroundings}
use Rattle.mt_eval_meaning.specs.Runs.{gives}
use Rattle.mt_resolve_names.specs.Bound.{name_in}
use Rattle.mt_resolve.specs.Resolving.{Parts, value, declaration, declarations, start_at, begin, branch, block, handler, act_at}
use Rattle.mt_resolve.proofs.BodiesMade.{Makes, stable_expr, stable_stmt, stmts_made}
use Rattle.mt_resolve.proofs.Growth.{decl_kept, start_kept, expr_kept}
use Rattle.mt_resolve.proofs.Triples.{Claim, Always, Stable, Triple, triple_bind, triple_pure, frame, stable_both, stable_optional, all_made, optional_made}
use Rattle.mt_eval_meaning.specs.Slots.{StmtLayer}
use Rattle.mt_eval_meaning.specs.declared.expr.Expr.{Expr}
use Rattle.mt_eval_meaning.specs.declared.function.Function.{Function}
use Rattle.mt_eval_meaning.specs.declared.stmt.Decl.{Decl}
use Rattle.mt_eval_meaning.specs.declared.stmt.ForStart.{ForStart}
use Rattle.mt_eval_meaning.specs.declared.stmt.ForStart.TheVariants as start
use Rattle.mt_eval_meaning.specs.declared.stmt.Stmt.{Stmt, out-Stmt, roll-Stmt, out-roll-Stmt}
use Rattle.mt_eval_meaning.specs.declared.stmt.Stmt.TheOpen.{Stmt-F}
use Rattle.mt_syntax.specs.Fold.{Tree, ForStartLayer, StmtKindLayer}
use Rattle.mt_syntax.specs.declared.tree.Decl.{Decl as SyntaxDecl, out-Decl}
use Rattle.mt_syntax.specs.declared.tree.Expr.{Expr as SyntaxExpr}
use Rattle.mt_syntax.specs.declared.tree.ExprKind.TheOpen.{ForStart-F, StmtKind-F}
use Rattle.mt_syntax.specs.declared.tree.ForStart.{ForStart as SyntaxStart, out-ForStart}
use Rattle.mt_syntax.specs.declared.tree.Stmt.{Stmt as SyntaxStmt}
use Rattle.mt_tree.specs.Limits.{depth_limit}

module _ (around : Surroundings) (old : List Function) (first : ℕ) (numbers : first ≡ length old) (depth : ℕ) (low : depth ≤ depth_limit) (p : Parts) (below : Makes around old depth p) where
  abbrev To : List Function → List Numbered → Scope → Expr → SyntaxExpr → Type 0
  To units table = ExprStandsTo around units table depth

  abbrev In : List Function → List Numbered → Scope → ℕ → Stmt → SyntaxStmt → Type 0
  In units table = StmtStandsTo around units table depth

  stays : (scope : Scope) (u : Expr) (e : SyntaxExpr) → Stable (λ units table. To units table scope u e)
  stays scope u e = stable_expr around old first numbers depth low p below scope u e

  stays_in : (scope : Scope) (size : ℕ) (u : Stmt) (t : SyntaxStmt) → Stable (λ units table. In units table scope size u t)
  stays_in scope size u t = stable_stmt around old first numbers depth low p below scope size u t

  stays_value : (scope : Scope) (u : Option Expr) (e : Option SyntaxExpr) → Stable (λ units table. OptionalStands (To units table scope) u e)
  stays_value scope u e = stable_optional around old (λ units table u e. To units table scope u e) (stays scope) u e

  value_made : (scope : Scope) (e : Option SyntaxExpr) → Triple around old Always (value around first p scope e) (λ u units table. OptionalStands (To units table scope) u e)
  unfolding value
  value_made scope e = optional_made around old (λ units table u e. To units table scope u e) (stays scope) (p.expr scope) (below.expr scope) e

  branch_made : (scope : Scope) (size : ℕ) (t : Option SyntaxStmt) → Triple around old Always (branch around first p scope size t) (λ u units table. OptionalStands (In units table scope size) u t)
  unfolding branch
  branch_made scope size t = optional_made around old (λ units table u t. In units table scope size u t) (stays_in scope size) (p.stmt scope size) (below.stmt scope size) t

  -- ---- declarations

  declaration_made : (scope : Scope) (d : SyntaxDecl) → Triple around old Always (declaration around first p scope d) (λ u units table. DeclStands around units table (To units table) scope u d)
  unfolding declaration
  declaration_made scope d = triple_bind around old (value_made scope (out-Decl d).value) (λ v. triple_pure around old (record { name = name_in around scope (out-Decl d).name.name; value = v }) (λ units table h. ((refl, refl), h)))

  stays_declared : (scope : Scope) (u : Decl) (d : SyntaxDecl) → Stable (λ units table. DeclStands around units table (To units table) scope u d)
  stays_declared scope u d = record { keeps = λ f t f' t' m h. decl_kept around f t f' t' m (To f t) (To f' t') (expr_kept around f t f' t' m depth depth (omega arith)) scope u d h }

  declarations_made : (scope : Scope) (ds : List SyntaxDecl) → Triple around old Always (declarations around first p scope ds) (λ us units table. AllStand (DeclStands around units table (To units table) scope) us ds)
  unfolding declarations
  declarations_made scope ds = all_made around old (λ units table u d. DeclStands around units table (To units table) scope u d) (stays_declared scope) (declaration around first p scope) (declaration_made scope) ds

  start_made : (scope : Scope) (s : ForStartLayer Tree) → Triple around old Always (start_at around first p scope s) (λ u units table. StartStands around units table (To units table) scope u s)
  start_made scope ForStart-F.Absent = triple_pure around old start.Absent (λ units table h. tt)
  start_made scope (ForStart-F.ForStart::Var ds) = triple_bind around old (declarations_made scope ds) (λ us. triple_pure around old (start.Var us) (λ units table h. h))
  start_made scope (ForStart-F.ForStart::Expr e) = triple_bind around old (below.expr scope e) (λ u. triple_pure around old (start.Expr u) (λ units table h. h))

  begin_made : (scope : Scope) (s : SyntaxStart) → Triple around old Always (begin around first p scope s) (λ u units table. StartStands around units table (To units table) scope u (out-ForStart s))
  unfolding begin
  begin_made scope s = start_made scope (out-ForStart s)

  stays_start : (scope : Scope) (u : ForStart) (s : SyntaxStart) → Stable (λ units table. StartStands around units table (To units table) scope u (out-ForStart s))
  stays_start scope u s = record { keeps = λ f t f' t' m h. start_kept around f t f' t' m (To f t) (To f' t') (expr_kept around f t f' t' m depth depth (omega arith)) scope u (out-ForStart s) h }

  -- ---- statements

  done_is : {pre : Claim} (scope : Scope) (size : ℕ) (x : StmtLayer) (t : StmtKindLayer Tree)
      → ((units : List Function) (table : List Numbered) → pre units table → StmtStands around units table (To units table) (In units table) scope size x t)
      → Triple around old pre (λ s. gives (roll-Stmt x) s) (λ u units table. StmtStands around units table (To units table) (In units table) scope size (out-Stmt u) t)
  done_is scope size x t h = triple_pure around old (roll-Stmt x) (λ units table k. subst (λ z. StmtStands around units table (To units table) (In units table) scope size z t) (sym (out-roll-Stmt x)) (h units table k))

  block_made : (scope : Scope) (size : ℕ) (ts : List SyntaxStmt)
      → Triple around old Always (block around first p scope size ts) (λ u units table. StmtStands around units table (To units table) (In units table) scope size (out-Stmt u) (StmtKind-F.Block ts))
  unfolding block
  block_made scope size ts =
      triple_bind around old (stmts_made around old first numbers depth low p below (with_lexicals size (lexicals ts) [] ++ scope) (size + length (lexicals ts)) ts) (λ us.
      done_is scope size (Stmt-F.Block (length (lexicals ts)) us) (StmtKind-F.Block ts) (λ units table h. (refl, h)))

  handler_made : (scope : Scope) (size : ℕ) (text : List ℕ) (t : SyntaxStmt)
      → Triple around old Always (handler around first p scope size text t) (λ u units table. In units table (with_name size text false [] ++ scope) (suc size) u t)
  unfolding handler
  handler_made scope size text t = below.stmt (with_name size text false [] ++ scope) (suc size) t

  pub act_made : (scope : Scope) (size : ℕ) (t : StmtKindLayer Tree) → Triple around old Always (act_at around first p scope size t) (λ u units table. StmtStands around units table (To units table) (In units table) scope size (out-Stmt u) t)
  act_made scope size (StmtKind-F.StmtKind::Expr e) = triple_bind around old (below.expr scope e) (λ u. done_is scope size _ (StmtKind-F.StmtKind::Expr e) (λ units table h. h))
  act_made scope size (StmtKind-F.StmtKind::Var kind ds) = triple_bind around old (declarations_made scope ds) (λ us. done_is scope size _ (StmtKind-F.StmtKind::Var kind ds) (λ units table h. (refl, h)))
  act_made scope size (StmtKind-F.Function f) = done_is scope size _ (StmtKind-F.Function f) (λ units table h. tt)
  act_made scope size (StmtKind-F.Service f) = done_is scope size _ (StmtKind-F.Service f) (λ units table h. tt)
  act_made scope size (StmtKind-F.If e a b) =
      triple_bind around old (below.expr scope e) (λ u.
      triple_bind around old (frame around old (stays scope u e) (below.stmt scope size a)) (λ v.
      triple_bind around old (frame around old (stable_both _ _ (stays scope u e) (stays_in scope size v a)) (branch_made scope size b)) (λ w.
      done_is scope size _ (StmtKind-F.If e a b) (λ units table h. (h.0.0, h.0.1, h.1)))))
  act_made scope size (StmtKind-F.While e a) =
      triple_bind around old (below.expr scope e) (λ u.
      triple_bind around old (frame around old (stays scope u e) (below.stmt scope size a)) (λ v. done_is scope size _ (StmtKind-F.While e a) (λ units table h. h)))
  act_made scope size (StmtKind-F.For s test step a) =
      triple_bind around old (begin_made scope s) (λ u.
      triple_bind around old (frame around old (stays_start scope u s) (value_made scope test)) (λ v.
      triple_bind around old (frame around old (stable_both _ _ (stays_start scope u s) (stays_value scope v test)) (value_made scope step)) (λ w.
      triple_bind around old (frame around old (stable_both _ _ (stable_both _ _ (stays_start scope u s) (stays_value scope v test)) (stays_value scope w step)) (below.stmt scope size a)) (λ x.
      done_is scope size _ (StmtKind-F.For s test step a) (λ units table h. (h.0.0.0, h.0.0.1, h.0.1, h.1))))))
  act_made scope size (StmtKind-F.Return e) = triple_bind around old (value_made scope e) (λ u. done_is scope size _ (StmtKind-F.Return e) (λ units table h. h))
  act_made scope size StmtKind-F.Break = done_is scope size _ StmtKind-F.Break (λ units table h. tt)
  act_made scope size StmtKind-F.Continue = done_is scope size _ StmtKind-F.Continue (λ units table h. tt)
  act_made scope size (StmtKind-F.Throw e) = triple_bind around old (below.expr scope e) (λ u. done_is scope size _ (StmtKind-F.Throw e) (λ units table h. h))
  act_made scope size (StmtKind-F.Try a text b) =
      triple_bind around old (below.stmt scope size a) (λ u.
      triple_bind around old (frame around old (stays_in scope size u a) (handler_made scope size text.name b)) (λ v. done_is scope size _ (StmtKind-F.Try a text b) (λ units table h. h)))
  act_made scope size (StmtKind-F.Block ts) = block_made scope size ts
  act_made scope size StmtKind-F.Empty = done_is scope size _ StmtKind-F.Empty (λ units table h. tt)
