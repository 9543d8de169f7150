-- Statements, bodies and units on slots go on to stand for those of the syntax where further functions get numbers.
use Rattle.std.proofs.Common.{ℕ, zero, suc, ◌+◌, List, [], ◌++◌, length, Option, None, false, refl}
use Rattle.mt_eval_meaning.specs.Code.{AllStand, BodyStands, ClientCodeStands, DeclStands, ExprStandsTo, FileStands, HoistedStands, OptionalStands, StartStands, StmtStands, StmtStandsTo, block_scope}
use Rattle.mt_eval_meaning.specs.Scopes.{Scope, body_entry, with_lexicals, with_name}
use Rattle.mt_eval_meaning.specs.States.{Numbered}
use Rattle.mt_eval_meaning.specs.Hoisting.{functions, kind_of, lexicals}
use Rattle.mt_eval_meaning.specs.Names.{Surroundings}
use Rattle.mt_resolve.specs.Resolved.{AreNumbered, Extends, around_client}
use Rattle.mt_resolve.specs.Services.{nothing}
use Rattle.mt_resolve.proofs.FurtherExpressions.{all_stay, expr_stays, function_stays, optional_stays}
use Rattle.mt_eval_meaning.specs.Slots.{StmtLayer}
use Rattle.mt_eval_meaning.specs.declared.expr.Expr as code
use Rattle.mt_eval_meaning.specs.declared.function.Body.{Body}
use Rattle.mt_eval_meaning.specs.declared.function.Function.{Function as Code}
use Rattle.mt_eval_meaning.specs.declared.function.Hoisted.{Hoisted}
use Rattle.mt_eval_meaning.specs.declared.function.Unit.{Unit as Unit'}
use Rattle.mt_eval_meaning.specs.declared.stmt.Decl.{Decl}
use Rattle.mt_eval_meaning.specs.declared.stmt.ForStart.{ForStart}
use Rattle.mt_eval_meaning.specs.declared.stmt.ForStart.TheVariants as start
use Rattle.mt_eval_meaning.specs.declared.stmt.Stmt as code_stmt
use Rattle.mt_eval_meaning.specs.declared.stmt.Stmt.TheOpen.{Stmt-F}
use Rattle.mt_syntax.specs.Fold.{Tree, ForStartLayer, StmtKindLayer}
use Rattle.mt_syntax.specs.declared.tree.Decl as decl
use Rattle.mt_syntax.specs.declared.tree.Expr.{Expr}
use Rattle.mt_syntax.specs.declared.tree.ExprKind.TheOpen.{ForStart-F, StmtKind-F}
use Rattle.mt_syntax.specs.declared.tree.ForStart.{out-ForStart}
use Rattle.mt_syntax.specs.declared.tree.Function.{Function}
use Rattle.mt_syntax.specs.declared.tree.Stmt.{Stmt}
use Rattle.mt_tree.specs.Limits.{depth_limit}

pub empty_numbered : AreNumbered around_client nothing.functions []
empty_numbered = record { count = refl; stands = record { code = λ n e is. absurd (cc) } }

module _ (around : Surroundings) (units units' : List Code) (table table' : List Numbered) (more : Extends units table units' table') where
  stays : (k : ℕ) (scope : Scope) (u : code.Expr) (e : Expr) → ExprStandsTo around units table k scope u e → ExprStandsTo around units' table' k scope u e
  stays = expr_stays around units units' table table' more

  module _ (k : ℕ) where
    optional : (scope : Scope) (u : Option code.Expr) (e : Option Expr) → OptionalStands (ExprStandsTo around units table k scope) u e → OptionalStands (ExprStandsTo around units' table' k scope) u e
    optional scope = optional_stays (ExprStandsTo around units table k scope) (ExprStandsTo around units' table' k scope) (stays k scope)

    decls : (scope : Scope) (ds : List Decl) (others : List decl.Decl) → AllStand (DeclStands around units table (ExprStandsTo around units table k) scope) ds others → AllStand (DeclStands around units' table' (ExprStandsTo around units' table' k) scope) ds others
    decls scope = all_stay (DeclStands around units table (ExprStandsTo around units table k) scope) (DeclStands around units' table' (ExprStandsTo around units' table' k) scope) (λ d other h. (h.0, optional scope d.value (decl.out-Decl other).value h.1))

    start_stays : (scope : Scope) (x : ForStart) (y : ForStartLayer Tree) → StartStands around units table (ExprStandsTo around units table k) scope x y → StartStands around units' table' (ExprStandsTo around units' table' k) scope x y
    start_stays scope start.Absent ForStart-F.Absent h = tt
    start_stays scope (start.Var ds) (ForStart-F.ForStart::Var others) h = decls scope ds others h
    start_stays scope (start.Expr u) (ForStart-F.ForStart::Expr e) h = stays k scope u e h
    start_stays scope _ _ h = absurd h

    module _ (inside : (scope : Scope) (size : ℕ) (u : code_stmt.Stmt) (t : Stmt) → StmtStandsTo around units table k scope size u t → StmtStandsTo around units' table' k scope size u t) where
      case_stmt : (scope : Scope) (size : ℕ) (x : StmtLayer) (y : StmtKindLayer Tree) → StmtStands around units table (ExprStandsTo around units table k) (StmtStandsTo around units table k) scope size x y
          → StmtStands around units' table' (ExprStandsTo around units' table' k) (StmtStandsTo around units' table' k) scope size x y
      case_stmt scope size (Stmt-F.Expr u) (StmtKind-F.StmtKind::Expr e) h = stays k scope u e h
      case_stmt scope size (Stmt-F.Var kind ds) (StmtKind-F.StmtKind::Var other others) h = (h.0, decls scope ds others h.1)
      case_stmt scope size Stmt-F.Empty (StmtKind-F.Function f) h = tt
      case_stmt scope size Stmt-F.Empty (StmtKind-F.Service f) h = tt
      case_stmt scope size Stmt-F.Empty StmtKind-F.Empty h = tt
      case_stmt scope size (Stmt-F.If u a b) (StmtKind-F.If e c d) h =
          (stays k scope u e h.0, inside scope size a c h.1, optional_stays (StmtStandsTo around units table k scope size) (StmtStandsTo around units' table' k scope size) (inside scope size) b d h.2)
      case_stmt scope size (Stmt-F.While u a) (StmtKind-F.While e c) h = (stays k scope u e h.0, inside scope size a c h.1)
      case_stmt scope size (Stmt-F.For begin test step a) (StmtKind-F.For other e f c) h =
          (start_stays scope begin (out-ForStart other) h.0, optional scope test e h.1, optional scope step f h.2, inside scope size a c h.3)
      case_stmt scope size (Stmt-F.Return u) (StmtKind-F.Return e) h = optional scope u e h
      case_stmt scope size Stmt-F.Break StmtKind-F.Break h = tt
      case_stmt scope size Stmt-F.Continue StmtKind-F.Continue h = tt
      case_stmt scope size (Stmt-F.Throw u) (StmtKind-F.Throw e) h = stays k scope u e h
      case_stmt scope size (Stmt-F.Try a b) (StmtKind-F.Try c text d) h = (inside scope size a c h.0, inside (with_name size text.name false [] ++ scope) (suc size) b d h.1)
      case_stmt scope size (Stmt-F.Block n us) (StmtKind-F.Block ts) h =
          let inner = block_scope around units table (ExprStandsTo around units table k) scope size ts in
          (h.0, all_stay (StmtStandsTo around units table k inner (size + n)) (StmtStandsTo around units' table' k inner (size + n)) (inside inner (size + n)) us ts h.1)
      case_stmt scope size _ _ h = absurd h

  stmt_stays : (k : ℕ) (scope : Scope) (size : ℕ) (u : code_stmt.Stmt) (t : Stmt) → StmtStandsTo around units table k scope size u t → StmtStandsTo around units' table' k scope size u t
  stmt_stays zero scope size u t h = absurd h
  stmt_stays (suc k) scope size u t h = case_stmt k (stmt_stays k) scope size (code_stmt.out-Stmt u) (kind_of t) h

  stmts_stay : (scope : Scope) (size : ℕ) (us : List code_stmt.Stmt) (ts : List Stmt) → AllStand (StmtStandsTo around units table depth_limit scope size) us ts → AllStand (StmtStandsTo around units' table' depth_limit scope size) us ts
  stmts_stay scope size = all_stay (StmtStandsTo around units table depth_limit scope size) (StmtStandsTo around units' table' depth_limit scope size) (stmt_stays depth_limit scope size)

  hoisted_stay : (scope : Scope) (hs : List Hoisted) (fs : List (List ℕ × Function)) → AllStand (HoistedStands around units table scope) hs fs → AllStand (HoistedStands around units' table' scope) hs fs
  hoisted_stay scope = all_stay (HoistedStands around units table scope) (HoistedStands around units' table' scope) (λ x f h. (h.0, function_stays around units units' table table' more scope x.function None f.1 h.1))

  body_stays : (size : ℕ) (own : Option (List ℕ)) (parameters : List (List ℕ)) (captured : Scope) (b : Body) (ts : List Stmt) → BodyStands around units table size own parameters captured b ts → BodyStands around units' table' size own parameters captured b ts
  body_stays size own parameters captured b ts h =
      let scope = body_entry size own parameters ts ++ captured in
      record {
        variables = h.variables;
        undeclared = h.undeclared;
        hoisted = hoisted_stay scope b.hoisted (functions ts) h.hoisted;
        statements = stmts_stay scope (size + length (body_entry size own parameters ts)) b.statements ts h.statements;
      }

  pub file_unit_stays : (u : Unit') (items : List Stmt) → FileStands around units table u items → FileStands around units' table' u items
  file_unit_stays u items h = record { globals = h.globals; body = body_stays 0 None [] [] u.body items h.body }

  pub client_unit_stays : (u : Unit') (items : List Stmt) → ClientCodeStands around units table u items → ClientCodeStands around units' table' u items
  client_unit_stays u items h =
      let scope = with_lexicals 0 (lexicals items) [] in
      record {
        globals = h.globals;
        variables = h.variables;
        undeclared = h.undeclared;
        hoisted = hoisted_stay scope u.body.hoisted (functions items) h.hoisted;
        statements = stmts_stay scope (length (lexicals items)) u.body.statements items h.statements;
      }
