-- Statements on slots fit where those do for which they stand; code to every depth.
use Rattle.std.proofs.Common.{◌≡◌, ℕ, zero, suc, ◌+◌, Bool, true, ◌&&◌, List, map, Option, None, Some, sym, ap, ◌∙◌}
use Rattle.std.specs.Prelude.{All, IsTrue, slice_get}
use Rattle.std.proofs.lemmas.Bool.{and_parts}
use Rattle.mt_eval_meaning.specs.Code.{AllStand, DeclStands, ExprStandsTo, OptionalStands, StartStands, StmtStands, StmtStandsTo, block_scope}
use Rattle.mt_eval_meaning.specs.Scopes.{Scope}
use Rattle.mt_eval_meaning.specs.States.{Numbered}
use Rattle.mt_eval_fits.specs.Fitting.{Tested, each, testing}
use Rattle.mt_eval_fits.proofs.Expressions.{A, T, DollarsFit, all_fit, callee_case, case_expr, is_met, target_case, tests_of}
use Rattle.mt_eval_fits.proofs.Nodes.{test, decl_test, expr_test, option_fits, start_test, stmt_test}
use Rattle.mt_eval_keeps.specs.Code.{CalleeFits, DeclFits, IfThere, Said, StartFits, StmtFits, TargetFits, to_depth}
use Rattle.mt_eval_meaning.specs.Evaluation.{expr_kind_of}
use Rattle.mt_eval_meaning.specs.Hoisting.{kind_of}
use Rattle.mt_eval_meaning.specs.Names.{Surroundings}
use Rattle.mt_eval_meaning.specs.Slots.{StmtLayer}
use Rattle.mt_eval_meaning.specs.declared.expr.Expr as code
use Rattle.mt_eval_meaning.specs.declared.function.Function.{Function as Code}
use Rattle.mt_eval_meaning.specs.declared.stmt.Decl.{Decl}
use Rattle.mt_eval_meaning.specs.declared.stmt.ForStart.{ForStart}
use Rattle.mt_eval_meaning.specs.declared.stmt.ForStart.TheVariants as start
use Rattle.mt_eval_meaning.specs.declared.stmt.Stmt as code_stmt
use Rattle.mt_eval_meaning.specs.declared.stmt.Stmt.TheOpen.{Stmt-F}
use Rattle.mt_syntax.specs.Fold.{Tree, ForStartLayer, StmtKindLayer, on_decl, on_for_start, on_function, on_stmt}
use Rattle.mt_syntax.specs.declared.tree.Decl as decl
use Rattle.mt_syntax.specs.declared.tree.Expr.{Expr}
use Rattle.mt_syntax.specs.declared.tree.ExprKind.TheOpen.{ForStart-F, StmtKind-F}
use Rattle.mt_syntax.specs.declared.tree.ForStart.{out-ForStart}
use Rattle.mt_syntax.specs.declared.tree.Stmt.{Stmt}
use Rattle.mt_syntax_laws.proofs.Layers.{map_for_start, map_stmt_kind}
use Rattle.mt_syntax_laws.proofs.Related.{on}

module _ (element : List ℕ → List (List ℕ) → ℕ → Bool) (tildes : ℕ → ℕ → Bool) (around : Surroundings) (units : List Code) (table : List Numbered)
    (F : ℕ → Type 0) (numbered : (n : ℕ) (e : Numbered) → slice_get table n ≡ Some e → IsTrue (on_function (test element (is_met element tildes around units table)) e.function).fits → F n) (dollars : DollarsFit element tildes around units table) where
  abbrev met : ℕ → Bool
  met = is_met element tildes around units table

  abbrev of_expr : Expr → Tested
  of_expr = tests_of element tildes around units table

  abbrev pub of_stmt : Stmt → Tested
  of_stmt = on_stmt (test element met)

  abbrev A' : List ℕ → List (List ℕ) → ℕ → Type 0
  A' = A element tildes around units table

  abbrev T' : ℕ → ℕ → Type 0
  T' = T element tildes around units table

  abbrev pub to : ℕ → Said
  to = to_depth A' T' F

  -- expressions of a depth fit, however deep the syntax is
  abbrev Exprs : Said → Type 0
  Exprs p = (k : ℕ) (scope : Scope) (u : code.Expr) (e : Expr) → ExprStandsTo around units table k scope u e → IsTrue (of_expr e).fits → p.expr u

  target_of : (p : Said) → Exprs p → (k : ℕ) (scope : Scope) (u : code.Expr) (e : Expr) → ExprStandsTo around units table k scope u e → IsTrue (of_expr e).target → IsTrue (of_expr e).fits → TargetFits A' T' F p (code.out-Expr u)
  target_of p below zero scope u e h t fit = absurd h
  target_of p below (suc k) scope u e h t fit =
      target_case element tildes around units table F numbered dollars p k scope (below k scope) (code.out-Expr u) (expr_kind_of e) h (ap (λ (t : Tested). t.target) (sym (expr_test element met e)) ∙ t) (ap (λ (t : Tested). t.fits) (sym (expr_test element met e)) ∙ fit)

  callee_of : (p : Said) → Exprs p → (k : ℕ) (scope : Scope) (u : code.Expr) (e : Expr) → ExprStandsTo around units table k scope u e → IsTrue (of_expr e).fits → CalleeFits A' T' F p (code.out-Expr u) u
  callee_of p below zero scope u e h fit = absurd h
  callee_of p below (suc k) scope u e h fit =
      callee_case element tildes around units table F numbered dollars p k scope (below k scope) u (below (suc k) scope u e h fit) (code.out-Expr u) (expr_kind_of e) h (ap (λ (t : Tested). t.fits) (sym (expr_test element met e)) ∙ fit)

  pub expr_fits : (depth : ℕ) → Exprs (to depth)
  expr_fits zero k scope u e h fit = tt
  expr_fits (suc depth) zero scope u e h fit = absurd h
  expr_fits (suc depth) (suc k) scope u e h fit =
      case_expr element tildes around units table F numbered dollars (to depth) k scope (expr_fits depth k scope) (target_of (to depth) (expr_fits depth) k scope) (callee_of (to depth) (expr_fits depth) k scope) (code.out-Expr u) (expr_kind_of e) h
      (ap (λ (t : Tested). t.fits) (sym (expr_test element met e)) ∙ fit)

  -- ---- statements

  abbrev Stmts : Said → Type 0
  Stmts p = (k : ℕ) (scope : Scope) (size : ℕ) (u : code_stmt.Stmt) (t : Stmt) → StmtStandsTo around units table k scope size u t → IsTrue (of_stmt t).fits → p.stmt u

  module _ (p : Said) (exprs : Exprs p) (stmts : Stmts p) (k : ℕ) where
    optional_expr : (scope : Scope) (u : Option code.Expr) (e : Option Expr) → OptionalStands (ExprStandsTo around units table k scope) u e → IsTrue (option_fits element met e) → IfThere p.expr u
    optional_expr scope None None h fit = tt
    optional_expr scope (Some u) (Some e) h fit = exprs k scope u e h fit
    optional_expr scope _ _ h fit = absurd h

    decls_fit : (scope : Scope) (ds : List Decl) (others : List decl.Decl) → AllStand (DeclStands around units table (ExprStandsTo around units table k) scope) ds others → IsTrue (each (map (on_decl (test element met)) others)).fits → All (DeclFits A' T' F p) ds
    decls_fit scope = all_fit (DeclStands around units table (ExprStandsTo around units table k) scope) (on_decl (test element met)) (DeclFits A' T' F p) (λ d other h fit.
        optional_expr scope d.value (decl.out-Decl other).value h.1 (sym (decl_test element met other) ∙ fit))

    start_fits : (scope : Scope) (x : ForStart) (y : ForStartLayer Tree) → StartStands around units table (ExprStandsTo around units table k) scope x y → IsTrue (testing.for_start (map_for_start (on (test element met)) y)).fits → StartFits A' T' F p x
    start_fits scope start.Absent ForStart-F.Absent h fit = tt
    start_fits scope (start.Var ds) (ForStart-F.ForStart::Var others) h fit = decls_fit scope ds others h fit
    start_fits scope (start.Expr u) (ForStart-F.ForStart::Expr e) h fit = exprs k scope u e h fit
    start_fits scope _ _ h fit = absurd h

    stmts_fit : (scope : Scope) (size : ℕ) (us : List code_stmt.Stmt) (ts : List Stmt) → AllStand (StmtStandsTo around units table k scope size) us ts → IsTrue (each (map of_stmt ts)).fits → All p.stmt us
    stmts_fit scope size = all_fit (StmtStandsTo around units table k scope size) of_stmt p.stmt (stmts k scope size)

    case_stmt : (scope : Scope) (size : ℕ) (x : StmtLayer) (y : StmtKindLayer Tree) → StmtStands around units table (ExprStandsTo around units table k) (StmtStandsTo around units table k) scope size x y → IsTrue (testing.stmt_kind (map_stmt_kind (on (test element met)) y)).fits → StmtFits A' T' F p x
    case_stmt scope size (Stmt-F.Expr u) (StmtKind-F.StmtKind::Expr e) h fit = exprs k scope u e h fit
    case_stmt scope size (Stmt-F.Var kind ds) (StmtKind-F.StmtKind::Var other others) h fit = decls_fit scope ds others h.1 fit
    case_stmt scope size Stmt-F.Empty (StmtKind-F.Function f) h fit = tt
    case_stmt scope size Stmt-F.Empty (StmtKind-F.Service f) h fit = tt
    case_stmt scope size Stmt-F.Empty StmtKind-F.Empty h fit = tt
    case_stmt scope size (Stmt-F.If u a None) (StmtKind-F.If e c None) h fit =
        let parts = and_parts (of_expr e).fits ((of_stmt c).fits && true) fit in
        (exprs k scope u e h.0 parts.0, stmts k scope size a c h.1 (and_parts (of_stmt c).fits true parts.1).0, tt)
    case_stmt scope size (Stmt-F.If u a (Some b)) (StmtKind-F.If e c (Some d)) h fit =
        let parts = and_parts (of_expr e).fits ((of_stmt c).fits && (of_stmt d).fits) fit in
        let rest = and_parts (of_stmt c).fits (of_stmt d).fits parts.1 in
        (exprs k scope u e h.0 parts.0, stmts k scope size a c h.1 rest.0, stmts k scope size b d h.2 rest.1)
    case_stmt scope size (Stmt-F.If u a None) (StmtKind-F.If e c (Some d)) h fit = absurd h.2
    case_stmt scope size (Stmt-F.If u a (Some b)) (StmtKind-F.If e c None) h fit = absurd h.2
    case_stmt scope size (Stmt-F.While u a) (StmtKind-F.While e c) h fit =
        let parts = and_parts (of_expr e).fits (of_stmt c).fits fit in
        (exprs k scope u e h.0 parts.0, stmts k scope size a c h.1 parts.1)
    case_stmt scope size (Stmt-F.For begin test' step a) (StmtKind-F.For other e f c) h fit = for_fits e f h fit
      where
        begins : IsTrue (on_for_start (test element met) other).fits → StartStands around units table (ExprStandsTo around units table k) scope begin (out-ForStart other) → StartFits A' T' F p begin
        begins fit h = start_fits scope begin (out-ForStart other) h (ap (λ (t : Tested). t.fits) (sym (start_test element met other)) ∙ fit)

        for_parts : (x y : Bool) → IsTrue ((on_for_start (test element met) other).fits && (x && (y && (of_stmt c).fits))) → IsTrue (on_for_start (test element met) other).fits × IsTrue x × IsTrue y × IsTrue (of_stmt c).fits
        for_parts x y fit =
            let parts = and_parts (on_for_start (test element met) other).fits (x && (y && (of_stmt c).fits)) fit in
            let rest = and_parts x (y && (of_stmt c).fits) parts.1 in
            let last = and_parts y (of_stmt c).fits rest.1 in
            (parts.0, rest.0, last.0, last.1)

        for_fits : (e f : Option Expr) → StmtStands around units table (ExprStandsTo around units table k) (StmtStandsTo around units table k) scope size (Stmt-F.For begin test' step a) (StmtKind-F.For other e f c)
            → IsTrue (testing.stmt_kind (map_stmt_kind (on (test element met)) (StmtKind-F.For other e f c))).fits → StmtFits A' T' F p (Stmt-F.For begin test' step a)
        for_fits None None h fit =
            let q = for_parts true true fit in
            (begins q.0 h.0, optional_expr scope test' None h.1 q.1, optional_expr scope step None h.2 q.2, stmts k scope size a c h.3 q.3)
        for_fits None (Some f) h fit =
            let q = for_parts true (of_expr f).fits fit in
            (begins q.0 h.0, optional_expr scope test' None h.1 q.1, optional_expr scope step (Some f) h.2 q.2, stmts k scope size a c h.3 q.3)
        for_fits (Some e) None h fit =
            let q = for_parts (of_expr e).fits true fit in
            (begins q.0 h.0, optional_expr scope test' (Some e) h.1 q.1, optional_expr scope step None h.2 q.2, stmts k scope size a c h.3 q.3)
        for_fits (Some e) (Some f) h fit =
            let q = for_parts (of_expr e).fits (of_expr f).fits fit in
            (begins q.0 h.0, optional_expr scope test' (Some e) h.1 q.1, optional_expr scope step (Some f) h.2 q.2, stmts k scope size a c h.3 q.3)
    case_stmt scope size (Stmt-F.Return None) (StmtKind-F.Return None) h fit = tt
    case_stmt scope size (Stmt-F.Return (Some u)) (StmtKind-F.Return (Some e)) h fit = exprs k scope u e h fit
    case_stmt scope size (Stmt-F.Return None) (StmtKind-F.Return (Some e)) h fit = absurd h
    case_stmt scope size (Stmt-F.Return (Some u)) (StmtKind-F.Return None) h fit = absurd h
    case_stmt scope size Stmt-F.Break StmtKind-F.Break h fit = tt
    case_stmt scope size Stmt-F.Continue StmtKind-F.Continue h fit = tt
    case_stmt scope size (Stmt-F.Throw u) (StmtKind-F.Throw e) h fit = exprs k scope u e h fit
    case_stmt scope size (Stmt-F.Try a b) (StmtKind-F.Try c text d) h fit =
        let parts = and_parts (of_stmt c).fits (of_stmt d).fits fit in
        (stmts k scope size a c h.0 parts.0, stmts k _ (suc size) b d h.1 parts.1)
    case_stmt scope size (Stmt-F.Block n us) (StmtKind-F.Block ts) h fit = stmts_fit (block_scope around units table (ExprStandsTo around units table k) scope size ts) (size + n) us ts h.1 fit
    case_stmt scope size _ _ h fit = absurd h

  pub stmt_fits : (depth : ℕ) → Stmts (to depth)
  stmt_fits zero k scope size u t h fit = tt
  stmt_fits (suc depth) zero scope size u t h fit = absurd h
  stmt_fits (suc depth) (suc k) scope size u t h fit =
      case_stmt (to depth) (expr_fits depth) (stmt_fits depth) k scope size (code_stmt.out-Stmt u) (kind_of t) h (ap (λ (t : Tested). t.fits) (sym (stmt_test element met t)) ∙ fit)
