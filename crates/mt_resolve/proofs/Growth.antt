-- Code that stands for syntax goes on to do so as functions are added, and to any greater depth.
use Rattle.std.proofs.Common.{ℕ, zero, suc, ◌+◌, ◌≤◌, List, [], ◌∷◌, ◌++◌, length, Option, Some, None, false, arith}
use Rattle.std.specs.Prelude.{slice_get}
use Rattle.mt_eval_meaning.specs.Code.{AllStand, OptionalStands, FunctionStands, PieceStandsForValue, AttributeStands, PieceStandsForChild, EntryStands, ExprStands, DeclStands, StartStands, block_scope, StmtStands, ExprStandsTo, StmtStandsTo, HoistedStands, BodyStands, CodeStands}
use Rattle.mt_eval_meaning.specs.Scopes.{Scope, body_entry, with_name}
use Rattle.mt_eval_meaning.specs.States.{Numbered}
use Rattle.mt_eval_meaning.specs.Evaluation.{dollars_of, expr_kind_of}
use Rattle.mt_eval_meaning.specs.Hoisting.{functions, kind_of, names_of}
use Rattle.mt_eval_meaning.specs.Names.{Surroundings}
use Rattle.mt_resolve.specs.Resolved.{Extends, ServiceStands}
use Rattle.mt_resolve.specs.declared.service.Service.{Service}
use Rattle.mt_eval_meaning.specs.Slots.{ExprLayer, PieceLayer, StmtLayer}
use Rattle.mt_eval_meaning.specs.declared.expr.Attribute.{Attribute, out-Attribute}
use Rattle.mt_eval_meaning.specs.declared.expr.Entry.{Entry, out-Entry}
use Rattle.mt_eval_meaning.specs.declared.expr.Expr.{Expr, out-Expr}
use Rattle.mt_eval_meaning.specs.declared.expr.Expr.TheOpen.{Expr-F, Piece-F}
use Rattle.mt_eval_meaning.specs.declared.expr.Piece.{out-Piece}
use Rattle.mt_eval_meaning.specs.declared.function.Body.{Body}
use Rattle.mt_eval_meaning.specs.declared.function.Function.{Function}
use Rattle.mt_eval_meaning.specs.declared.function.Hoisted.{Hoisted}
use Rattle.mt_eval_meaning.specs.declared.stmt.Decl.{Decl}
use Rattle.mt_eval_meaning.specs.declared.stmt.ForStart.{ForStart}
use Rattle.mt_eval_meaning.specs.declared.stmt.ForStart.TheVariants as start
use Rattle.mt_eval_meaning.specs.declared.stmt.Stmt.{Stmt, out-Stmt}
use Rattle.mt_eval_meaning.specs.declared.stmt.Stmt.TheOpen.{Stmt-F}
use Rattle.mt_syntax.specs.Fold.{Tree, ExprKindLayer, ForStartLayer, MarkupChildLayer, MarkupValueLayer, StmtKindLayer}
use Rattle.mt_syntax.specs.declared.tree.Decl.{Decl as SyntaxDecl, out-Decl}
use Rattle.mt_syntax.specs.declared.tree.Expr.{Expr as SyntaxExpr}
use Rattle.mt_syntax.specs.declared.tree.ExprKind.TheOpen.{ExprKind-F, ForStart-F, MarkupChild-F, MarkupValue-F, StmtKind-F}
use Rattle.mt_syntax.specs.declared.tree.ForStart.{out-ForStart}
use Rattle.mt_syntax.specs.declared.tree.Function.{Function as SyntaxFunction, out-Function}
use Rattle.mt_syntax.specs.declared.tree.Markup.{out-Markup}
use Rattle.mt_syntax.specs.declared.tree.MarkupAttribute.{MarkupAttribute, out-MarkupAttribute}
use Rattle.mt_syntax.specs.declared.tree.MarkupChild.{out-MarkupChild}
use Rattle.mt_syntax.specs.declared.tree.MarkupValue.{out-MarkupValue}
use Rattle.mt_syntax.specs.declared.tree.Prop.{Prop, out-Prop}
use Rattle.mt_syntax.specs.declared.tree.Stmt.{Stmt as SyntaxStmt}
use Rattle.mt_tree.specs.Limits.{depth_limit}

pub all_kept : {A B : Type 0} {P Q : A → B → Type 0} → ((a : A) (b : B) → P a b → Q a b) → (xs : List A) (ys : List B) → AllStand P xs ys → AllStand Q xs ys
all_kept k [] [] h = tt
all_kept k (x ∷ xs) (y ∷ ys) h = (k x y h.0, all_kept k xs ys h.1)
all_kept k [] (y ∷ ys) h = absurd h
all_kept k (x ∷ xs) [] h = absurd h

pub optional_kept : {A B : Type 0} {P Q : A → B → Type 0} → ((a : A) (b : B) → P a b → Q a b) → (x : Option A) (y : Option B) → OptionalStands P x y → OptionalStands Q x y
optional_kept k None None h = tt
optional_kept k (Some a) (Some b) h = k a b h
optional_kept k _ _ h = absurd h

module _ (around : Surroundings) (units : List Function) (table : List Numbered) (units' : List Function) (table' : List Numbered) (more : Extends units table units' table') where
  pub function_kept : (scope : Scope) (n : ℕ) (own : Option (List ℕ)) (f : SyntaxFunction) → FunctionStands around units table scope n own f → FunctionStands around units' table' scope n own f
  function_kept scope n own f h = record { code = h.code; is = more.code n h.code h.is; entry = more.entry n _ h.entry; captures = h.captures }

  pub hoisted_kept : (scope : Scope) (h : Hoisted) (f : List ℕ × SyntaxFunction) → HoistedStands around units table scope h f → HoistedStands around units' table' scope h f
  hoisted_kept scope h f k = (k.0, function_kept scope h.function None f.1 k.1)

  pub service_kept : (scope : Scope) (s : Service) (f : List ℕ × SyntaxFunction) → ServiceStands around units table scope s f → ServiceStands around units' table' scope s f
  service_kept scope s f k = record { name = k.name; function = function_kept scope s.function None f.1 k.function; captured = k.captured }

  module _ (below below' : Scope → Expr → SyntaxExpr → Type 0) (k : (scope : Scope) (u : Expr) (e : SyntaxExpr) → below scope u e → below' scope u e) where
    value_kept : (scope : Scope) (c : PieceLayer) (v : MarkupValueLayer Tree) → PieceStandsForValue around units table below scope c v → PieceStandsForValue around units' table' below' scope c v
    value_kept scope (Piece-F.Piece::Text text) (MarkupValue-F.Quoted quoted) h = h
    value_kept scope (Piece-F.Expr u) (MarkupValue-F.MarkupValue::Tilde e) h = k scope u e h
    value_kept scope (Piece-F.Expr u) (MarkupValue-F.MarkupValue::Dollar e) h = k scope u e h
    value_kept scope _ _ h = absurd h

    pub attribute_kept : (scope : Scope) (a : Attribute) (b : MarkupAttribute) → AttributeStands around units table below scope a b → AttributeStands around units' table' below' scope a b
    attribute_kept scope a b h = (h.0, value_kept scope (out-Piece (out-Attribute a).value) (out-MarkupValue (out-MarkupAttribute b).value) h.1)

    pub child_kept : (scope : Scope) (c : PieceLayer) (d : MarkupChildLayer Tree) → PieceStandsForChild around units table below scope c d → PieceStandsForChild around units' table' below' scope c d
    child_kept scope (Piece-F.Piece::Text text) (MarkupChild-F.MarkupChild::Text other) h = h
    child_kept scope (Piece-F.Expr u) (MarkupChild-F.Direct e) h = k scope u e h
    child_kept scope (Piece-F.Expr u) (MarkupChild-F.MarkupChild::Dollar e) h = k scope u e h
    child_kept scope _ _ h = absurd h

    pub entry_kept : (scope : Scope) (a : Entry) (b : Prop) → EntryStands around units table below scope a b → EntryStands around units' table' below' scope a b
    entry_kept scope a b h = (h.0, k scope (out-Entry a).value (out-Prop b).value h.1)

    node_kept : (scope : Scope) (u : ExprLayer) (e : ExprKindLayer Tree) → ExprStands around units table below scope u e → ExprStands around units' table' below' scope u e
    node_kept scope (Expr-F.Name n) (ExprKind-F.Name text) h = h
    node_kept scope (Expr-F.Num n) (ExprKind-F.Num m) h = h
    node_kept scope (Expr-F.Expr::Text text) (ExprKind-F.ExprKind::Text other) h = h
    node_kept scope (Expr-F.Bool b) (ExprKind-F.Bool c) h = h
    node_kept scope Expr-F.Null ExprKind-F.Null h = tt
    node_kept scope Expr-F.Undefined ExprKind-F.Undefined h = tt
    node_kept scope Expr-F.Undefined (ExprKind-F.ExprKind::Dollar at) h = tt
    node_kept scope Expr-F.Undefined (ExprKind-F.Stray a) h = tt
    node_kept scope (Expr-F.Arr us) (ExprKind-F.Arr es) h = all_kept (k scope) us es h
    node_kept scope (Expr-F.Obj us) (ExprKind-F.Obj qs) h = all_kept (entry_kept scope) us qs h
    node_kept scope (Expr-F.Fun n) (ExprKind-F.Fun f) h = function_kept scope n _ f h
    node_kept scope (Expr-F.Unary op u) (ExprKind-F.Unary other e) h = (h.0, k scope u e h.1)
    node_kept scope (Expr-F.Step kind u) (ExprKind-F.Step other e) h = (h.0, k scope u e h.1)
    node_kept scope (Expr-F.Binary op u v) (ExprKind-F.Binary other e f) h = (h.0, k scope u e h.1, k scope v f h.2)
    node_kept scope (Expr-F.And u v) (ExprKind-F.And e f) h = (k scope u e h.0, k scope v f h.1)
    node_kept scope (Expr-F.Or u v) (ExprKind-F.Or e f) h = (k scope u e h.0, k scope v f h.1)
    node_kept scope (Expr-F.Cond u v w) (ExprKind-F.Cond e f g) h = (k scope u e h.0, k scope v f h.1, k scope w g h.2)
    node_kept scope (Expr-F.Assign op u v) (ExprKind-F.Assign other e f) h = (h.0, k scope u e h.1, k scope v f h.2)
    node_kept scope (Expr-F.Index u v) (ExprKind-F.Index e f) h = (k scope u e h.0, k scope v f h.1)
    node_kept scope (Expr-F.Call u us) (ExprKind-F.Call e es) h = (k scope u e h.0, all_kept (k scope) us es h.1)
    node_kept scope (Expr-F.Tilde id us) (ExprKind-F.ExprKind::Tilde other) h = (h.0, all_kept (k scope) us (dollars_of (slice_get around.tildes id)) h.1)
    node_kept scope (Expr-F.Element tag named cs) (ExprKind-F.Markup m) h =
        (h.0, all_kept (attribute_kept scope) named (out-Markup m).attributes h.1, all_kept (λ a b. child_kept scope (out-Piece a) (out-MarkupChild b)) cs (out-Markup m).children h.2)
    node_kept scope (Expr-F.Val d) (ExprKind-F.Val other) h = h
    node_kept scope _ _ h = absurd h

    pub decl_kept : (scope : Scope) (d : Decl) (e : SyntaxDecl) → DeclStands around units table below scope d e → DeclStands around units' table' below' scope d e
    decl_kept scope d e h = (h.0, optional_kept (k scope) d.value (out-Decl e).value h.1)

    pub start_kept : (scope : Scope) (s : ForStart) (t : ForStartLayer Tree) → StartStands around units table below scope s t → StartStands around units' table' below' scope s t
    start_kept scope start.Absent ForStart-F.Absent h = tt
    start_kept scope (start.Var ds) (ForStart-F.ForStart::Var others) h = all_kept (decl_kept scope) ds others h
    start_kept scope (start.Expr u) (ForStart-F.ForStart::Expr e) h = k scope u e h
    start_kept scope _ _ h = absurd h

    module _ (inside inside' : Scope → ℕ → Stmt → SyntaxStmt → Type 0) (j : (scope : Scope) (size : ℕ) (u : Stmt) (t : SyntaxStmt) → inside scope size u t → inside' scope size u t) where
      act_kept : (scope : Scope) (size : ℕ) (u : StmtLayer) (t : StmtKindLayer Tree) → StmtStands around units table below inside scope size u t → StmtStands around units' table' below' inside' scope size u t
      act_kept scope size (Stmt-F.Expr u) (StmtKind-F.StmtKind::Expr e) h = k scope u e h
      act_kept scope size (Stmt-F.Var kind ds) (StmtKind-F.StmtKind::Var other others) h = (h.0, all_kept (decl_kept scope) ds others h.1)
      act_kept scope size Stmt-F.Empty (StmtKind-F.Function f) h = tt
      act_kept scope size Stmt-F.Empty (StmtKind-F.Service f) h = tt
      act_kept scope size Stmt-F.Empty StmtKind-F.Empty h = tt
      act_kept scope size (Stmt-F.If u a b) (StmtKind-F.If e c d) h = (k scope u e h.0, j scope size a c h.1, optional_kept (j scope size) b d h.2)
      act_kept scope size (Stmt-F.While u a) (StmtKind-F.While e c) h = (k scope u e h.0, j scope size a c h.1)
      act_kept scope size (Stmt-F.For begin test step a) (StmtKind-F.For other e f c) h =
          (start_kept scope begin (out-ForStart other) h.0, optional_kept (k scope) test e h.1, optional_kept (k scope) step f h.2, j scope size a c h.3)
      act_kept scope size (Stmt-F.Return u) (StmtKind-F.Return e) h = optional_kept (k scope) u e h
      act_kept scope size Stmt-F.Break StmtKind-F.Break h = tt
      act_kept scope size Stmt-F.Continue StmtKind-F.Continue h = tt
      act_kept scope size (Stmt-F.Throw u) (StmtKind-F.Throw e) h = k scope u e h
      act_kept scope size (Stmt-F.Try a b) (StmtKind-F.Try c text d) h = (j scope size a c h.0, j (with_name size text.name false [] ++ scope) (suc size) b d h.1)
      act_kept scope size (Stmt-F.Block n us) (StmtKind-F.Block ts) h = (h.0, all_kept (j (block_scope around units table below scope size ts) (size + n)) us ts h.1)
      act_kept scope size _ _ h = absurd h

  pub expr_kept : (d e : ℕ) → d ≤ e → (scope : Scope) (u : Expr) (f : SyntaxExpr) → ExprStandsTo around units table d scope u f → ExprStandsTo around units' table' e scope u f
  expr_kept zero e le scope u f h = absurd h
  expr_kept (suc d) zero le scope u f h = absurd (omega arith)
  expr_kept (suc d) (suc e) le scope u f h = node_kept (ExprStandsTo around units table d) (ExprStandsTo around units' table' e) (expr_kept d e (omega arith)) scope (out-Expr u) (expr_kind_of f) h

  pub stmt_kept : (d e : ℕ) → d ≤ e → (scope : Scope) (size : ℕ) (u : Stmt) (t : SyntaxStmt) → StmtStandsTo around units table d scope size u t → StmtStandsTo around units' table' e scope size u t
  stmt_kept zero e le scope size u t h = absurd h
  stmt_kept (suc d) zero le scope size u t h = absurd (omega arith)
  stmt_kept (suc d) (suc e) le scope size u t h =
      act_kept (ExprStandsTo around units table d) (ExprStandsTo around units' table' e) (expr_kept d e (omega arith))
      (StmtStandsTo around units table d) (StmtStandsTo around units' table' e) (stmt_kept d e (omega arith)) scope size (out-Stmt u) (kind_of t) h

  pub body_kept : (size : ℕ) (own : Option (List ℕ)) (parameters : List (List ℕ)) (captured : Scope) (b : Body) (ts : List SyntaxStmt)
      → BodyStands around units table size own parameters captured b ts → BodyStands around units' table' size own parameters captured b ts
  body_kept size own parameters captured b ts h = record {
    variables = h.variables;
    undeclared = h.undeclared;
    hoisted = all_kept (hoisted_kept (body_entry size own parameters ts ++ captured)) b.hoisted (functions ts) h.hoisted;
    statements = all_kept (stmt_kept depth_limit depth_limit (omega arith) (body_entry size own parameters ts ++ captured) (size + length (body_entry size own parameters ts))) b.statements ts h.statements;
  }

  pub code_kept : (f : Function) (e : Numbered) → CodeStands around units table f e → CodeStands around units' table' f e
  code_kept f e h = record {
    own = h.own;
    parameters = h.parameters;
    body = body_kept (length e.names) e.own (names_of (out-Function e.function).parameters) _ f.body (out-Function e.function).body h.body;
  }
