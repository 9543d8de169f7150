-- Code whose numbers, texts and data are within their limits, whose tildes and elements are such as the host makes, and whose functions have
-- the numbers of such code.
use Rattle.std.specs.Prelude.{◌≡◌, ℕ, zero, suc, ◌<◌, ◌^◌, List, length, map, All, Option, None, Some, slice_get, IsTrue}
use Rattle.mt_tree.specs.Limits.{depth_limit}
use Rattle.mt_eval_meaning.specs.Slots.{ExprLayer, PieceLayer, StmtLayer}
use Rattle.mt_eval_meaning.specs.declared.expr.Attribute.{out-Attribute}
use Rattle.mt_eval_meaning.specs.declared.expr.Entry.{out-Entry}
use Rattle.mt_eval_meaning.specs.declared.expr.Expr.{Expr, out-Expr}
use Rattle.mt_eval_meaning.specs.declared.expr.Expr.TheOpen.{Expr-F, Piece-F}
use Rattle.mt_eval_meaning.specs.declared.expr.Piece.{out-Piece}
use Rattle.mt_eval_meaning.specs.declared.function.Body.{Body}
use Rattle.mt_eval_meaning.specs.declared.function.Function.{Function}
use Rattle.mt_eval_meaning.specs.declared.stmt.Decl.{Decl}
use Rattle.mt_eval_meaning.specs.declared.stmt.ForStart.{ForStart}
use Rattle.mt_eval_meaning.specs.declared.stmt.ForStart.TheVariants as start
use Rattle.mt_eval_meaning.specs.declared.stmt.Stmt.{Stmt, out-Stmt}
use Rattle.mt_eval_meaning.specs.declared.stmt.Stmt.TheOpen.{Stmt-F}
use Rattle.mt_syntax.specs.DataLimits.{nodes_of_data}
use Rattle.mt_syntax.specs.Data.{is_in_range}
use Rattle.mt_value.specs.Limits.{text_fits, data_fits}

-- what is said of the parts of a node
pub record Said : Type 1 where
  pub expr : Expr → Type 0
  pub stmt : Stmt → Type 0

abbrev pub IfThere : {A : Type 0} → (A → Type 0) → Option A → Type 0
IfThere P None = Unit {0}
IfThere P (Some a) = P a

module _ (allowed : List ℕ → List (List ℕ) → ℕ → Type 0) (tildes : ℕ → ℕ → Type 0) (numbers : ℕ → Type 0) where
  module _ (p : Said) where
    -- a target is a name or a property
    abbrev pub TargetFits : ExprLayer → Type 0
    TargetFits (Expr-F.Name n) = IsTrue (text_fits n.text)
    TargetFits (Expr-F.Index a k) = p.expr a × p.expr k
    TargetFits _ = ⊥

    abbrev pub CalleeFits : ExprLayer → Expr → Type 0
    CalleeFits (Expr-F.Index a k) e = p.expr a × p.expr k
    CalleeFits _ e = p.expr e

    abbrev pub PieceFits : PieceLayer → Type 0
    PieceFits (Piece-F.Piece::Text text) = IsTrue (text_fits text)
    PieceFits (Piece-F.Expr e) = p.expr e

    abbrev pub ExprFits : ExprLayer → Type 0
    ExprFits (Expr-F.Name n) = IsTrue (text_fits n.text)
    ExprFits (Expr-F.Num n) = IsTrue (is_in_range n)
    ExprFits (Expr-F.Expr::Text text) = IsTrue (text_fits text)
    ExprFits (Expr-F.Bool b) = Unit {0}
    ExprFits Expr-F.Null = Unit {0}
    ExprFits Expr-F.Undefined = Unit {0}
    ExprFits (Expr-F.Arr items) = All p.expr items
    ExprFits (Expr-F.Obj entries) = All (λ q. IsTrue (text_fits (out-Entry q).name) × p.expr (out-Entry q).value) entries
    ExprFits (Expr-F.Fun n) = numbers n
    ExprFits (Expr-F.Unary op a) = p.expr a
    ExprFits (Expr-F.Step kind a) = TargetFits (out-Expr a)
    ExprFits (Expr-F.Binary op a b) = p.expr a × p.expr b
    ExprFits (Expr-F.And a b) = p.expr a × p.expr b
    ExprFits (Expr-F.Or a b) = p.expr a × p.expr b
    ExprFits (Expr-F.Cond a b c) = p.expr a × p.expr b × p.expr c
    ExprFits (Expr-F.Assign op a b) = TargetFits (out-Expr a) × p.expr b
    ExprFits (Expr-F.Index a k) = p.expr a × p.expr k
    ExprFits (Expr-F.Call f arguments) = CalleeFits (out-Expr f) f × All p.expr arguments
    ExprFits (Expr-F.Tilde id dollars) = tildes id (length dollars) × All p.expr dollars
    ExprFits (Expr-F.Element tag attributes children) =
        allowed tag (map (λ a. (out-Attribute a).name) attributes) (length children) × All (λ a. PieceFits (out-Piece (out-Attribute a).value)) attributes × All (λ c. PieceFits (out-Piece c)) children
    ExprFits (Expr-F.Val d) = IsTrue (data_fits d) × (nodes_of_data d < 2 ^ 53)

    abbrev pub DeclFits : Decl → Type 0
    DeclFits d = IfThere p.expr d.value

    abbrev pub StartFits : ForStart → Type 0
    StartFits start.Absent = Unit {0}
    StartFits (start.Var decls) = All DeclFits decls
    StartFits (start.Expr e) = p.expr e

    abbrev pub StmtFits : StmtLayer → Type 0
    StmtFits (Stmt-F.Expr e) = p.expr e
    StmtFits (Stmt-F.Var kind decls) = All DeclFits decls
    StmtFits (Stmt-F.If test a b) = p.expr test × p.stmt a × IfThere p.stmt b
    StmtFits (Stmt-F.While test body) = p.expr test × p.stmt body
    StmtFits (Stmt-F.For begin test step body) = StartFits begin × IfThere p.expr test × IfThere p.expr step × p.stmt body
    StmtFits (Stmt-F.Return e) = IfThere p.expr e
    StmtFits Stmt-F.Break = Unit {0}
    StmtFits Stmt-F.Continue = Unit {0}
    StmtFits (Stmt-F.Throw e) = p.expr e
    StmtFits (Stmt-F.Try body t) = p.stmt body × p.stmt t
    StmtFits (Stmt-F.Block n ts) = All p.stmt ts
    StmtFits Stmt-F.Empty = Unit {0}

  -- to a depth, below which no code is evaluated
  abbrev pub to_depth : ℕ → Said
  to_depth zero = record { expr = λ e. Unit {0}; stmt = λ t. Unit {0} }
  to_depth (suc depth) = record { expr = λ e. ExprFits (to_depth depth) (out-Expr e); stmt = λ t. StmtFits (to_depth depth) (out-Stmt t) }

  pub record BodyFits (b : Body) : Type 0 where
    pub hoisted : All (λ h. numbers h.function) b.hoisted
    pub statements : All (to_depth depth_limit).stmt b.statements

  -- each of the numbers is that of a function whose code fits
  pub record CodeFits (functions : List Function) : Type 0 where
    pub bodies : (n : ℕ) → numbers n → (f : Function) × (slice_get functions n ≡ Some f) × BodyFits f.body
