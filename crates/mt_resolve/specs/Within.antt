-- Syntax that is at most so deep, where the dollars of a tilde stand in its place.
use Rattle.std.specs.Prelude.{ℕ, zero, suc, List, [], ◌∷◌, Option, None, Some, slice_get}
use Rattle.mt_eval_meaning.specs.Evaluation.{dollars_of, expr_kind_of}
use Rattle.mt_eval_meaning.specs.Hoisting.{kind_of}
use Rattle.mt_syntax.specs.Fold.{Tree, ExprKindLayer, ForStartLayer, MarkupChildLayer, MarkupValueLayer, StmtKindLayer}
use Rattle.mt_syntax.specs.declared.program.Tilde.{Tilde}
use Rattle.mt_syntax.specs.declared.tree.Decl.{Decl, out-Decl}
use Rattle.mt_syntax.specs.declared.tree.Expr.{Expr}
use Rattle.mt_syntax.specs.declared.tree.ExprKind.TheOpen.{ExprKind-F, ForStart-F, MarkupChild-F, MarkupValue-F, StmtKind-F}
use Rattle.mt_syntax.specs.declared.tree.ForStart.{out-ForStart}
use Rattle.mt_syntax.specs.declared.tree.Function.{Function, out-Function}
use Rattle.mt_syntax.specs.declared.tree.Markup.{out-Markup}
use Rattle.mt_syntax.specs.declared.tree.MarkupAttribute.{MarkupAttribute, out-MarkupAttribute}
use Rattle.mt_syntax.specs.declared.tree.MarkupChild.{MarkupChild, out-MarkupChild}
use Rattle.mt_syntax.specs.declared.tree.MarkupValue.{out-MarkupValue}
use Rattle.mt_syntax.specs.declared.tree.Prop.{Prop, out-Prop}
use Rattle.mt_syntax.specs.declared.tree.Stmt.{Stmt}
use Rattle.mt_tree.specs.Limits.{depth_limit}

abbrev pub AllOf : {A : Type 0} → (A → Type 0) → List A → Type 0
AllOf P [] = Unit {0}
AllOf P (x ∷ xs) = P x × AllOf P xs

abbrev pub IfThere : {A : Type 0} → (A → Type 0) → Option A → Type 0
IfThere P None = Unit {0}
IfThere P (Some x) = P x

-- what holds of the parts of a node
pub record Limits : Type 1 where
  pub expr : Expr → Type 0
  pub stmt : Stmt → Type 0

module _ (tildes : List Tilde) (l : Limits) where
  abbrev pub BodyIsWithin : Function → Type 0
  BodyIsWithin f = AllOf l.stmt (out-Function f).body

  abbrev pub ValueIsWithin : MarkupValueLayer Tree → Type 0
  ValueIsWithin (MarkupValue-F.Quoted text) = Unit {0}
  ValueIsWithin (MarkupValue-F.MarkupValue::Tilde e) = l.expr e
  ValueIsWithin (MarkupValue-F.MarkupValue::Dollar e) = l.expr e

  abbrev pub AttributeIsWithin : MarkupAttribute → Type 0
  AttributeIsWithin a = ValueIsWithin (out-MarkupValue (out-MarkupAttribute a).value)

  abbrev pub PieceIsWithin : MarkupChildLayer Tree → Type 0
  PieceIsWithin (MarkupChild-F.MarkupChild::Text text) = Unit {0}
  PieceIsWithin (MarkupChild-F.Direct e) = l.expr e
  PieceIsWithin (MarkupChild-F.MarkupChild::Dollar e) = l.expr e

  abbrev pub ChildIsWithin : MarkupChild → Type 0
  ChildIsWithin c = PieceIsWithin (out-MarkupChild c)

  abbrev pub PropIsWithin : Prop → Type 0
  PropIsWithin q = l.expr (out-Prop q).value

  abbrev pub ExprIsWithin : ExprKindLayer Tree → Type 0
  ExprIsWithin (ExprKind-F.Arr es) = AllOf l.expr es
  ExprIsWithin (ExprKind-F.Obj qs) = AllOf PropIsWithin qs
  ExprIsWithin (ExprKind-F.Fun f) = BodyIsWithin f
  ExprIsWithin (ExprKind-F.Unary op a) = l.expr a
  ExprIsWithin (ExprKind-F.Step kind a) = l.expr a
  ExprIsWithin (ExprKind-F.Binary op a b) = l.expr a × l.expr b
  ExprIsWithin (ExprKind-F.And a b) = l.expr a × l.expr b
  ExprIsWithin (ExprKind-F.Or a b) = l.expr a × l.expr b
  ExprIsWithin (ExprKind-F.Cond a b c) = l.expr a × l.expr b × l.expr c
  ExprIsWithin (ExprKind-F.Assign op a b) = l.expr a × l.expr b
  ExprIsWithin (ExprKind-F.Index a b) = l.expr a × l.expr b
  ExprIsWithin (ExprKind-F.Call a es) = l.expr a × AllOf l.expr es
  ExprIsWithin (ExprKind-F.ExprKind::Tilde id) = AllOf l.expr (dollars_of (slice_get tildes id))
  ExprIsWithin (ExprKind-F.Markup m) = AllOf AttributeIsWithin (out-Markup m).attributes × AllOf ChildIsWithin (out-Markup m).children
  ExprIsWithin _ = Unit {0}

  abbrev pub DeclIsWithin : Decl → Type 0
  DeclIsWithin d = IfThere l.expr (out-Decl d).value

  abbrev pub StartIsWithin : ForStartLayer Tree → Type 0
  StartIsWithin ForStart-F.Absent = Unit {0}
  StartIsWithin (ForStart-F.ForStart::Var ds) = AllOf DeclIsWithin ds
  StartIsWithin (ForStart-F.ForStart::Expr e) = l.expr e

  abbrev pub StmtIsWithin : StmtKindLayer Tree → Type 0
  StmtIsWithin (StmtKind-F.StmtKind::Expr e) = l.expr e
  StmtIsWithin (StmtKind-F.StmtKind::Var kind ds) = AllOf DeclIsWithin ds
  StmtIsWithin (StmtKind-F.Function f) = BodyIsWithin f
  StmtIsWithin (StmtKind-F.Service f) = BodyIsWithin f
  StmtIsWithin (StmtKind-F.If e a b) = l.expr e × l.stmt a × IfThere l.stmt b
  StmtIsWithin (StmtKind-F.While e a) = l.expr e × l.stmt a
  StmtIsWithin (StmtKind-F.For start test step a) = StartIsWithin (out-ForStart start) × IfThere l.expr test × IfThere l.expr step × l.stmt a
  StmtIsWithin (StmtKind-F.Return e) = IfThere l.expr e
  StmtIsWithin (StmtKind-F.Throw e) = l.expr e
  StmtIsWithin (StmtKind-F.Try a text b) = l.stmt a × l.stmt b
  StmtIsWithin (StmtKind-F.Block ts) = AllOf l.stmt ts
  StmtIsWithin _ = Unit {0}

abbrev pub within : List Tilde → ℕ → Limits
within tildes zero = record { expr = λ e. ⊥; stmt = λ t. ⊥ }
within tildes (suc depth) = record {
  expr = λ e. ExprIsWithin tildes (within tildes depth) (expr_kind_of e);
  stmt = λ t. StmtIsWithin tildes (within tildes depth) (kind_of t);
}

-- each statement is at most so deep as the evaluation goes
unfoldable pub AreWithin : List Tilde → List Stmt → Type 0
AreWithin tildes ts = AllOf (within tildes depth_limit).stmt ts
