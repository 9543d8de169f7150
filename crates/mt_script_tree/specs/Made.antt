-- The nodes of code, each with the place 0:0.
use Rattle.std.specs.Prelude.{ℕ, List, Option}
use Rattle.mt_syntax.specs.Fold.{ExprKindLayer, ForStartLayer, StmtKindLayer, Tree}
use Rattle.mt_syntax.specs.Substitution.{nowhere}
use Rattle.mt_syntax.specs.declared.tree.Mark.{Mark}
use Rattle.mt_syntax.specs.declared.tree.Decl.{Decl, roll-Decl}
use Rattle.mt_syntax.specs.declared.tree.Expr.{Expr}
use Rattle.mt_syntax.specs.declared.tree.ExprKind.{ExprKind, roll-ExprKind}
use Rattle.mt_syntax.specs.declared.tree.ForStart.{ForStart, roll-ForStart}
use Rattle.mt_syntax.specs.declared.tree.Function.{Function, roll-Function}
use Rattle.mt_syntax.specs.declared.tree.Prop.{Prop}
use Rattle.mt_syntax.specs.declared.tree.Stmt.{Stmt}
use Rattle.mt_syntax.specs.declared.tree.StmtKind.{StmtKind, roll-StmtKind}

abbrev pub kind : ExprKindLayer Tree → ExprKind
kind = roll-ExprKind

abbrev pub stmt_kind : StmtKindLayer Tree → StmtKind
stmt_kind = roll-StmtKind

abbrev pub start : ForStartLayer Tree → ForStart
start = roll-ForStart

abbrev pub expr : ExprKind → Expr
expr kind = record { place = nowhere; kind = kind }

abbrev pub stmt : StmtKind → Stmt
stmt kind = record { place = nowhere; kind = kind }

abbrev pub decl : Mark → Option Expr → Decl
decl name value = roll-Decl (record { name = name; value = value })

abbrev pub prop : List ℕ → Expr → Prop
prop name value = record { name = name; value = value }

abbrev pub function : Option Mark → List Mark → List Stmt → Function
function name parameters body = roll-Function (record { name = name; parameters = parameters; body = body })
