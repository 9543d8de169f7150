-- The text of a node in which values stand in the place of dollars, without making that node.
use Rattle.std.specs.Prelude.{ℕ, List}
use Rattle.mt_tree.specs.declared.data.Data.{Data}
use Rattle.mt_syntax.specs.CodeText.{writing_code}
use Rattle.mt_syntax.specs.Fold.{Every, Steps, on_expr_kind, on_for_start, on_stmt_kind, on_decl, on_expr, on_function, on_prop, on_stmt}
use Rattle.mt_syntax.specs.Substitution.{substituting}
use Rattle.mt_syntax.specs.declared.tree.ExprKind.{ExprKind}
use Rattle.mt_syntax.specs.declared.tree.ForStart.{ForStart}
use Rattle.mt_syntax.specs.declared.tree.StmtKind.{StmtKind}
use Rattle.mt_syntax.specs.declared.tree.Decl.{Decl}
use Rattle.mt_syntax.specs.declared.tree.Expr.{Expr}
use Rattle.mt_syntax.specs.declared.tree.Function.{Function}
use Rattle.mt_syntax.specs.declared.tree.Prop.{Prop}
use Rattle.mt_syntax.specs.declared.tree.Stmt.{Stmt}

module _ (values : List Data) where
  abbrev pub writing : Steps (Every (List ℕ))
  writing = substituting (Every (List ℕ)) values writing_code

  abbrev pub expr_kind_written : ExprKind → List ℕ
  expr_kind_written = on_expr_kind writing

  abbrev pub for_start_written : ForStart → List ℕ
  for_start_written = on_for_start writing

  abbrev pub stmt_kind_written : StmtKind → List ℕ
  stmt_kind_written = on_stmt_kind writing

  abbrev pub decl_written : Decl → List ℕ
  decl_written = on_decl writing

  abbrev pub expr_written : Expr → List ℕ
  expr_written = on_expr writing

  -- behind the word `function`
  abbrev pub function_written : Function → List ℕ
  function_written = on_function writing

  abbrev pub prop_written : Prop → List ℕ
  prop_written = on_prop writing

  abbrev pub stmt_written : Stmt → List ℕ
  stmt_written = on_stmt writing
