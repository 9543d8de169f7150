-- A body with `null` as each of its values: what is left of a code beside the data of its values.
use Rattle.std.specs.Prelude.{List, map}
use Rattle.mt_tree.specs.declared.data.Data.TheVariants.{Null}
use Rattle.mt_syntax.specs.Fold.{ExprKindLayer, Steps, Tree, on_stmt, same}
use Rattle.mt_syntax.specs.declared.tree.ExprKind.{roll-ExprKind}
use Rattle.mt_syntax.specs.declared.tree.Stmt.{Stmt}
use Rattle.mt_syntax.specs.declared.tree.ExprKind.TheOpen.{ExprKind-F}

abbrev pub blank : ExprKindLayer Tree → ExprKindLayer Tree
blank (ExprKind-F.Val d) = ExprKind-F.Val Null
blank layer = layer

abbrev pub blanking : Steps Tree
blanking = record same { expr_kind = λ layer. roll-ExprKind (blank layer) }

abbrev pub blanked : List Stmt → List Stmt
blanked = map (on_stmt blanking)
