-- The replacement of a tilde's dollars by values: every place becomes 0:0, and `Dollar i` the node `Val` of value i.
use Rattle.std.specs.Prelude.{ℕ, List, map, Option, None, Some, option_map, slice_get}
use Rattle.mt_tree.specs.declared.data.Data.{Data}
use Rattle.mt_tree.specs.declared.place.Place.{Place}
use Rattle.mt_syntax.specs.Sort.{Sort}
use Rattle.mt_syntax.specs.Fold.{ExprKindLayer, StmtKindLayer, DeclLayer, ExprLayer, FunctionLayer, MarkupAttributeLayer, StmtLayer, Steps, Tree, same, on_expr_kind, on_for_start, on_markup_child, on_markup_value, on_stmt_kind, on_decl, on_expr, on_function, on_markup, on_markup_attribute, on_prop, on_stmt}
use Rattle.mt_syntax.specs.declared.tree.Mark.{Mark}
use Rattle.mt_syntax.specs.declared.tree.ExprKind.{ExprKind, roll-ExprKind}
use Rattle.mt_syntax.specs.declared.tree.ForStart.{ForStart}
use Rattle.mt_syntax.specs.declared.tree.MarkupChild.{MarkupChild}
use Rattle.mt_syntax.specs.declared.tree.MarkupValue.{MarkupValue}
use Rattle.mt_syntax.specs.declared.tree.StmtKind.{StmtKind}
use Rattle.mt_syntax.specs.declared.tree.Decl.{Decl}
use Rattle.mt_syntax.specs.declared.tree.Expr.{Expr}
use Rattle.mt_syntax.specs.declared.tree.Function.{Function}
use Rattle.mt_syntax.specs.declared.tree.Markup.{Markup}
use Rattle.mt_syntax.specs.declared.tree.MarkupAttribute.{MarkupAttribute}
use Rattle.mt_syntax.specs.declared.tree.Prop.{Prop}
use Rattle.mt_syntax.specs.declared.tree.Stmt.{Stmt}
use Rattle.mt_syntax.specs.declared.tree.ExprKind.TheOpen.{ExprKind-F, StmtKind-F}

-- the place of what stands nowhere in a source
abbrev pub nowhere : Place
nowhere = record { line = 0; column = 0 }

abbrev pub unplaced : Mark → Mark
unplaced mark = record { place = nowhere; name = mark.name }

-- one node
module _ (A : Sort → Type 0) where
  -- what stands in the place of a dollar; one with no value stays
  abbrev pub chosen : ℕ → Option Data → ExprKindLayer A
  chosen at None = ExprKind-F.ExprKind::Dollar at
  chosen at (Some d) = ExprKind-F.Val d

  abbrev pub new_expr_kind : List Data → ExprKindLayer A → ExprKindLayer A
  new_expr_kind values (ExprKind-F.ExprKind::Dollar at) = chosen at (slice_get values at)
  new_expr_kind values layer = layer

  abbrev pub new_stmt_kind : StmtKindLayer A → StmtKindLayer A
  new_stmt_kind (StmtKind-F.Try body name handler) = StmtKind-F.Try body (unplaced name) handler
  new_stmt_kind layer = layer

  abbrev pub new_decl : DeclLayer A → DeclLayer A
  new_decl layer = record layer { name = unplaced layer.name }

  abbrev pub new_expr : ExprLayer A → ExprLayer A
  new_expr layer = record layer { place = nowhere }

  abbrev pub new_function : FunctionLayer A → FunctionLayer A
  new_function layer = record layer { name = option_map unplaced layer.name; parameters = map unplaced layer.parameters }

  abbrev pub new_markup_attribute : MarkupAttributeLayer A → MarkupAttributeLayer A
  new_markup_attribute layer = record layer { name = unplaced layer.name }

  abbrev pub new_stmt : StmtLayer A → StmtLayer A
  new_stmt layer = record layer { place = nowhere }

  -- the steps of a function on the substituted tree
  abbrev pub substituting : List Data → Steps A → Steps A
  substituting values steps = record steps {
    expr_kind = λ layer. steps.expr_kind (new_expr_kind values layer);
    stmt_kind = λ layer. steps.stmt_kind (new_stmt_kind layer);
    decl = λ layer. steps.decl (new_decl layer);
    expr = λ layer. steps.expr (new_expr layer);
    function = λ layer. steps.function (new_function layer);
    markup_attribute = λ layer. steps.markup_attribute (new_markup_attribute layer);
    stmt = λ layer. steps.stmt (new_stmt layer);
  }

module _ (values : List Data) where
  abbrev pub subst_expr_kind : ExprKind → ExprKind
  subst_expr_kind = on_expr_kind (substituting Tree values same)

  -- the node of a dollar
  abbrev pub value_of_dollar : ℕ → ExprKind
  value_of_dollar at = roll-ExprKind (chosen Tree at (slice_get values at))

  abbrev pub subst_for_start : ForStart → ForStart
  subst_for_start = on_for_start (substituting Tree values same)

  abbrev pub subst_markup_child : MarkupChild → MarkupChild
  subst_markup_child = on_markup_child (substituting Tree values same)

  abbrev pub subst_markup_value : MarkupValue → MarkupValue
  subst_markup_value = on_markup_value (substituting Tree values same)

  abbrev pub subst_stmt_kind : StmtKind → StmtKind
  subst_stmt_kind = on_stmt_kind (substituting Tree values same)

  abbrev pub subst_decl : Decl → Decl
  subst_decl = on_decl (substituting Tree values same)

  abbrev pub subst_expr : Expr → Expr
  subst_expr = on_expr (substituting Tree values same)

  abbrev pub subst_function : Function → Function
  subst_function = on_function (substituting Tree values same)

  abbrev pub subst_markup : Markup → Markup
  subst_markup = on_markup (substituting Tree values same)

  abbrev pub subst_markup_attribute : MarkupAttribute → MarkupAttribute
  subst_markup_attribute = on_markup_attribute (substituting Tree values same)

  abbrev pub subst_prop : Prop → Prop
  subst_prop = on_prop (substituting Tree values same)

  abbrev pub subst_stmt : Stmt → Stmt
  subst_stmt = on_stmt (substituting Tree values same)

  -- the body of a tilde, with these values in the place of its dollars
  abbrev pub subst : List Stmt → List Stmt
  subst = map subst_stmt
