-- The longest text of each part of a program. A node is within a limit where its own texts and its parts are.
use Rattle.std.proofs.Common.{◌≡◌, ℕ, ◌≤◌, max, List, map, Option, None, Some, sym, subst, ◌∙◌}
use Rattle.std.specs.Prelude.{option_map}
use Rattle.mt_tree.specs.declared.place.Place.{Place}
use Rattle.mt_tree.specs.Text.{units_of}
use Rattle.mt_syntax.specs.Fold.{Tree, ExprKindLayer, ForStartLayer, MarkupChildLayer, MarkupValueLayer, StmtKindLayer, on_decl, on_expr, on_for_start, on_function, on_markup, on_markup_attribute, on_markup_child, on_markup_value, on_prop, on_stmt}
use Rattle.mt_syntax.specs.Gathering.{or_none}
use Rattle.mt_syntax.specs.Depth.{greatest}
use Rattle.mt_syntax.specs.declared.tree.Mark.{Mark}
use Rattle.mt_syntax.specs.declared.tree.Decl.{Decl}
use Rattle.mt_syntax.specs.declared.tree.Expr.{Expr}
use Rattle.mt_syntax.specs.declared.tree.ExprKind.{roll-ExprKind}
use Rattle.mt_syntax.specs.declared.tree.ForStart.{ForStart, roll-ForStart}
use Rattle.mt_syntax.specs.declared.tree.Function.{Function}
use Rattle.mt_syntax.specs.declared.tree.Markup.{Markup}
use Rattle.mt_syntax.specs.declared.tree.MarkupAttribute.{MarkupAttribute}
use Rattle.mt_syntax.specs.declared.tree.MarkupChild.{MarkupChild, roll-MarkupChild}
use Rattle.mt_syntax.specs.declared.tree.MarkupValue.{MarkupValue, roll-MarkupValue}
use Rattle.mt_syntax.specs.declared.tree.Prop.{Prop}
use Rattle.mt_syntax.specs.declared.tree.Stmt.{Stmt}
use Rattle.mt_syntax.specs.declared.tree.StmtKind.{roll-StmtKind}
use Rattle.mt_syntax_laws.proofs.Layers.{map_expr_kind, map_for_start, map_markup_child, map_markup_value, map_stmt_kind}
use Rattle.mt_syntax_laws.proofs.Related.{on, at_decl, at_expr, at_expr_kind, at_for_start, at_function, at_markup, at_markup_attribute, at_markup_child, at_markup_value, at_prop, at_stmt, at_stmt_kind}
use Rattle.mt_parser_builder.specs.Syntax as made
use Rattle.mt_syntax.specs.Texts.{comparing, length_of_name, length_of_own_name, longest_in_expr_kind, longest_in_markup_child, longest_in_markup_value, longest_in_stmt_kind, measuring_texts}

abbrev pub in_expr : Expr → ℕ
in_expr = on_expr measuring_texts

abbrev pub in_stmt : Stmt → ℕ
in_stmt = on_stmt measuring_texts

abbrev pub in_prop : Prop → ℕ
in_prop = on_prop measuring_texts

abbrev pub in_decl : Decl → ℕ
in_decl = on_decl measuring_texts

abbrev pub in_start : ForStart → ℕ
in_start = on_for_start measuring_texts

abbrev pub in_function : Function → ℕ
in_function = on_function measuring_texts

abbrev pub in_markup : Markup → ℕ
in_markup = on_markup measuring_texts

abbrev pub in_attribute : MarkupAttribute → ℕ
in_attribute = on_markup_attribute measuring_texts

abbrev pub in_value : MarkupValue → ℕ
in_value = on_markup_value measuring_texts

abbrev pub in_child : MarkupChild → ℕ
in_child = on_markup_child measuring_texts

abbrev pub in_optional : Option Expr → ℕ
in_optional o = or_none 0 max (option_map in_expr o)

abbrev pub in_exprs : List Expr → ℕ
in_exprs es = greatest (map in_expr es)

abbrev pub in_stmts : List Stmt → ℕ
in_stmts ss = greatest (map in_stmt ss)

module _ (limit : ℕ) where
  moved : (m n : ℕ) → m ≡ n → n ≤ limit → m ≤ limit
  moved m n e h = subst (λ k. k ≤ limit) (sym e) h

  pub expr_node : (p : Place) (x : ExprKindLayer Tree) → longest_in_expr_kind (map_expr_kind (on measuring_texts) x) ≤ limit → in_expr (made.expr p x) ≤ limit
  expr_node p x = moved _ _ (at_expr measuring_texts (record { place = p; kind = roll-ExprKind x }) ∙ at_expr_kind measuring_texts x)

  pub stmt_node : (p : Place) (x : StmtKindLayer Tree) → longest_in_stmt_kind (map_stmt_kind (on measuring_texts) x) ≤ limit → in_stmt (made.stmt p x) ≤ limit
  stmt_node p x = moved _ _ (at_stmt measuring_texts (record { place = p; kind = roll-StmtKind x }) ∙ at_stmt_kind measuring_texts x)

  pub start_node : (x : ForStartLayer Tree) → comparing.for_start (map_for_start (on measuring_texts) x) ≤ limit → in_start (roll-ForStart x) ≤ limit
  start_node x = moved _ _ (at_for_start measuring_texts x)

  pub value_node : (x : MarkupValueLayer Tree) → longest_in_markup_value (map_markup_value (on measuring_texts) x) ≤ limit → in_value (roll-MarkupValue x) ≤ limit
  value_node x = moved _ _ (at_markup_value measuring_texts x)

  pub child_node : (x : MarkupChildLayer Tree) → longest_in_markup_child (map_markup_child (on measuring_texts) x) ≤ limit → in_child (roll-MarkupChild x) ≤ limit
  child_node x = moved _ _ (at_markup_child measuring_texts x)

  pub decl_node : (m : Mark) (value : Option Expr) → max (length_of_name m) (in_optional value) ≤ limit → in_decl (made.decl m value) ≤ limit
  decl_node m None = moved _ _ (at_decl measuring_texts (record { name = m; value = None }))
  decl_node m (Some value) = moved _ _ (at_decl measuring_texts (record { name = m; value = Some value }))

  pub prop_node : (key : List ℕ) (value : Expr) → max (units_of key) (in_expr value) ≤ limit → in_prop (made.prop key value) ≤ limit
  prop_node key value = moved _ _ (at_prop measuring_texts (record { name = key; value = value }))

  pub attribute_node : (m : Mark) (value : MarkupValue) → max (length_of_name m) (in_value value) ≤ limit → in_attribute (made.attribute m value) ≤ limit
  attribute_node m value = moved _ _ (at_markup_attribute measuring_texts (record { name = m; value = value }))

  pub function_node : (name : Option Mark) (ms : List Mark) (body : List Stmt) → max (length_of_own_name name) (max (greatest (map length_of_name ms)) (in_stmts body)) ≤ limit
      → in_function (made.function name ms body) ≤ limit
  function_node name ms body = moved _ _ (at_function measuring_texts (record { name = name; parameters = ms; body = body }))

  pub markup_node : (tag : List ℕ) (ats : List MarkupAttribute) (cs : List MarkupChild) → max (units_of tag) (max (greatest (map in_attribute ats)) (greatest (map in_child cs))) ≤ limit
      → in_markup (made.markup tag ats cs) ≤ limit
  markup_node tag ats cs = moved _ _ (at_markup measuring_texts (record { tag = tag; attributes = ats; children = cs }))
