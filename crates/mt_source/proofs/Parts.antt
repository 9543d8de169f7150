-- What the texts of a spelled tree stand for is within the limit, and so is what is made of parts that are.
use Rattle.std.proofs.Common.{ℕ, ◌≤◌, map, Option, None, Some, arith}
use Rattle.std.proofs.Math.Nat.{max-le}
use Rattle.mt_tree.specs.declared.place.Place.{Place}
use Rattle.mt_tree.specs.Text.{units_of}
use Rattle.mt_syntax.specs.Depth.{greatest}
use Rattle.mt_syntax.specs.declared.tree.Expr.{Expr}
use Rattle.mt_syntax.specs.declared.tree.ExprKind.TheOpen.{StmtKind-F}
use Rattle.mt_syntax.specs.declared.tree.ForStart.{ForStart}
use Rattle.mt_syntax.specs.declared.tree.Function.{Function}
use Rattle.mt_syntax.specs.declared.tree.Stmt.{Stmt}
use Rattle.mt_grammar.specs.declared.terminal.Constant.{Constant}
use Rattle.mt_grammar.specs.declared.terminal.Constant.TheVariants as constant
use Rattle.mt_grammar.specs.declared.terminal.Heading.{Heading}
use Rattle.mt_grammar.specs.declared.terminal.Heading.TheVariants as heading
use Rattle.mt_grammar.specs.declared.terminal.Infix.{Infix}
use Rattle.mt_grammar.specs.declared.terminal.Infix.TheVariants as infix_op
use Rattle.mt_grammar.specs.declared.terminal.Jump.{Jump}
use Rattle.mt_grammar.specs.declared.terminal.Jump.TheVariants as jump_word
use Rattle.mt_grammar.specs.Tree.{Mark, Title, a_service, a_declaration, a_named_expression, an_expression, Key, plain, quoted, Names, no_names, names_and, Attribute, attribute_plain, attribute_quoted, attribute_tilde, attribute_dollar}
use Rattle.mt_parser_marks.specs.Values.{name_of, text_of, quoted_of, child_text_of}
use Rattle.mt_parser_marks.proofs.Units.{name-units, text-units, quoted-units, child_text-units}
use Rattle.mt_parser_builder.specs.Program.{name_of_title, names_of, key_of, attribute_name}
use Rattle.mt_parser_builder.specs.Syntax as made
use Rattle.mt_syntax.specs.Texts.{length_of_name, length_of_own_name}
use Rattle.mt_source.proofs.Bounds.{least, and_last}
use Rattle.mt_source.proofs.Marks.{ShortMark, ShortTitle, ShortKey, ShortNames, ShortAttribute}
use Rattle.mt_source.proofs.Nodes.{in_expr, in_function, in_optional, in_start, in_stmt, expr_node, stmt_node, start_node}

module _ (limit : ℕ) where
  -- ---- names and texts

  pub name_fits : (m : Mark) → ShortMark limit m → units_of (name_of m.text) ≤ limit
  name_fits m h = omega (arith, h, name-units m.text)

  pub text_fits : (m : Mark) → ShortMark limit m → units_of (text_of m.text) ≤ limit
  text_fits m h = omega (arith, h, text-units m.text)

  pub quoted_fits : (m : Mark) → ShortMark limit m → units_of (quoted_of m.text) ≤ limit
  quoted_fits m h = omega (arith, h, quoted-units m.text)

  pub child_text_fits : (m : Mark) → ShortMark limit m → units_of (child_text_of m.text) ≤ limit
  child_text_fits m h = omega (arith, h, child_text-units m.text)

  pub title_fits : (t : Title) → ShortTitle limit t → length_of_own_name (name_of_title t) ≤ limit
  title_fits (a_service m) h = name_fits m h
  title_fits (a_declaration m) h = name_fits m h
  title_fits (a_named_expression m) h = name_fits m h
  title_fits an_expression h = least limit

  pub names_fit : (ns : Names) → ShortNames limit ns → greatest (map length_of_name (names_of ns)) ≤ limit
  names_fit no_names h = least limit
  names_fit (names_and ns m) h = and_last length_of_name limit (names_of ns) (made.mark_of m) (names_fit ns h.0) (name_fits m h.1)

  pub key_fits : (key : Key) → ShortKey limit key → units_of (key_of key) ≤ limit
  key_fits (plain m) h = name_fits m h
  key_fits (quoted m) h = text_fits m h

  pub attribute_name_fits : (a : Attribute) → ShortAttribute limit a → length_of_name (attribute_name a) ≤ limit
  attribute_name_fits (attribute_plain m) h = name_fits m h
  attribute_name_fits (attribute_quoted m v) h = name_fits m h.0
  attribute_name_fits (attribute_tilde m e) h = name_fits m h.0
  attribute_name_fits (attribute_dollar m e) h = name_fits m h.0

  -- ---- nodes that are made by cases

  pub constant_fits : (p : Place) (c : Constant) → in_expr (made.expr p (made.constant_kind c)) ≤ limit
  constant_fits p constant.True = expr_node limit p _ (least limit)
  constant_fits p constant.False = expr_node limit p _ (least limit)
  constant_fits p constant.Null = expr_node limit p _ (least limit)
  constant_fits p constant.Undefined = expr_node limit p _ (least limit)

  pub operation_fits : (p : Place) (o : Infix) (a b : Expr) → in_expr a ≤ limit → in_expr b ≤ limit → in_expr (made.expr p (made.infix_kind o a b)) ≤ limit
  operation_fits p infix_op.Or a b h g = expr_node limit p _ (max-le h g)
  operation_fits p infix_op.And a b h g = expr_node limit p _ (max-le h g)
  operation_fits p (infix_op.Binary op) a b h g = expr_node limit p _ (max-le h g)

  pub jump_fits : (p : Place) (j : Jump) → in_stmt (made.stmt p (made.jump_kind j)) ≤ limit
  jump_fits p jump_word.Break = stmt_node limit p _ (least limit)
  jump_fits p jump_word.Continue = stmt_node limit p _ (least limit)

  pub declared_fits : (p : Place) (h : Heading) (f : Function) → in_function f ≤ limit → in_stmt (made.stmt p (made.declared_kind h f)) ≤ limit
  declared_fits p heading.Service f h = stmt_node limit p _ h
  declared_fits p _ f h = stmt_node limit p _ h

  pub start_fits : (o : Option Expr) → in_optional o ≤ limit → in_start (made.start_of o) ≤ limit
  start_fits None h = start_node limit _ (least limit)
  start_fits (Some e) h = start_node limit _ h

  pub return_fits : (p : Place) (o : Option Expr) → in_optional o ≤ limit → in_stmt (made.stmt p (StmtKind-F.Return o)) ≤ limit
  return_fits p None h = stmt_node limit p _ h
  return_fits p (Some e) h = stmt_node limit p _ h

  pub for_fits : (p : Place) (a : ForStart) (b c : Option Expr) (d : Stmt) → in_start a ≤ limit → in_optional b ≤ limit → in_optional c ≤ limit → in_stmt d ≤ limit
      → in_stmt (made.stmt p (StmtKind-F.For a b c d)) ≤ limit
  for_fits p a None None d x y z w = stmt_node limit p _ (max-le x (max-le y (max-le z w)))
  for_fits p a None (Some c) d x y z w = stmt_node limit p _ (max-le x (max-le y (max-le z w)))
  for_fits p a (Some b) None d x y z w = stmt_node limit p _ (max-le x (max-le y (max-le z w)))
  for_fits p a (Some b) (Some c) d x y z w = stmt_node limit p _ (max-le x (max-le y (max-le z w)))
