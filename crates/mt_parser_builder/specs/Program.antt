-- The program that a spelled tree stands for.
use Rattle.std.specs.Prelude.{ℕ, List, [], ◌∷◌, ◌++◌, map, Option, None, Some}
use Rattle.mt_grammar.specs.Tree.{Title, a_service, a_declaration, a_named_expression, an_expression, heading_of, Key, plain, quoted, Names, no_names, names_and, Expr, name, number, text, property, constant, array, object, function, unary, step, operation, condition, assign, index, call, tilde, dollar, element, Exprs, no_exprs, exprs_and, Props, no_props, props_and, Attribute, attribute_plain, attribute_quoted, attribute_tilde, attribute_dollar, Attributes, no_attributes, attributes_and, Child, child_text, child_direct, child_dollar, Children, no_children, children_and, Decl, decl_only, decl_as, Decls, no_decls, decls_and, Optional, absent, present, Start, start_optional, start_vars, Stmt, expression, var, declare, if_only, if_else, while, for, return, jump, throw, try, block, empty, Stmts, no_stmts, stmts_and}
use Rattle.mt_parser_marks.specs.Values.{name_of, number_of, text_of, quoted_of, child_text_of}
use Rattle.mt_syntax.specs.declared.program.Program.{Program}
use Rattle.mt_syntax.specs.declared.tree.Mark.{Mark}
use Rattle.mt_syntax.specs.declared.tree.MarkupValue.{MarkupValue}
use Rattle.mt_syntax.specs.declared.tree.ExprKind.TheOpen.{ExprKind-F, StmtKind-F}
use Rattle.mt_syntax.specs.declared.tree.Expr as syntax_expr
use Rattle.mt_syntax.specs.declared.tree.Stmt as syntax_stmt
use Rattle.mt_syntax.specs.declared.tree.Prop as syntax_prop
use Rattle.mt_syntax.specs.declared.tree.Decl as syntax_decl
use Rattle.mt_syntax.specs.declared.tree.ForStart as syntax_start
use Rattle.mt_syntax.specs.declared.tree.MarkupAttribute as syntax_attribute
use Rattle.mt_syntax.specs.declared.tree.MarkupChild as syntax_child
use Rattle.mt_parser_builder.specs.declared.tier.Tier.{Tier}
use Rattle.mt_parser_builder.specs.declared.tier.Tier.TheVariants as tier
use Rattle.mt_parser_builder.specs.Syntax as made
use Rattle.mt_parser_builder.specs.Syntax.{mark_of}
use Rattle.mt_parser_builder.specs.Found.{Found, Making, one, two, three, four, within, tilde_made, dollar_made}

-- A row has its items in text order.
abbrev pub and_last : {X : Type 0} → List X → X → List X
and_last xs x = xs ++ x ∷ []

abbrev pub name_of_title : Title → Option Mark
name_of_title (a_service m) = Some (mark_of m)
name_of_title (a_declaration m) = Some (mark_of m)
name_of_title (a_named_expression m) = Some (mark_of m)
name_of_title an_expression = None

abbrev pub names_of : Names → List Mark
names_of no_names = []
names_of (names_and ns m) = names_of ns ++ mark_of m ∷ []

abbrev pub key_of : Key → List ℕ
key_of (plain m) = name_of m.text
key_of (quoted m) = text_of m.text

abbrev pub attribute_name : Attribute → Mark
attribute_name (attribute_plain m) = mark_of m
attribute_name (attribute_quoted m v) = mark_of m
attribute_name (attribute_tilde m e) = mark_of m
attribute_name (attribute_dollar m e) = mark_of m

abbrev pub prop_of : Key × syntax_expr.Expr → syntax_prop.Prop
prop_of p = made.prop (key_of p.0) p.1

abbrev pub attribute_of : Mark × MarkupValue → syntax_attribute.MarkupAttribute
attribute_of a = made.attribute a.0 a.1

abbrev pub decl_made : Mark × Option syntax_expr.Expr → syntax_decl.Decl
decl_made d = made.decl d.0 d.1

-- The tier is that of the code that the tree stands in. The code of a tilde is client code, and that of a dollar server code.
unfoldable mutual
  pub expr_of : Tier → Expr → Making syntax_expr.Expr
  expr_of k (name m) s = (made.expr m.place (ExprKind-F.Name (name_of m.text)), s)
  expr_of k (number m) s = (made.expr m.place (ExprKind-F.Num (number_of m.text)), s)
  expr_of k (text m) s = (made.expr m.place (ExprKind-F.ExprKind::Text (text_of m.text)), s)
  expr_of k (property m) s = (made.expr m.place (ExprKind-F.ExprKind::Text (name_of m.text)), s)
  expr_of k (constant p c) s = (made.expr p (made.constant_kind c), s)
  expr_of k (array p es) s = one (λ xs. made.expr p (ExprKind-F.Arr xs)) (exprs_of k es) s
  expr_of k (object p ps) s = one (λ xs. made.expr p (ExprKind-F.Obj (map prop_of xs))) (props_of k ps) s
  expr_of k (function p h ns ss) s = one (λ body. made.expr p (ExprKind-F.Fun (made.function (name_of_title h) (names_of ns) body))) (stmts_of k ss) s
  expr_of k (unary p u a) s = one (λ x. made.expr p (ExprKind-F.Unary u x)) (expr_of k a) s
  expr_of k (step p d a) s = one (λ x. made.expr p (ExprKind-F.Step d x)) (expr_of k a) s
  expr_of k (operation p o a b) s = two (λ x y. made.expr p (made.infix_kind o x y)) (expr_of k a) (expr_of k b) s
  expr_of k (condition p a b c) s = three (λ x y z. made.expr p (ExprKind-F.Cond x y z)) (expr_of k a) (expr_of k b) (expr_of k c) s
  expr_of k (assign p o a b) s = two (λ x y. made.expr p (ExprKind-F.Assign o x y)) (expr_of k a) (expr_of k b) s
  expr_of k (index p a b) s = two (λ x y. made.expr p (ExprKind-F.Index x y)) (expr_of k a) (expr_of k b) s
  expr_of k (call p a es) s = two (λ x ys. made.expr p (ExprKind-F.Call x ys)) (expr_of k a) (exprs_of k es) s
  expr_of k (tilde p ss) s = tilde_made p s (stmts_of tier.Client ss (within s))
  expr_of k (dollar p e) s = dollar_made k p (expr_of tier.Server e s)
  expr_of k (element m ats cs) s = two (λ xs ys. made.expr m.place (ExprKind-F.Markup (made.markup (name_of m.text) (map attribute_of xs) ys))) (attributes_of k ats) (children_of k cs) s

  pub exprs_of : Tier → Exprs → Making (List syntax_expr.Expr)
  exprs_of k no_exprs s = ([], s)
  exprs_of k (exprs_and es e) s = two and_last (exprs_of k es) (expr_of k e) s

  pub props_of : Tier → Props → Making (List (Key × syntax_expr.Expr))
  props_of k no_props s = ([], s)
  props_of k (props_and ps key e) s = two (λ xs x. xs ++ (key, x) ∷ []) (props_of k ps) (expr_of k e) s

  -- an attribute without a value has the empty text
  pub value_of : Tier → Attribute → Making MarkupValue
  value_of k (attribute_plain m) s = (made.quoted_value [], s)
  value_of k (attribute_quoted m v) s = (made.quoted_value (quoted_of v.text), s)
  value_of k (attribute_tilde m e) s = one made.tilde_value (expr_of k e) s
  value_of k (attribute_dollar m e) s = one made.dollar_value (expr_of tier.Server e) s

  pub attributes_of : Tier → Attributes → Making (List (Mark × MarkupValue))
  attributes_of k no_attributes s = ([], s)
  attributes_of k (attributes_and ats a) s = two (λ xs x. xs ++ (attribute_name a, x) ∷ []) (attributes_of k ats) (value_of k a) s

  pub child_of : Tier → Child → Making syntax_child.MarkupChild
  child_of k (child_text m) s = (made.text_child (child_text_of m.text), s)
  child_of k (child_direct e) s = one made.direct_child (expr_of k e) s
  child_of k (child_dollar e) s = one made.dollar_child (expr_of tier.Server e) s

  pub children_of : Tier → Children → Making (List syntax_child.MarkupChild)
  children_of k no_children s = ([], s)
  children_of k (children_and cs c) s = two and_last (children_of k cs) (child_of k c) s

  pub decl_of : Tier → Decl → Making (Mark × Option syntax_expr.Expr)
  decl_of k (decl_only m) s = ((mark_of m, None), s)
  decl_of k (decl_as m e) s = one (λ x. (mark_of m, Some x)) (expr_of k e) s

  pub decls_of : Tier → Decls → Making (List (Mark × Option syntax_expr.Expr))
  decls_of k no_decls s = ([], s)
  decls_of k (decls_and ds d) s = two and_last (decls_of k ds) (decl_of k d) s

  pub optional_of : Tier → Optional → Making (Option syntax_expr.Expr)
  optional_of k absent s = (None, s)
  optional_of k (present e) s = one Some (expr_of k e) s

  pub start_of : Tier → Start → Making syntax_start.ForStart
  start_of k (start_optional o) s = one made.start_of (optional_of k o) s
  start_of k (start_vars ds) s = one (λ xs. made.start_with (map decl_made xs)) (decls_of k ds) s

  pub stmt_of : Tier → Stmt → Making syntax_stmt.Stmt
  stmt_of k (expression p e) s = one (λ x. made.stmt p (StmtKind-F.StmtKind::Expr x)) (expr_of k e) s
  stmt_of k (var p d ds) s = one (λ xs. made.stmt p (StmtKind-F.StmtKind::Var d (map decl_made xs))) (decls_of k ds) s
  stmt_of k (declare p h ns ss) s = one (λ body. made.stmt p (made.declared_kind (heading_of h) (made.function (name_of_title h) (names_of ns) body))) (stmts_of k ss) s
  stmt_of k (if_only p e b) s = two (λ x y. made.stmt p (StmtKind-F.If x y None)) (expr_of k e) (stmt_of k b) s
  stmt_of k (if_else p e b c) s = three (λ x y z. made.stmt p (StmtKind-F.If x y (Some z))) (expr_of k e) (stmt_of k b) (stmt_of k c) s
  stmt_of k (while p e b) s = two (λ x y. made.stmt p (StmtKind-F.While x y)) (expr_of k e) (stmt_of k b) s
  stmt_of k (for p a b c d) s = four (λ x y z u. made.stmt p (StmtKind-F.For x y z u)) (start_of k a) (optional_of k b) (optional_of k c) (stmt_of k d) s
  stmt_of k (return p o) s = one (λ x. made.stmt p (StmtKind-F.Return x)) (optional_of k o) s
  stmt_of k (jump p j) s = (made.stmt p (made.jump_kind j), s)
  stmt_of k (throw p e) s = one (λ x. made.stmt p (StmtKind-F.Throw x)) (expr_of k e) s
  stmt_of k (try p a m b) s = two (λ x y. made.stmt p (StmtKind-F.Try x (mark_of m) y)) (stmt_of k a) (stmt_of k b) s
  stmt_of k (block p ss) s = one (λ xs. made.stmt p (StmtKind-F.Block xs)) (stmts_of k ss) s
  stmt_of k (empty p) s = (made.stmt p StmtKind-F.Empty, s)

  pub stmts_of : Tier → Stmts → Making (List syntax_stmt.Stmt)
  stmts_of k no_stmts s = ([], s)
  stmts_of k (stmts_and ss t) s = two and_last (stmts_of k ss) (stmt_of k t) s

abbrev pub nothing_found : Found
nothing_found = record { before = 0; tildes = []; dollars = [] }

-- The items of a file are server code.
abbrev pub program_of : Stmts → Program
program_of ss = let r = stmts_of tier.Server ss nothing_found in record { items = r.0; tildes = r.1.tildes }
