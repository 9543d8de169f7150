-- The parse tree of a program: each node with the trees in it, in the order of the text.
use Rattle.std.specs.Prelude.{ℕ, ◌+◌}
use Rattle.mt_grammar.specs.Tree.{Title, a_service, a_declaration, a_named_expression, an_expression, heading_of, Key, plain, quoted, Names, no_names, names_and, names_count, Expr, name, number, text, property, constant, array, object, function, unary, step, operation, condition, assign, index, call, tilde, dollar, element, Exprs, no_exprs, exprs_and, exprs_count, Props, no_props, props_and, props_count, Attribute, attribute_plain, attribute_quoted, attribute_tilde, attribute_dollar, Attributes, no_attributes, attributes_and, attributes_count, Child, child_text, child_direct, child_dollar, Children, no_children, children_and, children_count, Decl, decl_only, decl_as, Decls, no_decls, decls_and, decls_count, Optional, absent, present, Start, start_optional, start_vars, Stmt, expression, var, declare, if_only, if_else, while, for, return, jump, throw, try, block, empty, Stmts, no_stmts, stmts_and, stmts_count}
use Rattle.mt_grammar.specs.Nodes.{Node, Nodes}
use Rattle.mt_grammar.specs.Nodes as n

mutual
  pub data ParseTree : Type 0 where
    parse_tree : Node → ParseTrees → ParseTree

  pub data ParseTrees : Type 0 where
    no_trees : ParseTrees
    trees_and : ParseTrees → ParseTree → ParseTrees

abbrev pub trees_count : ParseTrees → ℕ
trees_count no_trees = 0
trees_count (trees_and rs r) = trees_count rs + 1

-- Each function whose name ends in `trees` appends the trees of a row.

abbrev pub title_trees : Title → ParseTrees → ParseTrees
title_trees (a_service m) rs = trees_and rs (parse_tree (n.Word m) no_trees)
title_trees (a_declaration m) rs = trees_and rs (parse_tree (n.Word m) no_trees)
title_trees (a_named_expression m) rs = trees_and rs (parse_tree (n.Word m) no_trees)
title_trees an_expression rs = rs

abbrev pub names_trees : Names → ParseTrees → ParseTrees
names_trees no_names rs = rs
names_trees (names_and ns m) rs = trees_and (names_trees ns rs) (parse_tree (n.Word m) no_trees)

abbrev pub key_tree : Key → ParseTree
key_tree (plain m) = parse_tree (n.Word m) no_trees
key_tree (quoted m) = parse_tree (n.QuotedKey m) no_trees

unfoldable mutual
  pub expr_tree : Expr → ParseTree
  expr_tree (name m) = parse_tree (n.Name m) no_trees
  expr_tree (number m) = parse_tree (n.Number m) no_trees
  expr_tree (text m) = parse_tree (n.Text m) no_trees
  expr_tree (property m) = parse_tree (n.Property m) no_trees
  expr_tree (constant p c) = parse_tree (n.Constant p c) no_trees
  expr_tree (array p es) = parse_tree (n.Array p (exprs_count es)) (exprs_trees es no_trees)
  expr_tree (object p ps) = parse_tree (n.Object p (props_count ps)) (props_trees ps no_trees)
  expr_tree (function p h ns ss) = parse_tree (n.Function p (heading_of h) (names_count ns) (stmts_count ss)) (stmts_trees ss (names_trees ns (title_trees h no_trees)))
  expr_tree (unary p u a) = parse_tree (n.Unary p u) (trees_and no_trees (expr_tree a))
  expr_tree (step p d a) = parse_tree (n.Step p d) (trees_and no_trees (expr_tree a))
  expr_tree (operation p o a b) = parse_tree (n.Operation p o) (trees_and (trees_and no_trees (expr_tree a)) (expr_tree b))
  expr_tree (condition p a b d) = parse_tree (n.Condition p) (trees_and (trees_and (trees_and no_trees (expr_tree a)) (expr_tree b)) (expr_tree d))
  expr_tree (assign p o a e) = parse_tree (n.Assign p o) (trees_and (trees_and no_trees (expr_tree a)) (expr_tree e))
  expr_tree (index p a i) = parse_tree (n.Index p) (trees_and (trees_and no_trees (expr_tree a)) (expr_tree i))
  expr_tree (call p a es) = parse_tree (n.Call p (exprs_count es)) (exprs_trees es (trees_and no_trees (expr_tree a)))
  expr_tree (tilde p ss) = parse_tree (n.Tilde p (stmts_count ss)) (stmts_trees ss no_trees)
  expr_tree (dollar p e) = parse_tree (n.Dollar p) (trees_and no_trees (expr_tree e))
  expr_tree (element m ats cs) =
      parse_tree (n.Element m.place (attributes_count ats) (children_count cs)) (children_trees cs (attributes_trees ats (trees_and no_trees (parse_tree (n.Word m) no_trees))))

  pub attribute_tree : Attribute → ParseTree
  attribute_tree (attribute_plain m) = parse_tree (n.AttributeName m) no_trees
  attribute_tree (attribute_quoted m v) = parse_tree (n.AttributeQuoted v) (trees_and no_trees (parse_tree (n.AttributeName m) no_trees))
  attribute_tree (attribute_tilde m e) = parse_tree n.AttributeTilde (trees_and (trees_and no_trees (parse_tree (n.AttributeName m) no_trees)) (expr_tree e))
  attribute_tree (attribute_dollar m e) = parse_tree n.AttributeDollar (trees_and (trees_and no_trees (parse_tree (n.AttributeName m) no_trees)) (expr_tree e))

  pub child_tree : Child → ParseTree
  child_tree (child_text m) = parse_tree (n.ChildText m) no_trees
  child_tree (child_direct e) = parse_tree n.ChildDirect (trees_and no_trees (expr_tree e))
  child_tree (child_dollar e) = parse_tree n.ChildDollar (trees_and no_trees (expr_tree e))

  pub decl_tree : Decl → ParseTree
  decl_tree (decl_only m) = parse_tree (n.DeclName m) no_trees
  decl_tree (decl_as m e) = parse_tree n.DeclValue (trees_and (trees_and no_trees (parse_tree (n.DeclName m) no_trees)) (expr_tree e))

  pub optional_tree : Optional → ParseTree
  optional_tree absent = parse_tree n.Absent no_trees
  optional_tree (present e) = parse_tree n.Present (trees_and no_trees (expr_tree e))

  pub start_tree : Start → ParseTree
  start_tree (start_optional o) = parse_tree n.StartOptional (trees_and no_trees (optional_tree o))
  start_tree (start_vars ds) = parse_tree (n.StartVars (decls_count ds)) (decls_trees ds no_trees)

  pub stmt_tree : Stmt → ParseTree
  stmt_tree (expression p e) = parse_tree (n.Expression p) (trees_and no_trees (expr_tree e))
  stmt_tree (var p d ds) = parse_tree (n.Var p d (decls_count ds)) (decls_trees ds no_trees)
  stmt_tree (declare p h ns ss) = parse_tree (n.Declare p (heading_of h) (names_count ns) (stmts_count ss)) (stmts_trees ss (names_trees ns (title_trees h no_trees)))
  stmt_tree (if_only p e s) = parse_tree (n.If p) (trees_and (trees_and no_trees (expr_tree e)) (stmt_tree s))
  stmt_tree (if_else p e s d) = parse_tree (n.IfElse p) (trees_and (trees_and (trees_and no_trees (expr_tree e)) (stmt_tree s)) (stmt_tree d))
  stmt_tree (while p e s) = parse_tree (n.While p) (trees_and (trees_and no_trees (expr_tree e)) (stmt_tree s))
  stmt_tree (for p a b c s) = parse_tree (n.For p) (trees_and (trees_and (trees_and (trees_and no_trees (start_tree a)) (optional_tree b)) (optional_tree c)) (stmt_tree s))
  stmt_tree (return p o) = parse_tree (n.Return p) (trees_and no_trees (optional_tree o))
  stmt_tree (jump p j) = parse_tree (n.Jump p j) no_trees
  stmt_tree (throw p e) = parse_tree (n.Throw p) (trees_and no_trees (expr_tree e))
  stmt_tree (try p s m d) = parse_tree (n.Try p) (trees_and (trees_and (trees_and no_trees (stmt_tree s)) (parse_tree (n.Word m) no_trees)) (stmt_tree d))
  stmt_tree (block p ss) = parse_tree (n.Block p (stmts_count ss)) (stmts_trees ss no_trees)
  stmt_tree (empty p) = parse_tree (n.Empty p) no_trees

  pub exprs_trees : Exprs → ParseTrees → ParseTrees
  exprs_trees no_exprs rs = rs
  exprs_trees (exprs_and es e) rs = trees_and (exprs_trees es rs) (expr_tree e)

  pub attributes_trees : Attributes → ParseTrees → ParseTrees
  attributes_trees no_attributes rs = rs
  attributes_trees (attributes_and ats a) rs = trees_and (attributes_trees ats rs) (attribute_tree a)

  pub children_trees : Children → ParseTrees → ParseTrees
  children_trees no_children rs = rs
  children_trees (children_and cs c) rs = trees_and (children_trees cs rs) (child_tree c)

  pub decls_trees : Decls → ParseTrees → ParseTrees
  decls_trees no_decls rs = rs
  decls_trees (decls_and ds d) rs = trees_and (decls_trees ds rs) (decl_tree d)

  pub stmts_trees : Stmts → ParseTrees → ParseTrees
  stmts_trees no_stmts rs = rs
  stmts_trees (stmts_and ss s) rs = trees_and (stmts_trees ss rs) (stmt_tree s)

  pub props_trees : Props → ParseTrees → ParseTrees
  props_trees no_props rs = rs
  props_trees (props_and ps k e) rs = trees_and (trees_and (props_trees ps rs) (key_tree k)) (expr_tree e)
