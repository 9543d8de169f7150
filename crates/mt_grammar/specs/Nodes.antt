-- The nodes of a tree in the order in which they are finished: each comes after those in it.
use Rattle.std.specs.Prelude.{ℕ, List, [], ◌∷◌, ◌++◌, Option}
use Rattle.mt_tree.specs.declared.place.Place.{Place}
use Rattle.mt_tree.specs.declared.operators.Binary.{Binary}
use Rattle.mt_tree.specs.declared.operators.StepKind.{StepKind}
use Rattle.mt_tree.specs.declared.operators.Unary.{Unary as UnarySign}
use Rattle.mt_tree.specs.declared.operators.VarKind.{VarKind}
use Rattle.mt_grammar.specs.declared.terminal.Constant.{Constant as ConstantWord}
use Rattle.mt_grammar.specs.declared.terminal.Heading.{Heading}
use Rattle.mt_grammar.specs.declared.terminal.Infix.{Infix}
use Rattle.mt_grammar.specs.declared.terminal.Jump.{Jump as JumpWord}
use Rattle.mt_grammar.specs.Tree.{Mark, Title, a_service, a_declaration, a_named_expression, an_expression, heading_of, Key, plain, quoted, Names, no_names, names_and, names_count, Expr, name, number, text, property, constant, array, object, function, unary, step, operation, condition, assign, index, call, tilde, dollar, element, Exprs, no_exprs, exprs_and, exprs_count, Props, no_props, props_and, props_count, Attribute, attribute_plain, attribute_quoted, attribute_tilde, attribute_dollar, Attributes, no_attributes, attributes_and, attributes_count, Child, child_text, child_direct, child_dollar, Children, no_children, children_and, children_count, Decl, decl_only, decl_as, Decls, no_decls, decls_and, decls_count, Optional, absent, present, Start, start_optional, start_vars, Stmt, expression, var, declare, if_only, if_else, while, for, return, jump, throw, try, block, empty, Stmts, no_stmts, stmts_and, stmts_count}

-- a number in a node counts the nodes in it
pub data Node : Type 0 where
  Name : Mark → Node
  Number : Mark → Node
  Text : Mark → Node
  Property : Mark → Node
  Constant : Place → ConstantWord → Node
  Array : Place → ℕ → Node
  Object : Place → ℕ → Node
  Function : Place → Heading → ℕ → ℕ → Node
  Unary : Place → UnarySign → Node
  Step : Place → StepKind → Node
  Operation : Place → Infix → Node
  Condition : Place → Node
  Assign : Place → Option Binary → Node
  Index : Place → Node
  Call : Place → ℕ → Node
  Tilde : Place → ℕ → Node
  Dollar : Place → Node
  Element : Place → ℕ → ℕ → Node
  -- a name that is no expression: of a function, a parameter, a key, a caught value or a tag
  Word : Mark → Node
  QuotedKey : Mark → Node
  AttributeName : Mark → Node
  AttributeQuoted : Mark → Node
  AttributeTilde : Node
  AttributeDollar : Node
  ChildText : Mark → Node
  ChildDirect : Node
  ChildDollar : Node
  DeclName : Mark → Node
  DeclValue : Node
  Absent : Node
  Present : Node
  StartOptional : Node
  StartVars : ℕ → Node
  Expression : Place → Node
  Var : Place → VarKind → ℕ → Node
  Declare : Place → Heading → ℕ → ℕ → Node
  If : Place → Node
  IfElse : Place → Node
  While : Place → Node
  For : Place → Node
  Return : Place → Node
  Jump : Place → JumpWord → Node
  Throw : Place → Node
  Try : Place → Node
  Block : Place → ℕ → Node
  Empty : Place → Node

abbrev pub Nodes : Type 0
Nodes = List Node

-- Each function below appends the nodes of a tree to those that stand there.

abbrev pub names_nodes : Names → Nodes → Nodes
names_nodes no_names out = out
names_nodes (names_and ns m) out = names_nodes ns out ++ Word m ∷ []

abbrev pub title_nodes : Title → Nodes → Nodes
title_nodes (a_service m) out = out ++ Word m ∷ []
title_nodes (a_declaration m) out = out ++ Word m ∷ []
title_nodes (a_named_expression m) out = out ++ Word m ∷ []
title_nodes an_expression out = out

abbrev pub key_node : Key → Node
key_node (plain m) = Word m
key_node (quoted m) = QuotedKey m

unfoldable mutual
  pub expr_nodes : Expr → Nodes → Nodes
  expr_nodes (name m) out = out ++ Name m ∷ []
  expr_nodes (number m) out = out ++ Number m ∷ []
  expr_nodes (text m) out = out ++ Text m ∷ []
  expr_nodes (property m) out = out ++ Property m ∷ []
  expr_nodes (constant p c) out = out ++ Constant p c ∷ []
  expr_nodes (array p es) out = exprs_nodes es out ++ Array p (exprs_count es) ∷ []
  expr_nodes (object p ps) out = props_nodes ps out ++ Object p (props_count ps) ∷ []
  expr_nodes (function p h ns ss) out = stmts_nodes ss (names_nodes ns (title_nodes h out)) ++ Function p (heading_of h) (names_count ns) (stmts_count ss) ∷ []
  expr_nodes (unary p u a) out = expr_nodes a out ++ Unary p u ∷ []
  expr_nodes (step p k a) out = expr_nodes a out ++ Step p k ∷ []
  expr_nodes (operation p o a b) out = expr_nodes b (expr_nodes a out) ++ Operation p o ∷ []
  expr_nodes (condition p a b d) out = expr_nodes d (expr_nodes b (expr_nodes a out)) ++ Condition p ∷ []
  expr_nodes (assign p o a e) out = expr_nodes e (expr_nodes a out) ++ Assign p o ∷ []
  expr_nodes (index p a i) out = expr_nodes i (expr_nodes a out) ++ Index p ∷ []
  expr_nodes (call p a es) out = exprs_nodes es (expr_nodes a out) ++ Call p (exprs_count es) ∷ []
  expr_nodes (tilde p ss) out = stmts_nodes ss out ++ Tilde p (stmts_count ss) ∷ []
  expr_nodes (dollar p e) out = expr_nodes e out ++ Dollar p ∷ []
  expr_nodes (element m ats cs) out = children_nodes cs (attributes_nodes ats (out ++ Word m ∷ [])) ++ Element m.place (attributes_count ats) (children_count cs) ∷ []

  pub exprs_nodes : Exprs → Nodes → Nodes
  exprs_nodes no_exprs out = out
  exprs_nodes (exprs_and es e) out = expr_nodes e (exprs_nodes es out)

  pub props_nodes : Props → Nodes → Nodes
  props_nodes no_props out = out
  props_nodes (props_and ps k e) out = expr_nodes e (props_nodes ps out ++ key_node k ∷ [])

  pub attribute_nodes : Attribute → Nodes → Nodes
  attribute_nodes (attribute_plain m) out = out ++ AttributeName m ∷ []
  attribute_nodes (attribute_quoted m v) out = out ++ AttributeName m ∷ [] ++ AttributeQuoted v ∷ []
  attribute_nodes (attribute_tilde m e) out = expr_nodes e (out ++ AttributeName m ∷ []) ++ AttributeTilde ∷ []
  attribute_nodes (attribute_dollar m e) out = expr_nodes e (out ++ AttributeName m ∷ []) ++ AttributeDollar ∷ []

  pub attributes_nodes : Attributes → Nodes → Nodes
  attributes_nodes no_attributes out = out
  attributes_nodes (attributes_and ats a) out = attribute_nodes a (attributes_nodes ats out)

  pub child_nodes : Child → Nodes → Nodes
  child_nodes (child_text m) out = out ++ ChildText m ∷ []
  child_nodes (child_direct e) out = expr_nodes e out ++ ChildDirect ∷ []
  child_nodes (child_dollar e) out = expr_nodes e out ++ ChildDollar ∷ []

  pub children_nodes : Children → Nodes → Nodes
  children_nodes no_children out = out
  children_nodes (children_and cs c) out = child_nodes c (children_nodes cs out)

  pub decl_nodes : Decl → Nodes → Nodes
  decl_nodes (decl_only m) out = out ++ DeclName m ∷ []
  decl_nodes (decl_as m e) out = expr_nodes e (out ++ DeclName m ∷ []) ++ DeclValue ∷ []

  pub decls_nodes : Decls → Nodes → Nodes
  decls_nodes no_decls out = out
  decls_nodes (decls_and ds d) out = decl_nodes d (decls_nodes ds out)

  pub optional_nodes : Optional → Nodes → Nodes
  optional_nodes absent out = out ++ Absent ∷ []
  optional_nodes (present e) out = expr_nodes e out ++ Present ∷ []

  pub start_nodes : Start → Nodes → Nodes
  start_nodes (start_optional o) out = optional_nodes o out ++ StartOptional ∷ []
  start_nodes (start_vars ds) out = decls_nodes ds out ++ StartVars (decls_count ds) ∷ []

  pub stmt_nodes : Stmt → Nodes → Nodes
  stmt_nodes (expression p e) out = expr_nodes e out ++ Expression p ∷ []
  stmt_nodes (var p k ds) out = decls_nodes ds out ++ Var p k (decls_count ds) ∷ []
  stmt_nodes (declare p h ns ss) out = stmts_nodes ss (names_nodes ns (title_nodes h out)) ++ Declare p (heading_of h) (names_count ns) (stmts_count ss) ∷ []
  stmt_nodes (if_only p e s) out = stmt_nodes s (expr_nodes e out) ++ If p ∷ []
  stmt_nodes (if_else p e s d) out = stmt_nodes d (stmt_nodes s (expr_nodes e out)) ++ IfElse p ∷ []
  stmt_nodes (while p e s) out = stmt_nodes s (expr_nodes e out) ++ While p ∷ []
  stmt_nodes (for p a b c s) out = stmt_nodes s (optional_nodes c (optional_nodes b (start_nodes a out))) ++ For p ∷ []
  stmt_nodes (return p o) out = optional_nodes o out ++ Return p ∷ []
  stmt_nodes (jump p j) out = out ++ Jump p j ∷ []
  stmt_nodes (throw p e) out = expr_nodes e out ++ Throw p ∷ []
  stmt_nodes (try p s m d) out = stmt_nodes d (stmt_nodes s out ++ Word m ∷ []) ++ Try p ∷ []
  stmt_nodes (block p ss) out = stmts_nodes ss out ++ Block p (stmts_count ss) ∷ []
  stmt_nodes (empty p) out = out ++ Empty p ∷ []

  pub stmts_nodes : Stmts → Nodes → Nodes
  stmts_nodes no_stmts out = out
  stmts_nodes (stmts_and ss s) out = stmt_nodes s (stmts_nodes ss out)
