-- The texts of a spelled tree, and a limit on the bytes of each.
use Rattle.std.proofs.Common.{ℕ, ◌≤◌, length}
use Rattle.mt_grammar.specs.Tree.{Mark, Title, a_service, a_declaration, a_named_expression, an_expression, Key, plain, quoted, Names, no_names, names_and, Expr, name, number, text, property, constant, array, object, function, unary, step, operation, condition, assign, index, call, tilde, dollar, element, Exprs, no_exprs, exprs_and, Props, no_props, props_and, Attribute, attribute_plain, attribute_quoted, attribute_tilde, attribute_dollar, Attributes, no_attributes, attributes_and, Child, child_text, child_direct, child_dollar, Children, no_children, children_and, Decl, decl_only, decl_as, Decls, no_decls, decls_and, Optional, absent, present, Start, start_optional, start_vars, Stmt, expression, var, declare, if_only, if_else, while, for, return, jump, throw, try, block, empty, Stmts, no_stmts, stmts_and}

module _ (limit : ℕ) where
  abbrev pub ShortMark : Mark → Type 0
  ShortMark m = length m.text ≤ limit

  abbrev pub ShortTitle : Title → Type 0
  ShortTitle (a_service m) = ShortMark m
  ShortTitle (a_declaration m) = ShortMark m
  ShortTitle (a_named_expression m) = ShortMark m
  ShortTitle an_expression = Unit {0}

  abbrev pub ShortKey : Key → Type 0
  ShortKey (plain m) = ShortMark m
  ShortKey (quoted m) = ShortMark m

  abbrev pub ShortNames : Names → Type 0
  ShortNames no_names = Unit {0}
  ShortNames (names_and ns m) = ShortNames ns × ShortMark m

  -- the length of each text of the tree is bounded, in bytes; a number has no text
  abbrev mutual
    pub ShortExpr : Expr → Type 0
    ShortExpr (name m) = ShortMark m
    ShortExpr (number m) = Unit {0}
    ShortExpr (text m) = ShortMark m
    ShortExpr (property m) = ShortMark m
    ShortExpr (constant p c) = Unit {0}
    ShortExpr (array p es) = ShortExprs es
    ShortExpr (object p ps) = ShortProps ps
    ShortExpr (function p h ns ss) = ShortTitle h × ShortNames ns × ShortStmts ss
    ShortExpr (unary p u a) = ShortExpr a
    ShortExpr (step p d a) = ShortExpr a
    ShortExpr (operation p o a b) = ShortExpr a × ShortExpr b
    ShortExpr (condition p a b c) = ShortExpr a × ShortExpr b × ShortExpr c
    ShortExpr (assign p o a b) = ShortExpr a × ShortExpr b
    ShortExpr (index p a b) = ShortExpr a × ShortExpr b
    ShortExpr (call p a es) = ShortExpr a × ShortExprs es
    ShortExpr (tilde p ss) = ShortStmts ss
    ShortExpr (dollar p e) = ShortExpr e
    ShortExpr (element m ats cs) = ShortMark m × ShortAttributes ats × ShortChildren cs

    pub ShortExprs : Exprs → Type 0
    ShortExprs no_exprs = Unit {0}
    ShortExprs (exprs_and es e) = ShortExprs es × ShortExpr e

    pub ShortProps : Props → Type 0
    ShortProps no_props = Unit {0}
    ShortProps (props_and ps key e) = ShortProps ps × ShortKey key × ShortExpr e

    pub ShortAttribute : Attribute → Type 0
    ShortAttribute (attribute_plain m) = ShortMark m
    ShortAttribute (attribute_quoted m v) = ShortMark m × ShortMark v
    ShortAttribute (attribute_tilde m e) = ShortMark m × ShortExpr e
    ShortAttribute (attribute_dollar m e) = ShortMark m × ShortExpr e

    pub ShortAttributes : Attributes → Type 0
    ShortAttributes no_attributes = Unit {0}
    ShortAttributes (attributes_and ats a) = ShortAttributes ats × ShortAttribute a

    pub ShortChild : Child → Type 0
    ShortChild (child_text m) = ShortMark m
    ShortChild (child_direct e) = ShortExpr e
    ShortChild (child_dollar e) = ShortExpr e

    pub ShortChildren : Children → Type 0
    ShortChildren no_children = Unit {0}
    ShortChildren (children_and cs c) = ShortChildren cs × ShortChild c

    pub ShortDecl : Decl → Type 0
    ShortDecl (decl_only m) = ShortMark m
    ShortDecl (decl_as m e) = ShortMark m × ShortExpr e

    pub ShortDecls : Decls → Type 0
    ShortDecls no_decls = Unit {0}
    ShortDecls (decls_and ds d) = ShortDecls ds × ShortDecl d

    pub ShortOptional : Optional → Type 0
    ShortOptional absent = Unit {0}
    ShortOptional (present e) = ShortExpr e

    pub ShortStart : Start → Type 0
    ShortStart (start_optional o) = ShortOptional o
    ShortStart (start_vars ds) = ShortDecls ds

    pub ShortStmt : Stmt → Type 0
    ShortStmt (expression p e) = ShortExpr e
    ShortStmt (var p d ds) = ShortDecls ds
    ShortStmt (declare p h ns ss) = ShortTitle h × ShortNames ns × ShortStmts ss
    ShortStmt (if_only p e b) = ShortExpr e × ShortStmt b
    ShortStmt (if_else p e b c) = ShortExpr e × ShortStmt b × ShortStmt c
    ShortStmt (while p e b) = ShortExpr e × ShortStmt b
    ShortStmt (for p a b c d) = ShortStart a × ShortOptional b × ShortOptional c × ShortStmt d
    ShortStmt (return p o) = ShortOptional o
    ShortStmt (jump p j) = Unit {0}
    ShortStmt (throw p e) = ShortExpr e
    ShortStmt (try p a m b) = ShortStmt a × ShortMark m × ShortStmt b
    ShortStmt (block p ss) = ShortStmts ss
    ShortStmt (empty p) = Unit {0}

    pub ShortStmts : Stmts → Type 0
    ShortStmts no_stmts = Unit {0}
    ShortStmts (stmts_and ss s) = ShortStmts ss × ShortStmt s
