-- Which spelled trees have the form that the grammar gives.
use Rattle.std.proofs.Common.{◌≡◌, ℕ, Bool, true, false, ◌&&◌, List}
use Rattle.std.specs.Str.{encode_utf8_all}
use Rattle.mt_tree.specs.Tables.{is_void_tag}
use Rattle.mt_syntax.specs.Names.{is_attribute_name, is_name, is_tag_name}
use Rattle.mt_syntax.specs.Shape.{is_assignment, is_some_item, opens_none}
use Rattle.mt_tree.specs.declared.operators.VarKind.{VarKind}
use Rattle.mt_tree.specs.declared.operators.VarKind.TheVariants as var_kind
use Rattle.mt_grammar.specs.Tree.{Mark, Title, a_service, a_declaration, a_named_expression, an_expression, Names, no_names, names_and, Expr, name, number, text, property, constant, array, object, function, unary, step, operation, condition, assign, index, call, tilde, dollar, element, Exprs, no_exprs, exprs_and, Props, no_props, props_and, Attribute, attribute_plain, attribute_quoted, attribute_tilde, attribute_dollar, Attributes, no_attributes, attributes_and, Child, child_text, child_direct, child_dollar, Children, no_children, children_and, Decl, decl_only, decl_as, Decls, no_decls, decls_and, Optional, absent, present, Start, start_optional, start_vars, Stmt, expression, var, declare, if_only, if_else, while, for, return, jump, throw, try, block, empty, Stmts, no_stmts, stmts_and, is_target}
use Rattle.mt_parser_marks.specs.Values.{name_of, child_text_of}

-- ---- words

abbrev pub NameFits : Mark → Type 0
NameFits m = is_name (name_of m.text) ≡ true

-- the name of a tag, which is ASCII
pub record TagFits (text : List ℕ) : Type 0 where
  pub is_tag : is_tag_name (name_of text) ≡ true
  pub spelled : encode_utf8_all (name_of text) ≡ text

abbrev pub AttributeNameFits : Mark → Type 0
AttributeNameFits m = is_attribute_name (name_of m.text) ≡ true

-- a text of an element has a character, and opens neither a dollar nor a tilde
pub record TextFits (text : List ℕ) : Type 0 where
  pub some : is_some_item (child_text_of text) ≡ true
  pub opens : opens_none (child_text_of text) ≡ true

abbrev pub TitleFits : Title → Type 0
TitleFits (a_service m) = NameFits m
TitleFits (a_declaration m) = NameFits m
TitleFits (a_named_expression m) = NameFits m
TitleFits an_expression = Unit {0}

abbrev pub NamesFit : Names → Type 0
NamesFit no_names = Unit {0}
NamesFit (names_and ns m) = NamesFit ns × NameFits m

-- ---- what a node wants of the nodes in it

abbrev pub IsTilde : Expr → Type 0
IsTilde (tilde p ss) = Unit {0}
IsTilde e = ⊥

abbrev pub IsDirect : Expr → Type 0
IsDirect (tilde p ss) = Unit {0}
IsDirect (element m ats cs) = Unit {0}
IsDirect e = ⊥

abbrev pub IsBlock : Stmt → Type 0
IsBlock (block p ss) = Unit {0}
IsBlock s = ⊥

abbrev pub IsStatement : Stmt → Type 0
IsStatement (declare p h ns ss) = ⊥
IsStatement s = Unit {0}

-- a declaration has the name of its function or service
abbrev pub IsNamed : Title → Type 0
IsNamed an_expression = ⊥
IsNamed h = Unit {0}

abbrev pub AreStatements : Stmts → Type 0
AreStatements no_stmts = Unit {0}
AreStatements (stmts_and ss s) = AreStatements ss × IsStatement s

abbrev pub is_text : Child → Bool
is_text (child_text m) = true
is_text c = false

abbrev pub ends_in_text : Children → Bool
ends_in_text no_children = false
ends_in_text (children_and cs c) = is_text c

-- no text stands beside another
abbrev pub AreApart : Children → Type 0
AreApart no_children = Unit {0}
AreApart (children_and cs c) = AreApart cs × ((ends_in_text cs && is_text c) ≡ false)

abbrev pub has_child : Children → Bool
has_child no_children = false
has_child (children_and cs c) = true

abbrev pub IsSomeDecl : Decls → Type 0
IsSomeDecl no_decls = ⊥
IsSomeDecl (decls_and ds d) = Unit {0}

abbrev pub HasValue : Decl → Type 0
HasValue (decl_only m) = ⊥
HasValue (decl_as m e) = Unit {0}

abbrev pub HaveValues : Decls → Type 0
HaveValues no_decls = Unit {0}
HaveValues (decls_and ds d) = HaveValues ds × HasValue d

-- a declaration by this word
abbrev pub DeclaresBy : VarKind → Decls → Type 0
DeclaresBy var_kind.Const ds = IsSomeDecl ds × HaveValues ds
DeclaresBy d ds = IsSomeDecl ds

-- ---- each tree

abbrev mutual
  pub ExprFits : Expr → Type 0
  ExprFits (name m) = NameFits m
  ExprFits (number m) = Unit {0}
  ExprFits (text m) = Unit {0}
  ExprFits (property m) = Unit {0}
  ExprFits (constant p c) = Unit {0}
  ExprFits (array p es) = ExprsFit es
  ExprFits (object p ps) = PropsFit ps
  ExprFits (function p h ns ss) = TitleFits h × NamesFit ns × StmtsFit ss
  ExprFits (unary p u a) = ExprFits a
  ExprFits (step p d a) = (is_target a ≡ true) × ExprFits a
  ExprFits (operation p o a b) = ExprFits a × ExprFits b
  ExprFits (condition p a b c) = ExprFits a × ExprFits b × ExprFits c
  ExprFits (assign p o a b) = (is_assignment o ≡ true) × (is_target a ≡ true) × ExprFits a × ExprFits b
  ExprFits (index p a b) = ExprFits a × ExprFits b
  ExprFits (call p a es) = ExprFits a × ExprsFit es
  ExprFits (tilde p ss) = StmtsFit ss
  ExprFits (dollar p e) = ExprFits e
  ExprFits (element m ats cs) = TagFits m.text × AttributesFit ats × ChildrenFit cs × AreApart cs × ((is_void_tag m.text && has_child cs) ≡ false)

  pub ExprsFit : Exprs → Type 0
  ExprsFit no_exprs = Unit {0}
  ExprsFit (exprs_and es e) = ExprsFit es × ExprFits e

  pub PropsFit : Props → Type 0
  PropsFit no_props = Unit {0}
  PropsFit (props_and ps key e) = PropsFit ps × ExprFits e

  pub AttributeFits : Attribute → Type 0
  AttributeFits (attribute_plain m) = AttributeNameFits m
  AttributeFits (attribute_quoted m v) = AttributeNameFits m
  AttributeFits (attribute_tilde m e) = AttributeNameFits m × IsTilde e × ExprFits e
  AttributeFits (attribute_dollar m e) = AttributeNameFits m × ExprFits e

  pub AttributesFit : Attributes → Type 0
  AttributesFit no_attributes = Unit {0}
  AttributesFit (attributes_and ats a) = AttributesFit ats × AttributeFits a

  pub ChildFits : Child → Type 0
  ChildFits (child_text m) = TextFits m.text
  ChildFits (child_direct e) = IsDirect e × ExprFits e
  ChildFits (child_dollar e) = ExprFits e

  pub ChildrenFit : Children → Type 0
  ChildrenFit no_children = Unit {0}
  ChildrenFit (children_and cs c) = ChildrenFit cs × ChildFits c

  pub DeclFits : Decl → Type 0
  DeclFits (decl_only m) = NameFits m
  DeclFits (decl_as m e) = NameFits m × ExprFits e

  pub DeclsFit : Decls → Type 0
  DeclsFit no_decls = Unit {0}
  DeclsFit (decls_and ds d) = DeclsFit ds × DeclFits d

  pub OptionalFits : Optional → Type 0
  OptionalFits absent = Unit {0}
  OptionalFits (present e) = ExprFits e

  pub StartFits : Start → Type 0
  StartFits (start_optional o) = OptionalFits o
  StartFits (start_vars ds) = IsSomeDecl ds × DeclsFit ds

  pub StmtFits : Stmt → Type 0
  StmtFits (expression p e) = ExprFits e
  StmtFits (var p d ds) = DeclaresBy d ds × DeclsFit ds
  StmtFits (declare p h ns ss) = IsNamed h × TitleFits h × NamesFit ns × StmtsFit ss
  StmtFits (if_only p e b) = ExprFits e × IsBlock b × StmtFits b
  StmtFits (if_else p e b c) = ExprFits e × IsBlock b × StmtFits b × IsBlock c × StmtFits c
  StmtFits (while p e b) = ExprFits e × IsBlock b × StmtFits b
  StmtFits (for p a b c d) = StartFits a × OptionalFits b × OptionalFits c × IsBlock d × StmtFits d
  StmtFits (return p o) = OptionalFits o
  StmtFits (jump p j) = Unit {0}
  StmtFits (throw p e) = ExprFits e
  StmtFits (try p a m b) = IsBlock a × StmtFits a × NameFits m × IsBlock b × StmtFits b
  StmtFits (block p ss) = AreStatements ss × StmtsFit ss
  StmtFits (empty p) = Unit {0}

  pub StmtsFit : Stmts → Type 0
  StmtsFit no_stmts = Unit {0}
  StmtsFit (stmts_and ss s) = StmtsFit ss × StmtFits s
