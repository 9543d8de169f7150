-- The tree of a program, with the texts of its tokens as they are spelled. Rows stand with the last item outermost.
use Rattle.std.specs.Prelude.{ℕ, ◌+◌, Bool, true, false, List, Option}
use Rattle.mt_tree.specs.declared.place.Place.{Place}
use Rattle.mt_tree.specs.declared.operators.Binary.{Binary}
use Rattle.mt_tree.specs.declared.operators.StepKind.{StepKind}
use Rattle.mt_tree.specs.declared.operators.Unary.{Unary}
use Rattle.mt_tree.specs.declared.operators.VarKind.{VarKind}
use Rattle.mt_grammar.specs.declared.terminal.Constant.{Constant}
use Rattle.mt_grammar.specs.declared.terminal.Heading.{Heading}
use Rattle.mt_grammar.specs.declared.terminal.Heading.TheVariants as heading
use Rattle.mt_grammar.specs.declared.terminal.Infix.{Infix}
use Rattle.mt_grammar.specs.declared.terminal.Jump.{Jump}

-- a text of the source where it stands
pub record Mark : Type 0 where
  pub place : Place
  pub text : List ℕ

-- what a function is, and its name
pub data Title : Type 0 where
  a_service : Mark → Title
  a_declaration : Mark → Title
  a_named_expression : Mark → Title
  an_expression : Title

abbrev pub heading_of : Title → Heading
heading_of (a_service m) = heading.Service
heading_of (a_declaration m) = heading.Declaration
heading_of (a_named_expression m) = heading.NamedExpression
heading_of an_expression = heading.Expression

-- the key of a property
pub data Key : Type 0 where
  plain : Mark → Key
  quoted : Mark → Key

pub data Names : Type 0 where
  no_names : Names
  names_and : Names → Mark → Names

mutual
  pub data Expr : Type 0 where
    name : Mark → Expr
    number : Mark → Expr
    text : Mark → Expr
    -- the name behind a dot, which stands for a text
    property : Mark → Expr
    constant : Place → Constant → Expr
    array : Place → Exprs → Expr
    object : Place → Props → Expr
    function : Place → Title → Names → Stmts → Expr
    unary : Place → Unary → Expr → Expr
    step : Place → StepKind → Expr → Expr
    operation : Place → Infix → Expr → Expr → Expr
    condition : Place → Expr → Expr → Expr → Expr
    assign : Place → Option Binary → Expr → Expr → Expr
    index : Place → Expr → Expr → Expr
    call : Place → Expr → Exprs → Expr
    tilde : Place → Stmts → Expr
    dollar : Place → Expr → Expr
    -- its tag's name where the element begins
    element : Mark → Attributes → Children → Expr

  pub data Exprs : Type 0 where
    no_exprs : Exprs
    exprs_and : Exprs → Expr → Exprs

  pub data Props : Type 0 where
    no_props : Props
    props_and : Props → Key → Expr → Props

  pub data Attribute : Type 0 where
    attribute_plain : Mark → Attribute
    attribute_quoted : Mark → Mark → Attribute
    attribute_tilde : Mark → Expr → Attribute
    attribute_dollar : Mark → Expr → Attribute

  pub data Attributes : Type 0 where
    no_attributes : Attributes
    attributes_and : Attributes → Attribute → Attributes

  pub data Child : Type 0 where
    child_text : Mark → Child
    -- an element or a tilde
    child_direct : Expr → Child
    child_dollar : Expr → Child

  pub data Children : Type 0 where
    no_children : Children
    children_and : Children → Child → Children

  pub data Decl : Type 0 where
    decl_only : Mark → Decl
    decl_as : Mark → Expr → Decl

  pub data Decls : Type 0 where
    no_decls : Decls
    decls_and : Decls → Decl → Decls

  pub data Optional : Type 0 where
    absent : Optional
    present : Expr → Optional

  pub data Start : Type 0 where
    start_optional : Optional → Start
    start_vars : Decls → Start

  pub data Stmt : Type 0 where
    expression : Place → Expr → Stmt
    var : Place → VarKind → Decls → Stmt
    declare : Place → Title → Names → Stmts → Stmt
    if_only : Place → Expr → Stmt → Stmt
    if_else : Place → Expr → Stmt → Stmt → Stmt
    while : Place → Expr → Stmt → Stmt
    for : Place → Start → Optional → Optional → Stmt → Stmt
    return : Place → Optional → Stmt
    jump : Place → Jump → Stmt
    throw : Place → Expr → Stmt
    try : Place → Stmt → Mark → Stmt → Stmt
    block : Place → Stmts → Stmt
    empty : Place → Stmt

  pub data Stmts : Type 0 where
    no_stmts : Stmts
    stmts_and : Stmts → Stmt → Stmts

abbrev pub names_count : Names → ℕ
names_count no_names = 0
names_count (names_and ns n) = names_count ns + 1

abbrev pub exprs_count : Exprs → ℕ
exprs_count no_exprs = 0
exprs_count (exprs_and es e) = exprs_count es + 1

abbrev pub props_count : Props → ℕ
props_count no_props = 0
props_count (props_and ps k e) = props_count ps + 1

abbrev pub attributes_count : Attributes → ℕ
attributes_count no_attributes = 0
attributes_count (attributes_and rest a) = attributes_count rest + 1

abbrev pub children_count : Children → ℕ
children_count no_children = 0
children_count (children_and cs c) = children_count cs + 1

abbrev pub decls_count : Decls → ℕ
decls_count no_decls = 0
decls_count (decls_and ds d) = decls_count ds + 1

abbrev pub stmts_count : Stmts → ℕ
stmts_count no_stmts = 0
stmts_count (stmts_and ss s) = stmts_count ss + 1

-- a name or an element of an array or object, which can be assigned to
abbrev pub is_target : Expr → Bool
is_target (name m) = true
is_target (index p a i) = true
is_target _ = false
