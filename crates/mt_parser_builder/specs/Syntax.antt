-- The nodes of the syntax tree, each with its place.
use Rattle.std.specs.Prelude.{ℕ, List, Option, None, Some, true, false}
use Rattle.mt_tree.specs.declared.place.Place.{Place}
use Rattle.mt_syntax.specs.Fold.{Tree, ExprKindLayer, StmtKindLayer}
use Rattle.mt_syntax.specs.declared.tree.Mark.{Mark}
use Rattle.mt_syntax.specs.declared.tree.Expr.{Expr, roll-Expr}
use Rattle.mt_syntax.specs.declared.tree.ExprKind.{roll-ExprKind}
use Rattle.mt_syntax.specs.declared.tree.Stmt.{Stmt, roll-Stmt}
use Rattle.mt_syntax.specs.declared.tree.StmtKind.{roll-StmtKind}
use Rattle.mt_syntax.specs.declared.tree.Decl.{Decl, roll-Decl}
use Rattle.mt_syntax.specs.declared.tree.Prop.{Prop, roll-Prop}
use Rattle.mt_syntax.specs.declared.tree.Function.{Function, roll-Function}
use Rattle.mt_syntax.specs.declared.tree.ForStart.{ForStart, roll-ForStart}
use Rattle.mt_syntax.specs.declared.tree.Markup.{Markup, roll-Markup}
use Rattle.mt_syntax.specs.declared.tree.MarkupAttribute.{MarkupAttribute, roll-MarkupAttribute}
use Rattle.mt_syntax.specs.declared.tree.MarkupValue.{MarkupValue, roll-MarkupValue}
use Rattle.mt_syntax.specs.declared.tree.MarkupChild.{MarkupChild, roll-MarkupChild}
use Rattle.mt_syntax.specs.declared.tree.ExprKind.TheOpen.{ExprKind-F, ForStart-F, MarkupChild-F, MarkupValue-F, StmtKind-F}
use Rattle.mt_grammar.specs.Tree.{Mark as Spelled}
use Rattle.mt_grammar.specs.declared.terminal.Constant.{Constant}
use Rattle.mt_grammar.specs.declared.terminal.Constant.TheVariants as constant
use Rattle.mt_grammar.specs.declared.terminal.Heading.{Heading}
use Rattle.mt_grammar.specs.declared.terminal.Heading.TheVariants as heading
use Rattle.mt_grammar.specs.declared.terminal.Infix.{Infix}
use Rattle.mt_grammar.specs.declared.terminal.Infix.TheVariants as infix_op
use Rattle.mt_grammar.specs.declared.terminal.Jump.{Jump}
use Rattle.mt_grammar.specs.declared.terminal.Jump.TheVariants as jump_word
use Rattle.mt_parser_marks.specs.Values.{name_of}

-- a name of the source where it stands
abbrev pub mark_of : Spelled → Mark
mark_of m = record { place = m.place; name = name_of m.text }

abbrev pub expr : Place → ExprKindLayer Tree → Expr
expr p kind = roll-Expr (record { place = p; kind = roll-ExprKind kind })

abbrev pub stmt : Place → StmtKindLayer Tree → Stmt
stmt p kind = roll-Stmt (record { place = p; kind = roll-StmtKind kind })

abbrev pub decl : Mark → Option Expr → Decl
decl m value = roll-Decl (record { name = m; value = value })

abbrev pub prop : List ℕ → Expr → Prop
prop key value = roll-Prop (record { name = key; value = value })

abbrev pub function : Option Mark → List Mark → List Stmt → Function
function name parameters body = roll-Function (record { name = name; parameters = parameters; body = body })

abbrev pub attribute : Mark → MarkupValue → MarkupAttribute
attribute m value = roll-MarkupAttribute (record { name = m; value = value })

abbrev pub markup : List ℕ → List MarkupAttribute → List MarkupChild → Markup
markup tag attributes children = roll-Markup (record { tag = tag; attributes = attributes; children = children })

abbrev pub quoted_value : List ℕ → MarkupValue
quoted_value text = roll-MarkupValue (MarkupValue-F.Quoted text)

abbrev pub tilde_value : Expr → MarkupValue
tilde_value e = roll-MarkupValue (MarkupValue-F.MarkupValue::Tilde e)

abbrev pub dollar_value : Expr → MarkupValue
dollar_value e = roll-MarkupValue (MarkupValue-F.MarkupValue::Dollar e)

abbrev pub text_child : List ℕ → MarkupChild
text_child text = roll-MarkupChild (MarkupChild-F.MarkupChild::Text text)

abbrev pub direct_child : Expr → MarkupChild
direct_child e = roll-MarkupChild (MarkupChild-F.Direct e)

abbrev pub dollar_child : Expr → MarkupChild
dollar_child e = roll-MarkupChild (MarkupChild-F.MarkupChild::Dollar e)

abbrev pub start_of : Option Expr → ForStart
start_of None = roll-ForStart ForStart-F.Absent
start_of (Some e) = roll-ForStart (ForStart-F.ForStart::Expr e)

abbrev pub start_with : List Decl → ForStart
start_with decls = roll-ForStart (ForStart-F.ForStart::Var decls)

abbrev pub constant_kind : Constant → ExprKindLayer Tree
constant_kind constant.True = ExprKind-F.Bool true
constant_kind constant.False = ExprKind-F.Bool false
constant_kind constant.Null = ExprKind-F.Null
constant_kind constant.Undefined = ExprKind-F.Undefined

abbrev pub infix_kind : Infix → Expr → Expr → ExprKindLayer Tree
infix_kind infix_op.Or a b = ExprKind-F.Or a b
infix_kind infix_op.And a b = ExprKind-F.And a b
infix_kind (infix_op.Binary op) a b = ExprKind-F.Binary op a b

abbrev pub jump_kind : Jump → StmtKindLayer Tree
jump_kind jump_word.Break = StmtKind-F.Break
jump_kind jump_word.Continue = StmtKind-F.Continue

abbrev pub declared_kind : Heading → Function → StmtKindLayer Tree
declared_kind heading.Service f = StmtKind-F.Service f
declared_kind _ f = StmtKind-F.Function f
