-- Functions on whole syntax trees. Each is given by its steps: what it makes of one node, where it has put its result in the
-- place of each part of the node. In a layer a `Row` is a list, a `Boxed` is what it holds, and a `Text` its characters.
use Rattle.mt_syntax.specs.Sort.{Sort}
use Rattle.mt_syntax.specs.Sort as sort
use Rattle.mt_syntax.specs.declared.tree.ExprKind.{ExprKind, roll-ExprKind}
use Rattle.mt_syntax.specs.declared.tree.ForStart.{ForStart, roll-ForStart}
use Rattle.mt_syntax.specs.declared.tree.MarkupChild.{MarkupChild, roll-MarkupChild}
use Rattle.mt_syntax.specs.declared.tree.MarkupValue.{MarkupValue, roll-MarkupValue}
use Rattle.mt_syntax.specs.declared.tree.StmtKind.{StmtKind, roll-StmtKind}
use Rattle.mt_syntax.specs.declared.tree.Decl.{Decl, roll-Decl}
use Rattle.mt_syntax.specs.declared.tree.Expr.{Expr, roll-Expr}
use Rattle.mt_syntax.specs.declared.tree.Function.{Function, roll-Function}
use Rattle.mt_syntax.specs.declared.tree.Markup.{Markup, roll-Markup}
use Rattle.mt_syntax.specs.declared.tree.MarkupAttribute.{MarkupAttribute, roll-MarkupAttribute}
use Rattle.mt_syntax.specs.declared.tree.Prop.{Prop, roll-Prop}
use Rattle.mt_syntax.specs.declared.tree.Stmt.{Stmt, roll-Stmt}
use Rattle.mt_syntax.specs.declared.tree.ExprKind.TheOpen.{ExprKind-F, ForStart-F, MarkupChild-F, MarkupValue-F, StmtKind-F, Decl-F, Expr-F, Function-F, Markup-F, MarkupAttribute-F, Prop-F, Stmt-F}
use Rattle.mt_syntax.specs.declared.tree.ExprKind.TheFolds.{fold-ExprKind, fold-ForStart, fold-MarkupChild, fold-MarkupValue, fold-StmtKind, fold-Decl, fold-Expr, fold-Function, fold-Markup, fold-MarkupAttribute, fold-Prop, fold-Stmt}

-- the node of each sort, with a result of the family in the place of each part
module _ (A : Sort → Type 0) where
  abbrev pub ExprKindLayer : Type 0
  ExprKindLayer = ExprKind-F (A sort.ExprKind) (A sort.ForStart) (A sort.MarkupChild) (A sort.MarkupValue) (A sort.StmtKind) (A sort.Decl) (A sort.Expr) (A sort.Function) (A sort.Markup) (A sort.MarkupAttribute) (A sort.Prop) (A sort.Stmt)

  abbrev pub ForStartLayer : Type 0
  ForStartLayer = ForStart-F (A sort.ExprKind) (A sort.ForStart) (A sort.MarkupChild) (A sort.MarkupValue) (A sort.StmtKind) (A sort.Decl) (A sort.Expr) (A sort.Function) (A sort.Markup) (A sort.MarkupAttribute) (A sort.Prop) (A sort.Stmt)

  abbrev pub MarkupChildLayer : Type 0
  MarkupChildLayer = MarkupChild-F (A sort.ExprKind) (A sort.ForStart) (A sort.MarkupChild) (A sort.MarkupValue) (A sort.StmtKind) (A sort.Decl) (A sort.Expr) (A sort.Function) (A sort.Markup) (A sort.MarkupAttribute) (A sort.Prop) (A sort.Stmt)

  abbrev pub MarkupValueLayer : Type 0
  MarkupValueLayer = MarkupValue-F (A sort.ExprKind) (A sort.ForStart) (A sort.MarkupChild) (A sort.MarkupValue) (A sort.StmtKind) (A sort.Decl) (A sort.Expr) (A sort.Function) (A sort.Markup) (A sort.MarkupAttribute) (A sort.Prop) (A sort.Stmt)

  abbrev pub StmtKindLayer : Type 0
  StmtKindLayer = StmtKind-F (A sort.ExprKind) (A sort.ForStart) (A sort.MarkupChild) (A sort.MarkupValue) (A sort.StmtKind) (A sort.Decl) (A sort.Expr) (A sort.Function) (A sort.Markup) (A sort.MarkupAttribute) (A sort.Prop) (A sort.Stmt)

  abbrev pub DeclLayer : Type 0
  DeclLayer = Decl-F (A sort.ExprKind) (A sort.ForStart) (A sort.MarkupChild) (A sort.MarkupValue) (A sort.StmtKind) (A sort.Decl) (A sort.Expr) (A sort.Function) (A sort.Markup) (A sort.MarkupAttribute) (A sort.Prop) (A sort.Stmt)

  abbrev pub ExprLayer : Type 0
  ExprLayer = Expr-F (A sort.ExprKind) (A sort.ForStart) (A sort.MarkupChild) (A sort.MarkupValue) (A sort.StmtKind) (A sort.Decl) (A sort.Expr) (A sort.Function) (A sort.Markup) (A sort.MarkupAttribute) (A sort.Prop) (A sort.Stmt)

  abbrev pub FunctionLayer : Type 0
  FunctionLayer = Function-F (A sort.ExprKind) (A sort.ForStart) (A sort.MarkupChild) (A sort.MarkupValue) (A sort.StmtKind) (A sort.Decl) (A sort.Expr) (A sort.Function) (A sort.Markup) (A sort.MarkupAttribute) (A sort.Prop) (A sort.Stmt)

  abbrev pub MarkupLayer : Type 0
  MarkupLayer = Markup-F (A sort.ExprKind) (A sort.ForStart) (A sort.MarkupChild) (A sort.MarkupValue) (A sort.StmtKind) (A sort.Decl) (A sort.Expr) (A sort.Function) (A sort.Markup) (A sort.MarkupAttribute) (A sort.Prop) (A sort.Stmt)

  abbrev pub MarkupAttributeLayer : Type 0
  MarkupAttributeLayer = MarkupAttribute-F (A sort.ExprKind) (A sort.ForStart) (A sort.MarkupChild) (A sort.MarkupValue) (A sort.StmtKind) (A sort.Decl) (A sort.Expr) (A sort.Function) (A sort.Markup) (A sort.MarkupAttribute) (A sort.Prop) (A sort.Stmt)

  abbrev pub PropLayer : Type 0
  PropLayer = Prop-F (A sort.ExprKind) (A sort.ForStart) (A sort.MarkupChild) (A sort.MarkupValue) (A sort.StmtKind) (A sort.Decl) (A sort.Expr) (A sort.Function) (A sort.Markup) (A sort.MarkupAttribute) (A sort.Prop) (A sort.Stmt)

  abbrev pub StmtLayer : Type 0
  StmtLayer = Stmt-F (A sort.ExprKind) (A sort.ForStart) (A sort.MarkupChild) (A sort.MarkupValue) (A sort.StmtKind) (A sort.Decl) (A sort.Expr) (A sort.Function) (A sort.Markup) (A sort.MarkupAttribute) (A sort.Prop) (A sort.Stmt)

  pub record Steps : Type 0 where
    pub expr_kind : ExprKindLayer → A sort.ExprKind
    pub for_start : ForStartLayer → A sort.ForStart
    pub markup_child : MarkupChildLayer → A sort.MarkupChild
    pub markup_value : MarkupValueLayer → A sort.MarkupValue
    pub stmt_kind : StmtKindLayer → A sort.StmtKind
    pub decl : DeclLayer → A sort.Decl
    pub expr : ExprLayer → A sort.Expr
    pub function : FunctionLayer → A sort.Function
    pub markup : MarkupLayer → A sort.Markup
    pub markup_attribute : MarkupAttributeLayer → A sort.MarkupAttribute
    pub prop : PropLayer → A sort.Prop
    pub stmt : StmtLayer → A sort.Stmt

module _ {A : Sort → Type 0} (steps : Steps A) where
  abbrev pub on_expr_kind : ExprKind → A sort.ExprKind
  on_expr_kind = fold-ExprKind (A sort.ExprKind) (A sort.ForStart) (A sort.MarkupChild) (A sort.MarkupValue) (A sort.StmtKind) (A sort.Decl) (A sort.Expr) (A sort.Function) (A sort.Markup) (A sort.MarkupAttribute) (A sort.Prop) (A sort.Stmt) steps.expr_kind steps.for_start steps.markup_child steps.markup_value steps.stmt_kind steps.decl steps.expr steps.function steps.markup steps.markup_attribute steps.prop steps.stmt

  abbrev pub on_for_start : ForStart → A sort.ForStart
  on_for_start = fold-ForStart (A sort.ExprKind) (A sort.ForStart) (A sort.MarkupChild) (A sort.MarkupValue) (A sort.StmtKind) (A sort.Decl) (A sort.Expr) (A sort.Function) (A sort.Markup) (A sort.MarkupAttribute) (A sort.Prop) (A sort.Stmt) steps.expr_kind steps.for_start steps.markup_child steps.markup_value steps.stmt_kind steps.decl steps.expr steps.function steps.markup steps.markup_attribute steps.prop steps.stmt

  abbrev pub on_markup_child : MarkupChild → A sort.MarkupChild
  on_markup_child = fold-MarkupChild (A sort.ExprKind) (A sort.ForStart) (A sort.MarkupChild) (A sort.MarkupValue) (A sort.StmtKind) (A sort.Decl) (A sort.Expr) (A sort.Function) (A sort.Markup) (A sort.MarkupAttribute) (A sort.Prop) (A sort.Stmt) steps.expr_kind steps.for_start steps.markup_child steps.markup_value steps.stmt_kind steps.decl steps.expr steps.function steps.markup steps.markup_attribute steps.prop steps.stmt

  abbrev pub on_markup_value : MarkupValue → A sort.MarkupValue
  on_markup_value = fold-MarkupValue (A sort.ExprKind) (A sort.ForStart) (A sort.MarkupChild) (A sort.MarkupValue) (A sort.StmtKind) (A sort.Decl) (A sort.Expr) (A sort.Function) (A sort.Markup) (A sort.MarkupAttribute) (A sort.Prop) (A sort.Stmt) steps.expr_kind steps.for_start steps.markup_child steps.markup_value steps.stmt_kind steps.decl steps.expr steps.function steps.markup steps.markup_attribute steps.prop steps.stmt

  abbrev pub on_stmt_kind : StmtKind → A sort.StmtKind
  on_stmt_kind = fold-StmtKind (A sort.ExprKind) (A sort.ForStart) (A sort.MarkupChild) (A sort.MarkupValue) (A sort.StmtKind) (A sort.Decl) (A sort.Expr) (A sort.Function) (A sort.Markup) (A sort.MarkupAttribute) (A sort.Prop) (A sort.Stmt) steps.expr_kind steps.for_start steps.markup_child steps.markup_value steps.stmt_kind steps.decl steps.expr steps.function steps.markup steps.markup_attribute steps.prop steps.stmt

  abbrev pub on_decl : Decl → A sort.Decl
  on_decl = fold-Decl (A sort.ExprKind) (A sort.ForStart) (A sort.MarkupChild) (A sort.MarkupValue) (A sort.StmtKind) (A sort.Decl) (A sort.Expr) (A sort.Function) (A sort.Markup) (A sort.MarkupAttribute) (A sort.Prop) (A sort.Stmt) steps.expr_kind steps.for_start steps.markup_child steps.markup_value steps.stmt_kind steps.decl steps.expr steps.function steps.markup steps.markup_attribute steps.prop steps.stmt

  abbrev pub on_expr : Expr → A sort.Expr
  on_expr = fold-Expr (A sort.ExprKind) (A sort.ForStart) (A sort.MarkupChild) (A sort.MarkupValue) (A sort.StmtKind) (A sort.Decl) (A sort.Expr) (A sort.Function) (A sort.Markup) (A sort.MarkupAttribute) (A sort.Prop) (A sort.Stmt) steps.expr_kind steps.for_start steps.markup_child steps.markup_value steps.stmt_kind steps.decl steps.expr steps.function steps.markup steps.markup_attribute steps.prop steps.stmt

  abbrev pub on_function : Function → A sort.Function
  on_function = fold-Function (A sort.ExprKind) (A sort.ForStart) (A sort.MarkupChild) (A sort.MarkupValue) (A sort.StmtKind) (A sort.Decl) (A sort.Expr) (A sort.Function) (A sort.Markup) (A sort.MarkupAttribute) (A sort.Prop) (A sort.Stmt) steps.expr_kind steps.for_start steps.markup_child steps.markup_value steps.stmt_kind steps.decl steps.expr steps.function steps.markup steps.markup_attribute steps.prop steps.stmt

  abbrev pub on_markup : Markup → A sort.Markup
  on_markup = fold-Markup (A sort.ExprKind) (A sort.ForStart) (A sort.MarkupChild) (A sort.MarkupValue) (A sort.StmtKind) (A sort.Decl) (A sort.Expr) (A sort.Function) (A sort.Markup) (A sort.MarkupAttribute) (A sort.Prop) (A sort.Stmt) steps.expr_kind steps.for_start steps.markup_child steps.markup_value steps.stmt_kind steps.decl steps.expr steps.function steps.markup steps.markup_attribute steps.prop steps.stmt

  abbrev pub on_markup_attribute : MarkupAttribute → A sort.MarkupAttribute
  on_markup_attribute = fold-MarkupAttribute (A sort.ExprKind) (A sort.ForStart) (A sort.MarkupChild) (A sort.MarkupValue) (A sort.StmtKind) (A sort.Decl) (A sort.Expr) (A sort.Function) (A sort.Markup) (A sort.MarkupAttribute) (A sort.Prop) (A sort.Stmt) steps.expr_kind steps.for_start steps.markup_child steps.markup_value steps.stmt_kind steps.decl steps.expr steps.function steps.markup steps.markup_attribute steps.prop steps.stmt

  abbrev pub on_prop : Prop → A sort.Prop
  on_prop = fold-Prop (A sort.ExprKind) (A sort.ForStart) (A sort.MarkupChild) (A sort.MarkupValue) (A sort.StmtKind) (A sort.Decl) (A sort.Expr) (A sort.Function) (A sort.Markup) (A sort.MarkupAttribute) (A sort.Prop) (A sort.Stmt) steps.expr_kind steps.for_start steps.markup_child steps.markup_value steps.stmt_kind steps.decl steps.expr steps.function steps.markup steps.markup_attribute steps.prop steps.stmt

  abbrev pub on_stmt : Stmt → A sort.Stmt
  on_stmt = fold-Stmt (A sort.ExprKind) (A sort.ForStart) (A sort.MarkupChild) (A sort.MarkupValue) (A sort.StmtKind) (A sort.Decl) (A sort.Expr) (A sort.Function) (A sort.Markup) (A sort.MarkupAttribute) (A sort.Prop) (A sort.Stmt) steps.expr_kind steps.for_start steps.markup_child steps.markup_value steps.stmt_kind steps.decl steps.expr steps.function steps.markup steps.markup_attribute steps.prop steps.stmt

-- the family of the trees themselves, and the steps that leave a tree as it is
abbrev pub Tree : Sort → Type 0
Tree sort.ExprKind = ExprKind
Tree sort.ForStart = ForStart
Tree sort.MarkupChild = MarkupChild
Tree sort.MarkupValue = MarkupValue
Tree sort.StmtKind = StmtKind
Tree sort.Decl = Decl
Tree sort.Expr = Expr
Tree sort.Function = Function
Tree sort.Markup = Markup
Tree sort.MarkupAttribute = MarkupAttribute
Tree sort.Prop = Prop
Tree sort.Stmt = Stmt

abbrev pub same : Steps Tree
same = record {
  expr_kind = roll-ExprKind;
  for_start = roll-ForStart;
  markup_child = roll-MarkupChild;
  markup_value = roll-MarkupValue;
  stmt_kind = roll-StmtKind;
  decl = roll-Decl;
  expr = roll-Expr;
  function = roll-Function;
  markup = roll-Markup;
  markup_attribute = roll-MarkupAttribute;
  prop = roll-Prop;
  stmt = roll-Stmt;
}

-- the family of one type
abbrev pub Every : Type 0 → Sort → Type 0
Every X s = X
