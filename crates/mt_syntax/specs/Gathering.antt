-- What the nodes of a tree give, joined in text order.
use Rattle.std.specs.Prelude.{List, [], ◌∷◌, Option, None, Some}
use Rattle.mt_syntax.specs.Fold.{Every, ExprKindLayer, ForStartLayer, MarkupChildLayer, MarkupValueLayer, StmtKindLayer, Steps}
use Rattle.mt_syntax.specs.declared.tree.ExprKind.TheOpen.{ExprKind-F, ForStart-F, MarkupChild-F, MarkupValue-F, StmtKind-F}

-- `none` is what a node without parts gives.
module _ {X : Type 0} (none : X) (join : X → X → X) where
  abbrev pub all_of : List X → X
  all_of [] = none
  all_of (x ∷ xs) = join x (all_of xs)

  abbrev pub or_none : Option X → X
  or_none None = none
  or_none (Some x) = x

  abbrev pub of_expr_kind : ExprKindLayer (Every X) → X
  of_expr_kind (ExprKind-F.Arr items) = all_of items
  of_expr_kind (ExprKind-F.Obj props) = all_of props
  of_expr_kind (ExprKind-F.Fun function) = function
  of_expr_kind (ExprKind-F.Unary op a) = a
  of_expr_kind (ExprKind-F.Step op a) = a
  of_expr_kind (ExprKind-F.Binary op a b) = join a b
  of_expr_kind (ExprKind-F.And a b) = join a b
  of_expr_kind (ExprKind-F.Or a b) = join a b
  of_expr_kind (ExprKind-F.Cond a b c) = join a (join b c)
  of_expr_kind (ExprKind-F.Assign op a b) = join a b
  of_expr_kind (ExprKind-F.Index a b) = join a b
  of_expr_kind (ExprKind-F.Call a arguments) = join a (all_of arguments)
  of_expr_kind (ExprKind-F.Stray a) = a
  of_expr_kind (ExprKind-F.Markup markup) = markup
  of_expr_kind _ = none

  abbrev pub of_for_start : ForStartLayer (Every X) → X
  of_for_start ForStart-F.Absent = none
  of_for_start (ForStart-F.ForStart::Var decls) = all_of decls
  of_for_start (ForStart-F.ForStart::Expr a) = a

  abbrev pub of_markup_child : MarkupChildLayer (Every X) → X
  of_markup_child (MarkupChild-F.MarkupChild::Text text) = none
  of_markup_child (MarkupChild-F.Direct a) = a
  of_markup_child (MarkupChild-F.MarkupChild::Dollar a) = a

  abbrev pub of_markup_value : MarkupValueLayer (Every X) → X
  of_markup_value (MarkupValue-F.Quoted text) = none
  of_markup_value (MarkupValue-F.MarkupValue::Tilde a) = a
  of_markup_value (MarkupValue-F.MarkupValue::Dollar a) = a

  abbrev pub of_stmt_kind : StmtKindLayer (Every X) → X
  of_stmt_kind (StmtKind-F.StmtKind::Expr a) = a
  of_stmt_kind (StmtKind-F.StmtKind::Var kind decls) = all_of decls
  of_stmt_kind (StmtKind-F.Function function) = function
  of_stmt_kind (StmtKind-F.Service function) = function
  of_stmt_kind (StmtKind-F.If test body other) = join test (join body (or_none other))
  of_stmt_kind (StmtKind-F.While test body) = join test body
  of_stmt_kind (StmtKind-F.For start test step body) = join start (join (or_none test) (join (or_none step) body))
  of_stmt_kind (StmtKind-F.Return value) = or_none value
  of_stmt_kind StmtKind-F.Break = none
  of_stmt_kind StmtKind-F.Continue = none
  of_stmt_kind (StmtKind-F.Throw a) = a
  of_stmt_kind (StmtKind-F.Try body name handler) = join body handler
  of_stmt_kind (StmtKind-F.Block items) = all_of items
  of_stmt_kind StmtKind-F.Empty = none

  abbrev pub gathering : Steps (Every X)
  gathering = record {
    expr_kind = of_expr_kind;
    for_start = of_for_start;
    markup_child = of_markup_child;
    markup_value = of_markup_value;
    stmt_kind = of_stmt_kind;
    decl = λ d. or_none d.value;
    expr = λ e. e.kind;
    function = λ f. all_of f.body;
    markup = λ m. join (all_of m.attributes) (all_of m.children);
    markup_attribute = λ a. a.value;
    prop = λ p. p.value;
    stmt = λ s. s.kind;
  }
