-- Induction over whole trees, for one property of each sort.
use Rattle.std.proofs.Common.{subst}
use Rattle.mt_syntax.specs.Sort.{Sort}
use Rattle.mt_syntax.specs.Sort as sort
use Rattle.mt_syntax.specs.Fold.{Tree, ExprKindLayer, ForStartLayer, MarkupChildLayer, MarkupValueLayer, StmtKindLayer, DeclLayer, ExprLayer, FunctionLayer, MarkupLayer, MarkupAttributeLayer, PropLayer, StmtLayer}
use Rattle.mt_syntax.specs.declared.tree.ExprKind.{roll-ExprKind}
use Rattle.mt_syntax.specs.declared.tree.ForStart.{roll-ForStart}
use Rattle.mt_syntax.specs.declared.tree.MarkupChild.{roll-MarkupChild}
use Rattle.mt_syntax.specs.declared.tree.MarkupValue.{roll-MarkupValue}
use Rattle.mt_syntax.specs.declared.tree.StmtKind.{roll-StmtKind}
use Rattle.mt_syntax.specs.declared.tree.Decl.{roll-Decl}
use Rattle.mt_syntax.specs.declared.tree.Expr.{roll-Expr}
use Rattle.mt_syntax.specs.declared.tree.Function.{roll-Function}
use Rattle.mt_syntax.specs.declared.tree.Markup.{roll-Markup}
use Rattle.mt_syntax.specs.declared.tree.MarkupAttribute.{roll-MarkupAttribute}
use Rattle.mt_syntax.specs.declared.tree.Prop.{roll-Prop}
use Rattle.mt_syntax.specs.declared.tree.Stmt.{Stmt, roll-Stmt}
use Rattle.mt_syntax.specs.declared.tree.ExprKind.TheFolds.{ind-Stmt}
use Rattle.mt_syntax_laws.proofs.Layers.{map_expr_kind, map_for_start, map_markup_child, map_markup_value, map_stmt_kind, map_decl, map_expr, map_function, map_markup, map_markup_attribute, map_prop, map_stmt}

module _ (H : (s : Sort) → Tree s → Type 0) where
  -- a tree with its property
  abbrev pub Held : Sort → Type 0
  Held s = (t : Tree s) × H s t

  abbrev pub tree : (s : Sort) → Held s → Tree s
  tree s h = h.0

  -- a node has the property, where its parts have theirs
  pub record Inherited : Type 0 where
    pub expr_kind : (y : ExprKindLayer Held) → H sort.ExprKind (roll-ExprKind (map_expr_kind tree y))
    pub for_start : (y : ForStartLayer Held) → H sort.ForStart (roll-ForStart (map_for_start tree y))
    pub markup_child : (y : MarkupChildLayer Held) → H sort.MarkupChild (roll-MarkupChild (map_markup_child tree y))
    pub markup_value : (y : MarkupValueLayer Held) → H sort.MarkupValue (roll-MarkupValue (map_markup_value tree y))
    pub stmt_kind : (y : StmtKindLayer Held) → H sort.StmtKind (roll-StmtKind (map_stmt_kind tree y))
    pub decl : (y : DeclLayer Held) → H sort.Decl (roll-Decl (map_decl tree y))
    pub expr : (y : ExprLayer Held) → H sort.Expr (roll-Expr (map_expr tree y))
    pub function : (y : FunctionLayer Held) → H sort.Function (roll-Function (map_function tree y))
    pub markup : (y : MarkupLayer Held) → H sort.Markup (roll-Markup (map_markup tree y))
    pub markup_attribute : (y : MarkupAttributeLayer Held) → H sort.MarkupAttribute (roll-MarkupAttribute (map_markup_attribute tree y))
    pub prop : (y : PropLayer Held) → H sort.Prop (roll-Prop (map_prop tree y))
    pub stmt : (y : StmtLayer Held) → H sort.Stmt (roll-Stmt (map_stmt tree y))

  pub stmt_has : Inherited → (t : Stmt) → H sort.Stmt t
  stmt_has steps =
      ind-Stmt (H sort.ExprKind) (H sort.ForStart) (H sort.MarkupChild) (H sort.MarkupValue) (H sort.StmtKind) (H sort.Decl) (H sort.Expr) (H sort.Function) (H sort.Markup) (H sort.MarkupAttribute) (H sort.Prop) (H sort.Stmt)
      (λ x y is. subst (λ z. H sort.ExprKind (roll-ExprKind z)) is (steps.expr_kind y))
      (λ x y is. subst (λ z. H sort.ForStart (roll-ForStart z)) is (steps.for_start y))
      (λ x y is. subst (λ z. H sort.MarkupChild (roll-MarkupChild z)) is (steps.markup_child y))
      (λ x y is. subst (λ z. H sort.MarkupValue (roll-MarkupValue z)) is (steps.markup_value y))
      (λ x y is. subst (λ z. H sort.StmtKind (roll-StmtKind z)) is (steps.stmt_kind y))
      (λ x y is. subst (λ z. H sort.Decl (roll-Decl z)) is (steps.decl y))
      (λ x y is. subst (λ z. H sort.Expr (roll-Expr z)) is (steps.expr y))
      (λ x y is. subst (λ z. H sort.Function (roll-Function z)) is (steps.function y))
      (λ x y is. subst (λ z. H sort.Markup (roll-Markup z)) is (steps.markup y))
      (λ x y is. subst (λ z. H sort.MarkupAttribute (roll-MarkupAttribute z)) is (steps.markup_attribute y))
      (λ x y is. subst (λ z. H sort.Prop (roll-Prop z)) is (steps.prop y))
      (λ x y is. subst (λ z. H sort.Stmt (roll-Stmt z)) is (steps.stmt y))
