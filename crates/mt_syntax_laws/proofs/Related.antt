-- Induction over whole trees: where two functions on trees are related at each node, given that they are related at the node's
-- parts, they are related at every tree.
use Rattle.std.specs.Prelude.{◌≡◌}
use Rattle.std.proofs.Common.{sym, ap, ◌∙◌, subst}
use Rattle.mt_syntax.specs.Sort.{Sort}
use Rattle.mt_syntax.specs.Sort as sort
use Rattle.mt_syntax.specs.Fold.{Steps, Tree, ExprKindLayer, ForStartLayer, MarkupChildLayer, MarkupValueLayer, StmtKindLayer, DeclLayer, ExprLayer, FunctionLayer, MarkupLayer, MarkupAttributeLayer, PropLayer, StmtLayer, on_expr_kind, on_for_start, on_markup_child, on_markup_value, on_stmt_kind, on_decl, on_expr, on_function, on_markup, on_markup_attribute, on_prop, on_stmt}
use Rattle.mt_syntax_laws.proofs.Layers.{map_expr_kind, map_for_start, map_markup_child, map_markup_value, map_stmt_kind, map_decl, map_expr, map_function, map_markup, map_markup_attribute, map_prop, map_stmt, expr_kind_twice, for_start_twice, markup_child_twice, markup_value_twice, stmt_kind_twice, decl_twice, expr_twice, function_twice, markup_twice, markup_attribute_twice, prop_twice, stmt_twice}
use Rattle.mt_syntax.specs.declared.tree.ExprKind.{ExprKind, roll-ExprKind}
use Rattle.mt_syntax.specs.declared.tree.ForStart.{ForStart, roll-ForStart}
use Rattle.mt_syntax.specs.declared.tree.MarkupChild.{MarkupChild, roll-MarkupChild}
use Rattle.mt_syntax.specs.declared.tree.MarkupValue.{MarkupValue, roll-MarkupValue}
use Rattle.mt_syntax.specs.declared.tree.StmtKind.{StmtKind, roll-StmtKind}
use Rattle.mt_syntax.specs.declared.tree.Decl.{Decl, roll-Decl}
use Rattle.mt_syntax.specs.declared.tree.Expr.{Expr, roll-Expr}
use Rattle.mt_syntax.specs.declared.tree.Function.{Function, roll-Function}
use Rattle.mt_syntax.specs.declared.tree.Markup.{Markup, roll-Markup}
use Rattle.mt_syntax.specs.declared.tree.MarkupAttribute.{MarkupAttribute, roll-MarkupAttribute}
use Rattle.mt_syntax.specs.declared.tree.Prop.{Prop, roll-Prop}
use Rattle.mt_syntax.specs.declared.tree.Stmt.{Stmt, roll-Stmt}
use Rattle.mt_syntax.specs.declared.tree.ExprKind.TheFolds.{ind-ExprKind, fold-roll-ExprKind, ind-ForStart, fold-roll-ForStart, ind-MarkupChild, fold-roll-MarkupChild, ind-MarkupValue, fold-roll-MarkupValue, ind-StmtKind, fold-roll-StmtKind, ind-Decl, fold-roll-Decl, ind-Expr, fold-roll-Expr, ind-Function, fold-roll-Function, ind-Markup, fold-roll-Markup, ind-MarkupAttribute, fold-roll-MarkupAttribute, ind-Prop, fold-roll-Prop, ind-Stmt, fold-roll-Stmt}

-- the function that the steps give, on a tree of any sort
module _ {A : Sort → Type 0} (steps : Steps A) where
  abbrev pub on : (s : Sort) → Tree s → A s
  on sort.ExprKind = on_expr_kind steps
  on sort.ForStart = on_for_start steps
  on sort.MarkupChild = on_markup_child steps
  on sort.MarkupValue = on_markup_value steps
  on sort.StmtKind = on_stmt_kind steps
  on sort.Decl = on_decl steps
  on sort.Expr = on_expr steps
  on sort.Function = on_function steps
  on sort.Markup = on_markup steps
  on sort.MarkupAttribute = on_markup_attribute steps
  on sort.Prop = on_prop steps
  on sort.Stmt = on_stmt steps

  -- what it gives at one node
  pub at_expr_kind : (x : ExprKindLayer Tree) → on_expr_kind steps (roll-ExprKind x) ≡ steps.expr_kind (map_expr_kind on x)
  at_expr_kind = fold-roll-ExprKind (A sort.ExprKind) (A sort.ForStart) (A sort.MarkupChild) (A sort.MarkupValue) (A sort.StmtKind) (A sort.Decl) (A sort.Expr) (A sort.Function) (A sort.Markup) (A sort.MarkupAttribute) (A sort.Prop) (A sort.Stmt) steps.expr_kind steps.for_start steps.markup_child steps.markup_value steps.stmt_kind steps.decl steps.expr steps.function steps.markup steps.markup_attribute steps.prop steps.stmt

  pub at_for_start : (x : ForStartLayer Tree) → on_for_start steps (roll-ForStart x) ≡ steps.for_start (map_for_start on x)
  at_for_start = fold-roll-ForStart (A sort.ExprKind) (A sort.ForStart) (A sort.MarkupChild) (A sort.MarkupValue) (A sort.StmtKind) (A sort.Decl) (A sort.Expr) (A sort.Function) (A sort.Markup) (A sort.MarkupAttribute) (A sort.Prop) (A sort.Stmt) steps.expr_kind steps.for_start steps.markup_child steps.markup_value steps.stmt_kind steps.decl steps.expr steps.function steps.markup steps.markup_attribute steps.prop steps.stmt

  pub at_markup_child : (x : MarkupChildLayer Tree) → on_markup_child steps (roll-MarkupChild x) ≡ steps.markup_child (map_markup_child on x)
  at_markup_child = fold-roll-MarkupChild (A sort.ExprKind) (A sort.ForStart) (A sort.MarkupChild) (A sort.MarkupValue) (A sort.StmtKind) (A sort.Decl) (A sort.Expr) (A sort.Function) (A sort.Markup) (A sort.MarkupAttribute) (A sort.Prop) (A sort.Stmt) steps.expr_kind steps.for_start steps.markup_child steps.markup_value steps.stmt_kind steps.decl steps.expr steps.function steps.markup steps.markup_attribute steps.prop steps.stmt

  pub at_markup_value : (x : MarkupValueLayer Tree) → on_markup_value steps (roll-MarkupValue x) ≡ steps.markup_value (map_markup_value on x)
  at_markup_value = fold-roll-MarkupValue (A sort.ExprKind) (A sort.ForStart) (A sort.MarkupChild) (A sort.MarkupValue) (A sort.StmtKind) (A sort.Decl) (A sort.Expr) (A sort.Function) (A sort.Markup) (A sort.MarkupAttribute) (A sort.Prop) (A sort.Stmt) steps.expr_kind steps.for_start steps.markup_child steps.markup_value steps.stmt_kind steps.decl steps.expr steps.function steps.markup steps.markup_attribute steps.prop steps.stmt

  pub at_stmt_kind : (x : StmtKindLayer Tree) → on_stmt_kind steps (roll-StmtKind x) ≡ steps.stmt_kind (map_stmt_kind on x)
  at_stmt_kind = fold-roll-StmtKind (A sort.ExprKind) (A sort.ForStart) (A sort.MarkupChild) (A sort.MarkupValue) (A sort.StmtKind) (A sort.Decl) (A sort.Expr) (A sort.Function) (A sort.Markup) (A sort.MarkupAttribute) (A sort.Prop) (A sort.Stmt) steps.expr_kind steps.for_start steps.markup_child steps.markup_value steps.stmt_kind steps.decl steps.expr steps.function steps.markup steps.markup_attribute steps.prop steps.stmt

  pub at_decl : (x : DeclLayer Tree) → on_decl steps (roll-Decl x) ≡ steps.decl (map_decl on x)
  at_decl = fold-roll-Decl (A sort.ExprKind) (A sort.ForStart) (A sort.MarkupChild) (A sort.MarkupValue) (A sort.StmtKind) (A sort.Decl) (A sort.Expr) (A sort.Function) (A sort.Markup) (A sort.MarkupAttribute) (A sort.Prop) (A sort.Stmt) steps.expr_kind steps.for_start steps.markup_child steps.markup_value steps.stmt_kind steps.decl steps.expr steps.function steps.markup steps.markup_attribute steps.prop steps.stmt

  pub at_expr : (x : ExprLayer Tree) → on_expr steps (roll-Expr x) ≡ steps.expr (map_expr on x)
  at_expr = fold-roll-Expr (A sort.ExprKind) (A sort.ForStart) (A sort.MarkupChild) (A sort.MarkupValue) (A sort.StmtKind) (A sort.Decl) (A sort.Expr) (A sort.Function) (A sort.Markup) (A sort.MarkupAttribute) (A sort.Prop) (A sort.Stmt) steps.expr_kind steps.for_start steps.markup_child steps.markup_value steps.stmt_kind steps.decl steps.expr steps.function steps.markup steps.markup_attribute steps.prop steps.stmt

  pub at_function : (x : FunctionLayer Tree) → on_function steps (roll-Function x) ≡ steps.function (map_function on x)
  at_function = fold-roll-Function (A sort.ExprKind) (A sort.ForStart) (A sort.MarkupChild) (A sort.MarkupValue) (A sort.StmtKind) (A sort.Decl) (A sort.Expr) (A sort.Function) (A sort.Markup) (A sort.MarkupAttribute) (A sort.Prop) (A sort.Stmt) steps.expr_kind steps.for_start steps.markup_child steps.markup_value steps.stmt_kind steps.decl steps.expr steps.function steps.markup steps.markup_attribute steps.prop steps.stmt

  pub at_markup : (x : MarkupLayer Tree) → on_markup steps (roll-Markup x) ≡ steps.markup (map_markup on x)
  at_markup = fold-roll-Markup (A sort.ExprKind) (A sort.ForStart) (A sort.MarkupChild) (A sort.MarkupValue) (A sort.StmtKind) (A sort.Decl) (A sort.Expr) (A sort.Function) (A sort.Markup) (A sort.MarkupAttribute) (A sort.Prop) (A sort.Stmt) steps.expr_kind steps.for_start steps.markup_child steps.markup_value steps.stmt_kind steps.decl steps.expr steps.function steps.markup steps.markup_attribute steps.prop steps.stmt

  pub at_markup_attribute : (x : MarkupAttributeLayer Tree) → on_markup_attribute steps (roll-MarkupAttribute x) ≡ steps.markup_attribute (map_markup_attribute on x)
  at_markup_attribute = fold-roll-MarkupAttribute (A sort.ExprKind) (A sort.ForStart) (A sort.MarkupChild) (A sort.MarkupValue) (A sort.StmtKind) (A sort.Decl) (A sort.Expr) (A sort.Function) (A sort.Markup) (A sort.MarkupAttribute) (A sort.Prop) (A sort.Stmt) steps.expr_kind steps.for_start steps.markup_child steps.markup_value steps.stmt_kind steps.decl steps.expr steps.function steps.markup steps.markup_attribute steps.prop steps.stmt

  pub at_prop : (x : PropLayer Tree) → on_prop steps (roll-Prop x) ≡ steps.prop (map_prop on x)
  at_prop = fold-roll-Prop (A sort.ExprKind) (A sort.ForStart) (A sort.MarkupChild) (A sort.MarkupValue) (A sort.StmtKind) (A sort.Decl) (A sort.Expr) (A sort.Function) (A sort.Markup) (A sort.MarkupAttribute) (A sort.Prop) (A sort.Stmt) steps.expr_kind steps.for_start steps.markup_child steps.markup_value steps.stmt_kind steps.decl steps.expr steps.function steps.markup steps.markup_attribute steps.prop steps.stmt

  pub at_stmt : (x : StmtLayer Tree) → on_stmt steps (roll-Stmt x) ≡ steps.stmt (map_stmt on x)
  at_stmt = fold-roll-Stmt (A sort.ExprKind) (A sort.ForStart) (A sort.MarkupChild) (A sort.MarkupValue) (A sort.StmtKind) (A sort.Decl) (A sort.Expr) (A sort.Function) (A sort.Markup) (A sort.MarkupAttribute) (A sort.Prop) (A sort.Stmt) steps.expr_kind steps.for_start steps.markup_child steps.markup_value steps.stmt_kind steps.decl steps.expr steps.function steps.markup steps.markup_attribute steps.prop steps.stmt

module _ {A B : Sort → Type 0} (R : (s : Sort) → A s → B s → Type 0) where
  -- two results on one part, which are related
  pub record Two (s : Sort) : Type 0 where
    pub left : A s
    pub right : B s
    pub holds : R s left right

  abbrev pub lefts : (s : Sort) → Two s → A s
  lefts s p = p.left

  abbrev pub rights : (s : Sort) → Two s → B s
  rights s p = p.right

module _ {A B : Sort → Type 0} (a : Steps A) (b : Steps B) (R : (s : Sort) → A s → B s → Type 0) where
  -- the results on a node are related, where those on its parts are
  pub record Preserved : Type 0 where
    pub expr_kind : (x : ExprKindLayer (Two R)) → R sort.ExprKind (a.expr_kind (map_expr_kind (lefts R) x)) (b.expr_kind (map_expr_kind (rights R) x))
    pub for_start : (x : ForStartLayer (Two R)) → R sort.ForStart (a.for_start (map_for_start (lefts R) x)) (b.for_start (map_for_start (rights R) x))
    pub markup_child : (x : MarkupChildLayer (Two R)) → R sort.MarkupChild (a.markup_child (map_markup_child (lefts R) x)) (b.markup_child (map_markup_child (rights R) x))
    pub markup_value : (x : MarkupValueLayer (Two R)) → R sort.MarkupValue (a.markup_value (map_markup_value (lefts R) x)) (b.markup_value (map_markup_value (rights R) x))
    pub stmt_kind : (x : StmtKindLayer (Two R)) → R sort.StmtKind (a.stmt_kind (map_stmt_kind (lefts R) x)) (b.stmt_kind (map_stmt_kind (rights R) x))
    pub decl : (x : DeclLayer (Two R)) → R sort.Decl (a.decl (map_decl (lefts R) x)) (b.decl (map_decl (rights R) x))
    pub expr : (x : ExprLayer (Two R)) → R sort.Expr (a.expr (map_expr (lefts R) x)) (b.expr (map_expr (rights R) x))
    pub function : (x : FunctionLayer (Two R)) → R sort.Function (a.function (map_function (lefts R) x)) (b.function (map_function (rights R) x))
    pub markup : (x : MarkupLayer (Two R)) → R sort.Markup (a.markup (map_markup (lefts R) x)) (b.markup (map_markup (rights R) x))
    pub markup_attribute : (x : MarkupAttributeLayer (Two R)) → R sort.MarkupAttribute (a.markup_attribute (map_markup_attribute (lefts R) x)) (b.markup_attribute (map_markup_attribute (rights R) x))
    pub prop : (x : PropLayer (Two R)) → R sort.Prop (a.prop (map_prop (lefts R) x)) (b.prop (map_prop (rights R) x))
    pub stmt : (x : StmtLayer (Two R)) → R sort.Stmt (a.stmt (map_stmt (lefts R) x)) (b.stmt (map_stmt (rights R) x))

  abbrev Holds : (s : Sort) → Tree s → Type 0
  Holds s t = R s (on a s t) (on b s t)

  abbrev Held : Sort → Type 0
  Held s = (t : Tree s) × Holds s t

  abbrev tree : (s : Sort) → Held s → Tree s
  tree s h = h.0

  abbrev two : (s : Sort) → Held s → Two R s
  two s h = record { left = on a s h.0; right = on b s h.0; holds = h.1 }

  module _ (preserved : Preserved) where
    expr_kind_holds : (x : ExprKindLayer Tree) (y : ExprKindLayer Held) → map_expr_kind tree y ≡ x → Holds sort.ExprKind (roll-ExprKind x)
    expr_kind_holds x y is =
        let left : a.expr_kind (map_expr_kind (lefts R) (map_expr_kind two y)) ≡ on_expr_kind a (roll-ExprKind x) =
        ap a.expr_kind (expr_kind_twice two (lefts R) y ∙ sym (expr_kind_twice tree (on a) y) ∙ ap (map_expr_kind (on a)) is) ∙ sym (at_expr_kind a x) in
        let right : b.expr_kind (map_expr_kind (rights R) (map_expr_kind two y)) ≡ on_expr_kind b (roll-ExprKind x) =
        ap b.expr_kind (expr_kind_twice two (rights R) y ∙ sym (expr_kind_twice tree (on b) y) ∙ ap (map_expr_kind (on b)) is) ∙ sym (at_expr_kind b x) in
        subst (λ z. R sort.ExprKind (on_expr_kind a (roll-ExprKind x)) z) right (subst (λ z. R sort.ExprKind z (b.expr_kind (map_expr_kind (rights R) (map_expr_kind two y)))) left (preserved.expr_kind (map_expr_kind two y)))

    for_start_holds : (x : ForStartLayer Tree) (y : ForStartLayer Held) → map_for_start tree y ≡ x → Holds sort.ForStart (roll-ForStart x)
    for_start_holds x y is =
        let left : a.for_start (map_for_start (lefts R) (map_for_start two y)) ≡ on_for_start a (roll-ForStart x) =
        ap a.for_start (for_start_twice two (lefts R) y ∙ sym (for_start_twice tree (on a) y) ∙ ap (map_for_start (on a)) is) ∙ sym (at_for_start a x) in
        let right : b.for_start (map_for_start (rights R) (map_for_start two y)) ≡ on_for_start b (roll-ForStart x) =
        ap b.for_start (for_start_twice two (rights R) y ∙ sym (for_start_twice tree (on b) y) ∙ ap (map_for_start (on b)) is) ∙ sym (at_for_start b x) in
        subst (λ z. R sort.ForStart (on_for_start a (roll-ForStart x)) z) right (subst (λ z. R sort.ForStart z (b.for_start (map_for_start (rights R) (map_for_start two y)))) left (preserved.for_start (map_for_start two y)))

    markup_child_holds : (x : MarkupChildLayer Tree) (y : MarkupChildLayer Held) → map_markup_child tree y ≡ x → Holds sort.MarkupChild (roll-MarkupChild x)
    markup_child_holds x y is =
        let left : a.markup_child (map_markup_child (lefts R) (map_markup_child two y)) ≡ on_markup_child a (roll-MarkupChild x) =
        ap a.markup_child (markup_child_twice two (lefts R) y ∙ sym (markup_child_twice tree (on a) y) ∙ ap (map_markup_child (on a)) is) ∙ sym (at_markup_child a x) in
        let right : b.markup_child (map_markup_child (rights R) (map_markup_child two y)) ≡ on_markup_child b (roll-MarkupChild x) =
        ap b.markup_child (markup_child_twice two (rights R) y ∙ sym (markup_child_twice tree (on b) y) ∙ ap (map_markup_child (on b)) is) ∙ sym (at_markup_child b x) in
        subst (λ z. R sort.MarkupChild (on_markup_child a (roll-MarkupChild x)) z) right (subst (λ z. R sort.MarkupChild z (b.markup_child (map_markup_child (rights R) (map_markup_child two y)))) left (preserved.markup_child (map_markup_child two y)))

    markup_value_holds : (x : MarkupValueLayer Tree) (y : MarkupValueLayer Held) → map_markup_value tree y ≡ x → Holds sort.MarkupValue (roll-MarkupValue x)
    markup_value_holds x y is =
        let left : a.markup_value (map_markup_value (lefts R) (map_markup_value two y)) ≡ on_markup_value a (roll-MarkupValue x) =
        ap a.markup_value (markup_value_twice two (lefts R) y ∙ sym (markup_value_twice tree (on a) y) ∙ ap (map_markup_value (on a)) is) ∙ sym (at_markup_value a x) in
        let right : b.markup_value (map_markup_value (rights R) (map_markup_value two y)) ≡ on_markup_value b (roll-MarkupValue x) =
        ap b.markup_value (markup_value_twice two (rights R) y ∙ sym (markup_value_twice tree (on b) y) ∙ ap (map_markup_value (on b)) is) ∙ sym (at_markup_value b x) in
        subst (λ z. R sort.MarkupValue (on_markup_value a (roll-MarkupValue x)) z) right (subst (λ z. R sort.MarkupValue z (b.markup_value (map_markup_value (rights R) (map_markup_value two y)))) left (preserved.markup_value (map_markup_value two y)))

    stmt_kind_holds : (x : StmtKindLayer Tree) (y : StmtKindLayer Held) → map_stmt_kind tree y ≡ x → Holds sort.StmtKind (roll-StmtKind x)
    stmt_kind_holds x y is =
        let left : a.stmt_kind (map_stmt_kind (lefts R) (map_stmt_kind two y)) ≡ on_stmt_kind a (roll-StmtKind x) =
        ap a.stmt_kind (stmt_kind_twice two (lefts R) y ∙ sym (stmt_kind_twice tree (on a) y) ∙ ap (map_stmt_kind (on a)) is) ∙ sym (at_stmt_kind a x) in
        let right : b.stmt_kind (map_stmt_kind (rights R) (map_stmt_kind two y)) ≡ on_stmt_kind b (roll-StmtKind x) =
        ap b.stmt_kind (stmt_kind_twice two (rights R) y ∙ sym (stmt_kind_twice tree (on b) y) ∙ ap (map_stmt_kind (on b)) is) ∙ sym (at_stmt_kind b x) in
        subst (λ z. R sort.StmtKind (on_stmt_kind a (roll-StmtKind x)) z) right (subst (λ z. R sort.StmtKind z (b.stmt_kind (map_stmt_kind (rights R) (map_stmt_kind two y)))) left (preserved.stmt_kind (map_stmt_kind two y)))

    decl_holds : (x : DeclLayer Tree) (y : DeclLayer Held) → map_decl tree y ≡ x → Holds sort.Decl (roll-Decl x)
    decl_holds x y is =
        let left : a.decl (map_decl (lefts R) (map_decl two y)) ≡ on_decl a (roll-Decl x) =
        ap a.decl (decl_twice two (lefts R) y ∙ sym (decl_twice tree (on a) y) ∙ ap (map_decl (on a)) is) ∙ sym (at_decl a x) in
        let right : b.decl (map_decl (rights R) (map_decl two y)) ≡ on_decl b (roll-Decl x) =
        ap b.decl (decl_twice two (rights R) y ∙ sym (decl_twice tree (on b) y) ∙ ap (map_decl (on b)) is) ∙ sym (at_decl b x) in
        subst (λ z. R sort.Decl (on_decl a (roll-Decl x)) z) right (subst (λ z. R sort.Decl z (b.decl (map_decl (rights R) (map_decl two y)))) left (preserved.decl (map_decl two y)))

    expr_holds : (x : ExprLayer Tree) (y : ExprLayer Held) → map_expr tree y ≡ x → Holds sort.Expr (roll-Expr x)
    expr_holds x y is =
        let left : a.expr (map_expr (lefts R) (map_expr two y)) ≡ on_expr a (roll-Expr x) =
        ap a.expr (expr_twice two (lefts R) y ∙ sym (expr_twice tree (on a) y) ∙ ap (map_expr (on a)) is) ∙ sym (at_expr a x) in
        let right : b.expr (map_expr (rights R) (map_expr two y)) ≡ on_expr b (roll-Expr x) =
        ap b.expr (expr_twice two (rights R) y ∙ sym (expr_twice tree (on b) y) ∙ ap (map_expr (on b)) is) ∙ sym (at_expr b x) in
        subst (λ z. R sort.Expr (on_expr a (roll-Expr x)) z) right (subst (λ z. R sort.Expr z (b.expr (map_expr (rights R) (map_expr two y)))) left (preserved.expr (map_expr two y)))

    function_holds : (x : FunctionLayer Tree) (y : FunctionLayer Held) → map_function tree y ≡ x → Holds sort.Function (roll-Function x)
    function_holds x y is =
        let left : a.function (map_function (lefts R) (map_function two y)) ≡ on_function a (roll-Function x) =
        ap a.function (function_twice two (lefts R) y ∙ sym (function_twice tree (on a) y) ∙ ap (map_function (on a)) is) ∙ sym (at_function a x) in
        let right : b.function (map_function (rights R) (map_function two y)) ≡ on_function b (roll-Function x) =
        ap b.function (function_twice two (rights R) y ∙ sym (function_twice tree (on b) y) ∙ ap (map_function (on b)) is) ∙ sym (at_function b x) in
        subst (λ z. R sort.Function (on_function a (roll-Function x)) z) right (subst (λ z. R sort.Function z (b.function (map_function (rights R) (map_function two y)))) left (preserved.function (map_function two y)))

    markup_holds : (x : MarkupLayer Tree) (y : MarkupLayer Held) → map_markup tree y ≡ x → Holds sort.Markup (roll-Markup x)
    markup_holds x y is =
        let left : a.markup (map_markup (lefts R) (map_markup two y)) ≡ on_markup a (roll-Markup x) =
        ap a.markup (markup_twice two (lefts R) y ∙ sym (markup_twice tree (on a) y) ∙ ap (map_markup (on a)) is) ∙ sym (at_markup a x) in
        let right : b.markup (map_markup (rights R) (map_markup two y)) ≡ on_markup b (roll-Markup x) =
        ap b.markup (markup_twice two (rights R) y ∙ sym (markup_twice tree (on b) y) ∙ ap (map_markup (on b)) is) ∙ sym (at_markup b x) in
        subst (λ z. R sort.Markup (on_markup a (roll-Markup x)) z) right (subst (λ z. R sort.Markup z (b.markup (map_markup (rights R) (map_markup two y)))) left (preserved.markup (map_markup two y)))

    markup_attribute_holds : (x : MarkupAttributeLayer Tree) (y : MarkupAttributeLayer Held) → map_markup_attribute tree y ≡ x → Holds sort.MarkupAttribute (roll-MarkupAttribute x)
    markup_attribute_holds x y is =
        let left : a.markup_attribute (map_markup_attribute (lefts R) (map_markup_attribute two y)) ≡ on_markup_attribute a (roll-MarkupAttribute x) =
        ap a.markup_attribute (markup_attribute_twice two (lefts R) y ∙ sym (markup_attribute_twice tree (on a) y) ∙ ap (map_markup_attribute (on a)) is) ∙ sym (at_markup_attribute a x) in
        let right : b.markup_attribute (map_markup_attribute (rights R) (map_markup_attribute two y)) ≡ on_markup_attribute b (roll-MarkupAttribute x) =
        ap b.markup_attribute (markup_attribute_twice two (rights R) y ∙ sym (markup_attribute_twice tree (on b) y) ∙ ap (map_markup_attribute (on b)) is) ∙ sym (at_markup_attribute b x) in
        subst (λ z. R sort.MarkupAttribute (on_markup_attribute a (roll-MarkupAttribute x)) z) right (subst (λ z. R sort.MarkupAttribute z (b.markup_attribute (map_markup_attribute (rights R) (map_markup_attribute two y)))) left (preserved.markup_attribute (map_markup_attribute two y)))

    prop_holds : (x : PropLayer Tree) (y : PropLayer Held) → map_prop tree y ≡ x → Holds sort.Prop (roll-Prop x)
    prop_holds x y is =
        let left : a.prop (map_prop (lefts R) (map_prop two y)) ≡ on_prop a (roll-Prop x) =
        ap a.prop (prop_twice two (lefts R) y ∙ sym (prop_twice tree (on a) y) ∙ ap (map_prop (on a)) is) ∙ sym (at_prop a x) in
        let right : b.prop (map_prop (rights R) (map_prop two y)) ≡ on_prop b (roll-Prop x) =
        ap b.prop (prop_twice two (rights R) y ∙ sym (prop_twice tree (on b) y) ∙ ap (map_prop (on b)) is) ∙ sym (at_prop b x) in
        subst (λ z. R sort.Prop (on_prop a (roll-Prop x)) z) right (subst (λ z. R sort.Prop z (b.prop (map_prop (rights R) (map_prop two y)))) left (preserved.prop (map_prop two y)))

    stmt_holds : (x : StmtLayer Tree) (y : StmtLayer Held) → map_stmt tree y ≡ x → Holds sort.Stmt (roll-Stmt x)
    stmt_holds x y is =
        let left : a.stmt (map_stmt (lefts R) (map_stmt two y)) ≡ on_stmt a (roll-Stmt x) =
        ap a.stmt (stmt_twice two (lefts R) y ∙ sym (stmt_twice tree (on a) y) ∙ ap (map_stmt (on a)) is) ∙ sym (at_stmt a x) in
        let right : b.stmt (map_stmt (rights R) (map_stmt two y)) ≡ on_stmt b (roll-Stmt x) =
        ap b.stmt (stmt_twice two (rights R) y ∙ sym (stmt_twice tree (on b) y) ∙ ap (map_stmt (on b)) is) ∙ sym (at_stmt b x) in
        subst (λ z. R sort.Stmt (on_stmt a (roll-Stmt x)) z) right (subst (λ z. R sort.Stmt z (b.stmt (map_stmt (rights R) (map_stmt two y)))) left (preserved.stmt (map_stmt two y)))

    pub related_expr_kind : (t : ExprKind) → R sort.ExprKind (on_expr_kind a t) (on_expr_kind b t)
    related_expr_kind = ind-ExprKind (Holds sort.ExprKind) (Holds sort.ForStart) (Holds sort.MarkupChild) (Holds sort.MarkupValue) (Holds sort.StmtKind) (Holds sort.Decl) (Holds sort.Expr) (Holds sort.Function) (Holds sort.Markup) (Holds sort.MarkupAttribute) (Holds sort.Prop) (Holds sort.Stmt) expr_kind_holds for_start_holds markup_child_holds markup_value_holds stmt_kind_holds decl_holds expr_holds function_holds markup_holds markup_attribute_holds prop_holds stmt_holds

    pub related_for_start : (t : ForStart) → R sort.ForStart (on_for_start a t) (on_for_start b t)
    related_for_start = ind-ForStart (Holds sort.ExprKind) (Holds sort.ForStart) (Holds sort.MarkupChild) (Holds sort.MarkupValue) (Holds sort.StmtKind) (Holds sort.Decl) (Holds sort.Expr) (Holds sort.Function) (Holds sort.Markup) (Holds sort.MarkupAttribute) (Holds sort.Prop) (Holds sort.Stmt) expr_kind_holds for_start_holds markup_child_holds markup_value_holds stmt_kind_holds decl_holds expr_holds function_holds markup_holds markup_attribute_holds prop_holds stmt_holds

    pub related_markup_child : (t : MarkupChild) → R sort.MarkupChild (on_markup_child a t) (on_markup_child b t)
    related_markup_child = ind-MarkupChild (Holds sort.ExprKind) (Holds sort.ForStart) (Holds sort.MarkupChild) (Holds sort.MarkupValue) (Holds sort.StmtKind) (Holds sort.Decl) (Holds sort.Expr) (Holds sort.Function) (Holds sort.Markup) (Holds sort.MarkupAttribute) (Holds sort.Prop) (Holds sort.Stmt) expr_kind_holds for_start_holds markup_child_holds markup_value_holds stmt_kind_holds decl_holds expr_holds function_holds markup_holds markup_attribute_holds prop_holds stmt_holds

    pub related_markup_value : (t : MarkupValue) → R sort.MarkupValue (on_markup_value a t) (on_markup_value b t)
    related_markup_value = ind-MarkupValue (Holds sort.ExprKind) (Holds sort.ForStart) (Holds sort.MarkupChild) (Holds sort.MarkupValue) (Holds sort.StmtKind) (Holds sort.Decl) (Holds sort.Expr) (Holds sort.Function) (Holds sort.Markup) (Holds sort.MarkupAttribute) (Holds sort.Prop) (Holds sort.Stmt) expr_kind_holds for_start_holds markup_child_holds markup_value_holds stmt_kind_holds decl_holds expr_holds function_holds markup_holds markup_attribute_holds prop_holds stmt_holds

    pub related_stmt_kind : (t : StmtKind) → R sort.StmtKind (on_stmt_kind a t) (on_stmt_kind b t)
    related_stmt_kind = ind-StmtKind (Holds sort.ExprKind) (Holds sort.ForStart) (Holds sort.MarkupChild) (Holds sort.MarkupValue) (Holds sort.StmtKind) (Holds sort.Decl) (Holds sort.Expr) (Holds sort.Function) (Holds sort.Markup) (Holds sort.MarkupAttribute) (Holds sort.Prop) (Holds sort.Stmt) expr_kind_holds for_start_holds markup_child_holds markup_value_holds stmt_kind_holds decl_holds expr_holds function_holds markup_holds markup_attribute_holds prop_holds stmt_holds

    pub related_decl : (t : Decl) → R sort.Decl (on_decl a t) (on_decl b t)
    related_decl = ind-Decl (Holds sort.ExprKind) (Holds sort.ForStart) (Holds sort.MarkupChild) (Holds sort.MarkupValue) (Holds sort.StmtKind) (Holds sort.Decl) (Holds sort.Expr) (Holds sort.Function) (Holds sort.Markup) (Holds sort.MarkupAttribute) (Holds sort.Prop) (Holds sort.Stmt) expr_kind_holds for_start_holds markup_child_holds markup_value_holds stmt_kind_holds decl_holds expr_holds function_holds markup_holds markup_attribute_holds prop_holds stmt_holds

    pub related_expr : (t : Expr) → R sort.Expr (on_expr a t) (on_expr b t)
    related_expr = ind-Expr (Holds sort.ExprKind) (Holds sort.ForStart) (Holds sort.MarkupChild) (Holds sort.MarkupValue) (Holds sort.StmtKind) (Holds sort.Decl) (Holds sort.Expr) (Holds sort.Function) (Holds sort.Markup) (Holds sort.MarkupAttribute) (Holds sort.Prop) (Holds sort.Stmt) expr_kind_holds for_start_holds markup_child_holds markup_value_holds stmt_kind_holds decl_holds expr_holds function_holds markup_holds markup_attribute_holds prop_holds stmt_holds

    pub related_function : (t : Function) → R sort.Function (on_function a t) (on_function b t)
    related_function = ind-Function (Holds sort.ExprKind) (Holds sort.ForStart) (Holds sort.MarkupChild) (Holds sort.MarkupValue) (Holds sort.StmtKind) (Holds sort.Decl) (Holds sort.Expr) (Holds sort.Function) (Holds sort.Markup) (Holds sort.MarkupAttribute) (Holds sort.Prop) (Holds sort.Stmt) expr_kind_holds for_start_holds markup_child_holds markup_value_holds stmt_kind_holds decl_holds expr_holds function_holds markup_holds markup_attribute_holds prop_holds stmt_holds

    pub related_markup : (t : Markup) → R sort.Markup (on_markup a t) (on_markup b t)
    related_markup = ind-Markup (Holds sort.ExprKind) (Holds sort.ForStart) (Holds sort.MarkupChild) (Holds sort.MarkupValue) (Holds sort.StmtKind) (Holds sort.Decl) (Holds sort.Expr) (Holds sort.Function) (Holds sort.Markup) (Holds sort.MarkupAttribute) (Holds sort.Prop) (Holds sort.Stmt) expr_kind_holds for_start_holds markup_child_holds markup_value_holds stmt_kind_holds decl_holds expr_holds function_holds markup_holds markup_attribute_holds prop_holds stmt_holds

    pub related_markup_attribute : (t : MarkupAttribute) → R sort.MarkupAttribute (on_markup_attribute a t) (on_markup_attribute b t)
    related_markup_attribute = ind-MarkupAttribute (Holds sort.ExprKind) (Holds sort.ForStart) (Holds sort.MarkupChild) (Holds sort.MarkupValue) (Holds sort.StmtKind) (Holds sort.Decl) (Holds sort.Expr) (Holds sort.Function) (Holds sort.Markup) (Holds sort.MarkupAttribute) (Holds sort.Prop) (Holds sort.Stmt) expr_kind_holds for_start_holds markup_child_holds markup_value_holds stmt_kind_holds decl_holds expr_holds function_holds markup_holds markup_attribute_holds prop_holds stmt_holds

    pub related_prop : (t : Prop) → R sort.Prop (on_prop a t) (on_prop b t)
    related_prop = ind-Prop (Holds sort.ExprKind) (Holds sort.ForStart) (Holds sort.MarkupChild) (Holds sort.MarkupValue) (Holds sort.StmtKind) (Holds sort.Decl) (Holds sort.Expr) (Holds sort.Function) (Holds sort.Markup) (Holds sort.MarkupAttribute) (Holds sort.Prop) (Holds sort.Stmt) expr_kind_holds for_start_holds markup_child_holds markup_value_holds stmt_kind_holds decl_holds expr_holds function_holds markup_holds markup_attribute_holds prop_holds stmt_holds

    pub related_stmt : (t : Stmt) → R sort.Stmt (on_stmt a t) (on_stmt b t)
    related_stmt = ind-Stmt (Holds sort.ExprKind) (Holds sort.ForStart) (Holds sort.MarkupChild) (Holds sort.MarkupValue) (Holds sort.StmtKind) (Holds sort.Decl) (Holds sort.Expr) (Holds sort.Function) (Holds sort.Markup) (Holds sort.MarkupAttribute) (Holds sort.Prop) (Holds sort.Stmt) expr_kind_holds for_start_holds markup_child_holds markup_value_holds stmt_kind_holds decl_holds expr_holds function_holds markup_holds markup_attribute_holds prop_holds stmt_holds
