-- Any result on a substituted tree is a result on the tree itself, by the steps that substitute at each node.
use Rattle.std.specs.Prelude.{◌≡◌, ℕ, refl, List, Option, None, Some, slice_get}
use Rattle.std.proofs.Common.{ap, ◌∙◌}
use Rattle.mt_tree.specs.declared.data.Data.{Data}
use Rattle.mt_syntax.specs.Sort.{Sort}
use Rattle.mt_syntax.specs.Fold.{Steps, Tree, same, ExprKindLayer, ForStartLayer, MarkupChildLayer, MarkupValueLayer, StmtKindLayer, DeclLayer, ExprLayer, FunctionLayer, MarkupLayer, MarkupAttributeLayer, PropLayer, StmtLayer, on_expr_kind, on_for_start, on_markup_child, on_markup_value, on_stmt_kind, on_decl, on_expr, on_function, on_markup, on_markup_attribute, on_prop, on_stmt}
use Rattle.mt_syntax.specs.Substitution.{chosen, substituting, new_expr_kind, new_stmt_kind, new_decl, new_expr, new_function, new_markup_attribute, new_stmt, subst_expr_kind, subst_for_start, subst_markup_child, subst_markup_value, subst_stmt_kind, subst_decl, subst_expr, subst_function, subst_markup, subst_markup_attribute, subst_prop, subst_stmt}
use Rattle.mt_syntax_laws.proofs.Layers.{map_expr_kind, map_for_start, map_markup_child, map_markup_value, map_stmt_kind, map_decl, map_expr, map_function, map_markup, map_markup_attribute, map_prop, map_stmt, expr_kind_twice, for_start_twice, markup_child_twice, markup_value_twice, stmt_kind_twice, decl_twice, expr_twice, function_twice, markup_twice, markup_attribute_twice, prop_twice, stmt_twice}
use Rattle.mt_syntax_laws.proofs.Related.{on, at_expr_kind, at_for_start, at_markup_child, at_markup_value, at_stmt_kind, at_decl, at_expr, at_function, at_markup, at_markup_attribute, at_prop, at_stmt, Two, Preserved, related_expr_kind, related_for_start, related_markup_child, related_markup_value, related_stmt_kind, related_decl, related_expr, related_function, related_markup, related_markup_attribute, related_prop, related_stmt}
use Rattle.mt_syntax.specs.declared.tree.ExprKind.{ExprKind}
use Rattle.mt_syntax.specs.declared.tree.ForStart.{ForStart}
use Rattle.mt_syntax.specs.declared.tree.MarkupChild.{MarkupChild}
use Rattle.mt_syntax.specs.declared.tree.MarkupValue.{MarkupValue}
use Rattle.mt_syntax.specs.declared.tree.StmtKind.{StmtKind}
use Rattle.mt_syntax.specs.declared.tree.Decl.{Decl}
use Rattle.mt_syntax.specs.declared.tree.Expr.{Expr}
use Rattle.mt_syntax.specs.declared.tree.Function.{Function}
use Rattle.mt_syntax.specs.declared.tree.Markup.{Markup}
use Rattle.mt_syntax.specs.declared.tree.MarkupAttribute.{MarkupAttribute}
use Rattle.mt_syntax.specs.declared.tree.Prop.{Prop}
use Rattle.mt_syntax.specs.declared.tree.Stmt.{Stmt}
use Rattle.mt_syntax.specs.declared.tree.ExprKind.TheOpen.{ExprKind-F, StmtKind-F}

module _ (values : List Data) where
  -- to substitute at a node and to map its parts is the same in either order
  module _ {A B : Sort → Type 0} (f : (s : Sort) → A s → B s) where
    chosen_maps : (at : ℕ) (d : Option Data) → map_expr_kind f (chosen A at d) ≡ chosen B at d
    chosen_maps at None = refl
    chosen_maps at (Some d) = refl

    expr_kind_maps : (x : ExprKindLayer A) → map_expr_kind f (new_expr_kind A values x) ≡ new_expr_kind B values (map_expr_kind f x)
    expr_kind_maps (ExprKind-F.ExprKind::Dollar at) = chosen_maps at (slice_get values at)
    expr_kind_maps _ = refl

    stmt_kind_maps : (x : StmtKindLayer A) → map_stmt_kind f (new_stmt_kind A x) ≡ new_stmt_kind B (map_stmt_kind f x)
    stmt_kind_maps (StmtKind-F.Try body name handler) = refl
    stmt_kind_maps _ = refl

  module _ {B : Sort → Type 0} (steps : Steps B) where
    abbrev Same : (s : Sort) → Tree s → B s → Type 0
    Same s t x = on steps s t ≡ x

    abbrev both_ways : Sort → Type 0
    both_ways = Two Same

    abbrev left : (s : Sort) → both_ways s → Tree s
    left s p = p.left

    abbrev right : (s : Sort) → both_ways s → B s
    right s p = p.right

    expr_kind_agrees : (x : ExprKindLayer both_ways) → map_expr_kind (on steps) (map_expr_kind left x) ≡ map_expr_kind right x
    expr_kind_agrees x = expr_kind_twice left (on steps) x ∙ (λ i. map_expr_kind {A = both_ways} {B = B} (λ s p. p.holds i) x)

    for_start_agrees : (x : ForStartLayer both_ways) → map_for_start (on steps) (map_for_start left x) ≡ map_for_start right x
    for_start_agrees x = for_start_twice left (on steps) x ∙ (λ i. map_for_start {A = both_ways} {B = B} (λ s p. p.holds i) x)

    markup_child_agrees : (x : MarkupChildLayer both_ways) → map_markup_child (on steps) (map_markup_child left x) ≡ map_markup_child right x
    markup_child_agrees x = markup_child_twice left (on steps) x ∙ (λ i. map_markup_child {A = both_ways} {B = B} (λ s p. p.holds i) x)

    markup_value_agrees : (x : MarkupValueLayer both_ways) → map_markup_value (on steps) (map_markup_value left x) ≡ map_markup_value right x
    markup_value_agrees x = markup_value_twice left (on steps) x ∙ (λ i. map_markup_value {A = both_ways} {B = B} (λ s p. p.holds i) x)

    stmt_kind_agrees : (x : StmtKindLayer both_ways) → map_stmt_kind (on steps) (map_stmt_kind left x) ≡ map_stmt_kind right x
    stmt_kind_agrees x = stmt_kind_twice left (on steps) x ∙ (λ i. map_stmt_kind {A = both_ways} {B = B} (λ s p. p.holds i) x)

    decl_agrees : (x : DeclLayer both_ways) → map_decl (on steps) (map_decl left x) ≡ map_decl right x
    decl_agrees x = decl_twice left (on steps) x ∙ (λ i. map_decl {A = both_ways} {B = B} (λ s p. p.holds i) x)

    expr_agrees : (x : ExprLayer both_ways) → map_expr (on steps) (map_expr left x) ≡ map_expr right x
    expr_agrees x = expr_twice left (on steps) x ∙ (λ i. map_expr {A = both_ways} {B = B} (λ s p. p.holds i) x)

    function_agrees : (x : FunctionLayer both_ways) → map_function (on steps) (map_function left x) ≡ map_function right x
    function_agrees x = function_twice left (on steps) x ∙ (λ i. map_function {A = both_ways} {B = B} (λ s p. p.holds i) x)

    markup_agrees : (x : MarkupLayer both_ways) → map_markup (on steps) (map_markup left x) ≡ map_markup right x
    markup_agrees x = markup_twice left (on steps) x ∙ (λ i. map_markup {A = both_ways} {B = B} (λ s p. p.holds i) x)

    markup_attribute_agrees : (x : MarkupAttributeLayer both_ways) → map_markup_attribute (on steps) (map_markup_attribute left x) ≡ map_markup_attribute right x
    markup_attribute_agrees x = markup_attribute_twice left (on steps) x ∙ (λ i. map_markup_attribute {A = both_ways} {B = B} (λ s p. p.holds i) x)

    prop_agrees : (x : PropLayer both_ways) → map_prop (on steps) (map_prop left x) ≡ map_prop right x
    prop_agrees x = prop_twice left (on steps) x ∙ (λ i. map_prop {A = both_ways} {B = B} (λ s p. p.holds i) x)

    stmt_agrees : (x : StmtLayer both_ways) → map_stmt (on steps) (map_stmt left x) ≡ map_stmt right x
    stmt_agrees x = stmt_twice left (on steps) x ∙ (λ i. map_stmt {A = both_ways} {B = B} (λ s p. p.holds i) x)

    preserved : Preserved (substituting Tree values same) (substituting B values steps) Same
    preserved = record {
      expr_kind = λ x. at_expr_kind steps (new_expr_kind Tree values (map_expr_kind left x)) ∙ ap steps.expr_kind (expr_kind_maps (on steps) (map_expr_kind left x) ∙ ap (new_expr_kind B values) (expr_kind_agrees x));
      for_start = λ x. at_for_start steps (map_for_start left x) ∙ ap steps.for_start (for_start_agrees x);
      markup_child = λ x. at_markup_child steps (map_markup_child left x) ∙ ap steps.markup_child (markup_child_agrees x);
      markup_value = λ x. at_markup_value steps (map_markup_value left x) ∙ ap steps.markup_value (markup_value_agrees x);
      stmt_kind = λ x. at_stmt_kind steps (new_stmt_kind Tree (map_stmt_kind left x)) ∙ ap steps.stmt_kind (stmt_kind_maps (on steps) (map_stmt_kind left x) ∙ ap (new_stmt_kind B) (stmt_kind_agrees x));
      decl = λ x. at_decl steps (new_decl Tree (map_decl left x)) ∙ ap (λ z. steps.decl (new_decl B z)) (decl_agrees x);
      expr = λ x. at_expr steps (new_expr Tree (map_expr left x)) ∙ ap (λ z. steps.expr (new_expr B z)) (expr_agrees x);
      function = λ x. at_function steps (new_function Tree (map_function left x)) ∙ ap (λ z. steps.function (new_function B z)) (function_agrees x);
      markup = λ x. at_markup steps (map_markup left x) ∙ ap steps.markup (markup_agrees x);
      markup_attribute = λ x. at_markup_attribute steps (new_markup_attribute Tree (map_markup_attribute left x)) ∙ ap (λ z. steps.markup_attribute (new_markup_attribute B z)) (markup_attribute_agrees x);
      prop = λ x. at_prop steps (map_prop left x) ∙ ap steps.prop (prop_agrees x);
      stmt = λ x. at_stmt steps (new_stmt Tree (map_stmt left x)) ∙ ap (λ z. steps.stmt (new_stmt B z)) (stmt_agrees x);
    }

    pub expr_kind_substituted : (t : ExprKind) → on_expr_kind steps (subst_expr_kind values t) ≡ on_expr_kind (substituting B values steps) t
    expr_kind_substituted = related_expr_kind (substituting Tree values same) (substituting B values steps) Same preserved

    pub for_start_substituted : (t : ForStart) → on_for_start steps (subst_for_start values t) ≡ on_for_start (substituting B values steps) t
    for_start_substituted = related_for_start (substituting Tree values same) (substituting B values steps) Same preserved

    pub markup_child_substituted : (t : MarkupChild) → on_markup_child steps (subst_markup_child values t) ≡ on_markup_child (substituting B values steps) t
    markup_child_substituted = related_markup_child (substituting Tree values same) (substituting B values steps) Same preserved

    pub markup_value_substituted : (t : MarkupValue) → on_markup_value steps (subst_markup_value values t) ≡ on_markup_value (substituting B values steps) t
    markup_value_substituted = related_markup_value (substituting Tree values same) (substituting B values steps) Same preserved

    pub stmt_kind_substituted : (t : StmtKind) → on_stmt_kind steps (subst_stmt_kind values t) ≡ on_stmt_kind (substituting B values steps) t
    stmt_kind_substituted = related_stmt_kind (substituting Tree values same) (substituting B values steps) Same preserved

    pub decl_substituted : (t : Decl) → on_decl steps (subst_decl values t) ≡ on_decl (substituting B values steps) t
    decl_substituted = related_decl (substituting Tree values same) (substituting B values steps) Same preserved

    pub expr_substituted : (t : Expr) → on_expr steps (subst_expr values t) ≡ on_expr (substituting B values steps) t
    expr_substituted = related_expr (substituting Tree values same) (substituting B values steps) Same preserved

    pub function_substituted : (t : Function) → on_function steps (subst_function values t) ≡ on_function (substituting B values steps) t
    function_substituted = related_function (substituting Tree values same) (substituting B values steps) Same preserved

    pub markup_substituted : (t : Markup) → on_markup steps (subst_markup values t) ≡ on_markup (substituting B values steps) t
    markup_substituted = related_markup (substituting Tree values same) (substituting B values steps) Same preserved

    pub markup_attribute_substituted : (t : MarkupAttribute) → on_markup_attribute steps (subst_markup_attribute values t) ≡ on_markup_attribute (substituting B values steps) t
    markup_attribute_substituted = related_markup_attribute (substituting Tree values same) (substituting B values steps) Same preserved

    pub prop_substituted : (t : Prop) → on_prop steps (subst_prop values t) ≡ on_prop (substituting B values steps) t
    prop_substituted = related_prop (substituting Tree values same) (substituting B values steps) Same preserved

    pub stmt_substituted : (t : Stmt) → on_stmt steps (subst_stmt values t) ≡ on_stmt (substituting B values steps) t
    stmt_substituted = related_stmt (substituting Tree values same) (substituting B values steps) Same preserved
