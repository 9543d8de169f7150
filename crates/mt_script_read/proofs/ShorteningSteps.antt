-- Any result on a tree with short leaves is a result on the tree itself, by the steps that shorten the leaves of each node.
use Rattle.std.proofs.Common.{◌≡◌, refl, ap, ◌∙◌}
use Rattle.mt_syntax.specs.Sort.{Sort}
use Rattle.mt_syntax.specs.Fold.{Steps, Tree, same, ExprKindLayer, ForStartLayer, MarkupChildLayer, MarkupValueLayer, StmtKindLayer, DeclLayer, ExprLayer, FunctionLayer, MarkupLayer, MarkupAttributeLayer, PropLayer, StmtLayer, on_stmt}
use Rattle.mt_syntax.specs.declared.tree.Stmt.{Stmt}
use Rattle.mt_syntax.specs.declared.tree.ExprKind.TheOpen.{ExprKind-F, MarkupChild-F, MarkupValue-F, StmtKind-F}
use Rattle.mt_syntax_laws.proofs.Layers.{map_expr_kind, map_for_start, map_markup_child, map_markup_value, map_stmt_kind, map_decl, map_expr, map_function, map_markup, map_markup_attribute, map_prop, map_stmt, expr_kind_twice, for_start_twice, markup_child_twice, markup_value_twice, stmt_kind_twice, decl_twice, expr_twice, function_twice, markup_twice, markup_attribute_twice, prop_twice, stmt_twice}
use Rattle.mt_syntax_laws.proofs.Related.{on, at_expr_kind, at_for_start, at_markup_child, at_markup_value, at_stmt_kind, at_decl, at_expr, at_function, at_markup, at_markup_attribute, at_prop, at_stmt, Two, Preserved, related_stmt}
use Rattle.mt_script_read.proofs.Shortened.{shortened_decl, shortened_expr_kind, shortened_function, shortened_markup, shortened_markup_attribute, shortened_markup_child, shortened_markup_value, shortened_prop, shortened_stmt_kind, shortening}

-- to shorten the leaves of a node and to map its parts is the same in either order
module _ {A B : Sort → Type 0} (f : (s : Sort) → A s → B s) where
  expr_kind_maps : (x : ExprKindLayer A) → map_expr_kind f (shortened_expr_kind A x) ≡ shortened_expr_kind B (map_expr_kind f x)
  expr_kind_maps (ExprKind-F.Name cs) = refl
  expr_kind_maps (ExprKind-F.ExprKind::Text cs) = refl
  expr_kind_maps (ExprKind-F.Val d) = refl
  expr_kind_maps _ = refl

  markup_child_maps : (x : MarkupChildLayer A) → map_markup_child f (shortened_markup_child A x) ≡ shortened_markup_child B (map_markup_child f x)
  markup_child_maps (MarkupChild-F.MarkupChild::Text cs) = refl
  markup_child_maps _ = refl

  markup_value_maps : (x : MarkupValueLayer A) → map_markup_value f (shortened_markup_value A x) ≡ shortened_markup_value B (map_markup_value f x)
  markup_value_maps (MarkupValue-F.Quoted cs) = refl
  markup_value_maps _ = refl

  stmt_kind_maps : (x : StmtKindLayer A) → map_stmt_kind f (shortened_stmt_kind A x) ≡ shortened_stmt_kind B (map_stmt_kind f x)
  stmt_kind_maps (StmtKind-F.Try body name handler) = refl
  stmt_kind_maps _ = refl

module _ {B : Sort → Type 0} (steps : Steps B) where
  abbrev Same : (s : Sort) → Tree s → B s → Type 0
  Same s t x = on steps s t ≡ x

  abbrev both_ways : Sort → Type 0
  both_ways = Two Same

  abbrev left : (s : Sort) → both_ways s → Tree s
  left s p = p.left

  abbrev right : (s : Sort) → both_ways s → B s
  right s p = p.right

  expr_kind_agrees : (x : ExprKindLayer both_ways) → map_expr_kind (on steps) (map_expr_kind left x) ≡ map_expr_kind right x
  expr_kind_agrees x = expr_kind_twice left (on steps) x ∙ (λ i. map_expr_kind {A = both_ways} {B = B} (λ s p. p.holds i) x)

  for_start_agrees : (x : ForStartLayer both_ways) → map_for_start (on steps) (map_for_start left x) ≡ map_for_start right x
  for_start_agrees x = for_start_twice left (on steps) x ∙ (λ i. map_for_start {A = both_ways} {B = B} (λ s p. p.holds i) x)

  markup_child_agrees : (x : MarkupChildLayer both_ways) → map_markup_child (on steps) (map_markup_child left x) ≡ map_markup_child right x
  markup_child_agrees x = markup_child_twice left (on steps) x ∙ (λ i. map_markup_child {A = both_ways} {B = B} (λ s p. p.holds i) x)

  markup_value_agrees : (x : MarkupValueLayer both_ways) → map_markup_value (on steps) (map_markup_value left x) ≡ map_markup_value right x
  markup_value_agrees x = markup_value_twice left (on steps) x ∙ (λ i. map_markup_value {A = both_ways} {B = B} (λ s p. p.holds i) x)

  stmt_kind_agrees : (x : StmtKindLayer both_ways) → map_stmt_kind (on steps) (map_stmt_kind left x) ≡ map_stmt_kind right x
  stmt_kind_agrees x = stmt_kind_twice left (on steps) x ∙ (λ i. map_stmt_kind {A = both_ways} {B = B} (λ s p. p.holds i) x)

  decl_agrees : (x : DeclLayer both_ways) → map_decl (on steps) (map_decl left x) ≡ map_decl right x
  decl_agrees x = decl_twice left (on steps) x ∙ (λ i. map_decl {A = both_ways} {B = B} (λ s p. p.holds i) x)

  expr_agrees : (x : ExprLayer both_ways) → map_expr (on steps) (map_expr left x) ≡ map_expr right x
  expr_agrees x = expr_twice left (on steps) x ∙ (λ i. map_expr {A = both_ways} {B = B} (λ s p. p.holds i) x)

  function_agrees : (x : FunctionLayer both_ways) → map_function (on steps) (map_function left x) ≡ map_function right x
  function_agrees x = function_twice left (on steps) x ∙ (λ i. map_function {A = both_ways} {B = B} (λ s p. p.holds i) x)

  markup_agrees : (x : MarkupLayer both_ways) → map_markup (on steps) (map_markup left x) ≡ map_markup right x
  markup_agrees x = markup_twice left (on steps) x ∙ (λ i. map_markup {A = both_ways} {B = B} (λ s p. p.holds i) x)

  markup_attribute_agrees : (x : MarkupAttributeLayer both_ways) → map_markup_attribute (on steps) (map_markup_attribute left x) ≡ map_markup_attribute right x
  markup_attribute_agrees x = markup_attribute_twice left (on steps) x ∙ (λ i. map_markup_attribute {A = both_ways} {B = B} (λ s p. p.holds i) x)

  prop_agrees : (x : PropLayer both_ways) → map_prop (on steps) (map_prop left x) ≡ map_prop right x
  prop_agrees x = prop_twice left (on steps) x ∙ (λ i. map_prop {A = both_ways} {B = B} (λ s p. p.holds i) x)

  stmt_agrees : (x : StmtLayer both_ways) → map_stmt (on steps) (map_stmt left x) ≡ map_stmt right x
  stmt_agrees x = stmt_twice left (on steps) x ∙ (λ i. map_stmt {A = both_ways} {B = B} (λ s p. p.holds i) x)

  preserved : Preserved (shortening Tree same) (shortening B steps) Same
  preserved = record {
    expr_kind = λ x. at_expr_kind steps (shortened_expr_kind Tree (map_expr_kind left x))
        ∙ ap steps.expr_kind (expr_kind_maps (on steps) (map_expr_kind left x) ∙ ap (shortened_expr_kind B) (expr_kind_agrees x));
    for_start = λ x. at_for_start steps (map_for_start left x) ∙ ap steps.for_start (for_start_agrees x);
    markup_child = λ x.
        at_markup_child steps (shortened_markup_child Tree (map_markup_child left x))
        ∙ ap steps.markup_child (markup_child_maps (on steps) (map_markup_child left x) ∙ ap (shortened_markup_child B) (markup_child_agrees x));
    markup_value = λ x.
        at_markup_value steps (shortened_markup_value Tree (map_markup_value left x))
        ∙ ap steps.markup_value (markup_value_maps (on steps) (map_markup_value left x) ∙ ap (shortened_markup_value B) (markup_value_agrees x));
    stmt_kind = λ x. at_stmt_kind steps (shortened_stmt_kind Tree (map_stmt_kind left x))
        ∙ ap steps.stmt_kind (stmt_kind_maps (on steps) (map_stmt_kind left x) ∙ ap (shortened_stmt_kind B) (stmt_kind_agrees x));
    decl = λ x. at_decl steps (shortened_decl Tree (map_decl left x)) ∙ ap (λ z. steps.decl (shortened_decl B z)) (decl_agrees x);
    expr = λ x. at_expr steps (map_expr left x) ∙ ap steps.expr (expr_agrees x);
    function = λ x. at_function steps (shortened_function Tree (map_function left x)) ∙ ap (λ z. steps.function (shortened_function B z)) (function_agrees x);
    markup = λ x. at_markup steps (shortened_markup Tree (map_markup left x)) ∙ ap (λ z. steps.markup (shortened_markup B z)) (markup_agrees x);
    markup_attribute = λ x. at_markup_attribute steps (shortened_markup_attribute Tree (map_markup_attribute left x))
        ∙ ap (λ z. steps.markup_attribute (shortened_markup_attribute B z)) (markup_attribute_agrees x);
    prop = λ x. at_prop steps (shortened_prop Tree (map_prop left x)) ∙ ap (λ z. steps.prop (shortened_prop B z)) (prop_agrees x);
    stmt = λ x. at_stmt steps (map_stmt left x) ∙ ap steps.stmt (stmt_agrees x);
  }

  pub stmt_shortened : (t : Stmt) → on_stmt steps (on_stmt (shortening Tree same) t) ≡ on_stmt (shortening B steps) t
  stmt_shortened = related_stmt (shortening Tree same) (shortening B steps) Same preserved

  -- the steps give the same on a node and on the node with short leaves
  pub record AreKept : Type 0 where
    pub expr_kind : (x : ExprKindLayer B) → steps.expr_kind (shortened_expr_kind B x) ≡ steps.expr_kind x
    pub markup_child : (x : MarkupChildLayer B) → steps.markup_child (shortened_markup_child B x) ≡ steps.markup_child x
    pub markup_value : (x : MarkupValueLayer B) → steps.markup_value (shortened_markup_value B x) ≡ steps.markup_value x
    pub stmt_kind : (x : StmtKindLayer B) → steps.stmt_kind (shortened_stmt_kind B x) ≡ steps.stmt_kind x
    pub decl : (x : DeclLayer B) → steps.decl (shortened_decl B x) ≡ steps.decl x
    pub function : (x : FunctionLayer B) → steps.function (shortened_function B x) ≡ steps.function x
    pub markup : (x : MarkupLayer B) → steps.markup (shortened_markup B x) ≡ steps.markup x
    pub markup_attribute : (x : MarkupAttributeLayer B) → steps.markup_attribute (shortened_markup_attribute B x) ≡ steps.markup_attribute x
    pub prop : (x : PropLayer B) → steps.prop (shortened_prop B x) ≡ steps.prop x

  steps_kept : AreKept → shortening B steps ≡ steps
  steps_kept kept = λ i. record steps {
    expr_kind = λ x. kept.expr_kind x i;
    markup_child = λ x. kept.markup_child x i;
    markup_value = λ x. kept.markup_value x i;
    stmt_kind = λ x. kept.stmt_kind x i;
    decl = λ x. kept.decl x i;
    function = λ x. kept.function x i;
    markup = λ x. kept.markup x i;
    markup_attribute = λ x. kept.markup_attribute x i;
    prop = λ x. kept.prop x i;
  }

  pub stmt_kept : AreKept → (t : Stmt) → on_stmt steps (on_stmt (shortening Tree same) t) ≡ on_stmt steps t
  stmt_kept kept t = stmt_shortened t ∙ ap (λ s. on_stmt s t) (steps_kept kept)
