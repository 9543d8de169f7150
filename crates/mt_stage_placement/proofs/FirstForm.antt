-- The walk that gives the first form that stands where it may not gives the first of all of these.
use Rattle.std.proofs.Common.{◌≡◌, ℕ, Bool, true, false, not, List, [], ◌∷◌, ◌++◌, map, Option, refl, ap, ◌∙◌}
use Rattle.std.specs.Str.{encode_utf8_all}
use Rattle.mt_tree.specs.Tables.{is_among, is_attribute, is_tag}
use Rattle.mt_tree.specs.declared.place.Place.{Place}
use Rattle.mt_syntax.specs.First.{earlier_of, first_of}
use Rattle.mt_syntax.specs.Joining.{all, first}
use Rattle.mt_syntax.specs.declared.broken.Broken.{Broken}
use Rattle.mt_syntax.specs.declared.rule.Rule.{Rule}
use Rattle.mt_syntax.specs.declared.rule.Rule.TheVariants as rule
use Rattle.mt_syntax.proofs.Order.{first_of_lists}
use Rattle.mt_syntax.specs.Sort as sort
use Rattle.mt_syntax.specs.Fold.{ExprKindLayer, MarkupLayer, MarkupChildLayer, MarkupValueLayer, StmtKindLayer, on_expr, on_stmt}
use Rattle.mt_syntax.specs.Gathering.{all_of, gathering}
use Rattle.mt_syntax_laws.proofs.Gathered.{Alike, gathered, rows}
use Rattle.mt_syntax_laws.proofs.Layers.{map_expr_kind, map_markup, map_markup_child, map_markup_value, map_stmt_kind}
use Rattle.mt_syntax_laws.proofs.Related.{Preserved, Two, lefts, rights, related_expr, related_stmt}
use Rattle.mt_syntax.specs.declared.tree.Expr.{Expr}
use Rattle.mt_syntax.specs.declared.tree.Mark.{Mark}
use Rattle.mt_syntax.specs.declared.tree.Stmt.{Stmt}
use Rattle.mt_syntax.specs.declared.tree.ExprKind.TheOpen.{ExprKind-F, MarkupChild-F, MarkupValue-F, StmtKind-F}
use Rattle.mt_stage_placement.specs.Forms.{Part, at_attribute, at_node, below, broken_if, expr_kind_forms, finding_forms, in_dollar, in_each, is_client, is_top, join, markup_child_forms, markup_forms, markup_value_forms, names_of, none, repeated_behind, stmt_kind_forms}
use Rattle.mt_stage_placement.specs.declared.forms.site.Site.{Site}

abbrev Found : (Site → List Broken) → (Site → Option Broken) → Type 0
Found forms form = (site : Site) → first_of (forms site) ≡ form site

abbrev IsFirst : Part (List Broken) → Part (Option Broken) → Type 0
IsFirst forms form = (forms.name ≡ form.name) × Found forms.found form.found

both : (xs ys : List Broken) (a b : Option Broken) → first_of xs ≡ a → first_of ys ≡ b → first_of (xs ++ ys) ≡ earlier_of a b
both xs ys a b p q = first_of_lists xs ys ∙ (λ i. earlier_of (p i) (q i))

at_join : (x x' : Part (List Broken)) (y y' : Part (Option Broken)) → IsFirst x y → IsFirst x' y' → IsFirst (join all x x') (join first y y')
at_join x x' y y' p q = (refl, λ site. both (x.found site) (x'.found site) (y.found site) (y'.found site) (p.1 site) (q.1 site))

at_none : IsFirst (none all) (none first)
at_none = (refl, λ site. refl)

met : Preserved (gathering (none all) (join all)) (gathering (none first) (join first)) (Alike IsFirst)
met = gathered IsFirst (none all) (join all) (none first) (join first) at_none at_join

here : (fails : Bool) (r : Rule) (place : Place) → first_of (broken_if all fails r place) ≡ broken_if first fails r place
here true r place = refl
here false r place = refl

-- what is broken at a node itself, and what is found in a part of it
with_part : (fails : Bool) (r : Rule) (place : Place) (xs : List Broken) (a : Option Broken) → first_of xs ≡ a
    → first_of (broken_if all fails r place ++ xs) ≡ earlier_of (broken_if first fails r place) a
with_part fails r place xs a h = both (broken_if all fails r place) xs (broken_if first fails r place) a (here fails r place) h

expr_kind_is_first : (x : ExprKindLayer (Two (Alike IsFirst)))
    → Found (expr_kind_forms all (map_expr_kind (lefts (Alike IsFirst)) x)) (expr_kind_forms first (map_expr_kind (rights (Alike IsFirst)) x))
expr_kind_is_first (ExprKind-F.Stray a) site = with_part true rule.S1 site.place (a.left.found (in_dollar site)) (a.right.found (in_dollar site)) (a.holds.1 (in_dollar site))
expr_kind_is_first (ExprKind-F.ExprKind::Tilde id) site = here (is_client site.scene) rule.S2 site.place
expr_kind_is_first (ExprKind-F.Markup markup) site = with_part (is_client site.scene) rule.S4 site.place (markup.left.found site) (markup.right.found site) (markup.holds.1 site)
expr_kind_is_first x site = (met.expr_kind x).1 site

stmt_kind_is_first : (x : StmtKindLayer (Two (Alike IsFirst)))
    → Found (stmt_kind_forms all (map_stmt_kind (lefts (Alike IsFirst)) x)) (stmt_kind_forms first (map_stmt_kind (rights (Alike IsFirst)) x))
stmt_kind_is_first (StmtKind-F.Service f) site = with_part (not (is_top site.scene)) rule.S3 site.place (f.left.found (below site)) (f.right.found (below site)) (f.holds.1 (below site))
stmt_kind_is_first x site = (met.stmt_kind x).1 (below site)

markup_value_is_first : (x : MarkupValueLayer (Two (Alike IsFirst)))
    → Found (markup_value_forms all (map_markup_value (lefts (Alike IsFirst)) x)) (markup_value_forms first (map_markup_value (rights (Alike IsFirst)) x))
markup_value_is_first (MarkupValue-F.Quoted text) site = here site.handler rule.S10 site.place
markup_value_is_first (MarkupValue-F.MarkupValue::Tilde a) site = with_part (not site.handler) rule.S11 site.place (a.left.found site) (a.right.found site) (a.holds.1 site)
markup_value_is_first (MarkupValue-F.MarkupValue::Dollar a) site = a.holds.1 (in_dollar site)

markup_child_is_first : (x : MarkupChildLayer (Two (Alike IsFirst)))
    → Found (markup_child_forms all (map_markup_child (lefts (Alike IsFirst)) x)) (markup_child_forms first (map_markup_child (rights (Alike IsFirst)) x))
markup_child_is_first (MarkupChild-F.MarkupChild::Text text) site = refl
markup_child_is_first (MarkupChild-F.Direct a) site = a.holds.1 site
markup_child_is_first (MarkupChild-F.MarkupChild::Dollar a) site = a.holds.1 (in_dollar site)

repeated_is_first : (names : List (List ℕ)) (ms : List Mark) → first_of (repeated_behind all names ms) ≡ repeated_behind first names ms
repeated_is_first names [] = refl
repeated_is_first names (m ∷ ms) =
    with_part (is_among names (encode_utf8_all m.name)) rule.S12 m.place (repeated_behind all (names ++ encode_utf8_all m.name ∷ []) ms) (repeated_behind first (names ++ encode_utf8_all m.name ∷ []) ms)
    (repeated_is_first (names ++ encode_utf8_all m.name ∷ []) ms)

same_names : (ps : List (Two (Alike IsFirst) sort.MarkupAttribute)) → names_of all (map (lefts (Alike IsFirst) sort.MarkupAttribute) ps) ≡ names_of first (map (rights (Alike IsFirst) sort.MarkupAttribute) ps)
same_names [] = refl
same_names (p ∷ ps) = λ i. p.holds.0 i ∷ same_names ps i

markup_is_first : (x : MarkupLayer (Two (Alike IsFirst)))
    → Found (markup_forms all (map_markup (lefts (Alike IsFirst)) x)) (markup_forms first (map_markup (rights (Alike IsFirst)) x))
markup_is_first x site =
    let attributes = (rows IsFirst (none all) (join all) (none first) (join first) at_none at_join x.attributes).1 site in
    let children = (rows IsFirst (none all) (join all) (none first) (join first) at_none at_join x.children).1 site in
    let left = map (lefts (Alike IsFirst) sort.MarkupAttribute) x.attributes in
    let right = map (rights (Alike IsFirst) sort.MarkupAttribute) x.attributes in
    let left_children = map (lefts (Alike IsFirst) sort.MarkupChild) x.children in
    let right_children = map (rights (Alike IsFirst) sort.MarkupChild) x.children in
    let repeated = repeated_is_first [] (names_of all left) ∙ ap (repeated_behind first []) (same_names x.attributes) in
    let behind = both (repeated_behind all [] (names_of all left)) ((all_of (none all) (join all) left_children).found site) (repeated_behind first [] (names_of first right)) ((all_of (none first) (join first) right_children).found site) repeated children in
    let parts = both ((all_of (none all) (join all) left).found site) (repeated_behind all [] (names_of all left) ++ (all_of (none all) (join all) left_children).found site)
    ((all_of (none first) (join first) right).found site) (earlier_of (repeated_behind first [] (names_of first right)) ((all_of (none first) (join first) right_children).found site)) attributes behind in
    with_part (not (is_tag (encode_utf8_all x.tag))) rule.S12 site.place ((all_of (none all) (join all) left).found site ++ (repeated_behind all [] (names_of all left) ++ (all_of (none all) (join all) left_children).found site))
    (earlier_of ((all_of (none first) (join first) right).found site) (earlier_of (repeated_behind first [] (names_of first right)) ((all_of (none first) (join first) right_children).found site))) parts

preserved : Preserved (finding_forms all) (finding_forms first) (Alike IsFirst)
preserved = record {
  expr_kind = λ x. (refl, expr_kind_is_first x);
  for_start = met.for_start;
  markup_child = λ x. (refl, markup_child_is_first x);
  markup_value = λ x. (refl, markup_value_is_first x);
  stmt_kind = λ x. (refl, stmt_kind_is_first x);
  decl = met.decl;
  expr = λ x. (refl, λ site. x.kind.holds.1 (at_node x.place site));
  function = met.function;
  markup = λ x. (refl, markup_is_first x);
  markup_attribute = λ x. (refl, λ site. with_part (not (is_attribute (encode_utf8_all x.name.name))) rule.S12 x.name.place (x.value.left.found (at_attribute x.name site)) (x.value.right.found (at_attribute x.name site)) (x.value.holds.1 (at_attribute x.name site)));
  prop = met.prop;
  stmt = λ x. (refl, λ site. x.kind.holds.1 (at_node x.place site));
}

pub in_stmts : (body : List Stmt) → Found (in_each all (on_stmt (finding_forms all)) body) (in_each first (on_stmt (finding_forms first)) body)
in_stmts [] site = refl
in_stmts (t ∷ body) site =
    both ((on_stmt (finding_forms all) t).found site) (in_each all (on_stmt (finding_forms all)) body site) ((on_stmt (finding_forms first) t).found site) (in_each first (on_stmt (finding_forms first)) body site)
    ((related_stmt (finding_forms all) (finding_forms first) (Alike IsFirst) preserved t).1 site) (in_stmts body site)

pub in_exprs : (es : List Expr) → Found (in_each all (on_expr (finding_forms all)) es) (in_each first (on_expr (finding_forms first)) es)
in_exprs [] site = refl
in_exprs (e ∷ es) site =
    both ((on_expr (finding_forms all) e).found site) (in_each all (on_expr (finding_forms all)) es site) ((on_expr (finding_forms first) e).found site) (in_each first (on_expr (finding_forms first)) es site)
    ((related_expr (finding_forms all) (finding_forms first) (Alike IsFirst) preserved e).1 site) (in_exprs es site)
