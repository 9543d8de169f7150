-- Where no form is misplaced in a part, wherever the part stands, its elements are made of the tables and no dollar is stray.
use Rattle.std.proofs.Common.{◌≡◌, ℕ, Bool, true, false, not, ◌&&◌, List, [], ◌∷◌, ◌++◌, map, Option, None, Some, refl, subst}
use Rattle.std.specs.Str.{encode_utf8_all}
use Rattle.std.proofs.lemmas.Bool.{and_from}
use Rattle.mt_stage.specs.Made.{Made, are_new, both, each, made, made_expr_kind, making, testing}
use Rattle.mt_tree.specs.Tables.{is_among, is_attribute, is_tag}
use Rattle.mt_tree.specs.declared.place.Place.{Place}
use Rattle.mt_syntax.specs.Joining.{all}
use Rattle.mt_syntax.specs.declared.broken.Broken.{Broken}
use Rattle.mt_syntax.specs.declared.rule.Rule.{Rule}
use Rattle.mt_syntax.specs.declared.rule.Rule.TheVariants as rule
use Rattle.mt_syntax.specs.Sort.{Sort}
use Rattle.mt_syntax.specs.Sort as sort
use Rattle.mt_syntax.specs.Fold.{Every, DeclLayer, ExprKindLayer, ForStartLayer, MarkupAttributeLayer, MarkupChildLayer, MarkupLayer, MarkupValueLayer, StmtKindLayer}
use Rattle.mt_syntax.specs.Gathering.{all_of, or_none}
use Rattle.mt_syntax.specs.declared.tree.Mark.{Mark}
use Rattle.mt_syntax.specs.declared.tree.ExprKind.TheOpen.{ExprKind-F, ForStart-F, MarkupChild-F, MarkupValue-F, StmtKind-F}
use Rattle.mt_syntax_laws.proofs.Layers.{map_decl, map_expr_kind, map_for_start, map_markup, map_markup_attribute, map_markup_child, map_markup_value, map_stmt_kind}
use Rattle.mt_syntax_laws.proofs.Related.{Preserved, Two, lefts, rights}
use Rattle.mt_stage_placement.specs.Forms.{Part, at_attribute, at_node, attribute_forms, below, broken_if, expr_kind_forms, finding_forms, in_dollar, is_client, is_top, join, markup_child_forms, markup_forms, markup_value_forms, names_of, none, part, repeated_behind, stmt_kind_forms}
use Rattle.mt_stage_placement.specs.declared.forms.site.Site.{Site}
use Rattle.mt_stage.proofs.Empty.{parts_empty, something}

abbrev pub IsMade : Part (List Broken) → Made → Type 0
IsMade forms m = (site : Site) → forms.found site ≡ [] → m.fits ≡ true

abbrev pub AreMade : (s : Sort) → Every (Part (List Broken)) s → Every Made s → Type 0
AreMade sort.MarkupAttribute forms m = (forms.name.name ≡ m.name) × IsMade forms m
AreMade _ forms m = IsMade forms m

made_both : (x x' : Part (List Broken)) (m m' : Made) → IsMade x m → IsMade x' m' → IsMade (join all x x') (both m m')
made_both x x' m m' p q site e =
    let es = parts_empty (x.found site) (x'.found site) e in
    and_from m.fits m'.fits (p site es.0) (q site es.1)

made_none : IsMade (none all) (made true)
made_none site e = refl

abbrev Pair : Sort → Type 0
Pair = Two {A = Every (Part (List Broken))} {B = Every Made} AreMade

abbrev all_forms : List (Part (List Broken)) → Part (List Broken)
all_forms = all_of (none all) (join all)

in_row : {s : Sort} → ((p : Pair s) → IsMade p.left p.right) → (ps : List (Pair s)) → IsMade (all_forms (map (lefts AreMade s) ps)) (each (map (rights AreMade s) ps))
in_row holds [] = made_none
in_row {s = s} holds (p ∷ ps) = made_both p.left (all_forms (map (lefts AreMade s) ps)) p.right (each (map (rights AreMade s) ps)) (holds p) (in_row holds ps)

exprs_in : (ps : List (Pair sort.Expr)) → IsMade (all_forms (map (lefts AreMade sort.Expr) ps)) (each (map (rights AreMade sort.Expr) ps))
exprs_in = in_row (λ p. p.holds)

decls_in : (ps : List (Pair sort.Decl)) → IsMade (all_forms (map (lefts AreMade sort.Decl) ps)) (each (map (rights AreMade sort.Decl) ps))
decls_in = in_row (λ p. p.holds)

stmts_in : (ps : List (Pair sort.Stmt)) → IsMade (all_forms (map (lefts AreMade sort.Stmt) ps)) (each (map (rights AreMade sort.Stmt) ps))
stmts_in = in_row (λ p. p.holds)

operands : (a b : Pair sort.Expr) → IsMade (join all a.left b.left) (both a.right b.right)
operands a b = made_both a.left b.left a.right b.right a.holds b.holds

in_kind : (x : ExprKindLayer Pair) → IsMade (part all (expr_kind_forms all (map_expr_kind (lefts AreMade) x))) (made_expr_kind (map_expr_kind (rights AreMade) x))
in_kind (ExprKind-F.Arr items) = exprs_in items
in_kind (ExprKind-F.Obj props) = in_row (λ p. p.holds) props
in_kind (ExprKind-F.Fun function) = function.holds
in_kind (ExprKind-F.Unary op a) = a.holds
in_kind (ExprKind-F.Step op a) = a.holds
in_kind (ExprKind-F.Binary op a b) = operands a b
in_kind (ExprKind-F.And a b) = operands a b
in_kind (ExprKind-F.Or a b) = operands a b
in_kind (ExprKind-F.Cond a b c) = made_both a.left (join all b.left c.left) a.right (both b.right c.right) a.holds (operands b c)
in_kind (ExprKind-F.Assign op a b) = operands a b
in_kind (ExprKind-F.Index a b) = operands a b
in_kind (ExprKind-F.Call a arguments) = made_both a.left (all_forms (map (lefts AreMade sort.Expr) arguments)) a.right (each (map (rights AreMade sort.Expr) arguments)) a.holds (exprs_in arguments)
in_kind (ExprKind-F.ExprKind::Tilde id) = λ site e. refl
in_kind (ExprKind-F.Stray a) = λ site e. something _ _ e
in_kind (ExprKind-F.Markup markup) = λ site e. markup.holds site (parts_empty (broken_if all (is_client site.scene) rule.S4 site.place) (markup.left.found site) e).1
in_kind _ = made_none

in_start : (x : ForStartLayer Pair) → IsMade ((finding_forms all).for_start (map_for_start (lefts AreMade) x)) (testing.for_start (map_for_start (rights AreMade) x))
in_start ForStart-F.Absent = made_none
in_start (ForStart-F.ForStart::Var decls) = decls_in decls
in_start (ForStart-F.ForStart::Expr a) = a.holds

in_for : (start : Pair sort.ForStart) (body : Pair sort.Stmt) (x y : Part (List Broken)) (b c : Made) → IsMade x b → IsMade y c
    → IsMade (join all start.left (join all x (join all y body.left))) (both start.right (both b (both c body.right)))
in_for start body x y b c p q =
    made_both start.left (join all x (join all y body.left)) start.right (both b (both c body.right)) start.holds
    (made_both x (join all y body.left) b (both c body.right) p (made_both y body.left c body.right q body.holds))

in_stmt_kind : (x : StmtKindLayer Pair) → IsMade (part all (stmt_kind_forms all (map_stmt_kind (lefts AreMade) x))) (testing.stmt_kind (map_stmt_kind (rights AreMade) x))
in_stmt_kind (StmtKind-F.StmtKind::Expr a) = λ site e. a.holds (below site) e
in_stmt_kind (StmtKind-F.StmtKind::Var kind decls) = λ site e. decls_in decls (below site) e
in_stmt_kind (StmtKind-F.Function function) = λ site e. function.holds (below site) e
in_stmt_kind (StmtKind-F.Service function) = λ site e. function.holds (below site) (parts_empty (broken_if all (not (is_top site.scene)) rule.S3 site.place) (function.left.found (below site)) e).1
in_stmt_kind (StmtKind-F.If test body None) = λ site e. made_both test.left (join all body.left (none all)) test.right (both body.right (made true)) test.holds (made_both body.left (none all) body.right (made true) body.holds made_none) (below site) e
in_stmt_kind (StmtKind-F.If test body (Some other)) =
    λ site e. made_both test.left (join all body.left other.left) test.right (both body.right other.right) test.holds (made_both body.left other.left body.right other.right body.holds other.holds) (below site) e
in_stmt_kind (StmtKind-F.While test body) = λ site e. made_both test.left body.left test.right body.right test.holds body.holds (below site) e
in_stmt_kind (StmtKind-F.For start None None body) = λ site e. in_for start body (none all) (none all) (made true) (made true) made_none made_none (below site) e
in_stmt_kind (StmtKind-F.For start None (Some step) body) = λ site e. in_for start body (none all) step.left (made true) step.right made_none step.holds (below site) e
in_stmt_kind (StmtKind-F.For start (Some test) None body) = λ site e. in_for start body test.left (none all) test.right (made true) test.holds made_none (below site) e
in_stmt_kind (StmtKind-F.For start (Some test) (Some step) body) = λ site e. in_for start body test.left step.left test.right step.right test.holds step.holds (below site) e
in_stmt_kind (StmtKind-F.Return None) = made_none
in_stmt_kind (StmtKind-F.Return (Some value)) = λ site e. value.holds (below site) e
in_stmt_kind (StmtKind-F.Throw a) = λ site e. a.holds (below site) e
in_stmt_kind (StmtKind-F.Try body name handler) = λ site e. made_both body.left handler.left body.right handler.right body.holds handler.holds (below site) e
in_stmt_kind (StmtKind-F.Block items) = λ site e. stmts_in items (below site) e
in_stmt_kind _ = made_none

in_decl : (x : DeclLayer Pair) → IsMade (or_none (none all) (join all) (map_decl (lefts AreMade) x).value) (or_none (made true) both (map_decl (rights AreMade) x).value)
in_decl x = by x.name x.value
  where
    by : (name : Mark) (value : Option (Pair sort.Expr))
        → IsMade (or_none (none all) (join all) (map_decl (lefts AreMade) (record { name = name; value = value })).value) (or_none (made true) both (map_decl (rights AreMade) (record { name = name; value = value })).value)
    by name None = made_none
    by name (Some p) = p.holds

-- ---- elements

unbroken : (known : Bool) (r : Rule) (place : Place) → broken_if all (not known) r place ≡ [] → known ≡ true
unbroken true r place e = refl
unbroken false r place e = something _ _ e

in_child : (x : MarkupChildLayer Pair) → IsMade (part all (markup_child_forms all (map_markup_child (lefts AreMade) x))) (testing.markup_child (map_markup_child (rights AreMade) x))
in_child (MarkupChild-F.MarkupChild::Text text) = λ site e. refl
in_child (MarkupChild-F.Direct a) = a.holds
in_child (MarkupChild-F.MarkupChild::Dollar a) = λ site e. a.holds (in_dollar site) e

in_value : (x : MarkupValueLayer Pair) → IsMade (part all (markup_value_forms all (map_markup_value (lefts AreMade) x))) (testing.markup_value (map_markup_value (rights AreMade) x))
in_value (MarkupValue-F.Quoted text) = λ site e. refl
in_value (MarkupValue-F.MarkupValue::Tilde a) = λ site e. a.holds site (parts_empty (broken_if all (not site.handler) rule.S11 site.place) (a.left.found site) e).1
in_value (MarkupValue-F.MarkupValue::Dollar a) = λ site e. a.holds (in_dollar site) e

in_attribute : (x : MarkupAttributeLayer Pair) → IsMade (record { name = x.name; found = attribute_forms all (map_markup_attribute (lefts AreMade) x) }) (making.markup_attribute (map_markup_attribute (rights AreMade) x))
in_attribute x site e =
    let known = is_attribute (encode_utf8_all x.name.name) in
    let es = parts_empty (broken_if all (not known) rule.S12 x.name.place) (x.value.left.found (at_attribute x.name site)) e in
    and_from known x.value.right.fits (unbroken known rule.S12 x.name.place es.0) (x.value.holds (at_attribute x.name site) es.1)

abbrev name_of : Made → List ℕ
name_of a = encode_utf8_all a.name

fresh : (among : Bool) (r : Rule) (place : Place) → broken_if all among r place ≡ [] → not among ≡ true
fresh true r place e = something _ _ e
fresh false r place e = refl

new_names : (names : List (List ℕ)) (ps : List (Pair sort.MarkupAttribute)) → repeated_behind all names (names_of all (map (lefts AreMade sort.MarkupAttribute) ps)) ≡ [] → are_new names (map name_of (map (rights AreMade sort.MarkupAttribute) ps)) ≡ true
new_names names [] e = refl
new_names names (p ∷ ps) e =
    let n = encode_utf8_all p.left.name.name in
    let others = map name_of (map (rights AreMade sort.MarkupAttribute) ps) in
    let es = parts_empty (broken_if all (is_among names n) rule.S12 p.left.name.place) (repeated_behind all (names ++ n ∷ []) (names_of all (map (lefts AreMade sort.MarkupAttribute) ps))) e in
    let new : are_new names (n ∷ others) ≡ true = and_from (not (is_among names n)) (are_new (names ++ n ∷ []) others) (fresh (is_among names n) rule.S12 p.left.name.place es.0) (new_names (names ++ n ∷ []) ps es.1) in
    subst (λ (k : List ℕ). are_new names (encode_utf8_all k ∷ others) ≡ true) p.holds.0 new

in_markup : (x : MarkupLayer Pair) → IsMade (part all (markup_forms all (map_markup (lefts AreMade) x))) (making.markup (map_markup (rights AreMade) x))
in_markup x site e =
    let known = is_tag (encode_utf8_all x.tag) in
    let attributes = all_forms (map (lefts AreMade sort.MarkupAttribute) x.attributes) in
    let children = all_forms (map (lefts AreMade sort.MarkupChild) x.children) in
    let repeated = repeated_behind all [] (names_of all (map (lefts AreMade sort.MarkupAttribute) x.attributes)) in
    let one = parts_empty (broken_if all (not known) rule.S12 site.place) (attributes.found site ++ (repeated ++ children.found site)) e in
    let two = parts_empty (attributes.found site) (repeated ++ children.found site) one.1 in
    let three = parts_empty repeated (children.found site) two.1 in
    let first = (each (map (rights AreMade sort.MarkupAttribute) x.attributes)).fits in
    let second = are_new [] (map name_of (map (rights AreMade sort.MarkupAttribute) x.attributes)) in
    let third = (each (map (rights AreMade sort.MarkupChild) x.children)).fits in
    and_from known (first && (second && third)) (unbroken known rule.S12 site.place one.0)
    (and_from first (second && third) (in_row (λ p. p.holds.1) x.attributes site two.0) (and_from second third (new_names [] x.attributes three.0) (in_row (λ p. p.holds) x.children site three.1)))

pub preserved : Preserved (finding_forms all) making AreMade
preserved = record {
  expr_kind = in_kind;
  for_start = in_start;
  markup_child = in_child;
  markup_value = in_value;
  stmt_kind = in_stmt_kind;
  decl = in_decl;
  expr = λ x site e. x.kind.holds (at_node x.place site) e;
  function = λ x. stmts_in x.body;
  markup = in_markup;
  markup_attribute = λ x. (refl, in_attribute x);
  prop = λ x. x.value.holds;
  stmt = λ x site e. x.kind.holds (at_node x.place site) e;
}
