-- Client code in which no form stands where it may not has neither services nor tildes, elements and dollars that may not stand there.
use Rattle.std.proofs.Common.{◌≡◌, Bool, true, ◌&&◌, List, [], ◌∷◌, map, Option, None, Some, refl}
use Rattle.std.proofs.lemmas.Bool.{and_from}
use Rattle.mt_tree.specs.declared.place.Place.{Place}
use Rattle.mt_syntax.specs.Joining.{all}
use Rattle.mt_syntax.specs.declared.broken.Broken.{Broken}
use Rattle.mt_syntax.specs.Sort.{Sort}
use Rattle.mt_syntax.specs.Sort as sort
use Rattle.mt_syntax.specs.Codes.{expr_kind_is_plain, is_plain, stmt_kind_is_plain, testing, testing_plain}
use Rattle.mt_syntax.specs.Fold.{Every, DeclLayer, ExprKindLayer, ForStartLayer, StmtKindLayer, on_stmt}
use Rattle.mt_syntax.specs.Gathering.{all_of, or_none}
use Rattle.mt_syntax.specs.declared.tree.Mark.{Mark}
use Rattle.mt_syntax.specs.declared.tree.Stmt.{Stmt}
use Rattle.mt_syntax.specs.declared.tree.ExprKind.TheOpen.{ExprKind-F, ForStart-F, StmtKind-F}
use Rattle.mt_syntax_laws.proofs.Layers.{map_decl, map_expr_kind, map_for_start, map_stmt_kind}
use Rattle.mt_syntax_laws.proofs.Related.{Preserved, Two, lefts, rights, related_stmt}
use Rattle.mt_stage_placement.specs.Forms.{Part, expr_kind_forms, finding_forms, in_each, join, none, part, stmt_kind_forms}
use Rattle.mt_stage_placement.specs.Placement.{directly_in}
use Rattle.mt_stage_placement.specs.declared.forms.site.Scene.TheVariants as scene
use Rattle.mt_stage_placement.specs.declared.forms.site.Site.{Site}
use Rattle.mt_stage.proofs.Empty.{parts_empty, something}

abbrev in_client : Place → Bool → Site
in_client place handler = record { place = place; scene = scene.Client; handler = handler }

-- where nothing is found in a part that stands in client code, the part is plain
abbrev IsPlain : Part (List Broken) → Bool → Type 0
IsPlain forms plain = (place : Place) (handler : Bool) → forms.found (in_client place handler) ≡ [] → plain ≡ true

-- an element itself may not stand in client code, so nothing is asked of its parts
abbrev InClient : (s : Sort) → Every (Part (List Broken)) s → Every Bool s → Type 0
InClient sort.Markup forms plain = Unit {0}
InClient sort.MarkupAttribute forms plain = Unit {0}
InClient sort.MarkupChild forms plain = Unit {0}
InClient sort.MarkupValue forms plain = Unit {0}
InClient _ forms plain = IsPlain forms plain

plain_both : (x x' : Part (List Broken)) (b b' : Bool) → IsPlain x b → IsPlain x' b' → IsPlain (join all x x') (b && b')
plain_both x x' b b' p q place handler e =
    let es = parts_empty (x.found (in_client place handler)) (x'.found (in_client place handler)) e in
    and_from b b' (p place handler es.0) (q place handler es.1)

plain_none : IsPlain (none all) true
plain_none place handler e = refl

abbrev Pair : Sort → Type 0
Pair = Two {A = Every (Part (List Broken))} {B = Every Bool} InClient

abbrev all_forms : List (Part (List Broken)) → Part (List Broken)
all_forms = all_of (none all) (join all)

abbrev all_plain : List Bool → Bool
all_plain = all_of true (λ a b. a && b)

in_row : {s : Sort} → ((p : Pair s) → IsPlain p.left p.right) → (ps : List (Pair s)) → IsPlain (all_forms (map (lefts InClient s) ps)) (all_plain (map (rights InClient s) ps))
in_row plain [] = plain_none
in_row {s = s} plain (p ∷ ps) = plain_both p.left (all_forms (map (lefts InClient s) ps)) p.right (all_plain (map (rights InClient s) ps)) (plain p) (in_row plain ps)

exprs_in : (ps : List (Pair sort.Expr)) → IsPlain (all_forms (map (lefts InClient sort.Expr) ps)) (all_plain (map (rights InClient sort.Expr) ps))
exprs_in = in_row (λ p. p.holds)

decls_in : (ps : List (Pair sort.Decl)) → IsPlain (all_forms (map (lefts InClient sort.Decl) ps)) (all_plain (map (rights InClient sort.Decl) ps))
decls_in = in_row (λ p. p.holds)

stmts_in : (ps : List (Pair sort.Stmt)) → IsPlain (all_forms (map (lefts InClient sort.Stmt) ps)) (all_plain (map (rights InClient sort.Stmt) ps))
stmts_in = in_row (λ p. p.holds)

operands : (a b : Pair sort.Expr) → IsPlain (join all a.left b.left) (a.right && b.right)
operands a b = plain_both a.left b.left a.right b.right a.holds b.holds

in_kind : (x : ExprKindLayer Pair) → IsPlain (part all (expr_kind_forms all (map_expr_kind (lefts InClient) x))) (expr_kind_is_plain (map_expr_kind (rights InClient) x))
in_kind (ExprKind-F.Arr items) = exprs_in items
in_kind (ExprKind-F.Obj props) = in_row (λ p. p.holds) props
in_kind (ExprKind-F.Fun function) = function.holds
in_kind (ExprKind-F.Unary op a) = a.holds
in_kind (ExprKind-F.Step op a) = a.holds
in_kind (ExprKind-F.Binary op a b) = operands a b
in_kind (ExprKind-F.And a b) = operands a b
in_kind (ExprKind-F.Or a b) = operands a b
in_kind (ExprKind-F.Cond a b c) = plain_both a.left (join all b.left c.left) a.right (b.right && c.right) a.holds (operands b c)
in_kind (ExprKind-F.Assign op a b) = operands a b
in_kind (ExprKind-F.Index a b) = operands a b
in_kind (ExprKind-F.Call a arguments) = plain_both a.left (all_forms (map (lefts InClient sort.Expr) arguments)) a.right (all_plain (map (rights InClient sort.Expr) arguments)) a.holds (exprs_in arguments)
in_kind (ExprKind-F.ExprKind::Tilde id) = λ place handler e. something _ _ e
in_kind (ExprKind-F.Stray a) = λ place handler e. something _ _ e
in_kind (ExprKind-F.Markup markup) = λ place handler e. something _ _ e
in_kind _ = plain_none

in_start : (x : ForStartLayer Pair) → IsPlain ((finding_forms all).for_start (map_for_start (lefts InClient) x)) (testing.for_start (map_for_start (rights InClient) x))
in_start ForStart-F.Absent = plain_none
in_start (ForStart-F.ForStart::Var decls) = decls_in decls
in_start (ForStart-F.ForStart::Expr a) = a.holds

in_for : (start : Pair sort.ForStart) (body : Pair sort.Stmt) (x y : Part (List Broken)) (b c : Bool) → IsPlain x b → IsPlain y c
    → IsPlain (join all start.left (join all x (join all y body.left))) (start.right && (b && (c && body.right)))
in_for start body x y b c p q =
    plain_both start.left (join all x (join all y body.left)) start.right (b && (c && body.right)) start.holds
    (plain_both x (join all y body.left) b (c && body.right) p (plain_both y body.left c body.right q body.holds))

in_stmt_kind : (x : StmtKindLayer Pair) → IsPlain (part all (stmt_kind_forms all (map_stmt_kind (lefts InClient) x))) (stmt_kind_is_plain (map_stmt_kind (rights InClient) x))
in_stmt_kind (StmtKind-F.StmtKind::Expr a) = a.holds
in_stmt_kind (StmtKind-F.StmtKind::Var kind decls) = decls_in decls
in_stmt_kind (StmtKind-F.Function function) = function.holds
in_stmt_kind (StmtKind-F.Service function) = λ place handler e. something _ _ e
in_stmt_kind (StmtKind-F.If test body None) =
    plain_both test.left (join all body.left (none all)) test.right (body.right && true) test.holds (plain_both body.left (none all) body.right true body.holds plain_none)
in_stmt_kind (StmtKind-F.If test body (Some other)) =
    plain_both test.left (join all body.left other.left) test.right (body.right && other.right) test.holds (plain_both body.left other.left body.right other.right body.holds other.holds)
in_stmt_kind (StmtKind-F.While test body) = plain_both test.left body.left test.right body.right test.holds body.holds
in_stmt_kind (StmtKind-F.For start None None body) = in_for start body (none all) (none all) true true plain_none plain_none
in_stmt_kind (StmtKind-F.For start None (Some step) body) = in_for start body (none all) step.left true step.right plain_none step.holds
in_stmt_kind (StmtKind-F.For start (Some test) None body) = in_for start body test.left (none all) test.right true test.holds plain_none
in_stmt_kind (StmtKind-F.For start (Some test) (Some step) body) = in_for start body test.left step.left test.right step.right test.holds step.holds
in_stmt_kind (StmtKind-F.Return None) = plain_none
in_stmt_kind (StmtKind-F.Return (Some value)) = value.holds
in_stmt_kind (StmtKind-F.Throw a) = a.holds
in_stmt_kind (StmtKind-F.Try body name handler) = plain_both body.left handler.left body.right handler.right body.holds handler.holds
in_stmt_kind (StmtKind-F.Block items) = stmts_in items
in_stmt_kind _ = plain_none

in_decl : (x : DeclLayer Pair) → IsPlain (or_none (none all) (join all) (map_decl (lefts InClient) x).value) (or_none true (λ a b. a && b) (map_decl (rights InClient) x).value)
in_decl x = by x.name x.value
  where
    by : (name : Mark) (value : Option (Pair sort.Expr))
        → IsPlain (or_none (none all) (join all) (map_decl (lefts InClient) (record { name = name; value = value })).value) (or_none true (λ a b. a && b) (map_decl (rights InClient) (record { name = name; value = value })).value)
    by name None = plain_none
    by name (Some p) = p.holds

preserved : Preserved (finding_forms all) testing_plain InClient
preserved = record {
  expr_kind = in_kind;
  for_start = in_start;
  markup_child = λ x. tt;
  markup_value = λ x. tt;
  stmt_kind = in_stmt_kind;
  decl = in_decl;
  expr = λ x place handler e. x.kind.holds x.place handler e;
  function = λ x. stmts_in x.body;
  markup = λ x. tt;
  markup_attribute = λ x. tt;
  prop = λ x. x.value.holds;
  stmt = λ x place handler e. x.kind.holds x.place handler e;
}

pub plain_code : (body : List Stmt) → in_each all (on_stmt (finding_forms all)) body (directly_in scene.Client) ≡ [] → is_plain body ≡ true
plain_code [] e = refl
plain_code (t ∷ body) e =
    let site = directly_in scene.Client in
    let es = parts_empty ((on_stmt (finding_forms all) t).found site) (in_each all (on_stmt (finding_forms all)) body site) e in
    and_from (on_stmt testing_plain t) (is_plain body)
    (related_stmt (finding_forms all) testing_plain InClient preserved t site.place site.handler es.0) (plain_code body es.1)
