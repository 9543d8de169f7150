-- A tree is made again of its own leaves, whichever leaves stand in their place.
use Rattle.std.proofs.Common.{◌≡◌, ℕ, List, [], ◌∷◌, map, Option, None, Some, refl, sym, ap, ◌∙◌}
use Rattle.std.specs.Prelude.{option_map}
use Rattle.mt_syntax.specs.Fold.{ExprKindLayer, ForStartLayer, MarkupChildLayer, MarkupValueLayer, StmtKindLayer, Tree, on_stmt}
use Rattle.mt_syntax.specs.Gathering.{all_of, or_none}
use Rattle.mt_syntax.specs.Sort.{Sort}
use Rattle.mt_syntax.specs.Sort as sort
use Rattle.mt_syntax.specs.declared.tree.Mark.{Mark}
use Rattle.mt_syntax.specs.declared.tree.ExprKind.{roll-ExprKind}
use Rattle.mt_syntax.specs.declared.tree.ForStart.{roll-ForStart}
use Rattle.mt_syntax.specs.declared.tree.MarkupChild.{roll-MarkupChild}
use Rattle.mt_syntax.specs.declared.tree.MarkupValue.{roll-MarkupValue}
use Rattle.mt_syntax.specs.declared.tree.StmtKind.{roll-StmtKind}
use Rattle.mt_syntax.specs.declared.tree.Decl.{roll-Decl}
use Rattle.mt_syntax.specs.declared.tree.Function.{roll-Function}
use Rattle.mt_syntax.specs.declared.tree.Markup.{roll-Markup}
use Rattle.mt_syntax.specs.declared.tree.Stmt.{Stmt}
use Rattle.mt_syntax.specs.declared.tree.ExprKind.TheOpen.{ExprKind-F, ForStart-F, MarkupChild-F, MarkupValue-F, StmtKind-F}
use Rattle.mt_syntax_laws.proofs.Layers.{map_decl, map_expr_kind, map_for_start, map_function, map_markup, map_markup_attribute, map_markup_child, map_markup_value, map_prop, map_stmt, map_stmt_kind, map_expr}
use Rattle.mt_syntax_laws.proofs.Related.{on, at_expr_kind, at_for_start, at_markup_child, at_markup_value, at_stmt_kind, at_decl, at_expr, at_function, at_markup, at_markup_attribute, at_prop, at_stmt}
use Rattle.mt_script_read.proofs.Shortened.{shortened_expr_kind, shortened_markup_child, shortened_markup_value, shortened_stmt_kind, shortened_body, short_mark}
use Rattle.mt_script_read.proofs.ShorteningSteps.{AreKept, stmt_kept}
use Rattle.mt_script_read.proofs.Induction.{Held, Inherited, stmt_has, tree}
use Rattle.mt_script_read.proofs.Leaves.{Leaf, Leaves, Refilling, Taking, if_any, in_turn, leaves_of_marks, leaves_of_name, leaving, no_leaves, refill_child, refill_kind, refill_quoted, refill_stmt_kind, refilling, take_mark, take_marks, take_name, take_own, then_leaves, with_four, with_three, with_two}

-- ---- what is taken from the front is what was put there

abbrev Gives : {X : Type 0} → Taking X → Leaves → X → Type 0
Gives f l x = (ls : List Leaf) → f (l ls) ≡ (x, ls)

own_given : (name : Option Mark) → Gives (take_own name) (leaves_of_name name) name
own_given None ls = refl
own_given (Some m) ls = refl

marks_given : (ms : List Mark) → Gives (take_marks ms) (leaves_of_marks ms) ms
marks_given [] ls = refl
marks_given (m ∷ ms) ls = rw (marks_given ms ls) refl

-- ---- a tree

abbrev Again : (s : Sort) → Tree s → Type 0
Again s t = Gives (on refilling s t) (on leaving s t) t

abbrev HeldTree : Sort → Type 0
HeldTree = Held Again

abbrev its : (s : Sort) → HeldTree s → Tree s
its = tree Again

all_again : (s : Sort) (hs : List (HeldTree s)) → Gives (in_turn (map (on refilling s) (map (its s) hs))) (all_of no_leaves then_leaves (map (on leaving s) (map (its s) hs))) (map (its s) hs)
all_again s [] ls = refl
all_again s (h ∷ hs) ls = rw (h.1 (all_of no_leaves then_leaves (map (on leaving s) (map (its s) hs)) ls), all_again s hs ls) refl

any_again : (s : Sort) (o : Option (HeldTree s)) → Gives (if_any (option_map (on refilling s) (option_map (its s) o)))
    (or_none no_leaves then_leaves (option_map (on leaving s) (option_map (its s) o))) (option_map (its s) o)
any_again s None ls = refl
any_again s (Some h) ls = rw (h.1 ls) refl

kind_again : (y : ExprKindLayer HeldTree) → Gives (refill_kind (map_expr_kind (on refilling) (map_expr_kind its y))) (leaving.expr_kind (map_expr_kind (on leaving) (map_expr_kind its y)))
    (roll-ExprKind (map_expr_kind its y))
kind_again (ExprKind-F.Name cs) ls = refl
kind_again (ExprKind-F.ExprKind::Text cs) ls = refl
kind_again (ExprKind-F.Val d) ls = refl
kind_again (ExprKind-F.Num n) ls = refl
kind_again (ExprKind-F.Bool b) ls = refl
kind_again ExprKind-F.Null ls = refl
kind_again ExprKind-F.Undefined ls = refl
kind_again (ExprKind-F.Arr items) ls = rw (all_again sort.Expr items ls) refl
kind_again (ExprKind-F.Obj props) ls = rw (all_again sort.Prop props ls) refl
kind_again (ExprKind-F.Fun function) ls = rw (function.1 ls) refl
kind_again (ExprKind-F.Unary op a) ls = rw (a.1 ls) refl
kind_again (ExprKind-F.Step op a) ls = rw (a.1 ls) refl
kind_again (ExprKind-F.Binary op a b) ls = rw (a.1 (on leaving sort.Expr b.0 ls), b.1 ls) refl
kind_again (ExprKind-F.And a b) ls = rw (a.1 (on leaving sort.Expr b.0 ls), b.1 ls) refl
kind_again (ExprKind-F.Or a b) ls = rw (a.1 (on leaving sort.Expr b.0 ls), b.1 ls) refl
kind_again (ExprKind-F.Cond a b c) ls = rw (a.1 (on leaving sort.Expr b.0 (on leaving sort.Expr c.0 ls)), b.1 (on leaving sort.Expr c.0 ls), c.1 ls) refl
kind_again (ExprKind-F.Assign op a b) ls = rw (a.1 (on leaving sort.Expr b.0 ls), b.1 ls) refl
kind_again (ExprKind-F.Index a b) ls = rw (a.1 (on leaving sort.Expr b.0 ls), b.1 ls) refl
kind_again (ExprKind-F.Call a arguments) ls = rw (a.1 (all_of no_leaves then_leaves (map (on leaving sort.Expr) (map (its sort.Expr) arguments)) ls), all_again sort.Expr arguments ls) refl
kind_again (ExprKind-F.ExprKind::Tilde id) ls = refl
kind_again (ExprKind-F.ExprKind::Dollar at) ls = refl
kind_again (ExprKind-F.Stray a) ls = rw (a.1 ls) refl
kind_again (ExprKind-F.Markup markup) ls = rw (markup.1 ls) refl

start_again : (y : ForStartLayer HeldTree) → Gives (refilling.for_start (map_for_start (on refilling) (map_for_start its y))) (leaving.for_start (map_for_start (on leaving) (map_for_start its y)))
    (roll-ForStart (map_for_start its y))
start_again ForStart-F.Absent ls = refl
start_again (ForStart-F.ForStart::Var decls) ls = rw (all_again sort.Decl decls ls) refl
start_again (ForStart-F.ForStart::Expr a) ls = rw (a.1 ls) refl

child_again : (y : MarkupChildLayer HeldTree)
    → Gives (refill_child (map_markup_child (on refilling) (map_markup_child its y))) (leaving.markup_child (map_markup_child (on leaving) (map_markup_child its y)))
    (roll-MarkupChild (map_markup_child its y))
child_again (MarkupChild-F.MarkupChild::Text cs) ls = refl
child_again (MarkupChild-F.Direct a) ls = rw (a.1 ls) refl
child_again (MarkupChild-F.MarkupChild::Dollar a) ls = rw (a.1 ls) refl

quoted_again : (y : MarkupValueLayer HeldTree)
    → Gives (refill_quoted (map_markup_value (on refilling) (map_markup_value its y))) (leaving.markup_value (map_markup_value (on leaving) (map_markup_value its y)))
    (roll-MarkupValue (map_markup_value its y))
quoted_again (MarkupValue-F.Quoted cs) ls = refl
quoted_again (MarkupValue-F.MarkupValue::Tilde a) ls = rw (a.1 ls) refl
quoted_again (MarkupValue-F.MarkupValue::Dollar a) ls = rw (a.1 ls) refl

abbrev parts_of : Option (HeldTree sort.Expr) → Leaves
parts_of o = or_none no_leaves then_leaves (option_map (on leaving sort.Expr) (option_map (its sort.Expr) o))

for_again : (a : HeldTree sort.ForStart) (b c : Option (HeldTree sort.Expr)) (d : HeldTree sort.Stmt) (ls : List Leaf)
    → with_four (λ w x y z. roll-StmtKind (StmtKind-F.For w x y z)) (on refilling sort.ForStart a.0) (if_any (option_map (on refilling sort.Expr) (option_map (its sort.Expr) b)))
    (if_any (option_map (on refilling sort.Expr) (option_map (its sort.Expr) c)))
    (on refilling sort.Stmt d.0) (on leaving sort.ForStart a.0 (parts_of b (parts_of c (on leaving sort.Stmt d.0 ls))))
    ≡ (roll-StmtKind (StmtKind-F.For a.0 (option_map (its sort.Expr) b) (option_map (its sort.Expr) c) d.0), ls)
for_again a b c d ls =
    let last : List Leaf = on leaving sort.Stmt d.0 ls in rw (a.1 (parts_of b (parts_of c last)), any_again sort.Expr b (parts_of c last), any_again sort.Expr c last, d.1 ls) refl

stmt_kind_again : (y : StmtKindLayer HeldTree)
    → Gives (refill_stmt_kind (map_stmt_kind (on refilling) (map_stmt_kind its y))) (leaving.stmt_kind (map_stmt_kind (on leaving) (map_stmt_kind its y))) (roll-StmtKind (map_stmt_kind its y))
stmt_kind_again (StmtKind-F.StmtKind::Expr a) ls = rw (a.1 ls) refl
stmt_kind_again (StmtKind-F.StmtKind::Var kind decls) ls = rw (all_again sort.Decl decls ls) refl
stmt_kind_again (StmtKind-F.Function function) ls = rw (function.1 ls) refl
stmt_kind_again (StmtKind-F.Service function) ls = rw (function.1 ls) refl
stmt_kind_again (StmtKind-F.If test body None) ls = rw (test.1 (on leaving sort.Stmt body.0 ls), body.1 ls) refl
stmt_kind_again (StmtKind-F.If test body (Some other)) ls = rw (test.1 (on leaving sort.Stmt body.0 (on leaving sort.Stmt other.0 ls)), body.1 (on leaving sort.Stmt other.0 ls), other.1 ls) refl
stmt_kind_again (StmtKind-F.While test body) ls = rw (test.1 (on leaving sort.Stmt body.0 ls), body.1 ls) refl
stmt_kind_again (StmtKind-F.For start None None body) ls = for_again start None None body ls
stmt_kind_again (StmtKind-F.For start None (Some step) body) ls = for_again start None (Some step) body ls
stmt_kind_again (StmtKind-F.For start (Some test) None body) ls = for_again start (Some test) None body ls
stmt_kind_again (StmtKind-F.For start (Some test) (Some step) body) ls = for_again start (Some test) (Some step) body ls
stmt_kind_again (StmtKind-F.Return None) ls = refl
stmt_kind_again (StmtKind-F.Return (Some value)) ls = rw (value.1 ls) refl
stmt_kind_again StmtKind-F.Break ls = refl
stmt_kind_again StmtKind-F.Continue ls = refl
stmt_kind_again (StmtKind-F.Throw a) ls = rw (a.1 ls) refl
stmt_kind_again (StmtKind-F.Try body name handler) ls = rw (body.1 (Leaf.Name name.name ∷ on leaving sort.Stmt handler.0 ls), handler.1 ls) refl
stmt_kind_again (StmtKind-F.Block items) ls = rw (all_again sort.Stmt items ls) refl
stmt_kind_again StmtKind-F.Empty ls = refl

decl_again : (name : Mark) (value : Option (HeldTree sort.Expr)) (ls : List Leaf)
    → refilling.decl (map_decl (on refilling) (map_decl its (record { name = name; value = value }))) (leaving.decl (map_decl (on leaving) (map_decl its (record { name = name; value = value }))) ls)
    ≡ (roll-Decl (map_decl its (record { name = name; value = value })), ls)
decl_again name None ls = refl
decl_again name (Some e) ls = rw (e.1 ls) refl

function_again : (name : Option Mark) (parameters : List Mark) (body : List (HeldTree sort.Stmt)) (ls : List Leaf)
    → with_three (λ x ys zs. roll-Function (record { name = x; parameters = ys; body = zs })) (take_own name) (take_marks parameters)
    (in_turn (map (on refilling sort.Stmt) (map (its sort.Stmt) body)))
    (leaves_of_name name (leaves_of_marks parameters (all_of no_leaves then_leaves (map (on leaving sort.Stmt) (map (its sort.Stmt) body)) ls)))
    ≡ (roll-Function (record { name = name; parameters = parameters; body = map (its sort.Stmt) body }), ls)
function_again name parameters body ls =
    let last : List Leaf = all_of no_leaves then_leaves (map (on leaving sort.Stmt) (map (its sort.Stmt) body)) ls in
    rw (own_given name (leaves_of_marks parameters last), marks_given parameters last, all_again sort.Stmt body ls) refl

markup_again : (tag : List ℕ) (attributes : List (HeldTree sort.MarkupAttribute)) (children : List (HeldTree sort.MarkupChild)) (ls : List Leaf)
    → with_three (λ x ys zs. roll-Markup (record { tag = x; attributes = ys; children = zs })) take_name
    (in_turn (map (on refilling sort.MarkupAttribute) (map (its sort.MarkupAttribute) attributes)))
    (in_turn (map (on refilling sort.MarkupChild) (map (its sort.MarkupChild) children)))
    (Leaf.Name tag ∷ all_of no_leaves then_leaves (map (on leaving sort.MarkupAttribute) (map (its sort.MarkupAttribute) attributes))
    (all_of no_leaves then_leaves (map (on leaving sort.MarkupChild) (map (its sort.MarkupChild) children)) ls))
    ≡ (roll-Markup (record { tag = tag; attributes = map (its sort.MarkupAttribute) attributes; children = map (its sort.MarkupChild) children }), ls)
markup_again tag attributes children ls =
    let last : List Leaf = all_of no_leaves then_leaves (map (on leaving sort.MarkupChild) (map (its sort.MarkupChild) children)) ls in
    rw (all_again sort.MarkupAttribute attributes last, all_again sort.MarkupChild children ls) refl

-- what is said of a node's layer is said of the node
rolled : {X : Type 0} (f f' : Taking X) (l l' : Leaves) (x : X) → f ≡ f' → l ≡ l' → Gives f' l' x → Gives f l x
rolled f f' l l' x e d h ls = (λ i. e i (d i ls)) ∙ h ls

made_again : Inherited Again
made_again = record {
  expr_kind = λ y. rolled _ _ _ _ _ (at_expr_kind refilling (map_expr_kind its y)) (at_expr_kind leaving (map_expr_kind its y)) (kind_again y);
  for_start = λ y. rolled _ _ _ _ _ (at_for_start refilling (map_for_start its y)) (at_for_start leaving (map_for_start its y)) (start_again y);
  markup_child = λ y. rolled _ _ _ _ _ (at_markup_child refilling (map_markup_child its y)) (at_markup_child leaving (map_markup_child its y)) (child_again y);
  markup_value = λ y. rolled _ _ _ _ _ (at_markup_value refilling (map_markup_value its y)) (at_markup_value leaving (map_markup_value its y)) (quoted_again y);
  stmt_kind = λ y. rolled _ _ _ _ _ (at_stmt_kind refilling (map_stmt_kind its y)) (at_stmt_kind leaving (map_stmt_kind its y)) (stmt_kind_again y);
  decl = λ y. rolled _ _ _ _ _ (at_decl refilling (map_decl its y)) (at_decl leaving (map_decl its y)) (decl_again y.name y.value);
  expr = λ y. rolled _ _ _ _ _ (at_expr refilling (map_expr its y)) (at_expr leaving (map_expr its y)) (λ ls. rw (y.kind.1 ls) refl);
  function = λ y. rolled _ _ _ _ _ (at_function refilling (map_function its y)) (at_function leaving (map_function its y)) (function_again y.name y.parameters y.body);
  markup = λ y. rolled _ _ _ _ _ (at_markup refilling (map_markup its y)) (at_markup leaving (map_markup its y)) (markup_again y.tag y.attributes y.children);
  markup_attribute = λ y. rolled _ _ _ _ _ (at_markup_attribute refilling (map_markup_attribute its y)) (at_markup_attribute leaving (map_markup_attribute its y)) (λ ls. rw (y.value.1 ls) refl);
  prop = λ y. rolled _ _ _ _ _ (at_prop refilling (map_prop its y)) (at_prop leaving (map_prop its y)) (λ ls. rw (y.value.1 ls) refl);
  stmt = λ y. rolled _ _ _ _ _ (at_stmt refilling (map_stmt its y)) (at_stmt leaving (map_stmt its y)) (λ ls. rw (y.kind.1 ls) refl);
}

-- ---- the leaves that stand in a tree don't matter

same_kind : (x : ExprKindLayer Refilling) → refill_kind (shortened_expr_kind Refilling x) ≡ refill_kind x
same_kind (ExprKind-F.Name cs) = refl
same_kind (ExprKind-F.ExprKind::Text cs) = refl
same_kind (ExprKind-F.Val d) = refl
same_kind _ = refl

same_child : (x : MarkupChildLayer Refilling) → refill_child (shortened_markup_child Refilling x) ≡ refill_child x
same_child (MarkupChild-F.MarkupChild::Text cs) = refl
same_child _ = refl

same_quoted : (x : MarkupValueLayer Refilling) → refill_quoted (shortened_markup_value Refilling x) ≡ refill_quoted x
same_quoted (MarkupValue-F.Quoted cs) = refl
same_quoted _ = refl

same_stmt_kind : (x : StmtKindLayer Refilling) → refill_stmt_kind (shortened_stmt_kind Refilling x) ≡ refill_stmt_kind x
same_stmt_kind (StmtKind-F.Try body name handler) = refl
same_stmt_kind _ = refl

same_own : (name : Option Mark) → take_own (option_map short_mark name) ≡ take_own name
same_own None = refl
same_own (Some m) = refl

same_marks : (ms : List Mark) → take_marks (map short_mark ms) ≡ take_marks ms
same_marks [] = refl
same_marks (m ∷ ms) = ap (with_two (λ x xs. x ∷ xs) (take_mark m)) (same_marks ms)

refilling_is_kept : AreKept refilling
refilling_is_kept = record {
  expr_kind = same_kind;
  markup_child = same_child;
  markup_value = same_quoted;
  stmt_kind = same_stmt_kind;
  decl = λ x. refl;
  function = λ x. λ i. with_three (λ y ys zs. roll-Function (record { name = y; parameters = ys; body = zs })) (same_own x.name i) (same_marks x.parameters i) (in_turn x.body);
  markup = λ x. refl;
  markup_attribute = λ x. refl;
  prop = λ x. refl;
}

-- ---- a body

abbrev pub leaves_of : List Stmt → Leaves
leaves_of body = all_of no_leaves then_leaves (map (on_stmt leaving) body)

abbrev pub refilled : List Stmt → Taking (List Stmt)
refilled body = in_turn (map (on_stmt refilling) body)

pub made_of_leaves : (body : List Stmt) (ls : List Leaf) → refilled body (leaves_of body ls) ≡ (body, ls)
made_of_leaves [] ls = refl
made_of_leaves (s ∷ body) ls = rw (stmt_has Again made_again s (leaves_of body ls), made_of_leaves body ls) refl

pub refilled_shortened : (body : List Stmt) → refilled (shortened_body body) ≡ refilled body
refilled_shortened [] = refl
refilled_shortened (s ∷ body) = λ i. with_two (λ x xs. x ∷ xs) (stmt_kept refilling refilling_is_kept s i) (refilled_shortened body i)

-- trees that differ in their leaves alone, and have the same leaves, are the same
pub same_by_leaves : (a b : List Stmt) → shortened_body a ≡ shortened_body b → leaves_of a [] ≡ leaves_of b [] → a ≡ b
same_by_leaves a b shortened leaves =
    let one : refilled a (leaves_of a []) ≡ refilled b (leaves_of b []) =
    sym (λ i. refilled_shortened a i (leaves_of a [])) ∙ (λ i. refilled (shortened i) (leaves i)) ∙ (λ i. refilled_shortened b i (leaves_of b [])) in
    sym (ap (λ p. p.0) (made_of_leaves a [])) ∙ ap (λ p. p.0) one ∙ ap (λ p. p.0) (made_of_leaves b [])
