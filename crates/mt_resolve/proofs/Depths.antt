-- Syntax whose depth is at most a number is within that number, where this is so of the dollars of each tilde.
use Rattle.std.proofs.Common.{◌≡◌, ℕ, zero, suc, ◌≤◌, max, List, [], ◌∷◌, map, Option, None, Some, sym, ap, ◌∙◌, subst, arith}
use Rattle.std.proofs.lemmas.Bool.Decides.{nat_tests}
use Rattle.std.specs.Prelude.{slice_get}
use Rattle.mt_eval_meaning.specs.Evaluation.{dollars_of, expr_kind_of}
use Rattle.mt_eval_meaning.specs.Hoisting.{kind_of}
use Rattle.mt_syntax.specs.Depth.{depth_of, depth_of_kind, greatest, measuring, nothing}
use Rattle.mt_syntax.specs.Fold.{Every, Steps, Tree, ExprKindLayer, ForStartLayer, MarkupChildLayer, MarkupValueLayer, StmtKindLayer, on_decl, on_expr, on_expr_kind, on_for_start, on_function, on_markup, on_markup_attribute, on_markup_child, on_markup_value, on_prop, on_stmt, on_stmt_kind}
use Rattle.mt_syntax_laws.proofs.Layers.{map_expr_kind, map_for_start, map_markup_child, map_markup_value, map_stmt_kind, map_decl}
use Rattle.mt_syntax_laws.proofs.Related.{on, at_expr_kind, at_for_start, at_markup_child, at_markup_value, at_stmt_kind, at_decl, at_expr, at_function, at_markup, at_markup_attribute, at_prop, at_stmt}
use Rattle.mt_resolve.specs.Within.{AllOf, IfThere, Limits, BodyIsWithin, ValueIsWithin, AttributeIsWithin, PieceIsWithin, ChildIsWithin, PropIsWithin, ExprIsWithin, DeclIsWithin, StartIsWithin, StmtIsWithin, within, AreWithin}
use Rattle.mt_syntax.specs.declared.program.Tilde.{Tilde}
use Rattle.mt_syntax.specs.declared.tree.Decl.{Decl, out-Decl, roll-out-Decl}
use Rattle.mt_syntax.specs.declared.tree.Expr.{Expr, out-Expr, roll-out-Expr}
use Rattle.mt_syntax.specs.declared.tree.ExprKind.{ExprKind, out-ExprKind, roll-out-ExprKind}
use Rattle.mt_syntax.specs.declared.tree.ExprKind.TheOpen.{ExprKind-F, ForStart-F, MarkupChild-F, MarkupValue-F, StmtKind-F}
use Rattle.mt_syntax.specs.declared.tree.ForStart.{ForStart, out-ForStart, roll-out-ForStart}
use Rattle.mt_syntax.specs.declared.tree.Function.{Function, out-Function, roll-out-Function}
use Rattle.mt_syntax.specs.declared.tree.Mark.{Mark}
use Rattle.mt_syntax.specs.declared.tree.Markup.{Markup, out-Markup, roll-out-Markup}
use Rattle.mt_syntax.specs.declared.tree.MarkupAttribute.{MarkupAttribute, out-MarkupAttribute, roll-out-MarkupAttribute}
use Rattle.mt_syntax.specs.declared.tree.MarkupChild.{MarkupChild, out-MarkupChild, roll-out-MarkupChild}
use Rattle.mt_syntax.specs.declared.tree.MarkupValue.{MarkupValue, out-MarkupValue, roll-out-MarkupValue}
use Rattle.mt_syntax.specs.declared.tree.Prop.{Prop, out-Prop, roll-out-Prop}
use Rattle.mt_syntax.specs.declared.tree.Stmt.{Stmt, out-Stmt, roll-out-Stmt}
use Rattle.mt_syntax.specs.declared.tree.StmtKind.{StmtKind, out-StmtKind, roll-out-StmtKind}
use Rattle.mt_tree.specs.Limits.{depth_limit}

left_of : (m n d : ℕ) → max m n ≤ d → m ≤ d
left_of m n d h = grind (arith, nat_tests)

right_of : (m n d : ℕ) → max m n ≤ d → n ≤ d
right_of m n d h = grind (arith, nat_tests)

all_within : {A : Type 0} (depth_at : A → ℕ) (P : A → Type 0) (d : ℕ) → ((a : A) → depth_at a ≤ d → P a) → (xs : List A) → greatest (map depth_at xs) ≤ d → AllOf P xs
all_within depth_at P d k [] h = tt
all_within depth_at P d k (x ∷ xs) h =
    (k x (left_of (depth_at x) (greatest (map depth_at xs)) d h), all_within depth_at P d k xs (right_of (depth_at x) (greatest (map depth_at xs)) d h))

module _ (tildes : List Tilde) (tilde dollar : ℕ → ℕ) where
  abbrev steps : Steps (Every ℕ)
  steps = measuring tilde dollar

  -- ---- the depth of a node, from the depths of its parts

  kind_depth : (k : ExprKind) → on_expr_kind steps k ≡ depth_of_kind tilde dollar (map_expr_kind (on steps) (out-ExprKind k))
  kind_depth k = sym (ap (on_expr_kind steps) (roll-out-ExprKind k)) ∙ at_expr_kind steps (out-ExprKind k)

  expr_depth : (e : Expr) → on_expr steps e ≡ suc (depth_of_kind tilde dollar (map_expr_kind (on steps) (expr_kind_of e)))
  expr_depth e = sym (ap (on_expr steps) (roll-out-Expr e)) ∙ at_expr steps (out-Expr e) ∙ ap suc (kind_depth (out-Expr e).kind)

  stmt_kind_depth : (k : StmtKind) → on_stmt_kind steps k ≡ steps.stmt_kind (map_stmt_kind (on steps) (out-StmtKind k))
  stmt_kind_depth k = sym (ap (on_stmt_kind steps) (roll-out-StmtKind k)) ∙ at_stmt_kind steps (out-StmtKind k)

  stmt_depth : (t : Stmt) → on_stmt steps t ≡ suc (steps.stmt_kind (map_stmt_kind (on steps) (kind_of t)))
  stmt_depth t = sym (ap (on_stmt steps) (roll-out-Stmt t)) ∙ at_stmt steps (out-Stmt t) ∙ ap suc (stmt_kind_depth (out-Stmt t).kind)

  prop_depth : (q : Prop) → on_prop steps q ≡ on_expr steps (out-Prop q).value
  prop_depth q = sym (ap (on_prop steps) (roll-out-Prop q)) ∙ at_prop steps (out-Prop q)

  function_depth : (f : Function) → on_function steps f ≡ greatest (map (on_stmt steps) (out-Function f).body)
  function_depth f = sym (ap (on_function steps) (roll-out-Function f)) ∙ at_function steps (out-Function f)

  attribute_depth : (a : MarkupAttribute) → on_markup_attribute steps a ≡ on_markup_value steps (out-MarkupAttribute a).value
  attribute_depth a = sym (ap (on_markup_attribute steps) (roll-out-MarkupAttribute a)) ∙ at_markup_attribute steps (out-MarkupAttribute a)

  value_depth : (v : MarkupValue) → on_markup_value steps v ≡ steps.markup_value (map_markup_value (on steps) (out-MarkupValue v))
  value_depth v = sym (ap (on_markup_value steps) (roll-out-MarkupValue v)) ∙ at_markup_value steps (out-MarkupValue v)

  child_depth : (c : MarkupChild) → on_markup_child steps c ≡ steps.markup_child (map_markup_child (on steps) (out-MarkupChild c))
  child_depth c = sym (ap (on_markup_child steps) (roll-out-MarkupChild c)) ∙ at_markup_child steps (out-MarkupChild c)

  markup_depth : (m : Markup) → on_markup steps m ≡ max (greatest (map (on_markup_attribute steps) (out-Markup m).attributes)) (greatest (map (on_markup_child steps) (out-Markup m).children))
  markup_depth m = sym (ap (on_markup steps) (roll-out-Markup m)) ∙ at_markup steps (out-Markup m)

  start_depth : (s : ForStart) → on_for_start steps s ≡ steps.for_start (map_for_start (on steps) (out-ForStart s))
  start_depth s = sym (ap (on_for_start steps) (roll-out-ForStart s)) ∙ at_for_start steps (out-ForStart s)

  decl_depth : (d : Decl) → on_decl steps d ≡ steps.decl (map_decl (on steps) (out-Decl d))
  decl_depth d = sym (ap (on_decl steps) (roll-out-Decl d)) ∙ at_decl steps (out-Decl d)

  -- ---- parts of a node

  module _ (d : ℕ) (l : Limits) (in_expr : (e : Expr) → on_expr steps e ≤ d → l.expr e) (in_stmt : (t : Stmt) → on_stmt steps t ≤ d → l.stmt t) (in_tilde : (id : ℕ) → tilde id ≤ d → AllOf l.expr (dollars_of (slice_get tildes id))) where
    in_exprs : (es : List Expr) → greatest (map (on_expr steps) es) ≤ d → AllOf l.expr es
    in_exprs es h = all_within (on_expr steps) l.expr d in_expr es h

    in_stmts : (ts : List Stmt) → greatest (map (on_stmt steps) ts) ≤ d → AllOf l.stmt ts
    in_stmts ts h = all_within (on_stmt steps) l.stmt d in_stmt ts h

    in_prop : (q : Prop) → on_prop steps q ≤ d → PropIsWithin tildes l q
    in_prop q h = in_expr (out-Prop q).value (subst (λ n. n ≤ d) (prop_depth q) h)

    in_function : (f : Function) → on_function steps f ≤ d → BodyIsWithin tildes l f
    in_function f h = in_stmts (out-Function f).body (subst (λ n. n ≤ d) (function_depth f) h)

    in_value_at : (v : MarkupValueLayer Tree) → steps.markup_value (map_markup_value (on steps) v) ≤ d → ValueIsWithin tildes l v
    in_value_at (MarkupValue-F.Quoted text) h = tt
    in_value_at (MarkupValue-F.MarkupValue::Tilde e) h = in_expr e h
    in_value_at (MarkupValue-F.MarkupValue::Dollar e) h = in_expr e h

    in_attribute : (a : MarkupAttribute) → on_markup_attribute steps a ≤ d → AttributeIsWithin tildes l a
    in_attribute a h = in_value_at (out-MarkupValue (out-MarkupAttribute a).value) (subst (λ n. n ≤ d) (attribute_depth a ∙ value_depth (out-MarkupAttribute a).value) h)

    in_child_at : (c : MarkupChildLayer Tree) → steps.markup_child (map_markup_child (on steps) c) ≤ d → PieceIsWithin tildes l c
    in_child_at (MarkupChild-F.MarkupChild::Text text) h = tt
    in_child_at (MarkupChild-F.Direct e) h = in_expr e h
    in_child_at (MarkupChild-F.MarkupChild::Dollar e) h = in_expr e h

    in_child : (c : MarkupChild) → on_markup_child steps c ≤ d → ChildIsWithin tildes l c
    in_child c h = in_child_at (out-MarkupChild c) (subst (λ n. n ≤ d) (child_depth c) h)

    in_markup : (m : Markup) → on_markup steps m ≤ d → AllOf (AttributeIsWithin tildes l) (out-Markup m).attributes × AllOf (ChildIsWithin tildes l) (out-Markup m).children
    in_markup m h =
        let named = greatest (map (on_markup_attribute steps) (out-Markup m).attributes) in
        let cs = greatest (map (on_markup_child steps) (out-Markup m).children) in
        let both = subst (λ n. n ≤ d) (markup_depth m) h in (
          all_within (on_markup_attribute steps) (AttributeIsWithin tildes l) d in_attribute (out-Markup m).attributes (left_of named cs d both),
          all_within (on_markup_child steps) (ChildIsWithin tildes l) d in_child (out-Markup m).children (right_of named cs d both),
        )

    in_two : (a b : Expr) → max (on_expr steps a) (on_expr steps b) ≤ d → l.expr a × l.expr b
    in_two a b h = (in_expr a (left_of (on_expr steps a) (on_expr steps b) d h), in_expr b (right_of (on_expr steps a) (on_expr steps b) d h))

    pub in_node : (k : ExprKindLayer Tree) → depth_of_kind tilde dollar (map_expr_kind (on steps) k) ≤ d → ExprIsWithin tildes l k
    in_node (ExprKind-F.Arr es) h = in_exprs es h
    in_node (ExprKind-F.Obj qs) h = all_within (on_prop steps) (PropIsWithin tildes l) d in_prop qs h
    in_node (ExprKind-F.Fun f) h = in_function f h
    in_node (ExprKind-F.Unary op a) h = in_expr a h
    in_node (ExprKind-F.Step kind a) h = in_expr a h
    in_node (ExprKind-F.Binary op a b) h = in_two a b h
    in_node (ExprKind-F.And a b) h = in_two a b h
    in_node (ExprKind-F.Or a b) h = in_two a b h
    in_node (ExprKind-F.Cond a b c) h =
        let rest = max (on_expr steps b) (on_expr steps c) in
        let two = in_two b c (right_of (on_expr steps a) rest d h) in
        (in_expr a (left_of (on_expr steps a) rest d h), two.0, two.1)
    in_node (ExprKind-F.Assign op a b) h = in_two a b h
    in_node (ExprKind-F.Index a b) h = in_two a b h
    in_node (ExprKind-F.Call a es) h =
        let rest = greatest (map (on_expr steps) es) in
        (in_expr a (left_of (on_expr steps a) rest d h), in_exprs es (right_of (on_expr steps a) rest d h))
    in_node (ExprKind-F.ExprKind::Tilde id) h = in_tilde id h
    in_node (ExprKind-F.Markup m) h = in_markup m h
    in_node (ExprKind-F.Name text) h = tt
    in_node (ExprKind-F.Num n) h = tt
    in_node (ExprKind-F.ExprKind::Text text) h = tt
    in_node (ExprKind-F.Bool b) h = tt
    in_node ExprKind-F.Null h = tt
    in_node ExprKind-F.Undefined h = tt
    in_node (ExprKind-F.ExprKind::Dollar at) h = tt
    in_node (ExprKind-F.Stray a) h = tt
    in_node (ExprKind-F.Val v) h = tt

    in_decl_at : (name : Mark) (value : Option Expr) → steps.decl (map_decl (on steps) (record { name = name; value = value })) ≤ d → IfThere l.expr value
    in_decl_at name None h = tt
    in_decl_at name (Some e) h = in_expr e h

    in_decl : (x : Decl) → on_decl steps x ≤ d → DeclIsWithin tildes l x
    in_decl x h = in_decl_at (out-Decl x).name (out-Decl x).value (subst (λ n. n ≤ d) (decl_depth x) h)

    in_start_at : (s : ForStartLayer Tree) → steps.for_start (map_for_start (on steps) s) ≤ d → StartIsWithin tildes l s
    in_start_at ForStart-F.Absent h = tt
    in_start_at (ForStart-F.ForStart::Var ds) h = all_within (on_decl steps) (DeclIsWithin tildes l) d in_decl ds h
    in_start_at (ForStart-F.ForStart::Expr e) h = in_expr e h

    in_start : (s : ForStart) → on_for_start steps s ≤ d → StartIsWithin tildes l (out-ForStart s)
    in_start s h = in_start_at (out-ForStart s) (subst (λ n. n ≤ d) (start_depth s) h)

    -- what follows the start of a `for`, with the depths of its parts
    abbrev depth_if : Option Expr → ℕ
    depth_if None = 0
    depth_if (Some e) = on_expr steps e

    in_option : (e : Option Expr) → depth_if e ≤ d → IfThere l.expr e
    in_option None h = tt
    in_option (Some e) h = in_expr e h

    in_for : (s : ForStart) (test step : Option Expr) (a : Stmt) → max (on_for_start steps s) (max (depth_if test) (max (depth_if step) (on_stmt steps a))) ≤ d
        → StartIsWithin tildes l (out-ForStart s) × IfThere l.expr test × IfThere l.expr step × l.stmt a
    in_for s test step a h =
        let last = max (depth_if step) (on_stmt steps a) in
        let rest = max (depth_if test) last in
        let behind = right_of (on_for_start steps s) rest d h in
        let end = right_of (depth_if test) last d behind in
        (in_start s (left_of (on_for_start steps s) rest d h), in_option test (left_of (depth_if test) last d behind), in_option step (left_of (depth_if step) (on_stmt steps a) d end), in_stmt a (right_of (depth_if step) (on_stmt steps a) d end))

    pub in_statement : (k : StmtKindLayer Tree) → steps.stmt_kind (map_stmt_kind (on steps) k) ≤ d → StmtIsWithin tildes l k
    in_statement (StmtKind-F.StmtKind::Expr e) h = in_expr e h
    in_statement (StmtKind-F.StmtKind::Var kind ds) h = all_within (on_decl steps) (DeclIsWithin tildes l) d in_decl ds h
    in_statement (StmtKind-F.Function f) h = in_function f h
    in_statement (StmtKind-F.Service f) h = in_function f h
    in_statement (StmtKind-F.If e a None) h =
        let rest = max (on_stmt steps a) 0 in
        (in_expr e (left_of (on_expr steps e) rest d h), in_stmt a (left_of (on_stmt steps a) 0 d (right_of (on_expr steps e) rest d h)), tt)
    in_statement (StmtKind-F.If e a (Some b)) h =
        let rest = max (on_stmt steps a) (on_stmt steps b) in
        let behind = right_of (on_expr steps e) rest d h in
        (in_expr e (left_of (on_expr steps e) rest d h), in_stmt a (left_of (on_stmt steps a) (on_stmt steps b) d behind), in_stmt b (right_of (on_stmt steps a) (on_stmt steps b) d behind))
    in_statement (StmtKind-F.While e a) h = (in_expr e (left_of (on_expr steps e) (on_stmt steps a) d h), in_stmt a (right_of (on_expr steps e) (on_stmt steps a) d h))
    in_statement (StmtKind-F.For s None None a) h = in_for s None None a h
    in_statement (StmtKind-F.For s None (Some step) a) h = in_for s None (Some step) a h
    in_statement (StmtKind-F.For s (Some test) None a) h = in_for s (Some test) None a h
    in_statement (StmtKind-F.For s (Some test) (Some step) a) h = in_for s (Some test) (Some step) a h
    in_statement (StmtKind-F.Return None) h = tt
    in_statement (StmtKind-F.Return (Some e)) h = in_expr e h
    in_statement StmtKind-F.Break h = tt
    in_statement StmtKind-F.Continue h = tt
    in_statement (StmtKind-F.Throw e) h = in_expr e h
    in_statement (StmtKind-F.Try a text b) h = (in_stmt a (left_of (on_stmt steps a) (on_stmt steps b) d h), in_stmt b (right_of (on_stmt steps a) (on_stmt steps b) d h))
    in_statement (StmtKind-F.Block ts) h = in_stmts ts h
    in_statement StmtKind-F.Empty h = tt

-- ---- a measure with the dollars of tildes in their place

abbrev pub deep_in : (ℕ → ℕ) → Option Tilde → ℕ
deep_in tilde None = 0
deep_in tilde (Some t) = greatest (map (on_expr (measuring tilde nothing)) t.dollars)

-- tildes that nest in one another at most so often; one that nests deeper passes the limit
abbrev pub deep : List Tilde → ℕ → ℕ → ℕ
deep tildes zero id = suc depth_limit
deep tildes (suc n) id = deep_in (deep tildes n) (slice_get tildes id)

pub record Fits (tildes : List Tilde) (n d : ℕ) : Type 0 where
  pub expr : (e : Expr) → on_expr (measuring (deep tildes n) nothing) e ≤ d → (within tildes d).expr e
  pub stmt : (t : Stmt) → on_stmt (measuring (deep tildes n) nothing) t ≤ d → (within tildes d).stmt t

in_dollars : (tildes : List Tilde) (n d : ℕ) → Fits tildes n d → (t : Option Tilde) → deep_in (deep tildes n) t ≤ d → AllOf (within tildes d).expr (dollars_of t)
in_dollars tildes n d below None h = tt
in_dollars tildes n d below (Some t) h = all_within (on_expr (measuring (deep tildes n) nothing)) (within tildes d).expr d below.expr t.dollars h

in_tilde_at : (tildes : List Tilde) (n d : ℕ) → d ≤ depth_limit → ((m : ℕ) → Fits tildes m d) → (id : ℕ) → deep tildes n id ≤ d → AllOf (within tildes d).expr (dollars_of (slice_get tildes id))
in_tilde_at tildes zero d low below id h = absurd (omega (arith, h, low))
in_tilde_at tildes (suc n) d low below id h = in_dollars tildes n d (below n) (slice_get tildes id) h

pub fits : (tildes : List Tilde) (d : ℕ) → d ≤ depth_limit → (n : ℕ) → Fits tildes n d
fits tildes zero low n = record {
  expr = λ e h. absurd (omega (arith, h, expr_depth tildes (deep tildes n) nothing e));
  stmt = λ t h. absurd (omega (arith, h, stmt_depth tildes (deep tildes n) nothing t));
}
fits tildes (suc d) low n =
    let less : d ≤ depth_limit = omega (arith, low) in
    let below = fits tildes d less in
    record {
      expr = λ e h.
          let at : depth_of_kind (deep tildes n) nothing (map_expr_kind (on (measuring (deep tildes n) nothing)) (expr_kind_of e)) ≤ d = omega (arith, h, expr_depth tildes (deep tildes n) nothing e) in
          in_node tildes (deep tildes n) nothing d (within tildes d) (below n).expr (below n).stmt (in_tilde_at tildes n d less below) (expr_kind_of e) at;
      stmt = λ t h.
          let at : (measuring (deep tildes n) nothing).stmt_kind (map_stmt_kind (on (measuring (deep tildes n) nothing)) (kind_of t)) ≤ d = omega (arith, h, stmt_depth tildes (deep tildes n) nothing t) in
          in_statement tildes (deep tildes n) nothing d (within tildes d) (below n).expr (below n).stmt (in_tilde_at tildes n d less below) (kind_of t) at;
    }

pub all_fit : (tildes : List Tilde) (n : ℕ) (ts : List Stmt) → greatest (map (on_stmt (measuring (deep tildes n) nothing)) ts) ≤ depth_limit → AreWithin tildes ts
unfolding AreWithin
all_fit tildes n ts h = all_within (on_stmt (measuring (deep tildes n) nothing)) (within tildes depth_limit).stmt depth_limit (fits tildes depth_limit (omega arith) n).stmt ts h

-- code without tildes
pub code_within : (body : List Stmt) → depth_of body ≤ 60 → AreWithin [] body
code_within body h = all_fit [] 1 body h
