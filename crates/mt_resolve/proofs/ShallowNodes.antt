-- What is nowhere deeper than a bound, and has few tildes, one node at a time.
use Rattle.std.proofs.Common.{◌≡◌, ℕ, ◌<◌, ◌≤◌, max, List, [], ◌∷◌, ◌++◌, map, length, Option, None, Some, slice_get, sym, ap, subst, ◌∙◌, arith}
use Rattle.std.proofs.lemmas.Bool.Decides.{nat_tests}
use Rattle.std.proofs.lemmas.List.{length-append}
use Rattle.mt_syntax.specs.Depth.{greatest, measuring}
use Rattle.mt_syntax.specs.Fold.{ExprKindLayer, ForStartLayer, MarkupChildLayer, MarkupValueLayer, StmtKindLayer, Every, Steps, Tree, on_expr, on_stmt, on_function, on_prop, on_markup, on_markup_attribute, on_markup_child, on_markup_value, on_for_start, on_decl}
use Rattle.mt_syntax.specs.Numbering.{in_order, listing_tildes}
use Rattle.mt_syntax_laws.proofs.Layers.{map_expr_kind, map_stmt_kind, map_for_start, map_markup_child, map_markup_value, map_decl}
use Rattle.mt_syntax_laws.proofs.Related.{on, at_for_start, at_markup_child, at_markup_value, at_decl, at_function, at_markup, at_markup_attribute, at_prop}
use Rattle.mt_syntax.specs.declared.program.Tilde.{Tilde}
use Rattle.mt_syntax.specs.declared.tree.Decl.{Decl, out-Decl, roll-out-Decl}
use Rattle.mt_syntax.specs.declared.tree.Expr.{Expr}
use Rattle.mt_syntax.specs.declared.tree.ExprKind.TheOpen.{ExprKind-F, ForStart-F, MarkupChild-F, MarkupValue-F, StmtKind-F}
use Rattle.mt_syntax.specs.declared.tree.ForStart.{out-ForStart, roll-out-ForStart}
use Rattle.mt_syntax.specs.declared.tree.Function.{out-Function, roll-out-Function}
use Rattle.mt_syntax.specs.declared.tree.Mark.{Mark}
use Rattle.mt_syntax.specs.declared.tree.Markup.{out-Markup, roll-out-Markup}
use Rattle.mt_syntax.specs.declared.tree.MarkupAttribute.{out-MarkupAttribute, roll-out-MarkupAttribute}
use Rattle.mt_syntax.specs.declared.tree.MarkupChild.{out-MarkupChild, roll-out-MarkupChild}
use Rattle.mt_syntax.specs.declared.tree.MarkupValue.{out-MarkupValue, roll-out-MarkupValue}
use Rattle.mt_syntax.specs.declared.tree.Prop.{out-Prop, roll-out-Prop}
use Rattle.mt_syntax.specs.declared.tree.Stmt.{Stmt}
use Rattle.mt_resolve.specs.Within.{AllOf, IfThere, Limits, BodyIsWithin, ValueIsWithin, AttributeIsWithin, PieceIsWithin, ChildIsWithin, PropIsWithin, ExprIsWithin, DeclIsWithin, StartIsWithin, StmtIsWithin}
use Rattle.mt_eval_meaning.specs.Evaluation.{dollars_of}

pub max_left : (m n : ℕ) → m ≤ max m n
max_left m n = grind (arith, nat_tests)

pub max_right : (m n : ℕ) → n ≤ max m n
max_right m n = grind (arith, nat_tests)

-- ---- a part has no more tildes than the whole, and is no deeper

abbrev pub Few : ℕ → List ℕ → Type 0
Few bound ids = length ids < bound

few_left : (xs ys : List ℕ) (bound : ℕ) → Few bound (xs ++ ys) → Few bound xs
few_left xs ys bound h = omega (arith, h, length-append xs ys)

few_right : (xs ys : List ℕ) (bound : ℕ) → Few bound (xs ++ ys) → Few bound ys
few_right xs ys bound h = omega (arith, h, length-append xs ys)

low_left : (m n k : ℕ) → max m n ≤ k → m ≤ k
low_left m n k h = omega (arith, h, max_left m n)

low_right : (m n k : ℕ) → max m n ≤ k → n ≤ k
low_right m n k h = omega (arith, h, max_right m n)

-- a part with its tildes and its depth
module _ (bound k : ℕ) where
  pub record Fits (ids : List ℕ) (depth : ℕ) : Type 0 where
    pub few : Few bound ids
    pub low : depth ≤ k

  first : (xs ys : List ℕ) (m n : ℕ) → Fits (xs ++ ys) (max m n) → Fits xs m
  first xs ys m n h = record { few = few_left xs ys bound h.few; low = low_left m n k h.low }

  second : (xs ys : List ℕ) (m n : ℕ) → Fits (xs ++ ys) (max m n) → Fits ys n
  second xs ys m n h = record { few = few_right xs ys bound h.few; low = low_right m n k h.low }

  module _ {T : Type 0} (ids : T → List ℕ) (depth : T → ℕ) (P : T → Type 0) (part : (t : T) → Fits (ids t) (depth t) → P t) where
    pub each : (ts : List T) → Fits (in_order (map ids ts)) (greatest (map depth ts)) → AllOf P ts
    each [] h = tt
    each (t ∷ ts) h =
        (part t (first (ids t) (in_order (map ids ts)) (depth t) (greatest (map depth ts)) h), each ts (second (ids t) (in_order (map ids ts)) (depth t) (greatest (map depth ts)) h))

pub moved : (bound k : ℕ) (xs ys : List ℕ) (m n : ℕ) → xs ≡ ys → m ≡ n → Fits bound k xs m → Fits bound k ys n
moved bound k xs ys m n same equal h = subst (λ (zs : List ℕ). Fits bound k zs n) same (subst (λ (d : ℕ). Fits bound k xs d) equal h)

-- ---- one node

module _ (tildes : List Tilde) (ids_in : ℕ → List ℕ) (depth_in : ℕ → ℕ) where
  abbrev pub lists : Steps (Every (List ℕ))
  lists = listing_tildes ids_in (λ at. [])

  abbrev pub measures : Steps (Every ℕ)
  measures = measuring depth_in (λ at. 0)

  module _ (bound k : ℕ) (l : Limits) where
    abbrev Part : {T : Type 0} → (T → List ℕ) → (T → ℕ) → (T → Type 0) → Type 0
    Part {T} ids depth P = (t : T) → Fits bound k (ids t) (depth t) → P t

    module _ (expr : Part (on_expr lists) (on_expr measures) l.expr) (stmt : Part (on_stmt lists) (on_stmt measures) l.stmt)
        (tilde : Part ids_in depth_in (λ id. AllOf l.expr (dollars_of (slice_get tildes id)))) where
      function : Part (on_function lists) (on_function measures) (BodyIsWithin tildes l)
      function f h =
          each bound k (on_stmt lists) (on_stmt measures) l.stmt stmt (out-Function f).body
          (moved bound k _ _ _ _ (ap (on_function lists) (sym (roll-out-Function f)) ∙ at_function lists (out-Function f)) (ap (on_function measures) (sym (roll-out-Function f)) ∙ at_function measures (out-Function f)) h)

      prop : Part (on_prop lists) (on_prop measures) (PropIsWithin tildes l)
      prop q h =
          expr (out-Prop q).value
          (moved bound k _ _ _ _ (ap (on_prop lists) (sym (roll-out-Prop q)) ∙ at_prop lists (out-Prop q)) (ap (on_prop measures) (sym (roll-out-Prop q)) ∙ at_prop measures (out-Prop q)) h)

      value_fits : (x : MarkupValueLayer Tree) → Fits bound k (lists.markup_value (map_markup_value (on lists) x)) (measures.markup_value (map_markup_value (on measures) x)) → ValueIsWithin tildes l x
      value_fits (MarkupValue-F.Quoted text) h = tt
      value_fits (MarkupValue-F.MarkupValue::Tilde e) h = expr e h
      value_fits (MarkupValue-F.MarkupValue::Dollar e) h = expr e h

      value : Part (on_markup_value lists) (on_markup_value measures) (λ v. ValueIsWithin tildes l (out-MarkupValue v))
      value v h =
          value_fits (out-MarkupValue v)
          (moved bound k _ _ _ _ (ap (on_markup_value lists) (sym (roll-out-MarkupValue v)) ∙ at_markup_value lists (out-MarkupValue v)) (ap (on_markup_value measures) (sym (roll-out-MarkupValue v)) ∙ at_markup_value measures (out-MarkupValue v)) h)

      attribute : Part (on_markup_attribute lists) (on_markup_attribute measures) (AttributeIsWithin tildes l)
      attribute a h =
          value (out-MarkupAttribute a).value
          (moved bound k _ _ _ _ (ap (on_markup_attribute lists) (sym (roll-out-MarkupAttribute a)) ∙ at_markup_attribute lists (out-MarkupAttribute a)) (ap (on_markup_attribute measures) (sym (roll-out-MarkupAttribute a)) ∙ at_markup_attribute measures (out-MarkupAttribute a)) h)

      piece_fits : (x : MarkupChildLayer Tree) → Fits bound k (lists.markup_child (map_markup_child (on lists) x)) (measures.markup_child (map_markup_child (on measures) x)) → PieceIsWithin tildes l x
      piece_fits (MarkupChild-F.MarkupChild::Text text) h = tt
      piece_fits (MarkupChild-F.Direct e) h = expr e h
      piece_fits (MarkupChild-F.MarkupChild::Dollar e) h = expr e h

      child : Part (on_markup_child lists) (on_markup_child measures) (ChildIsWithin tildes l)
      child c h =
          piece_fits (out-MarkupChild c)
          (moved bound k _ _ _ _ (ap (on_markup_child lists) (sym (roll-out-MarkupChild c)) ∙ at_markup_child lists (out-MarkupChild c)) (ap (on_markup_child measures) (sym (roll-out-MarkupChild c)) ∙ at_markup_child measures (out-MarkupChild c)) h)

      markup : Part (on_markup lists) (on_markup measures) (λ m. AllOf (AttributeIsWithin tildes l) (out-Markup m).attributes × AllOf (ChildIsWithin tildes l) (out-Markup m).children)
      markup m h =
          let both = moved bound k _ _ _ _ (ap (on_markup lists) (sym (roll-out-Markup m)) ∙ at_markup lists (out-Markup m)) (ap (on_markup measures) (sym (roll-out-Markup m)) ∙ at_markup measures (out-Markup m)) h in
          let attributes = (out-Markup m).attributes in
          let children = (out-Markup m).children in (
            each bound k (on_markup_attribute lists) (on_markup_attribute measures) (AttributeIsWithin tildes l) attribute attributes (first bound k _ _ _ _ both),
            each bound k (on_markup_child lists) (on_markup_child measures) (ChildIsWithin tildes l) child children (second bound k _ _ _ _ both),
          )

      exprs : (es : List Expr) → Fits bound k (in_order (map (on_expr lists) es)) (greatest (map (on_expr measures) es)) → AllOf l.expr es
      exprs = each bound k (on_expr lists) (on_expr measures) l.expr expr

      pub expr_kind_fits : (x : ExprKindLayer Tree) → Fits bound k (lists.expr_kind (map_expr_kind (on lists) x)) (measures.expr_kind (map_expr_kind (on measures) x)) → ExprIsWithin tildes l x
      expr_kind_fits (ExprKind-F.Name text) h = tt
      expr_kind_fits (ExprKind-F.Num n) h = tt
      expr_kind_fits (ExprKind-F.ExprKind::Text text) h = tt
      expr_kind_fits (ExprKind-F.Bool b) h = tt
      expr_kind_fits ExprKind-F.Null h = tt
      expr_kind_fits ExprKind-F.Undefined h = tt
      expr_kind_fits (ExprKind-F.Arr es) h = exprs es h
      expr_kind_fits (ExprKind-F.Obj qs) h = each bound k (on_prop lists) (on_prop measures) (PropIsWithin tildes l) prop qs h
      expr_kind_fits (ExprKind-F.Fun f) h = function f h
      expr_kind_fits (ExprKind-F.Unary op a) h = expr a h
      expr_kind_fits (ExprKind-F.Step op a) h = expr a h
      expr_kind_fits (ExprKind-F.Binary op a b) h = (expr a (first bound k _ _ _ _ h), expr b (second bound k _ _ _ _ h))
      expr_kind_fits (ExprKind-F.And a b) h = (expr a (first bound k _ _ _ _ h), expr b (second bound k _ _ _ _ h))
      expr_kind_fits (ExprKind-F.Or a b) h = (expr a (first bound k _ _ _ _ h), expr b (second bound k _ _ _ _ h))
      expr_kind_fits (ExprKind-F.Cond a b c) h =
          let rest = second bound k (on_expr lists a) (on_expr lists b ++ on_expr lists c) (on_expr measures a) (max (on_expr measures b) (on_expr measures c)) h in
          (expr a (first bound k _ _ _ _ h), expr b (first bound k _ _ _ _ rest), expr c (second bound k _ _ _ _ rest))
      expr_kind_fits (ExprKind-F.Assign op a b) h = (expr a (first bound k _ _ _ _ h), expr b (second bound k _ _ _ _ h))
      expr_kind_fits (ExprKind-F.Index a b) h = (expr a (first bound k _ _ _ _ h), expr b (second bound k _ _ _ _ h))
      expr_kind_fits (ExprKind-F.Call a es) h = (expr a (first bound k _ _ _ _ h), exprs es (second bound k _ _ _ _ h))
      expr_kind_fits (ExprKind-F.ExprKind::Tilde id) h = tilde id h
      expr_kind_fits (ExprKind-F.ExprKind::Dollar at) h = tt
      expr_kind_fits (ExprKind-F.Stray a) h = tt
      expr_kind_fits (ExprKind-F.Markup m) h = markup m h
      expr_kind_fits (ExprKind-F.Val d) h = tt

      -- ---- statements

      decl_by : (name : Mark) (value : Option Expr)
          → Fits bound k (lists.decl (map_decl (on lists) (record { name = name; value = value }))) (measures.decl (map_decl (on measures) (record { name = name; value = value }))) → IfThere l.expr value
      decl_by name None h = tt
      decl_by name (Some e) h = expr e h

      decl : Part (on_decl lists) (on_decl measures) (DeclIsWithin tildes l)
      decl d h =
          decl_by (out-Decl d).name (out-Decl d).value
          (moved bound k _ _ _ _ (ap (on_decl lists) (sym (roll-out-Decl d)) ∙ at_decl lists (out-Decl d)) (ap (on_decl measures) (sym (roll-out-Decl d)) ∙ at_decl measures (out-Decl d)) h)

      decls : (ds : List Decl) → Fits bound k (in_order (map (on_decl lists) ds)) (greatest (map (on_decl measures) ds)) → AllOf (DeclIsWithin tildes l) ds
      decls = each bound k (on_decl lists) (on_decl measures) (DeclIsWithin tildes l) decl

      start_fits : (x : ForStartLayer Tree) → Fits bound k (lists.for_start (map_for_start (on lists) x)) (measures.for_start (map_for_start (on measures) x)) → StartIsWithin tildes l x
      start_fits ForStart-F.Absent h = tt
      start_fits (ForStart-F.ForStart::Var ds) h = decls ds h
      start_fits (ForStart-F.ForStart::Expr e) h = expr e h

      start : Part (on_for_start lists) (on_for_start measures) (λ s. StartIsWithin tildes l (out-ForStart s))
      start s h =
          start_fits (out-ForStart s)
          (moved bound k _ _ _ _ (ap (on_for_start lists) (sym (roll-out-ForStart s)) ∙ at_for_start lists (out-ForStart s)) (ap (on_for_start measures) (sym (roll-out-ForStart s)) ∙ at_for_start measures (out-ForStart s)) h)

      stmts : (ts : List Stmt) → Fits bound k (in_order (map (on_stmt lists) ts)) (greatest (map (on_stmt measures) ts)) → AllOf l.stmt ts
      stmts = each bound k (on_stmt lists) (on_stmt measures) l.stmt stmt

      pub stmt_kind_fits : (x : StmtKindLayer Tree) → Fits bound k (lists.stmt_kind (map_stmt_kind (on lists) x)) (measures.stmt_kind (map_stmt_kind (on measures) x)) → StmtIsWithin tildes l x
      stmt_kind_fits (StmtKind-F.StmtKind::Expr e) h = expr e h
      stmt_kind_fits (StmtKind-F.StmtKind::Var kind ds) h = decls ds h
      stmt_kind_fits (StmtKind-F.Function f) h = function f h
      stmt_kind_fits (StmtKind-F.Service f) h = function f h
      stmt_kind_fits (StmtKind-F.If e a None) h =
          let rest = second bound k (on_expr lists e) (on_stmt lists a ++ []) (on_expr measures e) (max (on_stmt measures a) 0) h in
          (expr e (first bound k _ _ _ _ h), stmt a (first bound k _ _ _ _ rest), tt)
      stmt_kind_fits (StmtKind-F.If e a (Some b)) h =
          let rest = second bound k (on_expr lists e) (on_stmt lists a ++ on_stmt lists b) (on_expr measures e) (max (on_stmt measures a) (on_stmt measures b)) h in
          (expr e (first bound k _ _ _ _ h), stmt a (first bound k _ _ _ _ rest), stmt b (second bound k _ _ _ _ rest))
      stmt_kind_fits (StmtKind-F.While e a) h = (expr e (first bound k _ _ _ _ h), stmt a (second bound k _ _ _ _ h))
      stmt_kind_fits (StmtKind-F.For begin None None a) h =
          let rest = second bound k (on_for_start lists begin) ([] ++ ([] ++ on_stmt lists a)) (on_for_start measures begin) (max (0) (max (0) (on_stmt measures a))) h in
          let end = second bound k ([]) ([] ++ on_stmt lists a) (0) (max (0) (on_stmt measures a)) rest in
          (start begin (first bound k _ _ _ _ h), tt, tt, stmt a (second bound k ([]) (on_stmt lists a) (0) (on_stmt measures a) end))
      stmt_kind_fits (StmtKind-F.For begin None (Some step) a) h =
          let rest = second bound k (on_for_start lists begin) ([] ++ (on_expr lists step ++ on_stmt lists a)) (on_for_start measures begin) (max (0) (max (on_expr measures step) (on_stmt measures a))) h in
          let end = second bound k ([]) (on_expr lists step ++ on_stmt lists a) (0) (max (on_expr measures step) (on_stmt measures a)) rest in
          (start begin (first bound k _ _ _ _ h), tt, expr step (first bound k _ _ _ _ end), stmt a (second bound k (on_expr lists step) (on_stmt lists a) (on_expr measures step) (on_stmt measures a) end))
      stmt_kind_fits (StmtKind-F.For begin (Some test) None a) h =
          let rest = second bound k (on_for_start lists begin) (on_expr lists test ++ ([] ++ on_stmt lists a)) (on_for_start measures begin) (max (on_expr measures test) (max (0) (on_stmt measures a))) h in
          let end = second bound k (on_expr lists test) ([] ++ on_stmt lists a) (on_expr measures test) (max (0) (on_stmt measures a)) rest in
          (start begin (first bound k _ _ _ _ h), expr test (first bound k _ _ _ _ rest), tt, stmt a (second bound k ([]) (on_stmt lists a) (0) (on_stmt measures a) end))
      stmt_kind_fits (StmtKind-F.For begin (Some test) (Some step) a) h =
          let rest = second bound k (on_for_start lists begin) (on_expr lists test ++ (on_expr lists step ++ on_stmt lists a)) (on_for_start measures begin) (max (on_expr measures test) (max (on_expr measures step) (on_stmt measures a))) h in
          let end = second bound k (on_expr lists test) (on_expr lists step ++ on_stmt lists a) (on_expr measures test) (max (on_expr measures step) (on_stmt measures a)) rest in
          (start begin (first bound k _ _ _ _ h), expr test (first bound k _ _ _ _ rest), expr step (first bound k _ _ _ _ end), stmt a (second bound k (on_expr lists step) (on_stmt lists a) (on_expr measures step) (on_stmt measures a) end))
      stmt_kind_fits (StmtKind-F.Return None) h = tt
      stmt_kind_fits (StmtKind-F.Return (Some e)) h = expr e h
      stmt_kind_fits StmtKind-F.Break h = tt
      stmt_kind_fits StmtKind-F.Continue h = tt
      stmt_kind_fits (StmtKind-F.Throw e) h = expr e h
      stmt_kind_fits (StmtKind-F.Try a text b) h = (stmt a (first bound k _ _ _ _ h), stmt b (second bound k _ _ _ _ h))
      stmt_kind_fits (StmtKind-F.Block ts) h = stmts ts h
      stmt_kind_fits StmtKind-F.Empty h = tt
