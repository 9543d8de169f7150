-- What a walk gives: the values of a tree, where the tree is not too deep.
use Rattle.std.proofs.Common.{◌≡◌, ℕ, zero, suc, ◌-◌, ◌<◌, ◌≤◌, max, Bool, true, false, eqb, List, [], ◌∷◌, ◌++◌, map, Option, Some, None, refl, sym, ap, ◌∙◌, append_assoc, arith}
use Rattle.std.specs.Prelude.{if◌then◌else◌}
use Rattle.std.proofs.lemmas.Bool.{ne_eqb}
use Rattle.std.proofs.lemmas.List.{append-nil}
use Rattle.mt_tree.specs.declared.data.Data.{Data}
use Rattle.mt_syntax.specs.Depth.{depth_of, depth_of_stmt, measuring, nothing}
use Rattle.mt_syntax.specs.Fold.{ExprKindLayer, on_stmt}
use Rattle.mt_syntax.specs.Gathering.{gathering}
use Rattle.mt_syntax.specs.Numbering.{listing_values, values_of}
use Rattle.mt_syntax.specs.declared.tree.Stmt.{Stmt}
use Rattle.mt_syntax.specs.declared.tree.ExprKind.TheOpen.{ExprKind-F}
use Rattle.mt_syntax_laws.proofs.Gathered.{Alike, gathered}
use Rattle.mt_syntax_laws.proofs.Layers.{map_expr_kind}
use Rattle.mt_syntax_laws.proofs.Related.{Preserved, Two, lefts, related_stmt, rights}
use Rattle.mt_json.specs.Reading.{◌>>=◌}
use Rattle.mt_script_read.specs.Walking.{Walk, all_walks, below, nothing_met, then_walk, walk_kind, walking}

some_same : {A : Type 0} (x y : A) → Some x ≡ Some y → x ≡ y
some_same x y e = cc

-- ---- the values

abbrev Meets : Walk → List Data → Type 0
Meets f vs = (levels : ℕ) (met x : List Data) → f levels met ≡ Some x → x ≡ met ++ vs

meets_nothing : Meets nothing_met []
meets_nothing levels met x e = sym (some_same met x e) ∙ sym (append-nil met)

after_some : (o : Option (List Data)) (g : List Data → Option (List Data)) (vs ws met x : List Data) → ((y : List Data) → o ≡ Some y → y ≡ met ++ vs) → ((y z : List Data) → g y ≡ Some z → z ≡ y ++ ws) → (o >>= g) ≡ Some x → x ≡ met ++ (vs ++ ws)
after_some None g vs ws met x h k e = absurd cc
after_some (Some y) g vs ws met x h k e = k y x e ∙ ap (λ s. s ++ ws) (h y refl) ∙ append_assoc met vs ws

meets_both : (f g : Walk) (vs ws : List Data) → Meets f vs → Meets g ws → Meets (then_walk f g) (vs ++ ws)
meets_both f g vs ws h k levels met x e = after_some (f levels met) (g levels) vs ws met x (h levels met) (λ y. k levels y) e

below_some : (b : Bool) (o : Option (List Data)) (x : List Data) → (if b then None else o) ≡ Some x → o ≡ Some x
below_some true o x e = absurd cc
below_some false o x e = e

meets_below : (f : Walk) (vs : List Data) → Meets f vs → Meets (below f) vs
meets_below f vs h levels met x e = h (levels - 1) met x (below_some (eqb levels 0) (f (levels - 1) met) x e)

meeting : Preserved (gathering nothing_met then_walk) (gathering [] (λ xs ys. xs ++ ys)) (Alike Meets)
meeting = gathered Meets nothing_met then_walk [] (λ xs ys. xs ++ ys) meets_nothing (λ f g vs ws. meets_both f g vs ws)

meets_kind : (x : ExprKindLayer (Two (Alike Meets))) → Meets (walk_kind (map_expr_kind (lefts (Alike Meets)) x)) (listing_values.expr_kind (map_expr_kind (rights (Alike Meets)) x))
meets_kind (ExprKind-F.Val d) = λ levels met x e. sym (some_same (met ++ d ∷ []) x e)
meets_kind x = meeting.expr_kind x

values_met : Preserved walking listing_values (Alike Meets)
values_met =
    let base = meeting in
    record {
      expr_kind = meets_kind;
      for_start = base.for_start;
      markup_child = base.markup_child;
      markup_value = base.markup_value;
      stmt_kind = base.stmt_kind;
      decl = base.decl;
      expr = λ x. meets_below x.kind.left x.kind.right x.kind.holds;
      function = base.function;
      markup = base.markup;
      markup_attribute = base.markup_attribute;
      prop = base.prop;
      stmt = λ x. meets_below x.kind.left x.kind.right x.kind.holds;
    }

body_meets : (body : List Stmt) → Meets (all_walks (map (on_stmt walking) body)) (values_of body)
body_meets [] = meets_nothing
body_meets (s ∷ body) = meets_both (on_stmt walking s) (all_walks (map (on_stmt walking) body)) (on_stmt listing_values s) (values_of body) (related_stmt walking listing_values (Alike Meets) values_met s) (body_meets body)

-- ---- the depth

record Reaches (f : Walk) (depth : ℕ) : Type 0 where
  walks : (levels : ℕ) (met : List Data) → depth ≤ levels → (x : List Data) × (f levels met ≡ Some x)
  fits : (levels : ℕ) (met x : List Data) → f levels met ≡ Some x → depth ≤ levels

reaches_nothing : Reaches nothing_met 0
reaches_nothing = record { walks = λ levels met h. (met, refl); fits = λ levels met x e. omega arith }

both_fit : (o : Option (List Data)) (g : List Data → Option (List Data)) (x : List Data) (levels a b : ℕ) → ((y : List Data) → o ≡ Some y → a ≤ levels) → ((y z : List Data) → g y ≡ Some z → b ≤ levels) → (o >>= g) ≡ Some x → max a b ≤ levels
both_fit None g x levels a b h k e = absurd cc
both_fit (Some y) g x levels a b h k e = omega (arith, h y refl, k y x e)

reaches_both : (f g : Walk) (a b : ℕ) → Reaches f a → Reaches g b → Reaches (then_walk f g) (max a b)
reaches_both f g a b h k = record {
  walks = λ levels met deep.
      let one = h.walks levels met (omega arith) in
      let two = k.walks levels one.0 (omega arith) in (two.0, rw one.1 two.1);
  fits = λ levels met x e. both_fit (f levels met) (g levels) x levels a b (λ y. h.fits levels met y) (λ y z. k.fits levels y z) e;
}

below_fits : (levels : ℕ) (o : Option (List Data)) (x : List Data) → (if eqb levels 0 then None else o) ≡ Some x → 0 < levels
below_fits zero o x e = absurd cc
below_fits (suc n) o x e = omega arith

reaches_below : (f : Walk) (depth : ℕ) → Reaches f depth → Reaches (below f) (suc depth)
reaches_below f depth h = record {
  walks = λ levels met deep.
      let one = h.walks (levels - 1) met (omega arith) in (one.0, rw (ne_eqb levels 0 (λ e. omega arith)) one.1);
  fits = λ levels met x e.
      let some : 0 < levels = below_fits levels (f (levels - 1) met) x e in
      let less : depth ≤ levels - 1 = h.fits (levels - 1) met x (below_some (eqb levels 0) (f (levels - 1) met) x e) in omega arith;
}

reaching : Preserved (gathering nothing_met then_walk) (gathering 0 max) (Alike Reaches)
reaching = gathered Reaches nothing_met then_walk 0 max reaches_nothing (λ f g a b. reaches_both f g a b)

reaches_kind : (x : ExprKindLayer (Two (Alike Reaches))) → Reaches (walk_kind (map_expr_kind (lefts (Alike Reaches)) x)) ((measuring nothing nothing).expr_kind (map_expr_kind (rights (Alike Reaches)) x))
reaches_kind (ExprKind-F.Val d) = record { walks = λ levels met h. (met ++ d ∷ [], refl); fits = λ levels met x e. omega arith }
reaches_kind (ExprKind-F.ExprKind::Tilde id) = reaches_nothing
reaches_kind (ExprKind-F.ExprKind::Dollar at) = reaches_nothing
reaches_kind x = reaching.expr_kind x

depth_reached : Preserved walking (measuring nothing nothing) (Alike Reaches)
depth_reached =
    let base = reaching in
    record {
      expr_kind = reaches_kind;
      for_start = base.for_start;
      markup_child = base.markup_child;
      markup_value = base.markup_value;
      stmt_kind = base.stmt_kind;
      decl = base.decl;
      expr = λ x. reaches_below x.kind.left x.kind.right x.kind.holds;
      function = base.function;
      markup = base.markup;
      markup_attribute = base.markup_attribute;
      prop = base.prop;
      stmt = λ x. reaches_below x.kind.left x.kind.right x.kind.holds;
    }

body_reaches : (body : List Stmt) → Reaches (all_walks (map (on_stmt walking) body)) (depth_of body)
body_reaches [] = reaches_nothing
body_reaches (s ∷ body) = reaches_both (on_stmt walking s) (all_walks (map (on_stmt walking) body)) (depth_of_stmt s) (depth_of body) (related_stmt walking (measuring nothing nothing) (Alike Reaches) depth_reached s) (body_reaches body)

-- ---- a whole body

pub walked_values : (body : List Stmt) (levels : ℕ) (x : List Data) → all_walks (map (on_stmt walking) body) levels [] ≡ Some x → x ≡ values_of body
walked_values body levels x e = body_meets body levels [] x e

pub walked_depth : (body : List Stmt) (levels : ℕ) (x : List Data) → all_walks (map (on_stmt walking) body) levels [] ≡ Some x → depth_of body ≤ levels
walked_depth body levels x e = (body_reaches body).fits levels [] x e

pub too_deep : (body : List Stmt) (levels : ℕ) → all_walks (map (on_stmt walking) body) levels [] ≡ None → depth_of body ≤ levels → ⊥
too_deep body levels none deep = let walk = (body_reaches body).walks levels [] deep in let e : None ≡ Some walk.0 = sym none ∙ walk.1 in absurd cc
