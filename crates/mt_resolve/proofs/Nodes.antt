-- What expressions become stands for them.
use Rattle.std.proofs.Common.{◌≡◌, ℕ, ◌≤◌, List, length, refl, sym, subst, arith}
use Rattle.std.specs.Prelude.{slice_get}
use Rattle.mt_eval_meaning.specs.Code.{AllStand, ExprStandsTo, PieceStandsForValue, AttributeStands, PieceStandsForChild, EntryStands, ExprStands}
use Rattle.mt_eval_meaning.specs.Scopes.{Scope}
use Rattle.mt_eval_meaning.specs.States.{Numbered}
use Rattle.mt_eval_meaning.specs.Evaluation.{dollars_of, own_name}
use Rattle.mt_eval_meaning.specs.Names.{Surroundings}
use Rattle.mt_eval_meaning.specs.Runs.{gives, and_then}
use Rattle.mt_resolve.specs.Resolving.{Parts, exprs, entry, piece_of_value, attribute, piece_of_child, child, entries, attributes, children, node_at}
use Rattle.mt_resolve.proofs.BodiesMade.{Makes, stable_expr, function_made}
use Rattle.mt_resolve.proofs.Growth.{attribute_kept, child_kept, entry_kept, expr_kept}
use Rattle.mt_resolve.proofs.Triples.{Claim, Always, Stable, Triple, triple_bind, triple_pure, frame, stable_both, stable_all, all_made}
use Rattle.mt_eval_meaning.specs.Slots.{ExprLayer, PieceLayer}
use Rattle.mt_eval_meaning.specs.declared.expr.Attribute.{Attribute, roll-Attribute, out-roll-Attribute}
use Rattle.mt_eval_meaning.specs.declared.expr.Entry.{Entry, roll-Entry, out-roll-Entry}
use Rattle.mt_eval_meaning.specs.declared.expr.Expr.{Expr, out-Expr, roll-Expr, out-roll-Expr}
use Rattle.mt_eval_meaning.specs.declared.expr.Expr.TheOpen.{Expr-F, Piece-F}
use Rattle.mt_eval_meaning.specs.declared.expr.Piece.{Piece, out-Piece, roll-Piece, out-roll-Piece}
use Rattle.mt_eval_meaning.specs.declared.function.Function.{Function}
use Rattle.mt_syntax.specs.Fold.{Tree, ExprKindLayer, MarkupChildLayer, MarkupValueLayer}
use Rattle.mt_syntax.specs.declared.tree.Expr.{Expr as SyntaxExpr}
use Rattle.mt_syntax.specs.declared.tree.ExprKind.TheOpen.{ExprKind-F, MarkupChild-F, MarkupValue-F}
use Rattle.mt_syntax.specs.declared.tree.Function.{out-Function}
use Rattle.mt_syntax.specs.declared.tree.Markup.{out-Markup}
use Rattle.mt_syntax.specs.declared.tree.MarkupAttribute.{MarkupAttribute, out-MarkupAttribute}
use Rattle.mt_syntax.specs.declared.tree.MarkupChild.{MarkupChild, out-MarkupChild}
use Rattle.mt_syntax.specs.declared.tree.MarkupValue.{out-MarkupValue}
use Rattle.mt_syntax.specs.declared.tree.Prop.{Prop, out-Prop}
use Rattle.mt_tree.specs.Limits.{depth_limit}

module _ (around : Surroundings) (old : List Function) (first : ℕ) (numbers : first ≡ length old) (depth : ℕ) (low : depth ≤ depth_limit) (p : Parts) (below : Makes around old depth p) where
  abbrev To : List Function → List Numbered → Scope → Expr → SyntaxExpr → Type 0
  To units table = ExprStandsTo around units table depth

  stays : (scope : Scope) (u : Expr) (e : SyntaxExpr) → Stable (λ units table. To units table scope u e)
  stays scope u e = stable_expr around old first numbers depth low p below scope u e

  exprs_made : (scope : Scope) (es : List SyntaxExpr) → Triple around old Always (exprs around first p scope es) (λ us units table. AllStand (To units table scope) us es)
  unfolding exprs
  exprs_made scope es = all_made around old (λ units table u e. To units table scope u e) (stays scope) (λ e. p.expr scope e) (below.expr scope) es

  -- ---- parts of elements and objects

  piece_is : {pre : Claim} (c : PieceLayer) (post : List Function → List Numbered → PieceLayer → Type 0) → ((units : List Function) (table : List Numbered) → pre units table → post units table c)
      → Triple around old pre (λ s. gives (roll-Piece c) s) (λ u units table. post units table (out-Piece u))
  piece_is c post h = triple_pure around old (roll-Piece c) (λ units table k. subst (λ z. post units table z) (sym (out-roll-Piece c)) (h units table k))

  value_made : (scope : Scope) (v : MarkupValueLayer Tree) → Triple around old Always (piece_of_value around first p scope v) (λ u units table. PieceStandsForValue around units table (To units table) scope (out-Piece u) v)
  value_made scope (MarkupValue-F.Quoted text) = piece_is (Piece-F.Piece::Text text) (λ units table c. PieceStandsForValue around units table (To units table) scope c (MarkupValue-F.Quoted text)) (λ units table h. refl)
  value_made scope (MarkupValue-F.MarkupValue::Tilde e) =
      triple_bind around old (below.expr scope e) (λ u. piece_is (Piece-F.Expr u) (λ units table c. PieceStandsForValue around units table (To units table) scope c (MarkupValue-F.MarkupValue::Tilde e)) (λ units table h. h))
  value_made scope (MarkupValue-F.MarkupValue::Dollar e) =
      triple_bind around old (below.expr scope e) (λ u. piece_is (Piece-F.Expr u) (λ units table c. PieceStandsForValue around units table (To units table) scope c (MarkupValue-F.MarkupValue::Dollar e)) (λ units table h. h))

  attribute_made : (scope : Scope) (a : MarkupAttribute) → Triple around old Always (attribute around first p scope a) (λ u units table. AttributeStands around units table (To units table) scope u a)
  unfolding attribute
  attribute_made scope a =
      triple_bind around old (value_made scope (out-MarkupValue (out-MarkupAttribute a).value)) (λ c.
      triple_pure around old (roll-Attribute (record { name = (out-MarkupAttribute a).name.name; value = c }))
      (λ units table h. subst (λ z. (z.name ≡ (out-MarkupAttribute a).name.name) × PieceStandsForValue around units table (To units table) scope (out-Piece z.value) (out-MarkupValue (out-MarkupAttribute a).value))
      (sym (out-roll-Attribute (record { name = (out-MarkupAttribute a).name.name; value = c }))) (refl, h)))

  child_at_made : (scope : Scope) (c : MarkupChildLayer Tree) → Triple around old Always (piece_of_child around first p scope c) (λ u units table. PieceStandsForChild around units table (To units table) scope (out-Piece u) c)
  child_at_made scope (MarkupChild-F.MarkupChild::Text text) = piece_is (Piece-F.Piece::Text text) (λ units table c. PieceStandsForChild around units table (To units table) scope c (MarkupChild-F.MarkupChild::Text text)) (λ units table h. refl)
  child_at_made scope (MarkupChild-F.Direct e) =
      triple_bind around old (below.expr scope e) (λ u. piece_is (Piece-F.Expr u) (λ units table c. PieceStandsForChild around units table (To units table) scope c (MarkupChild-F.Direct e)) (λ units table h. h))
  child_at_made scope (MarkupChild-F.MarkupChild::Dollar e) =
      triple_bind around old (below.expr scope e) (λ u. piece_is (Piece-F.Expr u) (λ units table c. PieceStandsForChild around units table (To units table) scope c (MarkupChild-F.MarkupChild::Dollar e)) (λ units table h. h))

  child_made : (scope : Scope) (c : MarkupChild) → Triple around old Always (child around first p scope c) (λ u units table. PieceStandsForChild around units table (To units table) scope (out-Piece u) (out-MarkupChild c))
  unfolding child
  child_made scope c = child_at_made scope (out-MarkupChild c)

  entry_made : (scope : Scope) (q : Prop) → Triple around old Always (entry around first p scope q) (λ u units table. EntryStands around units table (To units table) scope u q)
  unfolding entry
  entry_made scope q =
      triple_bind around old (below.expr scope (out-Prop q).value) (λ u.
      triple_pure around old (roll-Entry (record { name = (out-Prop q).name; value = u }))
      (λ units table h. subst (λ z. (z.name ≡ (out-Prop q).name) × To units table scope z.value (out-Prop q).value) (sym (out-roll-Entry (record { name = (out-Prop q).name; value = u }))) (refl, h)))

  stays_attribute : (scope : Scope) (u : Attribute) (a : MarkupAttribute) → Stable (λ units table. AttributeStands around units table (To units table) scope u a)
  stays_attribute scope u a = record { keeps = λ f t f' t' m h. attribute_kept around f t f' t' m (To f t) (To f' t') (expr_kept around f t f' t' m depth depth (omega arith)) scope u a h }

  stays_child : (scope : Scope) (u : Piece) (c : MarkupChild) → Stable (λ units table. PieceStandsForChild around units table (To units table) scope (out-Piece u) (out-MarkupChild c))
  stays_child scope u c = record { keeps = λ f t f' t' m h. child_kept around f t f' t' m (To f t) (To f' t') (expr_kept around f t f' t' m depth depth (omega arith)) scope (out-Piece u) (out-MarkupChild c) h }

  stays_entry : (scope : Scope) (u : Entry) (q : Prop) → Stable (λ units table. EntryStands around units table (To units table) scope u q)
  stays_entry scope u q = record { keeps = λ f t f' t' m h. entry_kept around f t f' t' m (To f t) (To f' t') (expr_kept around f t f' t' m depth depth (omega arith)) scope u q h }

  attributes_made : (scope : Scope) (named : List MarkupAttribute) → Triple around old Always (attributes around first p scope named) (λ us units table. AllStand (AttributeStands around units table (To units table) scope) us named)
  unfolding attributes
  attributes_made scope named = all_made around old (λ units table u a. AttributeStands around units table (To units table) scope u a) (stays_attribute scope) (attribute around first p scope) (attribute_made scope) named

  children_made : (scope : Scope) (cs : List MarkupChild)
      → Triple around old Always (children around first p scope cs) (λ us units table. AllStand (λ a b. PieceStandsForChild around units table (To units table) scope (out-Piece a) (out-MarkupChild b)) us cs)
  unfolding children
  children_made scope cs = all_made around old (λ units table u c. PieceStandsForChild around units table (To units table) scope (out-Piece u) (out-MarkupChild c)) (stays_child scope) (child around first p scope) (child_made scope) cs

  entries_made : (scope : Scope) (qs : List Prop) → Triple around old Always (entries around first p scope qs) (λ us units table. AllStand (EntryStands around units table (To units table) scope) us qs)
  unfolding entries
  entries_made scope qs = all_made around old (λ units table u q. EntryStands around units table (To units table) scope u q) (stays_entry scope) (entry around first p scope) (entry_made scope) qs

  -- ---- expressions

  made_is : {pre : Claim} (scope : Scope) (x : ExprLayer) (e : ExprKindLayer Tree) → ((units : List Function) (table : List Numbered) → pre units table → ExprStands around units table (To units table) scope x e)
      → Triple around old pre (λ s. gives (roll-Expr x) s) (λ u units table. ExprStands around units table (To units table) scope (out-Expr u) e)
  made_is scope x e h = triple_pure around old (roll-Expr x) (λ units table k. subst (λ z. ExprStands around units table (To units table) scope z e) (sym (out-roll-Expr x)) (h units table k))

  one : (scope : Scope) (a : SyntaxExpr) (layer : Expr → ExprLayer) (e : ExprKindLayer Tree)
      → ((units : List Function) (table : List Numbered) (u : Expr) → To units table scope u a → ExprStands around units table (To units table) scope (layer u) e)
      → Triple around old Always (λ s. and_then (p.expr scope a s) (λ u s. gives (roll-Expr (layer u)) s)) (λ u units table. ExprStands around units table (To units table) scope (out-Expr u) e)
  one scope a layer e h = triple_bind around old (below.expr scope a) (λ u. made_is scope (layer u) e (λ units table k. h units table u k))

  two : (scope : Scope) (a b : SyntaxExpr) (layer : Expr → Expr → ExprLayer) (e : ExprKindLayer Tree)
      → ((units : List Function) (table : List Numbered) (u v : Expr) → To units table scope u a → To units table scope v b → ExprStands around units table (To units table) scope (layer u v) e)
      → Triple around old Always (λ s. and_then (p.expr scope a s) (λ u s. and_then (p.expr scope b s) (λ v s. gives (roll-Expr (layer u v)) s))) (λ u units table. ExprStands around units table (To units table) scope (out-Expr u) e)
  two scope a b layer e h =
      triple_bind around old (below.expr scope a) (λ u.
      triple_bind around old (frame around old (stays scope u a) (below.expr scope b)) (λ v. made_is scope (layer u v) e (λ units table k. h units table u v k.0 k.1)))

  pub node_made : (scope : Scope) (e : ExprKindLayer Tree) → Triple around old Always (node_at around first p scope e) (λ u units table. ExprStands around units table (To units table) scope (out-Expr u) e)
  node_made scope (ExprKind-F.Name text) = made_is scope _ (ExprKind-F.Name text) (λ units table h. (refl, refl))
  node_made scope (ExprKind-F.Num n) = made_is scope _ (ExprKind-F.Num n) (λ units table h. refl)
  node_made scope (ExprKind-F.ExprKind::Text text) = made_is scope _ (ExprKind-F.ExprKind::Text text) (λ units table h. refl)
  node_made scope (ExprKind-F.Bool b) = made_is scope _ (ExprKind-F.Bool b) (λ units table h. refl)
  node_made scope ExprKind-F.Null = made_is scope _ ExprKind-F.Null (λ units table h. tt)
  node_made scope ExprKind-F.Undefined = made_is scope _ ExprKind-F.Undefined (λ units table h. tt)
  node_made scope (ExprKind-F.Arr es) = triple_bind around old (exprs_made scope es) (λ us. made_is scope _ (ExprKind-F.Arr es) (λ units table h. h))
  node_made scope (ExprKind-F.Obj qs) = triple_bind around old (entries_made scope qs) (λ us. made_is scope _ (ExprKind-F.Obj qs) (λ units table h. h))
  node_made scope (ExprKind-F.Fun f) =
      triple_bind around old (function_made around old first numbers depth low p below scope (own_name (out-Function f).name) f) (λ n. made_is scope _ (ExprKind-F.Fun f) (λ units table h. h))
  node_made scope (ExprKind-F.Unary op a) = one scope a (λ u. Expr-F.Unary op u) (ExprKind-F.Unary op a) (λ units table u h. (refl, h))
  node_made scope (ExprKind-F.Step kind a) = one scope a (λ u. Expr-F.Step kind u) (ExprKind-F.Step kind a) (λ units table u h. (refl, h))
  node_made scope (ExprKind-F.Binary op a b) = two scope a b (λ u v. Expr-F.Binary op u v) (ExprKind-F.Binary op a b) (λ units table u v h k. (refl, h, k))
  node_made scope (ExprKind-F.And a b) = two scope a b (λ u v. Expr-F.And u v) (ExprKind-F.And a b) (λ units table u v h k. (h, k))
  node_made scope (ExprKind-F.Or a b) = two scope a b (λ u v. Expr-F.Or u v) (ExprKind-F.Or a b) (λ units table u v h k. (h, k))
  node_made scope (ExprKind-F.Cond a b c) =
      triple_bind around old (below.expr scope a) (λ u.
      triple_bind around old (frame around old (stays scope u a) (below.expr scope b)) (λ v.
      triple_bind around old (frame around old (stable_both _ _ (stays scope u a) (stays scope v b)) (below.expr scope c)) (λ w.
      made_is scope _ (ExprKind-F.Cond a b c) (λ units table h. (h.0.0, h.0.1, h.1)))))
  node_made scope (ExprKind-F.Assign op a b) = two scope a b (λ u v. Expr-F.Assign op u v) (ExprKind-F.Assign op a b) (λ units table u v h k. (refl, h, k))
  node_made scope (ExprKind-F.Index a b) = two scope a b (λ u v. Expr-F.Index u v) (ExprKind-F.Index a b) (λ units table u v h k. (h, k))
  node_made scope (ExprKind-F.Call a es) =
      triple_bind around old (below.expr scope a) (λ u.
      triple_bind around old (frame around old (stays scope u a) (exprs_made scope es)) (λ us. made_is scope _ (ExprKind-F.Call a es) (λ units table h. h)))
  node_made scope (ExprKind-F.ExprKind::Tilde id) = triple_bind around old (exprs_made scope (dollars_of (slice_get around.tildes id))) (λ us. made_is scope _ (ExprKind-F.ExprKind::Tilde id) (λ units table h. (refl, h)))
  node_made scope (ExprKind-F.ExprKind::Dollar at) = made_is scope _ (ExprKind-F.ExprKind::Dollar at) (λ units table h. tt)
  node_made scope (ExprKind-F.Stray a) = made_is scope _ (ExprKind-F.Stray a) (λ units table h. tt)
  node_made scope (ExprKind-F.Markup m) =
      triple_bind around old (attributes_made scope (out-Markup m).attributes) (λ named.
      triple_bind around old (frame around old (stable_all around old (λ units table u a. AttributeStands around units table (To units table) scope u a) (stays_attribute scope) named (out-Markup m).attributes) (children_made scope (out-Markup m).children)) (λ cs.
      made_is scope _ (ExprKind-F.Markup m) (λ units table h. (refl, h.0, h.1))))
  node_made scope (ExprKind-F.Val d) = made_is scope _ (ExprKind-F.Val d) (λ units table h. refl)
