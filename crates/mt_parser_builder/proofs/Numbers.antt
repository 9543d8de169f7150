-- Where there are few nodes, the numbers of tildes and dollars have no bound to meet.
use Rattle.std.proofs.Common.{◌≡◌, ℕ, ◌+◌, ◌<◌, ◌≤◌, List, [], ◌∷◌, ◌++◌, length, Option, Some, None, option_map, refl, sym, ap, subst, ◌∙◌, arith, length-append}
use Rattle.std.proofs.lemmas.Bool.{lt-ltb}
use Rattle.mt_grammar.specs.ParseTree.{ParseTree, parse_tree, ParseTrees, no_trees, trees_and}
use Rattle.mt_tree.specs.declared.place.Place.{Place}
use Rattle.mt_syntax.specs.declared.tree.Expr as syntax_expr
use Rattle.mt_parser_builder.specs.declared.part.Part.{Part}
use Rattle.mt_parser_builder.specs.declared.part.Part.TheVariants as part
use Rattle.mt_parser_builder.specs.declared.tier.Tier.{Tier}
use Rattle.mt_parser_builder.specs.declared.tier.Tier.TheVariants as tier
use Rattle.mt_parser_builder.specs.declared.value.Value.{Value}
use Rattle.mt_parser_builder.specs.declared.value.Value.TheVariants as value
use Rattle.mt_parser_builder.specs.Answer.{on_both}
use Rattle.mt_parser_builder.specs.Found.{Found, next_tilde, number_of, within, tilde_made, dollar_made}
use Rattle.mt_parser_builder.specs.Parts.{Values, expr_first, stmt_first, firsts}
use Rattle.mt_parser_builder.specs.Making.{Making, tilde_value, dollar_value, all_made, node_made, tier_within, kind_made, stmt_made, piece_made}
use Rattle.mt_parser_builder.specs.Growing.{part_of}
use Rattle.mt_parser_builder.specs.Syntax as made
use Rattle.mt_parser_builder.proofs.Made.{free_node, free, frees, adds, all_and_last, one_more}

abbrev mutual
  pub checked : ParseTree → Making
  checked (parse_tree x rs) = node_made (part_of x) (checkeds rs)

  pub checkeds : ParseTrees → List Making
  checkeds no_trees = []
  checkeds (trees_and rs r) = checkeds rs ++ checked r ∷ []

  pub weight : ParseTree → ℕ
  weight (parse_tree x rs) = weights rs + 1

  pub weights : ParseTrees → ℕ
  weights no_trees = 0
  weights (trees_and rs r) = weights rs + weight r

-- the number of no tilde and no dollar
abbrev pub bound : ℕ
bound = 0xFFFF_FFFF

-- how far the numbers are at most where w nodes were read
pub record IsNear (w : ℕ) (s u : Found) : Type 0 where
  pub before : u.before ≡ s.before
  pub tildes : length u.tildes ≤ length s.tildes + w
  pub dollars : length u.dollars ≤ length s.dollars + w

pub record IsFar (w : ℕ) (s : Found) : Type 0 where
  pub tildes : s.before + length s.tildes + w < bound
  pub dollars : length s.dollars + w < bound

abbrev pub Numbered : Making → Making → ℕ → Type 0
Numbered f c w = (k : Tier) (s : Found) (v : Value) (u : Found) → f k s ≡ Some (v, u) → IsFar w s → (c k s ≡ Some (v, u)) × IsNear w s u

abbrev pub AllNumbered : List Making → List Making → ℕ → Type 0
AllNumbered fs cs w = (k : Tier) (s : Found) (vs : Values) (u : Found) → all_made fs k s ≡ Some (vs, u) → IsFar w s → (all_made cs k s ≡ Some (vs, u)) × IsNear w s u

came_of : {X S Y : Type 0} (o : Option (X × S)) (f : X → S → Option Y) (y : Y) → on_both o f ≡ Some y → (r : X × S) × (o ≡ Some r) × (f r.0 r.1 ≡ Some y)
came_of None f y e = absurd cc
came_of (Some r) f y e = (r, refl, e)

abbrev found_in : {X : Type 0} → Found → Option (X × Found) → Found
found_in s None = s
found_in s (Some r) = r.1

no_more : {Z : Type 0} (o : Option Z) (g : Z → Value) (t : Found) (v : Value) (u : Found) → option_map {U = Value × Found} (λ z. (g z, t)) o ≡ Some (v, u) → t ≡ u
no_more None g t v u e = absurd cc
no_more (Some z) g t v u e = ap (found_in t) e

fits : (n : ℕ) → n < bound → number_of n ≡ Some n
fits n h = rw (lt-ltb n bound h) refl

none_numbered : AllNumbered [] [] 0
none_numbered k s vs u e far = (e, subst (IsNear 0 s) (ap (found_in s) e) (record { before = refl; tildes = omega arith; dollars = omega arith }))

row_numbered : (fs cs : List Making) (w : ℕ) (f c : Making) (x : ℕ) → AllNumbered fs cs w → Numbered f c x → AllNumbered (fs ++ f ∷ []) (cs ++ c ∷ []) (w + x)
row_numbered fs cs w f c x rest one k s vs u e far =
    let came = came_of {Y = Values × Found} (all_made fs k s) (λ ws t. adds ws (f k t)) (vs, u) (sym (all_and_last fs f k s) ∙ e) in
    let t = came.0.1 in
    let last = came_of {Y = Values × Found} (f k t) (λ v y. Some (came.0.0 ++ v ∷ [], y)) (vs, u) came.2 in
    let a = rest k s came.0.0 t came.1 (record { tildes = omega (arith, far.tildes); dollars = omega (arith, far.dollars) }) in
    let same : t.before ≡ s.before = a.1.before in
    let b = one k t last.0.0 last.0.1 last.1 (record { tildes = omega (arith, far.tildes, a.1.tildes, same); dollars = omega (arith, far.dollars, a.1.dollars) }) in
    let is : last.0.1 ≡ u = ap (found_in u) last.2 in
    (one_more cs c k s a.0 b.0 ∙ last.2, subst (IsNear (w + x) s) is (record { before = b.1.before ∙ same; tildes = omega (arith, a.1.tildes, b.1.tildes); dollars = omega (arith, a.1.dollars, b.1.dollars) }))

-- a node that finds nothing itself
plain_numbered : {Z : Type 0} (fs cs : List Making) (w : ℕ) (h : Tier) (made : Values → Option Z) (g : Z → Value) → AllNumbered fs cs w → (k : Tier) (s : Found) (v : Value) (u : Found)
    → on_both {Y = Value × Found} (all_made fs h s) (λ vs t. option_map (λ z. (g z, t)) (made vs)) ≡ Some (v, u) → IsFar (w + 1) s
    → (on_both {Y = Value × Found} (all_made cs h s) (λ vs t. option_map (λ z. (g z, t)) (made vs)) ≡ Some (v, u)) × IsNear (w + 1) s u
plain_numbered fs cs w h made g rest k s v u e far =
    let came = came_of {Y = Value × Found} (all_made fs h s) (λ vs t. option_map (λ z. (g z, t)) (made vs)) (v, u) e in
    let a = rest h s came.0.0 came.0.1 came.1 (record { tildes = omega (arith, far.tildes); dollars = omega (arith, far.dollars) }) in
    let is : came.0.1 ≡ u = no_more (made came.0.0) g came.0.1 v u came.2 in
    (ap (λ o. on_both {Y = Value × Found} o (λ vs t. option_map (λ z. (g z, t)) (made vs))) a.0 ∙ came.2, subst (IsNear (w + 1) s) is (record { before = a.1.before; tildes = omega (arith, a.1.tildes); dollars = omega (arith, a.1.dollars) }))

tilde_numbered : (p : Place) (i : ℕ) (fs cs : List Making) (w : ℕ) → AllNumbered fs cs w → Numbered (free_node (part.Tilde p i) fs) (node_made (part.Tilde p i) cs) (w + 1)
tilde_numbered p i fs cs w rest k s v u e far =
    let came = came_of {Y = Value × Found} (all_made fs tier.Client (within s)) (λ vs t. tilde_value p i s (vs, t)) (v, u) e in
    let t = came.0.1 in
    let a = rest tier.Client (within s) came.0.0 t came.1 (record { tildes = omega (arith, far.tildes); dollars = omega (arith, far.tildes) }) in
    let body = came_of {Y = Value × Found} (firsts stmt_first i came.0.0) (λ body us. (let d = tilde_made p s (body, t) in Some (value.Expr d.0, d.1))) (v, u) came.2 in
    let d = (tilde_made p s (body.0.0, t)).1 in
    let is : d ≡ u = ap (found_in u) body.2 in
    let more = length-append s.tildes (record { id = next_tilde s; body = body.0.0; dollars = t.dollars } ∷ t.tildes) in
    (rw (fits (next_tilde s) (omega (arith, far.tildes)), a.0) came.2, subst (IsNear (w + 1) s) is (record { before = refl; tildes = omega (arith, a.1.tildes, more); dollars = omega arith }))

dollar_more : (k : Tier) (p : Place) (e : syntax_expr.Expr) (t : Found) → IsNear 1 t (dollar_made k p (e, t)).1
dollar_more tier.Client p e t = record { before = refl; tildes = omega arith; dollars = omega (arith, length-append t.dollars (e ∷ [])) }
dollar_more tier.Server p e t = record { before = refl; tildes = omega arith; dollars = omega arith }

dollar_fits : (k : Tier) (p : Place) (vs : Values) (t : Found) → length t.dollars < bound
    → dollar_value k p vs t ≡ on_both {Y = Value × Found} (expr_first vs) (λ e us. (let d = dollar_made k p (e, t) in Some (value.Expr d.0, d.1)))
dollar_fits tier.Client p vs t h = rw (fits (length t.dollars) h) refl
dollar_fits tier.Server p vs t h = refl

dollar_numbered : (p : Place) (fs cs : List Making) (w : ℕ) → AllNumbered fs cs w → Numbered (free_node (part.Dollar p) fs) (node_made (part.Dollar p) cs) (w + 1)
dollar_numbered p fs cs w rest k s v u e far =
    let came = came_of {Y = Value × Found} (all_made fs tier.Server s) (λ vs t. on_both {Y = Value × Found} (expr_first vs) (λ e us. (let d = dollar_made k p (e, t) in Some (value.Expr d.0, d.1)))) (v, u) e in
    let t = came.0.1 in
    let a = rest tier.Server s came.0.0 t came.1 (record { tildes = omega (arith, far.tildes); dollars = omega (arith, far.dollars) }) in
    let inner = came_of {Y = Value × Found} (expr_first came.0.0) (λ e us. (let d = dollar_made k p (e, t) in Some (value.Expr d.0, d.1))) (v, u) came.2 in
    let is : (dollar_made k p (inner.0.0, t)).1 ≡ u = ap (found_in u) inner.2 in
    let near = dollar_more k p inner.0.0 t in (
      ap (λ o. on_both o (λ vs t. dollar_value k p vs t)) a.0 ∙ dollar_fits k p came.0.0 t (omega (arith, a.1.dollars, far.dollars)) ∙ came.2,
      subst (IsNear (w + 1) s) is (record { before = near.before ∙ a.1.before; tildes = omega (arith, a.1.tildes, near.tildes); dollars = omega (arith, a.1.dollars, near.dollars) }),
    )

node_numbered : (x : Part) (fs cs : List Making) (w : ℕ) → AllNumbered fs cs w → Numbered (free_node x fs) (node_made x cs) (w + 1)
node_numbered (part.Tilde p i) fs cs w rest k s v u e far = tilde_numbered p i fs cs w rest k s v u e far
node_numbered (part.Dollar p) fs cs w rest k s v u e far = dollar_numbered p fs cs w rest k s v u e far
node_numbered (part.Expr p x) fs cs w rest k s v u e far = plain_numbered fs cs w k (kind_made x) (λ kind. value.Expr (made.expr p kind)) rest k s v u e far
node_numbered (part.Stmt p x) fs cs w rest k s v u e far = plain_numbered fs cs w k (stmt_made x) (λ kind. value.Stmt (made.stmt p kind)) rest k s v u e far
node_numbered (part.Piece x) fs cs w rest k s v u e far = plain_numbered fs cs w (tier_within (part.Piece x) k) (piece_made x) (λ v. v) rest k s v u e far

mutual
  tree_numbered : (r : ParseTree) → Numbered (free r) (checked r) (weight r)
  tree_numbered (parse_tree x rs) = node_numbered (part_of x) (frees rs) (checkeds rs) (weights rs) (trees_numbered rs)

  pub trees_numbered : (rs : ParseTrees) → AllNumbered (frees rs) (checkeds rs) (weights rs)
  trees_numbered no_trees = none_numbered
  trees_numbered (trees_and rs r) = row_numbered (frees rs) (checkeds rs) (weights rs) (free r) (checked r) (weight r) (trees_numbered rs) (tree_numbered r)
