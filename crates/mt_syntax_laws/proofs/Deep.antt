-- Each tilde of a derived program is at most as deep as the program.
use Rattle.std.proofs.Common.{◌≡◌, ℕ, zero, suc, ◌+◌, ◌<◌, ◌≤◌, max, List, [], ◌∷◌, ◌++◌, map, length, Option, None, Some, slice_get, sym, subst, add-zero, zero-add, arith}
use Rattle.std.specs.List.{range_with_len}
use Rattle.std.proofs.lemmas.Bool.Decides.{nat_tests}
use Rattle.mt_syntax.specs.Fold.{ExprKindLayer, on_expr, on_stmt}
use Rattle.mt_syntax.specs.Gathering.{gathering}
use Rattle.mt_syntax.specs.Depth.{depth_of, depth_of_kind, depth_of_program, greatest, measuring, nothing}
use Rattle.mt_syntax.specs.Numbering.{in_order, listing_tildes, tildes_of, tildes_of_kind}
use Rattle.mt_syntax.specs.Whole.{on_dollar, on_tilde, on_tilde_number}
use Rattle.mt_syntax.specs.Derivation.{IsDerived}
use Rattle.mt_syntax_laws.proofs.Gathered.{Alike, gathered}
use Rattle.mt_syntax_laws.proofs.Layers.{map_expr_kind}
use Rattle.mt_syntax_laws.proofs.Related.{Preserved, Two, lefts, rights, related_expr, related_stmt}
use Rattle.mt_syntax.specs.declared.program.Program.{Program}
use Rattle.mt_syntax.specs.declared.program.Tilde.{Tilde}
use Rattle.mt_syntax.specs.declared.tree.Expr.{Expr}
use Rattle.mt_syntax.specs.declared.tree.Stmt.{Stmt}
use Rattle.mt_syntax.specs.declared.tree.ExprKind.TheOpen.{ExprKind-F}

max_left : (m n : ℕ) → m ≤ max m n
max_left m n = grind (arith, nat_tests)

max_right : (m n : ℕ) → n ≤ max m n
max_right m n = grind (arith, nat_tests)

max_both : (m m' n n' : ℕ) → m ≤ m' → n ≤ n' → max m n ≤ max m' n'
max_both m m' n n' p q = grind (arith, nat_tests)

-- what holds of each
abbrev Each : (ℕ → Type 0) → List ℕ → Type 0
Each P [] = Unit {0}
Each P (n ∷ ns) = P n × Each P ns

abbrev AtMost : ℕ → ℕ → Type 0
AtMost m n = m ≤ n

-- ---- what stands in tildes and dollars only adds to the depth

module _ (tilde dollar : ℕ → ℕ) where
  depths : Preserved (gathering 0 max) (gathering 0 max) (Alike AtMost)
  depths = gathered AtMost 0 max 0 max (omega arith) (λ m n m' n' p q. max_both m m' n n' p q)

  kind_at_most : (x : ExprKindLayer (Two (Alike AtMost)))
      → AtMost (depth_of_kind nothing nothing (map_expr_kind (lefts (Alike AtMost)) x)) (depth_of_kind tilde dollar (map_expr_kind (rights (Alike AtMost)) x))
  kind_at_most (ExprKind-F.ExprKind::Tilde id) = omega arith
  kind_at_most (ExprKind-F.ExprKind::Dollar at) = omega arith
  kind_at_most x = depths.expr_kind x

  at_most : Preserved (measuring nothing nothing) (measuring tilde dollar) (Alike AtMost)
  at_most = record {
    expr_kind = kind_at_most;
    for_start = depths.for_start;
    markup_child = depths.markup_child;
    markup_value = depths.markup_value;
    stmt_kind = depths.stmt_kind;
    decl = depths.decl;
    expr = λ x. omega (arith, x.kind.holds);
    function = depths.function;
    markup = depths.markup;
    markup_attribute = depths.markup_attribute;
    prop = depths.prop;
    stmt = λ x. omega (arith, x.kind.holds);
  }

  body_at_most : (body : List Stmt) → depth_of body ≤ greatest (map (on_stmt (measuring tilde dollar)) body)
  body_at_most [] = omega arith
  body_at_most (t ∷ body) =
      max_both (on_stmt (measuring nothing nothing) t) (on_stmt (measuring tilde dollar) t) (depth_of body) (greatest (map (on_stmt (measuring tilde dollar)) body))
      (related_stmt (measuring nothing nothing) (measuring tilde dollar) (Alike AtMost) at_most t) (body_at_most body)

-- ---- each tilde that is met is at most as deep as what it is met in

abbrev depth_in : Option Tilde → ℕ
depth_in None = 0
depth_in (Some t) = depth_of t.body

module _ (tildes : List Tilde) where
  abbrev own_depth : ℕ → ℕ
  own_depth id = depth_in (slice_get tildes id)

  abbrev Within : List ℕ → ℕ → Type 0
  Within ids depth = Each (λ id. own_depth id ≤ depth) ids

  deeper : (ids : List ℕ) (m n : ℕ) → m ≤ n → Within ids m → Within ids n
  deeper [] m n h w = tt
  deeper (id ∷ ids) m n h w = (omega (arith, h, w.0), deeper ids m n h w.1)

  within_both : (ids others : List ℕ) (n : ℕ) → Within ids n → Within others n → Within (ids ++ others) n
  within_both [] others n p q = q
  within_both (id ∷ ids) others n p q = (p.0, within_both ids others n p.1 q)

  within_join : (ids others : List ℕ) (m n : ℕ) → Within ids m → Within others n → Within (ids ++ others) (max m n)
  within_join ids others m n p q = within_both ids others (max m n) (deeper ids m (max m n) (max_left m n) p) (deeper others n (max m n) (max_right m n) q)

  met : Preserved (gathering [] (λ ids others. ids ++ others)) (gathering 0 max) (Alike Within)
  met = gathered Within [] (λ ids others. ids ++ others) 0 max tt within_join

  module _ (ids_in : ℕ → List ℕ) (ids_at : ℕ → List ℕ) (depth_of_tilde depth_at : ℕ → ℕ) (in_tilde : (id : ℕ) → Within (ids_in id) (depth_of_tilde id)) (in_dollar : (at : ℕ) → Within (ids_at at) (depth_at at)) where
    kind_within : (x : ExprKindLayer (Two (Alike Within)))
        → Within (tildes_of_kind ids_in ids_at (map_expr_kind (lefts (Alike Within)) x)) (depth_of_kind depth_of_tilde depth_at (map_expr_kind (rights (Alike Within)) x))
    kind_within (ExprKind-F.ExprKind::Tilde id) = in_tilde id
    kind_within (ExprKind-F.ExprKind::Dollar at) = in_dollar at
    kind_within x = met.expr_kind x

    within : Preserved (listing_tildes ids_in ids_at) (measuring depth_of_tilde depth_at) (Alike Within)
    within = record {
      expr_kind = kind_within;
      for_start = met.for_start;
      markup_child = met.markup_child;
      markup_value = met.markup_value;
      stmt_kind = met.stmt_kind;
      decl = met.decl;
      expr = λ x. deeper x.kind.left x.kind.right (suc x.kind.right) (omega arith) x.kind.holds;
      function = met.function;
      markup = met.markup;
      markup_attribute = met.markup_attribute;
      prop = met.prop;
      stmt = λ x. deeper x.kind.left x.kind.right (suc x.kind.right) (omega arith) x.kind.holds;
    }

    body_within : (body : List Stmt) → Within (in_order (map (on_stmt (listing_tildes ids_in ids_at)) body)) (greatest (map (on_stmt (measuring depth_of_tilde depth_at)) body))
    body_within [] = tt
    body_within (t ∷ body) =
        within_join (on_stmt (listing_tildes ids_in ids_at) t) (in_order (map (on_stmt (listing_tildes ids_in ids_at)) body))
        (on_stmt (measuring depth_of_tilde depth_at) t) (greatest (map (on_stmt (measuring depth_of_tilde depth_at)) body))
        (related_stmt (listing_tildes ids_in ids_at) (measuring depth_of_tilde depth_at) (Alike Within) within t) (body_within body)

    expr_within : (e : Expr) → Within (on_expr (listing_tildes ids_in ids_at) e) (on_expr (measuring depth_of_tilde depth_at) e)
    expr_within = related_expr (listing_tildes ids_in ids_at) (measuring depth_of_tilde depth_at) (Alike Within) within

  abbrev ids_of : ℕ → ℕ → List ℕ
  ids_of = on_tilde_number listing_tildes [] in_order (λ id ids. id ∷ ids) tildes

  abbrev depths_of : ℕ → ℕ → ℕ
  depths_of = on_tilde_number measuring 0 greatest (λ id depth. depth) tildes

  module _ (n : ℕ) (inner : (id : ℕ) → Within (ids_of n id) (depths_of n id)) where
    dollar_within : (e : Option Expr) → Within (on_dollar listing_tildes [] in_order (λ id ids. id ∷ ids) (ids_of n) e) (on_dollar measuring 0 greatest (λ id depth. depth) (depths_of n) e)
    dollar_within None = tt
    dollar_within (Some e) = expr_within (ids_of n) (λ at. []) (depths_of n) (λ at. 0) inner (λ at. tt) e

    tilde_within : (t : Option Tilde) → Within (on_tilde listing_tildes [] in_order (λ id ids. id ∷ ids) (ids_of n) t) (on_tilde measuring 0 greatest (λ id depth. depth) (depths_of n) t)
    tilde_within None = tt
    tilde_within (Some t) =
        body_within (ids_of n) (λ at. on_dollar listing_tildes [] in_order (λ id ids. id ∷ ids) (ids_of n) (slice_get t.dollars at)) (depths_of n)
        (λ at. on_dollar measuring 0 greatest (λ id depth. depth) (depths_of n) (slice_get t.dollars at)) inner (λ at. dollar_within (slice_get t.dollars at)) t.body

    own_within : (t : Option Tilde) → depth_in t ≤ on_tilde measuring 0 greatest (λ id depth. depth) (depths_of n) t
    own_within None = omega arith
    own_within (Some t) = body_at_most (depths_of n) (λ at. on_dollar measuring 0 greatest (λ id depth. depth) (depths_of n) (slice_get t.dollars at)) t.body

  number_within : (n id : ℕ) → Within (ids_of n id) (depths_of n id)
  number_within zero id = tt
  number_within (suc n) id = (own_within n (number_within n) (slice_get tildes id), tilde_within n (number_within n) (slice_get tildes id))

program_within : (p : Program) → Within p.tildes (tildes_of p) (depth_of_program p)
program_within p =
    body_within p.tildes (ids_of p.tildes (suc (length p.tildes))) (λ at. []) (depths_of p.tildes (suc (length p.tildes))) (λ at. 0) (number_within p.tildes (suc (length p.tildes))) (λ at. tt) p.items

-- ---- by number

each_number : (P : ℕ → Type 0) (a n i : ℕ) → Each P (range_with_len a n) → i < n → P (a + i)
each_number P a zero i all h = absurd (omega (arith, h))
each_number P a (suc n) zero all h = subst P (sym (add-zero a)) all.0
each_number P a (suc n) (suc i) all h = let e : (a + 1) + i ≡ a + suc i = omega arith in subst P e (each_number P (a + 1) n i all.1 (omega (arith, h)))

inside : (ts : List Tilde) (id : ℕ) (t : Tilde) → slice_get ts id ≡ Some t → id < length ts
inside [] id t is = absurd (cc)
inside (s ∷ ts) zero t is = omega arith
inside (s ∷ ts) (suc id) t is = omega (arith, inside ts id t is)

pub tilde_at_most : (p : Program) (id : ℕ) (t : Tilde) → IsDerived p → slice_get p.tildes id ≡ Some t → depth_of t.body ≤ depth_of_program p
tilde_at_most p id t derived is =
    let all = subst (λ ids. Within p.tildes ids (depth_of_program p)) derived.numbers (program_within p) in
    let own : own_depth p.tildes id ≤ depth_of_program p =
    subst (λ n. own_depth p.tildes n ≤ depth_of_program p) (zero-add id) (each_number (λ n. own_depth p.tildes n ≤ depth_of_program p) 0 (length p.tildes) id all (inside p.tildes id t is)) in
    subst (λ o. depth_in o ≤ depth_of_program p) is own
