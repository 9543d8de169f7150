-- A derived program whose tree is at most 60 deep is so deep also where the dollars of a tilde stand in its place.
use Rattle.std.proofs.Common.{◌≡◌, ℕ, zero, suc, ◌≤◌, List, [], ◌∷◌, length, Option, None, Some, slice_get, refl, sym, ap, subst, ◌∙◌, arith}
use Rattle.std.specs.List.{All}
use Rattle.std.proofs.lemmas.List.Elements.{All-get_or}
use Rattle.std.proofs.lemmas.List.FromFn.{length-range_with_len}
use Rattle.std.proofs.lemmas.Option.{slice_get_within, get_or_from_slice_get}
use Rattle.mt_syntax.specs.Depth.{depth_of_program, greatest, measuring}
use Rattle.mt_syntax.specs.Derivation.{IsDerived, IsDerivedTilde}
use Rattle.mt_syntax.specs.Fold.{on_expr, on_stmt, on_expr_kind, on_stmt_kind}
use Rattle.mt_syntax.specs.Numbering.{in_order, listing_tildes, tildes_of}
use Rattle.mt_syntax.specs.Numbering as numbering
use Rattle.mt_syntax.specs.Whole.{on_dollar, on_tilde, on_tilde_number}
use Rattle.mt_syntax_laws.proofs.Related.{at_expr_kind, at_stmt_kind, at_expr, at_stmt}
use Rattle.mt_syntax.specs.declared.program.Program.{Program}
use Rattle.mt_syntax.specs.declared.program.Tilde.{Tilde}
use Rattle.mt_syntax.specs.declared.tree.Expr.{Expr, out-Expr, roll-out-Expr}
use Rattle.mt_syntax.specs.declared.tree.ExprKind.{out-ExprKind, roll-out-ExprKind}
use Rattle.mt_syntax.specs.declared.tree.Stmt.{Stmt, out-Stmt, roll-out-Stmt}
use Rattle.mt_syntax.specs.declared.tree.StmtKind.{out-StmtKind, roll-out-StmtKind}
use Rattle.mt_resolve.specs.Within.{AllOf, IfThere, ExprIsWithin, StmtIsWithin, within, AreWithin}
use Rattle.mt_eval_meaning.specs.Evaluation.{dollars_of, expr_kind_of}
use Rattle.mt_eval_meaning.specs.Hoisting.{kind_of}
use Rattle.mt_resolve.proofs.Dollars.{by_number, fewer_in, lower_in}
use Rattle.mt_resolve.proofs.ShallowNodes.{Few, Fits, each, expr_kind_fits, lists, measures, moved, stmt_kind_fits}
use Rattle.mt_tree.specs.Limits.{depth_limit}

-- ---- each list of nodes, to any depth

all_from : {T : Type 0} (P : T → Type 0) (ts : List T) → ((i : ℕ) (t : T) → slice_get ts i ≡ Some t → P t) → AllOf P ts
all_from P [] at = tt
all_from P (t ∷ ts) at = (at 0 t refl, all_from P ts (λ i. at (suc i)))

there : {T : Type 0} (P : T → Type 0) (ts : List T) (i : ℕ) (o : Option T) → All P ts → slice_get ts i ≡ o → IfThere P o
there P ts i None all is = tt
there P ts i (Some t) all is = subst P (get_or_from_slice_get ts i t t is) (All-get_or P ts i t (slice_get_within ts i t is) all)

module _ (tildes : List Tilde) where
  abbrev ids_of : ℕ → ℕ → List ℕ
  ids_of = on_tilde_number listing_tildes [] in_order (λ id ids. id ∷ ids) tildes

  abbrev depths_of : ℕ → ℕ → ℕ
  depths_of = on_tilde_number measuring 0 greatest (λ id depth. depth) tildes

  abbrev ids_in_dollar : ℕ → Option Expr → List ℕ
  ids_in_dollar n = on_dollar listing_tildes [] in_order (λ id ids. id ∷ ids) (ids_of n)

  abbrev depth_of_dollar : ℕ → Option Expr → ℕ
  depth_of_dollar n = on_dollar measuring 0 greatest (λ id depth. depth) (depths_of n)

  abbrev ids_in_tilde : ℕ → Option Tilde → List ℕ
  ids_in_tilde n = on_tilde listing_tildes [] in_order (λ id ids. id ∷ ids) (ids_of n)

  abbrev depth_of_tilde : ℕ → Option Tilde → ℕ
  depth_of_tilde n = on_tilde measuring 0 greatest (λ id depth. depth) (depths_of n)

  record Shallow (k : ℕ) : Type 0 where
    expr : (n : ℕ) (e : Expr) → Fits n k (on_expr (lists tildes (ids_of n) (depths_of n)) e) (on_expr (measures tildes (ids_of n) (depths_of n)) e) → (within tildes k).expr e
    stmt : (n : ℕ) (t : Stmt) → Fits n k (on_stmt (lists tildes (ids_of n) (depths_of n)) t) (on_stmt (measures tildes (ids_of n) (depths_of n)) t) → (within tildes k).stmt t

  module _ (k : ℕ) (s : Shallow k) where
    dollar_shallow : (n : ℕ) (e : Option Expr) → Fits n k (ids_in_dollar n e) (depth_of_dollar n e) → IfThere (within tildes k).expr e
    dollar_shallow n None h = tt
    dollar_shallow n (Some e) h = s.expr n e h

    of_tilde : (n id : ℕ) (t : Option Tilde) → IfThere IsDerivedTilde t → Fits (suc n) k (id ∷ ids_in_tilde n t) (depth_of_tilde n t) → AllOf (within tildes k).expr (dollars_of t)
    of_tilde n id None derived h = tt
    of_tilde n id (Some t) derived h = all_from (within tildes k).expr t.dollars (λ i e is.
        let inside = slice_get_within t.dollars i e is in
        let few = by_number (λ at. length (ids_in_dollar n (slice_get t.dollars at)) ≤ length (ids_in_tilde n (Some t))) (numbering.dollars_of t.body) (length t.dollars) i derived.numbers
        (fewer_in (ids_of n) (λ at. ids_in_dollar n (slice_get t.dollars at)) (depths_of n) (λ at. depth_of_dollar n (slice_get t.dollars at)) t.body) inside in
        let low = by_number (λ at. depth_of_dollar n (slice_get t.dollars at) ≤ depth_of_tilde n (Some t)) (numbering.dollars_of t.body) (length t.dollars) i derived.numbers
        (lower_in (ids_of n) (λ at. ids_in_dollar n (slice_get t.dollars at)) (depths_of n) (λ at. depth_of_dollar n (slice_get t.dollars at)) t.body) inside in
        subst (λ (o : Option Expr). IfThere (within tildes k).expr o) is
        (dollar_shallow n (slice_get t.dollars i) (record { few = omega (arith, few, h.few); low = omega (arith, low, h.low) })))

    tilde_shallow : All IsDerivedTilde tildes → (n id : ℕ) → Fits n k (ids_of n id) (depths_of n id) → AllOf (within tildes k).expr (dollars_of (slice_get tildes id))
    tilde_shallow derived zero id h = absurd (omega (arith, h.few))
    tilde_shallow derived (suc n) id h = of_tilde n id (slice_get tildes id) (there IsDerivedTilde tildes id (slice_get tildes id) derived refl) h

  module _ (derived : All IsDerivedTilde tildes) where
    expr_deeper : (k n : ℕ) (s : Shallow k) (e : Expr) → Fits n (suc k) (on_expr (lists tildes (ids_of n) (depths_of n)) e) (on_expr (measures tildes (ids_of n) (depths_of n)) e)
        → ExprIsWithin tildes (within tildes k) (expr_kind_of e)
    expr_deeper k n s e h =
        let l = lists tildes (ids_of n) (depths_of n) in
        let m = measures tildes (ids_of n) (depths_of n) in
        let kind = (out-Expr e).kind in
        let ids : on_expr l e ≡ on_expr_kind l kind = ap (on_expr l) (sym (roll-out-Expr e)) ∙ at_expr l (out-Expr e) in
        let depth : on_expr m e ≡ suc (on_expr_kind m kind) = ap (on_expr m) (sym (roll-out-Expr e)) ∙ at_expr m (out-Expr e) in
        let inner = subst (λ (xs : List ℕ). Few n xs) ids h.few in
        let low : on_expr_kind m kind ≤ k = omega (arith, h.low, depth) in
        expr_kind_fits tildes (ids_of n) (depths_of n) n k (within tildes k) (s.expr n) (s.stmt n) (tilde_shallow k s derived n) (out-ExprKind kind)
        (moved n k _ _ _ _ (ap (on_expr_kind l) (sym (roll-out-ExprKind kind)) ∙ at_expr_kind l (out-ExprKind kind)) (ap (on_expr_kind m) (sym (roll-out-ExprKind kind)) ∙ at_expr_kind m (out-ExprKind kind)) (record { few = inner; low = low }))

    stmt_deeper : (k n : ℕ) (s : Shallow k) (t : Stmt) → Fits n (suc k) (on_stmt (lists tildes (ids_of n) (depths_of n)) t) (on_stmt (measures tildes (ids_of n) (depths_of n)) t)
        → StmtIsWithin tildes (within tildes k) (kind_of t)
    stmt_deeper k n s t h =
        let l = lists tildes (ids_of n) (depths_of n) in
        let m = measures tildes (ids_of n) (depths_of n) in
        let kind = (out-Stmt t).kind in
        let ids : on_stmt l t ≡ on_stmt_kind l kind = ap (on_stmt l) (sym (roll-out-Stmt t)) ∙ at_stmt l (out-Stmt t) in
        let depth : on_stmt m t ≡ suc (on_stmt_kind m kind) = ap (on_stmt m) (sym (roll-out-Stmt t)) ∙ at_stmt m (out-Stmt t) in
        let inner = subst (λ (xs : List ℕ). Few n xs) ids h.few in
        let low : on_stmt_kind m kind ≤ k = omega (arith, h.low, depth) in
        stmt_kind_fits tildes (ids_of n) (depths_of n) n k (within tildes k) (s.expr n) (s.stmt n) (tilde_shallow k s derived n) (out-StmtKind kind)
        (moved n k _ _ _ _ (ap (on_stmt_kind l) (sym (roll-out-StmtKind kind)) ∙ at_stmt_kind l (out-StmtKind kind)) (ap (on_stmt_kind m) (sym (roll-out-StmtKind kind)) ∙ at_stmt_kind m (out-StmtKind kind)) (record { few = inner; low = low }))

    no_expr : (n : ℕ) (e : Expr) → on_expr (measures tildes (ids_of n) (depths_of n)) e ≤ 0 → ⊥
    no_expr n e low =
        let m = measures tildes (ids_of n) (depths_of n) in
        let depth : on_expr m e ≡ suc (on_expr_kind m (out-Expr e).kind) = ap (on_expr m) (sym (roll-out-Expr e)) ∙ at_expr m (out-Expr e) in omega (arith, low, depth)

    no_stmt : (n : ℕ) (t : Stmt) → on_stmt (measures tildes (ids_of n) (depths_of n)) t ≤ 0 → ⊥
    no_stmt n t low =
        let m = measures tildes (ids_of n) (depths_of n) in
        let depth : on_stmt m t ≡ suc (on_stmt_kind m (out-Stmt t).kind) = ap (on_stmt m) (sym (roll-out-Stmt t)) ∙ at_stmt m (out-Stmt t) in omega (arith, low, depth)

    shallow : (k : ℕ) → Shallow k
    shallow zero = record { expr = λ n e h. absurd (no_expr n e h.low); stmt = λ n t h. absurd (no_stmt n t h.low) }
    shallow (suc k) = record { expr = λ n e h. expr_deeper k n (shallow k) e h; stmt = λ n t h. stmt_deeper k n (shallow k) t h }

pub shallow_program : (p : Program) → IsDerived p → depth_of_program p ≤ depth_limit → AreWithin p.tildes p.items
unfolding AreWithin
shallow_program p derived low =
    let n = suc (length p.tildes) in
    let count : length (tildes_of p) ≡ length p.tildes = ap length derived.numbers ∙ length-range_with_len 0 (length p.tildes) in
    each n depth_limit (on_stmt (lists p.tildes (ids_of p.tildes n) (depths_of p.tildes n))) (on_stmt (measures p.tildes (ids_of p.tildes n) (depths_of p.tildes n))) (within p.tildes depth_limit).stmt
    ((shallow p.tildes derived.tildes depth_limit).stmt n) p.items (record { few = omega (arith, count); low = low })
