-- A dollar that stands in a body has no more tildes than the body, and is no deeper.
use Rattle.std.proofs.Common.{◌≡◌, ℕ, zero, suc, ◌+◌, ◌<◌, ◌≤◌, max, List, [], ◌∷◌, ◌++◌, map, length, sym, subst, zero-add, add-zero, arith}
use Rattle.std.specs.List.{range_with_len}
use Rattle.std.proofs.lemmas.List.{length-append}
use Rattle.mt_syntax.specs.Depth.{depth_of_kind, greatest, measuring}
use Rattle.mt_syntax.specs.Fold.{ExprKindLayer, on_stmt}
use Rattle.mt_syntax.specs.Gathering.{gathering}
use Rattle.mt_syntax.specs.Numbering.{in_order, listing_dollars, listing_tildes, tildes_of_kind, dollars_of_kind}
use Rattle.mt_syntax.specs.Numbering as numbering
use Rattle.mt_syntax_laws.proofs.Gathered.{Alike, gathered}
use Rattle.mt_syntax_laws.proofs.Layers.{map_expr_kind}
use Rattle.mt_syntax_laws.proofs.Related.{Preserved, Two, lefts, rights, related_stmt}
use Rattle.mt_syntax.specs.declared.tree.ExprKind.TheOpen.{ExprKind-F}
use Rattle.mt_syntax.specs.declared.tree.Stmt.{Stmt}
use Rattle.mt_resolve.proofs.ShallowNodes.{max_left, max_right}

abbrev pub EachOf : (ℕ → Type 0) → List ℕ → Type 0
EachOf P [] = Unit {0}
EachOf P (n ∷ ns) = P n × EachOf P ns

module _ (ids_in ids_at : ℕ → List ℕ) (depth_in depth_at : ℕ → ℕ) where
  abbrev Fewer : List ℕ → List ℕ → Type 0
  Fewer ats ids = EachOf (λ at. length (ids_at at) ≤ length ids) ats

  abbrev Lower : List ℕ → ℕ → Type 0
  Lower ats depth = EachOf (λ at. depth_at at ≤ depth) ats

  fewer_than : (ats : List ℕ) (xs ys : List ℕ) → length xs ≤ length ys → Fewer ats xs → Fewer ats ys
  fewer_than [] xs ys more h = tt
  fewer_than (at ∷ ats) xs ys more h = (omega (arith, more, h.0), fewer_than ats xs ys more h.1)

  lower_than : (ats : List ℕ) (m n : ℕ) → m ≤ n → Lower ats m → Lower ats n
  lower_than [] m n more h = tt
  lower_than (at ∷ ats) m n more h = (omega (arith, more, h.0), lower_than ats m n more h.1)

  fewer_both : (ats bts : List ℕ) (xs : List ℕ) → Fewer ats xs → Fewer bts xs → Fewer (ats ++ bts) xs
  fewer_both [] bts xs p q = q
  fewer_both (at ∷ ats) bts xs p q = (p.0, fewer_both ats bts xs p.1 q)

  lower_both : (ats bts : List ℕ) (n : ℕ) → Lower ats n → Lower bts n → Lower (ats ++ bts) n
  lower_both [] bts n p q = q
  lower_both (at ∷ ats) bts n p q = (p.0, lower_both ats bts n p.1 q)

  fewer_join : (ats bts : List ℕ) (xs ys : List ℕ) → Fewer ats xs → Fewer bts ys → Fewer (ats ++ bts) (xs ++ ys)
  fewer_join ats bts xs ys p q =
      fewer_both ats bts (xs ++ ys) (fewer_than ats xs (xs ++ ys) (omega (arith, length-append xs ys)) p) (fewer_than bts ys (xs ++ ys) (omega (arith, length-append xs ys)) q)

  lower_join : (ats bts : List ℕ) (m n : ℕ) → Lower ats m → Lower bts n → Lower (ats ++ bts) (max m n)
  lower_join ats bts m n p q = lower_both ats bts (max m n) (lower_than ats m (max m n) (max_left m n) p) (lower_than bts n (max m n) (max_right m n) q)

  fewer_gathered : Preserved (gathering [] (λ xs ys. xs ++ ys)) (gathering [] (λ xs ys. xs ++ ys)) (Alike Fewer)
  fewer_gathered = gathered Fewer [] (λ xs ys. xs ++ ys) [] (λ xs ys. xs ++ ys) tt fewer_join

  lower_gathered : Preserved (gathering [] (λ xs ys. xs ++ ys)) (gathering 0 max) (Alike Lower)
  lower_gathered = gathered Lower [] (λ xs ys. xs ++ ys) 0 max tt lower_join

  fewer_kind : (x : ExprKindLayer (Two (Alike Fewer))) → Fewer (dollars_of_kind (map_expr_kind (lefts (Alike Fewer)) x)) (tildes_of_kind ids_in ids_at (map_expr_kind (rights (Alike Fewer)) x))
  fewer_kind (ExprKind-F.ExprKind::Tilde id) = tt
  fewer_kind (ExprKind-F.ExprKind::Dollar at) = (omega arith, tt)
  fewer_kind x = fewer_gathered.expr_kind x

  lower_kind : (x : ExprKindLayer (Two (Alike Lower))) → Lower (dollars_of_kind (map_expr_kind (lefts (Alike Lower)) x)) (depth_of_kind depth_in depth_at (map_expr_kind (rights (Alike Lower)) x))
  lower_kind (ExprKind-F.ExprKind::Tilde id) = tt
  lower_kind (ExprKind-F.ExprKind::Dollar at) = (omega arith, tt)
  lower_kind x = lower_gathered.expr_kind x

  fewer : Preserved listing_dollars (listing_tildes ids_in ids_at) (Alike Fewer)
  fewer = record {
    expr_kind = fewer_kind;
    for_start = fewer_gathered.for_start;
    markup_child = fewer_gathered.markup_child;
    markup_value = fewer_gathered.markup_value;
    stmt_kind = fewer_gathered.stmt_kind;
    decl = fewer_gathered.decl;
    expr = fewer_gathered.expr;
    function = fewer_gathered.function;
    markup = fewer_gathered.markup;
    markup_attribute = fewer_gathered.markup_attribute;
    prop = fewer_gathered.prop;
    stmt = fewer_gathered.stmt;
  }

  lower : Preserved listing_dollars (measuring depth_in depth_at) (Alike Lower)
  lower = record {
    expr_kind = lower_kind;
    for_start = lower_gathered.for_start;
    markup_child = lower_gathered.markup_child;
    markup_value = lower_gathered.markup_value;
    stmt_kind = lower_gathered.stmt_kind;
    decl = lower_gathered.decl;
    expr = λ x. lower_than x.kind.left x.kind.right (suc x.kind.right) (omega arith) x.kind.holds;
    function = lower_gathered.function;
    markup = lower_gathered.markup;
    markup_attribute = lower_gathered.markup_attribute;
    prop = lower_gathered.prop;
    stmt = λ x. lower_than x.kind.left x.kind.right (suc x.kind.right) (omega arith) x.kind.holds;
  }

  pub fewer_in : (body : List Stmt) → Fewer (numbering.dollars_of body) (in_order (map (on_stmt (listing_tildes ids_in ids_at)) body))
  fewer_in [] = tt
  fewer_in (t ∷ body) =
      fewer_join (on_stmt listing_dollars t) (numbering.dollars_of body) (on_stmt (listing_tildes ids_in ids_at) t) (in_order (map (on_stmt (listing_tildes ids_in ids_at)) body))
      (related_stmt listing_dollars (listing_tildes ids_in ids_at) (Alike Fewer) fewer t) (fewer_in body)

  pub lower_in : (body : List Stmt) → Lower (numbering.dollars_of body) (greatest (map (on_stmt (measuring depth_in depth_at)) body))
  lower_in [] = tt
  lower_in (t ∷ body) =
      lower_join (on_stmt listing_dollars t) (numbering.dollars_of body) (on_stmt (measuring depth_in depth_at) t) (greatest (map (on_stmt (measuring depth_in depth_at)) body))
      (related_stmt listing_dollars (measuring depth_in depth_at) (Alike Lower) lower t) (lower_in body)

each_number : (P : ℕ → Type 0) (a n i : ℕ) → EachOf P (range_with_len a n) → i < n → P (a + i)
each_number P a zero i all h = absurd (omega (arith, h))
each_number P a (suc n) zero all h = subst P (sym (add-zero a)) all.0
each_number P a (suc n) (suc i) all h = let e : (a + 1) + i ≡ a + suc i = omega arith in subst P e (each_number P (a + 1) n i all.1 (omega (arith, h)))

pub by_number : (P : ℕ → Type 0) (ns : List ℕ) (n i : ℕ) → ns ≡ range_with_len 0 n → EachOf P ns → i < n → P i
by_number P ns n i is all h = subst P (zero-add i) (each_number P 0 n i (subst (λ (ms : List ℕ). EachOf P ms) is all) h)
