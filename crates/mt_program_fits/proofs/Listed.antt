-- What holds of each tilde that is met in a tree holds of each number that its list of tildes has.
use Rattle.std.proofs.Common.{◌≡◌, ℕ, zero, suc, ◌+◌, ◌<◌, ◌≤◌, List, [], ◌∷◌, ◌++◌, map, length, sym, subst, zero-add, add-zero, arith}
use Rattle.std.specs.List.{range_with_len}
use Rattle.std.proofs.lemmas.List.{length-append}
use Rattle.mt_syntax.specs.Fold.{ExprKindLayer, Steps, Every, on_expr, on_stmt}
use Rattle.mt_syntax.specs.Gathering.{gathering}
use Rattle.mt_syntax.specs.Numbering.{dollars_of, dollars_of_kind, in_order, listing_dollars, listing_tildes, tildes_of_kind}
use Rattle.mt_syntax.specs.declared.tree.Expr.{Expr}
use Rattle.mt_syntax.specs.declared.tree.ExprKind.TheOpen.{ExprKind-F}
use Rattle.mt_syntax.specs.declared.tree.Stmt.{Stmt}
use Rattle.mt_syntax_laws.proofs.Gathered.{Alike, gathered}
use Rattle.mt_syntax_laws.proofs.Layers.{map_expr_kind}
use Rattle.mt_syntax_laws.proofs.Related.{Preserved, Two, lefts, related_expr, related_stmt, rights}

abbrev pub EachOf : (ℕ → Type 0) → List ℕ → Type 0
EachOf P [] = Unit {0}
EachOf P (n ∷ ns) = P n × EachOf P ns

pub each_both : (P : ℕ → Type 0) (ns ms : List ℕ) → EachOf P ns → EachOf P ms → EachOf P (ns ++ ms)
each_both P [] ms p q = q
each_both P (n ∷ ns) ms p q = (p.0, each_both P ns ms p.1 q)

each_apart : (P : ℕ → Type 0) (ns ms : List ℕ) → EachOf P (ns ++ ms) → EachOf P ns × EachOf P ms
each_apart P [] ms h = (tt, h)
each_apart P (n ∷ ns) ms h = let rest = each_apart P ns ms h.1 in ((h.0, rest.0), rest.1)

-- numbers below a bound, and fewer of them than the levels of tildes that may be met
pub record Few (count n : ℕ) (ids : List ℕ) : Type 0 where
  pub inside : EachOf (λ id. id < count) ids
  pub few : length ids < n

pub few_apart : (count n : ℕ) (xs ys : List ℕ) → Few count n (xs ++ ys) → Few count n xs × Few count n ys
few_apart count n xs ys h =
    let parts = each_apart (λ id. id < count) xs ys h.inside in
    (record { inside = parts.0; few = omega (arith, h.few, length-append xs ys) }, record { inside = parts.1; few = omega (arith, h.few, length-append xs ys) })

pub few_behind : (count n id : ℕ) (ids : List ℕ) → Few count (suc n) (id ∷ ids) → Few count n ids
few_behind count n id ids h = record { inside = h.inside.1; few = omega (arith, h.few) }

-- ---- by number

range_below : (a n count : ℕ) → a + n ≤ count → EachOf (λ id. id < count) (range_with_len a n)
range_below a zero count h = tt
range_below a (suc n) count h = (omega (arith, h), range_below (a + 1) n count (omega (arith, h)))

pub numbers_below : (count : ℕ) → EachOf (λ id. id < count) (range_with_len 0 count)
numbers_below count = range_below 0 count count (omega arith)

each_number : (P : ℕ → Type 0) (a n i : ℕ) → EachOf P (range_with_len a n) → i < n → P (a + i)
each_number P a zero i all h = absurd (omega (arith, h))
each_number P a (suc n) zero all h = subst P (sym (add-zero a)) all.0
each_number P a (suc n) (suc i) all h = let e : (a + 1) + i ≡ a + suc i = omega arith in subst P e (each_number P (a + 1) n i all.1 (omega (arith, h)))

pub by_number : (P : ℕ → Type 0) (ns : List ℕ) (n i : ℕ) → ns ≡ range_with_len 0 n → EachOf P ns → i < n → P i
by_number P ns n i is all h = subst P (zero-add i) (each_number P 0 n i (subst (λ (ms : List ℕ). EachOf P ms) is all) h)

-- ---- `I` holds of a list where it holds of each list that it is joined of

module _ (I : List ℕ → Type 0) (split : (xs ys : List ℕ) → I (xs ++ ys) → I xs × I ys) (ids_in ids_at : ℕ → List ℕ) where
  -- of the list of each dollar that is met
  abbrev Inside : List ℕ → List ℕ → Type 0
  Inside ats ids = I ids → EachOf (λ at. I (ids_at at)) ats

  inside_both : (ats bts xs ys : List ℕ) → Inside ats xs → Inside bts ys → Inside (ats ++ bts) (xs ++ ys)
  inside_both ats bts xs ys p q i = let parts = split xs ys i in each_both (λ at. I (ids_at at)) ats bts (p parts.0) (q parts.1)

  inside_gathered : Preserved (gathering [] (λ xs ys. xs ++ ys)) (gathering [] (λ xs ys. xs ++ ys)) (Alike Inside)
  inside_gathered = gathered Inside [] (λ xs ys. xs ++ ys) [] (λ xs ys. xs ++ ys) (λ i. tt) (λ ats bts xs ys p q. inside_both ats bts xs ys p q)

  inside_kind : (x : ExprKindLayer (Two (Alike Inside))) → Inside (dollars_of_kind (map_expr_kind (lefts (Alike Inside)) x)) (tildes_of_kind ids_in ids_at (map_expr_kind (rights (Alike Inside)) x))
  inside_kind (ExprKind-F.ExprKind::Tilde id) = λ i. tt
  inside_kind (ExprKind-F.ExprKind::Dollar at) = λ i. (i, tt)
  inside_kind x = inside_gathered.expr_kind x

  inside : Preserved listing_dollars (listing_tildes ids_in ids_at) (Alike Inside)
  inside = record {
    expr_kind = inside_kind;
    for_start = inside_gathered.for_start;
    markup_child = inside_gathered.markup_child;
    markup_value = inside_gathered.markup_value;
    stmt_kind = inside_gathered.stmt_kind;
    decl = inside_gathered.decl;
    expr = inside_gathered.expr;
    function = inside_gathered.function;
    markup = inside_gathered.markup;
    markup_attribute = inside_gathered.markup_attribute;
    prop = inside_gathered.prop;
    stmt = inside_gathered.stmt;
  }

  pub dollars_inside : (body : List Stmt) → Inside (dollars_of body) (in_order (map (on_stmt (listing_tildes ids_in ids_at)) body))
  dollars_inside [] = λ i. tt
  dollars_inside (t ∷ body) =
      inside_both (on_stmt listing_dollars t) (dollars_of body) (on_stmt (listing_tildes ids_in ids_at) t) (in_order (map (on_stmt (listing_tildes ids_in ids_at)) body))
      (related_stmt listing_dollars (listing_tildes ids_in ids_at) (Alike Inside) inside t) (dollars_inside body)

  -- `Q` holds of each number, where it holds of those that each tilde and each dollar lists
  module _ (Q : ℕ → Type 0) where
    abbrev Met : List ℕ → List ℕ → Type 0
    Met xs ys = I ys → EachOf Q ys

    met_both : (xs xs' ys ys' : List ℕ) → Met xs ys → Met xs' ys' → Met (xs ++ xs') (ys ++ ys')
    met_both xs xs' ys ys' p q i = let parts = split ys ys' i in each_both Q ys ys' (p parts.0) (q parts.1)

    met_gathered : Preserved (gathering [] (λ xs ys. xs ++ ys)) (gathering [] (λ xs ys. xs ++ ys)) (Alike Met)
    met_gathered = gathered Met [] (λ xs ys. xs ++ ys) [] (λ xs ys. xs ++ ys) (λ i. tt) (λ xs xs' ys ys' p q. met_both xs xs' ys ys' p q)

    module _ (in_tilde : (id : ℕ) → I (ids_in id) → EachOf Q (ids_in id)) (in_dollar : (at : ℕ) → I (ids_at at) → EachOf Q (ids_at at)) where
      met_kind : (x : ExprKindLayer (Two (Alike Met))) → Met (tildes_of_kind ids_in ids_at (map_expr_kind (lefts (Alike Met)) x)) (tildes_of_kind ids_in ids_at (map_expr_kind (rights (Alike Met)) x))
      met_kind (ExprKind-F.ExprKind::Tilde id) = in_tilde id
      met_kind (ExprKind-F.ExprKind::Dollar at) = in_dollar at
      met_kind x = met_gathered.expr_kind x

      met : Preserved (listing_tildes ids_in ids_at) (listing_tildes ids_in ids_at) (Alike Met)
      met = record {
        expr_kind = met_kind;
        for_start = met_gathered.for_start;
        markup_child = met_gathered.markup_child;
        markup_value = met_gathered.markup_value;
        stmt_kind = met_gathered.stmt_kind;
        decl = met_gathered.decl;
        expr = met_gathered.expr;
        function = met_gathered.function;
        markup = met_gathered.markup;
        markup_attribute = met_gathered.markup_attribute;
        prop = met_gathered.prop;
        stmt = met_gathered.stmt;
      }

      pub expr_met : (e : Expr) → I (on_expr (listing_tildes ids_in ids_at) e) → EachOf Q (on_expr (listing_tildes ids_in ids_at) e)
      expr_met e = related_expr (listing_tildes ids_in ids_at) (listing_tildes ids_in ids_at) (Alike Met) met e

      pub body_met : (body : List Stmt) → I (in_order (map (on_stmt (listing_tildes ids_in ids_at)) body)) → EachOf Q (in_order (map (on_stmt (listing_tildes ids_in ids_at)) body))
      body_met [] i = tt
      body_met (t ∷ body) i =
          let rest = in_order (map (on_stmt (listing_tildes ids_in ids_at)) body) in
          met_both [] [] (on_stmt (listing_tildes ids_in ids_at) t) rest (related_stmt (listing_tildes ids_in ids_at) (listing_tildes ids_in ids_at) (Alike Met) met t) (λ j. body_met body j) i
