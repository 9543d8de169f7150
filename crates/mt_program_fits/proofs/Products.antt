-- Two functions on trees as one, which gives both results.
use Rattle.std.proofs.Common.{◌≡◌, ap, ◌∙◌}
use Rattle.mt_syntax.specs.Fold.{Every, Steps, on_expr, on_stmt}
use Rattle.mt_syntax.specs.Sort.{Sort}
use Rattle.mt_syntax.specs.declared.tree.Expr.{Expr}
use Rattle.mt_syntax.specs.declared.tree.Stmt.{Stmt}
use Rattle.mt_syntax_laws.proofs.Layers.{map_expr_kind, map_for_start, map_markup_child, map_markup_value, map_stmt_kind, map_decl, map_expr, map_function, map_markup, map_markup_attribute, map_prop, map_stmt, expr_kind_twice, for_start_twice, markup_child_twice, markup_value_twice, stmt_kind_twice, decl_twice, expr_twice, function_twice, markup_twice, markup_attribute_twice, prop_twice, stmt_twice}
use Rattle.mt_syntax_laws.proofs.Related.{Preserved, Two, lefts, rights, related_expr, related_stmt}

pub record Pair (X Y : Type 0) : Type 0 where
  pub one : X
  pub other : Y

abbrev pub ones : {X Y : Type 0} (s : Sort) → Every (Pair X Y) s → Every X s
ones s p = p.one

abbrev pub others : {X Y : Type 0} (s : Sort) → Every (Pair X Y) s → Every Y s
others s p = p.other

module _ {X Y : Type 0} (a : Steps (Every X)) (b : Steps (Every Y)) where
  abbrev first : (s : Sort) → Every (Pair X Y) s → Every X s
  first = ones

  abbrev second : (s : Sort) → Every (Pair X Y) s → Every Y s
  second = others

  abbrev pub pair : Steps (Every (Pair X Y))
  pair = record {
    expr_kind = λ x. record { one = a.expr_kind (map_expr_kind first x); other = b.expr_kind (map_expr_kind second x) };
    for_start = λ x. record { one = a.for_start (map_for_start first x); other = b.for_start (map_for_start second x) };
    markup_child = λ x. record { one = a.markup_child (map_markup_child first x); other = b.markup_child (map_markup_child second x) };
    markup_value = λ x. record { one = a.markup_value (map_markup_value first x); other = b.markup_value (map_markup_value second x) };
    stmt_kind = λ x. record { one = a.stmt_kind (map_stmt_kind first x); other = b.stmt_kind (map_stmt_kind second x) };
    decl = λ x. record { one = a.decl (map_decl first x); other = b.decl (map_decl second x) };
    expr = λ x. record { one = a.expr (map_expr first x); other = b.expr (map_expr second x) };
    function = λ x. record { one = a.function (map_function first x); other = b.function (map_function second x) };
    markup = λ x. record { one = a.markup (map_markup first x); other = b.markup (map_markup second x) };
    markup_attribute = λ x. record { one = a.markup_attribute (map_markup_attribute first x); other = b.markup_attribute (map_markup_attribute second x) };
    prop = λ x. record { one = a.prop (map_prop first x); other = b.prop (map_prop second x) };
    stmt = λ x. record { one = a.stmt (map_stmt first x); other = b.stmt (map_stmt second x) };
  }

  abbrev First : (s : Sort) → Every (Pair X Y) s → Every X s → Type 0
  First s p x = p.one ≡ x

  abbrev Second : (s : Sort) → Every (Pair X Y) s → Every Y s → Type 0
  Second s p y = p.other ≡ y

  is_first : Preserved pair a First
  is_first = record {
    expr_kind = λ x. ap a.expr_kind (expr_kind_twice (lefts First) first x ∙ (λ i. map_expr_kind (λ s (p : Two First s). p.holds i) x));
    for_start = λ x. ap a.for_start (for_start_twice (lefts First) first x ∙ (λ i. map_for_start (λ s (p : Two First s). p.holds i) x));
    markup_child = λ x. ap a.markup_child (markup_child_twice (lefts First) first x ∙ (λ i. map_markup_child (λ s (p : Two First s). p.holds i) x));
    markup_value = λ x. ap a.markup_value (markup_value_twice (lefts First) first x ∙ (λ i. map_markup_value (λ s (p : Two First s). p.holds i) x));
    stmt_kind = λ x. ap a.stmt_kind (stmt_kind_twice (lefts First) first x ∙ (λ i. map_stmt_kind (λ s (p : Two First s). p.holds i) x));
    decl = λ x. ap a.decl (decl_twice (lefts First) first x ∙ (λ i. map_decl (λ s (p : Two First s). p.holds i) x));
    expr = λ x. ap a.expr (expr_twice (lefts First) first x ∙ (λ i. map_expr (λ s (p : Two First s). p.holds i) x));
    function = λ x. ap a.function (function_twice (lefts First) first x ∙ (λ i. map_function (λ s (p : Two First s). p.holds i) x));
    markup = λ x. ap a.markup (markup_twice (lefts First) first x ∙ (λ i. map_markup (λ s (p : Two First s). p.holds i) x));
    markup_attribute = λ x. ap a.markup_attribute (markup_attribute_twice (lefts First) first x ∙ (λ i. map_markup_attribute (λ s (p : Two First s). p.holds i) x));
    prop = λ x. ap a.prop (prop_twice (lefts First) first x ∙ (λ i. map_prop (λ s (p : Two First s). p.holds i) x));
    stmt = λ x. ap a.stmt (stmt_twice (lefts First) first x ∙ (λ i. map_stmt (λ s (p : Two First s). p.holds i) x));
  }

  is_second : Preserved pair b Second
  is_second = record {
    expr_kind = λ x. ap b.expr_kind (expr_kind_twice (lefts Second) second x ∙ (λ i. map_expr_kind (λ s (p : Two Second s). p.holds i) x));
    for_start = λ x. ap b.for_start (for_start_twice (lefts Second) second x ∙ (λ i. map_for_start (λ s (p : Two Second s). p.holds i) x));
    markup_child = λ x. ap b.markup_child (markup_child_twice (lefts Second) second x ∙ (λ i. map_markup_child (λ s (p : Two Second s). p.holds i) x));
    markup_value = λ x. ap b.markup_value (markup_value_twice (lefts Second) second x ∙ (λ i. map_markup_value (λ s (p : Two Second s). p.holds i) x));
    stmt_kind = λ x. ap b.stmt_kind (stmt_kind_twice (lefts Second) second x ∙ (λ i. map_stmt_kind (λ s (p : Two Second s). p.holds i) x));
    decl = λ x. ap b.decl (decl_twice (lefts Second) second x ∙ (λ i. map_decl (λ s (p : Two Second s). p.holds i) x));
    expr = λ x. ap b.expr (expr_twice (lefts Second) second x ∙ (λ i. map_expr (λ s (p : Two Second s). p.holds i) x));
    function = λ x. ap b.function (function_twice (lefts Second) second x ∙ (λ i. map_function (λ s (p : Two Second s). p.holds i) x));
    markup = λ x. ap b.markup (markup_twice (lefts Second) second x ∙ (λ i. map_markup (λ s (p : Two Second s). p.holds i) x));
    markup_attribute = λ x. ap b.markup_attribute (markup_attribute_twice (lefts Second) second x ∙ (λ i. map_markup_attribute (λ s (p : Two Second s). p.holds i) x));
    prop = λ x. ap b.prop (prop_twice (lefts Second) second x ∙ (λ i. map_prop (λ s (p : Two Second s). p.holds i) x));
    stmt = λ x. ap b.stmt (stmt_twice (lefts Second) second x ∙ (λ i. map_stmt (λ s (p : Two Second s). p.holds i) x));
  }

  pub expr_one : (e : Expr) → (on_expr pair e).one ≡ on_expr a e
  expr_one = related_expr pair a First is_first

  pub expr_other : (e : Expr) → (on_expr pair e).other ≡ on_expr b e
  expr_other = related_expr pair b Second is_second

  pub stmt_one : (t : Stmt) → (on_stmt pair t).one ≡ on_stmt a t
  stmt_one = related_stmt pair a First is_first

  pub stmt_other : (t : Stmt) → (on_stmt pair t).other ≡ on_stmt b t
  stmt_other = related_stmt pair b Second is_second
