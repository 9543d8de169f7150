-- What a substituted body is made of, by the holes of the body.
use Rattle.std.specs.Prelude.{◌≡◌, refl, ℕ, List, [], ◌∷◌, ◌++◌, map, flat_map, Option, None, Some, option_to_list, slice_get, Bool, true, false, ◌&&◌}
use Rattle.std.specs.List.{list_all}
use Rattle.std.proofs.Common.{ap, sym, ◌∙◌}
use Rattle.std.proofs.lemmas.Grind.{flat_map-append}
use Rattle.std.proofs.lemmas.List.Folds.{list_all-append}
use Rattle.mt_tree.specs.declared.data.Data.{Data}
use Rattle.mt_syntax.specs.Data.{is_data}
use Rattle.mt_syntax.specs.Fold.{Every, ExprKindLayer, StmtKindLayer, on_stmt}
use Rattle.mt_syntax.specs.Substitution.{chosen, new_expr_kind, new_stmt_kind, subst, subst_stmt, substituting}
use Rattle.mt_syntax.specs.Numbering.{dollars_of, dollars_of_kind, in_order, listing, listing_dollars, listing_values, values_of, values_of_kind}
use Rattle.mt_syntax.specs.Codes.{expr_kind_is_filled, is_filled, testing, testing_filled}
use Rattle.mt_syntax_laws.proofs.Gathered.{Alike, gathered}
use Rattle.mt_syntax_laws.proofs.Holes.{Hole, holes_of, holes_of_kind, is_data_in, is_optional_data, listing_holes, number_in, value_in}
use Rattle.mt_syntax_laws.proofs.Layers.{map_expr_kind, map_stmt_kind}
use Rattle.mt_syntax_laws.proofs.Related.{Preserved, Two, lefts, rights, related_stmt}
use Rattle.mt_syntax_laws.proofs.Substituted.{stmt_substituted}
use Rattle.mt_syntax.specs.declared.tree.Stmt.{Stmt}
use Rattle.mt_syntax.specs.declared.tree.ExprKind.TheOpen.{ExprKind-F, StmtKind-F}

-- ---- lists and tests of the holes

module _ {X : Type 0} (f : Hole → List X) where
  abbrev Lists : List X → List Hole → Type 0
  Lists xs holes = xs ≡ flat_map f holes

  lists_join : (xs ys : List X) (hs gs : List Hole) → Lists xs hs → Lists ys gs → Lists (xs ++ ys) (hs ++ gs)
  lists_join xs ys hs gs p q = (λ i. p i ++ q i) ∙ sym (flat_map-append f hs gs)

  lists : Preserved (listing X) (listing Hole) (Alike Lists)
  lists = gathered Lists [] (λ xs ys. xs ++ ys) [] (λ hs gs. hs ++ gs) refl lists_join

  -- a body, statement by statement
  lists_body : (g : Stmt → List X) → ((t : Stmt) → Lists (g t) (on_stmt listing_holes t)) → (body : List Stmt) → Lists (in_order (map g body)) (holes_of body)
  lists_body g each [] = refl
  lists_body g each (t ∷ body) = lists_join (g t) (in_order (map g body)) (on_stmt listing_holes t) (holes_of body) (each t) (lists_body g each body)

module _ (f : Hole → Bool) where
  abbrev Tests : Bool → List Hole → Type 0
  Tests b holes = b ≡ list_all f holes

  tests_join : (a b : Bool) (hs gs : List Hole) → Tests a hs → Tests b gs → Tests (a && b) (hs ++ gs)
  tests_join a b hs gs p q = (λ i. p i && q i) ∙ sym (list_all-append f hs gs)

  tests : Preserved testing (listing Hole) (Alike Tests)
  tests = gathered Tests true (λ a b. a && b) [] (λ hs gs. hs ++ gs) refl tests_join

  tests_body : (g : Stmt → Bool) → ((t : Stmt) → Tests (g t) (on_stmt listing_holes t)) → (body : List Stmt) → Tests (list_all g body) (holes_of body)
  tests_body g each [] = refl
  tests_body g each (t ∷ body) = tests_join (g t) (list_all g body) (on_stmt listing_holes t) (holes_of body) (each t) (tests_body g each body)

-- ---- the numbers of dollars

numbers_kind : (x : ExprKindLayer (Two (Alike (Lists number_in)))) → Lists number_in (dollars_of_kind (map_expr_kind (lefts (Alike (Lists number_in))) x)) (holes_of_kind (map_expr_kind (rights (Alike (Lists number_in))) x))
numbers_kind (ExprKind-F.ExprKind::Dollar at) = refl
numbers_kind (ExprKind-F.Val d) = refl
numbers_kind x = (lists number_in).expr_kind x

numbers : Preserved listing_dollars listing_holes (Alike (Lists number_in))
numbers =
    let base = lists number_in in
    record {
      expr_kind = numbers_kind;
      for_start = base.for_start;
      markup_child = base.markup_child;
      markup_value = base.markup_value;
      stmt_kind = base.stmt_kind;
      decl = base.decl;
      expr = base.expr;
      function = base.function;
      markup = base.markup;
      markup_attribute = base.markup_attribute;
      prop = base.prop;
      stmt = base.stmt;
    }

pub dollars_by_holes : (body : List Stmt) → dollars_of body ≡ flat_map number_in (holes_of body)
dollars_by_holes = lists_body number_in (on_stmt listing_dollars) (related_stmt listing_dollars listing_holes (Alike (Lists number_in)) numbers)

-- ---- what substitution puts into the holes

module _ (values : List Data) where
  abbrev Values : List Data → List Hole → Type 0
  Values = Lists (value_in values)

  value_at : (at : ℕ) (d : Option Data) → values_of_kind (chosen (Every (List Data)) at d) ≡ option_to_list d ++ []
  value_at at None = refl
  value_at at (Some d) = refl

  values_kind : (x : ExprKindLayer (Two (Alike Values)))
      → Values (values_of_kind (new_expr_kind (Every (List Data)) values (map_expr_kind (lefts (Alike Values)) x))) (holes_of_kind (map_expr_kind (rights (Alike Values)) x))
  values_kind (ExprKind-F.ExprKind::Dollar at) = value_at at (slice_get values at)
  values_kind (ExprKind-F.Val d) = refl
  values_kind x = (lists (value_in values)).expr_kind x

  values_stmt_kind : (x : StmtKindLayer (Two (Alike Values)))
      → Values ((listing Data).stmt_kind (new_stmt_kind (Every (List Data)) (map_stmt_kind (lefts (Alike Values)) x))) ((listing Hole).stmt_kind (map_stmt_kind (rights (Alike Values)) x))
  values_stmt_kind (StmtKind-F.Try body name handler) = (lists (value_in values)).stmt_kind (StmtKind-F.Try body name handler)
  values_stmt_kind x = (lists (value_in values)).stmt_kind x

  filling : Preserved (substituting (Every (List Data)) values listing_values) listing_holes (Alike Values)
  filling =
      let base = lists (value_in values) in
      record {
        expr_kind = values_kind;
        for_start = base.for_start;
        markup_child = base.markup_child;
        markup_value = base.markup_value;
        stmt_kind = values_stmt_kind;
        decl = base.decl;
        expr = base.expr;
        function = base.function;
        markup = base.markup;
        markup_attribute = base.markup_attribute;
        prop = base.prop;
        stmt = base.stmt;
      }

  values_stmt : (t : Stmt) → Values (on_stmt listing_values (subst_stmt values t)) (on_stmt listing_holes t)
  values_stmt t = stmt_substituted values listing_values t ∙ related_stmt (substituting (Every (List Data)) values listing_values) listing_holes (Alike Values) filling t

  map_map : (body : List Stmt) → map (on_stmt listing_values) (subst values body) ≡ map (λ t. on_stmt listing_values (subst_stmt values t)) body
  map_map [] = refl
  map_map (t ∷ body) = λ i. on_stmt listing_values (subst_stmt values t) ∷ map_map body i

  pub values_by_holes : (body : List Stmt) → values_of (subst values body) ≡ flat_map (value_in values) (holes_of body)
  values_by_holes body = ap in_order (map_map body) ∙ lists_body (value_in values) (λ t. on_stmt listing_values (subst_stmt values t)) values_stmt body

  -- ---- whether each of them holds data

  abbrev HoldsData : Bool → List Hole → Type 0
  HoldsData = Tests (is_data_in values)

  and_true : (b : Bool) → b ≡ (b && true)
  and_true true = refl
  and_true false = refl

  data_at : (at : ℕ) (d : Option Data) → expr_kind_is_filled (chosen (Every Bool) at d) ≡ (is_optional_data d && true)
  data_at at None = refl
  data_at at (Some d) = and_true (is_data d)

  filled_kind : (x : ExprKindLayer (Two (Alike HoldsData)))
      → HoldsData (expr_kind_is_filled (new_expr_kind (Every Bool) values (map_expr_kind (lefts (Alike HoldsData)) x))) (holes_of_kind (map_expr_kind (rights (Alike HoldsData)) x))
  filled_kind (ExprKind-F.ExprKind::Dollar at) = data_at at (slice_get values at)
  filled_kind (ExprKind-F.Val d) = and_true (is_data d)
  filled_kind x = (tests (is_data_in values)).expr_kind x

  filled_stmt_kind : (x : StmtKindLayer (Two (Alike HoldsData)))
      → HoldsData (testing.stmt_kind (new_stmt_kind (Every Bool) (map_stmt_kind (lefts (Alike HoldsData)) x))) ((listing Hole).stmt_kind (map_stmt_kind (rights (Alike HoldsData)) x))
  filled_stmt_kind (StmtKind-F.Try body name handler) = (tests (is_data_in values)).stmt_kind (StmtKind-F.Try body name handler)
  filled_stmt_kind x = (tests (is_data_in values)).stmt_kind x

  is_filling : Preserved (substituting (Every Bool) values testing_filled) listing_holes (Alike HoldsData)
  is_filling =
      let base = tests (is_data_in values) in
      record {
        expr_kind = filled_kind;
        for_start = base.for_start;
        markup_child = base.markup_child;
        markup_value = base.markup_value;
        stmt_kind = filled_stmt_kind;
        decl = base.decl;
        expr = base.expr;
        function = base.function;
        markup = base.markup;
        markup_attribute = base.markup_attribute;
        prop = base.prop;
        stmt = base.stmt;
      }

  filled_stmt : (t : Stmt) → HoldsData (on_stmt testing_filled (subst_stmt values t)) (on_stmt listing_holes t)
  filled_stmt t = stmt_substituted values testing_filled t ∙ related_stmt (substituting (Every Bool) values testing_filled) listing_holes (Alike HoldsData) is_filling t

  all_map : (f : Stmt → Bool) (body : List Stmt) → list_all f (subst values body) ≡ list_all (λ t. f (subst_stmt values t)) body
  all_map f [] = refl
  all_map f (t ∷ body) = λ i. f (subst_stmt values t) && all_map f body i

  pub filled_by_holes : (body : List Stmt) → is_filled (subst values body) ≡ list_all (is_data_in values) (holes_of body)
  filled_by_holes body = all_map (on_stmt testing_filled) body ∙ tests_body (is_data_in values) (λ t. on_stmt testing_filled (subst_stmt values t)) filled_stmt body
