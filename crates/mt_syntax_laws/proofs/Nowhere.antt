-- No part of a substituted body stands in a source.
use Rattle.std.specs.Prelude.{◌≡◌, refl, ℕ, slice_get, List, [], ◌∷◌, map, Option, None, Some, option_map, Bool, true, ◌&&◌}
use Rattle.std.specs.List.{list_all}
use Rattle.std.proofs.Common.{◌∙◌}
use Rattle.std.proofs.lemmas.Bool.{and_from}
use Rattle.mt_tree.specs.declared.data.Data.{Data}
use Rattle.mt_syntax.specs.Fold.{Every, Steps, ExprKindLayer, StmtKindLayer, FunctionLayer, on_stmt}
use Rattle.mt_syntax.specs.Gathering.{gathering}
use Rattle.mt_syntax.specs.Substitution.{chosen, new_expr_kind, new_stmt_kind, new_function, subst, subst_stmt, substituting, unplaced}
use Rattle.mt_syntax.specs.Codes.{mark_is_nowhere, name_is_nowhere, stands_nowhere, stmt_kind_is_nowhere, testing, testing_nowhere}
use Rattle.mt_syntax_laws.proofs.Gathered.{Alike, gathered}
use Rattle.mt_syntax_laws.proofs.Layers.{map_expr_kind, map_function, map_stmt_kind}
use Rattle.mt_syntax_laws.proofs.Related.{Preserved, Two, lefts, related_stmt}
use Rattle.mt_syntax_laws.proofs.Substituted.{stmt_substituted}
use Rattle.mt_syntax.specs.declared.tree.Mark.{Mark}
use Rattle.mt_syntax.specs.declared.tree.Stmt.{Stmt}
use Rattle.mt_syntax.specs.declared.tree.ExprKind.TheOpen.{ExprKind-F, StmtKind-F}

abbrev Passes : Bool → Unit {0} → Type 0
Passes b u = b ≡ true

abbrev nothing_gathered : Steps (Every (Unit {0}))
nothing_gathered = gathering tt (λ u v. tt)

passing : Preserved testing nothing_gathered (Alike Passes)
passing = gathered Passes true (λ a b. a && b) tt (λ u v. tt) refl (λ a b u v p q. and_from a b p q)

no_name : (name : Option Mark) → name_is_nowhere (option_map unplaced name) ≡ true
no_name None = refl
no_name (Some m) = refl

no_names : (names : List Mark) → list_all mark_is_nowhere (map unplaced names) ≡ true
no_names [] = refl
no_names (m ∷ names) = no_names names

module _ (values : List Data) where
  chosen_passes : (at : ℕ) (d : Option Data) → testing.expr_kind (chosen (Every Bool) at d) ≡ true
  chosen_passes at None = refl
  chosen_passes at (Some d) = refl

  nowhere_kind : (x : ExprKindLayer (Two (Alike Passes))) → testing.expr_kind (new_expr_kind (Every Bool) values (map_expr_kind (lefts (Alike Passes)) x)) ≡ true
  nowhere_kind (ExprKind-F.ExprKind::Dollar at) = chosen_passes at (slice_get values at)
  nowhere_kind x = passing.expr_kind x

  nowhere_stmt_kind : (x : StmtKindLayer (Two (Alike Passes))) → stmt_kind_is_nowhere (new_stmt_kind (Every Bool) (map_stmt_kind (lefts (Alike Passes)) x)) ≡ true
  nowhere_stmt_kind (StmtKind-F.Try body name handler) = and_from (body.left && true) handler.left (and_from body.left true body.holds refl) handler.holds
  nowhere_stmt_kind x = passing.stmt_kind x

  nowhere_function : (x : FunctionLayer (Two (Alike Passes))) → testing_nowhere.function (new_function (Every Bool) (map_function (lefts (Alike Passes)) x)) ≡ true
  nowhere_function x =
      and_from (name_is_nowhere (option_map unplaced x.name) && list_all mark_is_nowhere (map unplaced x.parameters)) (testing.function (map_function (lefts (Alike Passes)) x))
      (and_from (name_is_nowhere (option_map unplaced x.name)) (list_all mark_is_nowhere (map unplaced x.parameters)) (no_name x.name) (no_names x.parameters)) (passing.function x)

  all_nowhere : Preserved (substituting (Every Bool) values testing_nowhere) nothing_gathered (Alike Passes)
  all_nowhere = record {
    expr_kind = nowhere_kind;
    for_start = passing.for_start;
    markup_child = passing.markup_child;
    markup_value = passing.markup_value;
    stmt_kind = nowhere_stmt_kind;
    decl = passing.decl;
    expr = passing.expr;
    function = nowhere_function;
    markup = passing.markup;
    markup_attribute = passing.markup_attribute;
    prop = passing.prop;
    stmt = passing.stmt;
  }

  stmt_nowhere : (t : Stmt) → on_stmt testing_nowhere (subst_stmt values t) ≡ true
  stmt_nowhere t = stmt_substituted values testing_nowhere t ∙ related_stmt (substituting (Every Bool) values testing_nowhere) nothing_gathered (Alike Passes) all_nowhere t

  pub substituted_nowhere : (body : List Stmt) → stands_nowhere (subst values body) ≡ true
  substituted_nowhere [] = refl
  substituted_nowhere (t ∷ body) = and_from (on_stmt testing_nowhere (subst_stmt values t)) (stands_nowhere (subst values body)) (stmt_nowhere t) (substituted_nowhere body)
