-- Substitution keeps the length of the longest text of a body: a value counts as little as a dollar.
use Rattle.std.specs.Prelude.{◌≡◌, refl, ℕ, List, map, max, Option, None, Some, option_map, slice_get}
use Rattle.std.proofs.Common.{ap}
use Rattle.mt_tree.specs.declared.data.Data.{Data}
use Rattle.mt_syntax.specs.Depth.{greatest}
use Rattle.mt_syntax.specs.Fold.{Every, ExprKindLayer, StmtKindLayer, on_stmt}
use Rattle.mt_syntax.specs.Substitution.{chosen, new_expr_kind, new_stmt_kind, subst, subst_stmt, unplaced}
use Rattle.mt_syntax.specs.declared.tree.Mark.{Mark}
use Rattle.mt_syntax.specs.declared.tree.Stmt.{Stmt}
use Rattle.mt_syntax.specs.declared.tree.ExprKind.TheOpen.{ExprKind-F, StmtKind-F}
use Rattle.mt_syntax_laws.proofs.Kept.{AreKept, map_kept, stmt_kept}
use Rattle.mt_syntax.specs.Texts.{longest_in}
use Rattle.mt_syntax.specs.Texts.{length_of_name, longest_in_expr_kind, longest_in_stmt_kind, measuring_texts}

in_function : (name : Option Mark) (parameters : List Mark) (body : List ℕ)
    → measuring_texts.function (record { name = option_map unplaced name; parameters = map unplaced parameters; body = body }) ≡ measuring_texts.function (record { name = name; parameters = parameters; body = body })
in_function None parameters body = λ i. max 0 (max (greatest (map_kept length_of_name unplaced (λ m. refl) parameters i)) (greatest body))
in_function (Some name) parameters body = λ i. max (length_of_name name) (max (greatest (map_kept length_of_name unplaced (λ m. refl) parameters i)) (greatest body))

in_stmt_kind : (x : StmtKindLayer (Every ℕ)) → longest_in_stmt_kind (new_stmt_kind (Every ℕ) x) ≡ longest_in_stmt_kind x
in_stmt_kind (StmtKind-F.Try body name handler) = refl
in_stmt_kind _ = refl

module _ (values : List Data) where
  in_hole : (at : ℕ) (d : Option Data) → longest_in_expr_kind (chosen (Every ℕ) at d) ≡ 0
  in_hole at None = refl
  in_hole at (Some d) = refl

  in_expr_kind : (x : ExprKindLayer (Every ℕ)) → longest_in_expr_kind (new_expr_kind (Every ℕ) values x) ≡ longest_in_expr_kind x
  in_expr_kind (ExprKind-F.ExprKind::Dollar at) = in_hole at (slice_get values at)
  in_expr_kind _ = refl

  texts_are_kept : AreKept values measuring_texts
  texts_are_kept = record {
    expr_kind = in_expr_kind;
    stmt_kind = in_stmt_kind;
    decl = λ x. refl;
    expr = λ x. refl;
    function = λ x. in_function x.name x.parameters x.body;
    markup_attribute = λ x. refl;
    stmt = λ x. refl;
  }

  pub longest_kept : (body : List Stmt) → longest_in (subst values body) ≡ longest_in body
  longest_kept body = ap greatest (map_kept (on_stmt measuring_texts) (subst_stmt values) (stmt_kept values measuring_texts texts_are_kept) body)
