-- What a derived tilde becomes by substitution: a code that has just the values given, each in the place of its dollar.
use Rattle.std.specs.Prelude.{◌≡◌, refl, ℕ, zero, suc, List, [], ◌∷◌, map, flat_map, length, Option, None, Some, slice_get, is_some, true}
use Rattle.std.specs.List.{list_all, range_with_len}
use Rattle.std.proofs.Common.{ap, sym, ◌∙◌}
use Rattle.std.proofs.Math.Nat.{suc-ne-zero, suc_inj}
use Rattle.std.proofs.lemmas.Bool.{false≢true, true≢false}
use Rattle.mt_tree.specs.declared.data.Data.{Data}
use Rattle.mt_syntax.specs.Codes.{IsCode, is_plain}
use Rattle.mt_syntax.specs.Data.{is_data}
use Rattle.mt_syntax.specs.Derivation.{IsDerivedTilde}
use Rattle.mt_syntax.specs.Fold.{ExprKindLayer, Tree, on_stmt}
use Rattle.mt_syntax.specs.Numbering.{values_of}
use Rattle.mt_syntax.specs.Substitution.{chosen, new_expr_kind, subst, subst_stmt, substituting}
use Rattle.mt_syntax_laws.specs.Blanked.{blanked, blanking}
use Rattle.mt_syntax_laws.proofs.Client.{data_in_order, derived_holes, values_in_order}
use Rattle.mt_syntax_laws.proofs.Filled.{filled_by_holes, values_by_holes}
use Rattle.mt_syntax_laws.proofs.Holes.{Hole, is_data_in, value_in}
use Rattle.mt_syntax_laws.proofs.Kept.{plain_kept, shape_kept}
use Rattle.mt_syntax_laws.proofs.Nowhere.{substituted_nowhere}
use Rattle.mt_syntax_laws.proofs.Substituted.{stmt_substituted}
use Rattle.mt_syntax.specs.declared.program.Tilde.{Tilde}
use Rattle.mt_syntax.specs.declared.tree.Stmt.{Stmt}
use Rattle.mt_syntax.specs.declared.tree.ExprKind.TheOpen.{ExprKind-F}

module _ (t : Tilde) (values : List Data) (derived : IsDerivedTilde t) (enough : length values ≡ length t.dollars) where
  pub values_of_code : values_of (subst values t.body) ≡ values
  values_of_code =
      values_by_holes values t.body
      ∙ ap (flat_map (value_in values)) (derived_holes t derived ∙ ap (λ n. map Hole.open_hole (range_with_len 0 n)) (sym enough))
      ∙ values_in_order values

  pub code : is_plain t.body ≡ true → list_all is_data values ≡ true → IsCode (subst values t.body)
  code plain all_data = record {
    shaped = shape_kept values t.body ∙ derived.body;
    plain = plain_kept values t.body ∙ plain;
    filled =
        filled_by_holes values t.body
        ∙ ap (list_all (is_data_in values)) (derived_holes t derived ∙ ap (λ n. map Hole.open_hole (range_with_len 0 n)) (sym enough))
        ∙ data_in_order values
        ∙ all_data;
    nowhere = substituted_nowhere values t.body;
  }

-- ---- the same but for the values

blank_same : (at : ℕ) (d e : Option Data) → is_some d ≡ is_some e → blanking.expr_kind (chosen Tree at d) ≡ blanking.expr_kind (chosen Tree at e)
blank_same at None None h = refl
blank_same at (Some d) (Some e) h = refl
blank_same at None (Some e) h = absurd (false≢true h)
blank_same at (Some d) None h = absurd (true≢false h)

-- lists of one length have items at the same places
same_places : (ds es : List Data) → length ds ≡ length es → (at : ℕ) → is_some (slice_get ds at) ≡ is_some (slice_get es at)
same_places [] [] h at = refl
same_places [] (e ∷ es) h at = absurd (suc-ne-zero (length es) (sym h))
same_places (d ∷ ds) [] h at = absurd (suc-ne-zero (length ds) h)
same_places (d ∷ ds) (e ∷ es) h zero = refl
same_places (d ∷ ds) (e ∷ es) h (suc at) = same_places ds es (suc_inj h) at

module _ (ds es : List Data) (equally_many : length ds ≡ length es) where
  blank_kind : (x : ExprKindLayer Tree) → blanking.expr_kind (new_expr_kind Tree ds x) ≡ blanking.expr_kind (new_expr_kind Tree es x)
  blank_kind (ExprKind-F.ExprKind::Dollar at) = blank_same at (slice_get ds at) (slice_get es at) (same_places ds es equally_many at)
  blank_kind _ = refl

  blank_steps : substituting Tree ds blanking ≡ substituting Tree es blanking
  blank_steps = λ i. record (substituting Tree ds blanking) { expr_kind = λ x. blank_kind x i }

  blank_stmt : (t : Stmt) → on_stmt blanking (subst_stmt ds t) ≡ on_stmt blanking (subst_stmt es t)
  blank_stmt t = stmt_substituted ds blanking t ∙ ap (λ s. on_stmt s t) blank_steps ∙ sym (stmt_substituted es blanking t)

  -- codes of one tilde differ in the data of their values alone
  pub only_values_differ : (body : List Stmt) → blanked (subst ds body) ≡ blanked (subst es body)
  only_values_differ [] = refl
  only_values_differ (t ∷ body) = λ i. blank_stmt t i ∷ only_values_differ body i
