-- The text of a substituted body, written from the body and the values without making the body.
use Rattle.std.specs.Prelude.{◌≡◌, refl, ℕ, List, [], ◌∷◌, ◌++◌, map, flat_map, Option, None, Some, option_map, codes}
use Rattle.mt_tree.specs.declared.data.Data.{Data}
use Rattle.mt_syntax.specs.CodeText.{block, code_text, expr_kind_code, function_code, name_text, stmt_kind_code, writing_code}
use Rattle.mt_syntax.specs.DataText.{separated}
use Rattle.mt_syntax.specs.Fold.{Every, ExprKindLayer, StmtKindLayer, on_stmt}
use Rattle.mt_syntax.specs.Substitution.{new_expr_kind, new_stmt_kind, subst, subst_stmt, substituting, unplaced}
use Rattle.mt_syntax_laws.proofs.Kept.{AreKept, map_kept, stmt_kept}
use Rattle.mt_syntax_laws.proofs.Substituted.{stmt_substituted}
use Rattle.mt_syntax.specs.declared.tree.Mark.{Mark}
use Rattle.mt_syntax.specs.declared.tree.Stmt.{Stmt}
use Rattle.mt_syntax.specs.declared.tree.ExprKind.TheOpen.{ExprKind-F, StmtKind-F}

flat_kept : {X : Type 0} (f : X → List ℕ) (g : X → List ℕ) (h : X → X) → ((x : X) → f (h x) ≡ g x) → (xs : List X) → flat_map f (map h xs) ≡ flat_map g xs
flat_kept f g h same [] = refl
flat_kept f g h same (x ∷ xs) = λ i. same x i ++ flat_kept f g h same xs i

pub text_by_steps : (values : List Data) (body : List Stmt) → code_text (subst values body) ≡ flat_map (on_stmt (substituting (Every (List ℕ)) values writing_code)) body
text_by_steps values body =
    flat_kept (on_stmt writing_code) (on_stmt (substituting (Every (List ℕ)) values writing_code)) (subst_stmt values) (stmt_substituted values writing_code) body

-- ---- a body with no values put in has its own text

text_kind : (x : ExprKindLayer (Every (List ℕ))) → expr_kind_code (new_expr_kind (Every (List ℕ)) [] x) ≡ expr_kind_code x
text_kind (ExprKind-F.ExprKind::Dollar at) = refl
text_kind _ = refl

text_stmt_kind : (x : StmtKindLayer (Every (List ℕ))) → stmt_kind_code (new_stmt_kind (Every (List ℕ)) x) ≡ stmt_kind_code x
text_stmt_kind (StmtKind-F.Try body name handler) = refl
text_stmt_kind _ = refl

text_function : (name : Option Mark) (parameters : List Mark) (body : List (List ℕ))
    → function_code (record { name = option_map unplaced name; parameters = map unplaced parameters; body = body }) ≡ function_code (record { name = name; parameters = parameters; body = body })
text_function None parameters body = λ i. codes "(" ++ (separated (map_kept name_text unplaced (λ m. refl) parameters i) ++ (codes ")" ++ block body))
text_function (Some name) parameters body =
    λ i. (32 ∷ name_text name) ++ (codes "(" ++ (separated (map_kept name_text unplaced (λ m. refl) parameters i) ++ (codes ")" ++ block body)))

text_is_kept : AreKept [] writing_code
text_is_kept = record {
  expr_kind = text_kind;
  stmt_kind = text_stmt_kind;
  decl = λ x. refl;
  expr = λ x. refl;
  function = λ x. text_function x.name x.parameters x.body;
  markup_attribute = λ x. refl;
  stmt = λ x. refl;
}

pub text_without_values : (body : List Stmt) → code_text (subst [] body) ≡ code_text body
text_without_values = flat_kept (on_stmt writing_code) (on_stmt writing_code) (subst_stmt []) (stmt_kept [] writing_code text_is_kept)
