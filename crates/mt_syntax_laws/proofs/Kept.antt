-- Results that substitution leaves as they are.
use Rattle.std.specs.Prelude.{◌≡◌, refl, ℕ, List, [], ◌∷◌, map, Option, None, Some, slice_get, option_map, max, Bool, true, ◌&&◌}
use Rattle.std.specs.List.{list_all}
use Rattle.std.proofs.Common.{ap, ◌∙◌}
use Rattle.mt_tree.specs.declared.data.Data.{Data}
use Rattle.mt_syntax.specs.Sort.{Sort}
use Rattle.mt_syntax.specs.Fold.{Every, Steps, ExprKindLayer, StmtKindLayer, DeclLayer, ExprLayer, FunctionLayer, MarkupAttributeLayer, StmtLayer, on_stmt}
use Rattle.mt_syntax.specs.Gathering.{of_stmt_kind}
use Rattle.mt_syntax.specs.Substitution.{chosen, substituting, new_expr_kind, new_stmt_kind, new_decl, new_expr, new_function, new_markup_attribute, new_stmt, subst, subst_stmt, unplaced}
use Rattle.mt_syntax.specs.Depth.{depth_of, depth_of_kind, depth_of_stmt, greatest, measuring, nothing}
use Rattle.mt_syntax.specs.Shape.{Part, expr_kind_part, function_part, is_shaped, is_shaped_stmt, mark_fits, shaping, stmt_kind_part}
use Rattle.mt_syntax.specs.Codes.{expr_kind_is_plain, is_plain, stmt_kind_is_plain, testing_plain}
use Rattle.mt_syntax_laws.proofs.Substituted.{stmt_substituted}
use Rattle.mt_syntax.specs.declared.tree.Mark.{Mark}
use Rattle.mt_syntax.specs.declared.tree.Stmt.{Stmt}
use Rattle.mt_syntax.specs.declared.tree.ExprKind.TheOpen.{ExprKind-F, StmtKind-F}

-- what is the same for each item is the same for the list
pub map_kept : {X Y : Type 0} (f : X → Y) (g : X → X) → ((x : X) → f (g x) ≡ f x) → (xs : List X) → map f (map g xs) ≡ map f xs
map_kept f g same [] = refl
map_kept f g same (x ∷ xs) = λ i. same x i ∷ map_kept f g same xs i

pub all_kept : {X : Type 0} (f : X → Bool) (g : X → X) → ((x : X) → f (g x) ≡ f x) → (xs : List X) → list_all f (map g xs) ≡ list_all f xs
all_kept f g same [] = refl
all_kept f g same (x ∷ xs) = λ i. same x i && all_kept f g same xs i

module _ (values : List Data) where
  -- steps that give the same on a node and on the substituted node
  pub record AreKept {B : Sort → Type 0} (steps : Steps B) : Type 0 where
    pub expr_kind : (x : ExprKindLayer B) → steps.expr_kind (new_expr_kind B values x) ≡ steps.expr_kind x
    pub stmt_kind : (x : StmtKindLayer B) → steps.stmt_kind (new_stmt_kind B x) ≡ steps.stmt_kind x
    pub decl : (x : DeclLayer B) → steps.decl (new_decl B x) ≡ steps.decl x
    pub expr : (x : ExprLayer B) → steps.expr (new_expr B x) ≡ steps.expr x
    pub function : (x : FunctionLayer B) → steps.function (new_function B x) ≡ steps.function x
    pub markup_attribute : (x : MarkupAttributeLayer B) → steps.markup_attribute (new_markup_attribute B x) ≡ steps.markup_attribute x
    pub stmt : (x : StmtLayer B) → steps.stmt (new_stmt B x) ≡ steps.stmt x

  steps_kept : {B : Sort → Type 0} (steps : Steps B) → AreKept steps → substituting B values steps ≡ steps
  steps_kept steps kept = λ i. record steps {
    expr_kind = λ x. kept.expr_kind x i;
    stmt_kind = λ x. kept.stmt_kind x i;
    decl = λ x. kept.decl x i;
    expr = λ x. kept.expr x i;
    function = λ x. kept.function x i;
    markup_attribute = λ x. kept.markup_attribute x i;
    stmt = λ x. kept.stmt x i;
  }

  pub stmt_kept : {B : Sort → Type 0} (steps : Steps B) → AreKept steps → (t : Stmt) → on_stmt steps (subst_stmt values t) ≡ on_stmt steps t
  stmt_kept steps kept t = stmt_substituted values steps t ∙ ap (λ s. on_stmt s t) (steps_kept steps kept)

  pub gathered_stmt_kind : {X : Type 0} (none : X) (join : X → X → X) (x : StmtKindLayer (Every X)) → of_stmt_kind none join (new_stmt_kind (Every X) x) ≡ of_stmt_kind none join x
  gathered_stmt_kind none join (StmtKind-F.Try body name handler) = refl
  gathered_stmt_kind none join _ = refl

  -- ---- depth

  filled_depth : (at : ℕ) (d : Option Data) → depth_of_kind nothing nothing (chosen (Every ℕ) at d) ≡ 0
  filled_depth at None = refl
  filled_depth at (Some d) = refl

  depth_kind : (x : ExprKindLayer (Every ℕ)) → depth_of_kind nothing nothing (new_expr_kind (Every ℕ) values x) ≡ depth_of_kind nothing nothing x
  depth_kind (ExprKind-F.ExprKind::Dollar at) = filled_depth at (slice_get values at)
  depth_kind _ = refl

  depth_is_kept : AreKept (measuring nothing nothing)
  depth_is_kept = record {
    expr_kind = depth_kind;
    stmt_kind = gathered_stmt_kind 0 max;
    decl = λ x. refl;
    expr = λ x. refl;
    function = λ x. refl;
    markup_attribute = λ x. refl;
    stmt = λ x. refl;
  }

  pub depth_kept : (body : List Stmt) → depth_of (subst values body) ≡ depth_of body
  depth_kept body = ap greatest (map_kept depth_of_stmt (subst_stmt values) (stmt_kept (measuring nothing nothing) depth_is_kept) body)

  -- ---- shape

  filled_part : (at : ℕ) (d : Option Data) → expr_kind_part (chosen (Every Part) at d) ≡ expr_kind_part (ExprKind-F.ExprKind::Dollar at)
  filled_part at None = refl
  filled_part at (Some d) = refl

  part_kind : (x : ExprKindLayer (Every Part)) → expr_kind_part (new_expr_kind (Every Part) values x) ≡ expr_kind_part x
  part_kind (ExprKind-F.ExprKind::Dollar at) = filled_part at (slice_get values at)
  part_kind _ = refl

  part_stmt_kind : (x : StmtKindLayer (Every Part)) → stmt_kind_part (new_stmt_kind (Every Part) x) ≡ stmt_kind_part x
  part_stmt_kind (StmtKind-F.Try body name handler) = refl
  part_stmt_kind _ = refl

  part_function : (name : Option Mark) (parameters : List Mark) (body : List Part)
      → function_part (record { name = option_map unplaced name; parameters = map unplaced parameters; body = body }) ≡ function_part (record { name = name; parameters = parameters; body = body })
  part_function None parameters body =
      λ i. record { look = (function_part (record { name = None; parameters = parameters; body = body })).look; fits = true && all_kept mark_fits unplaced (λ m. refl) parameters i && list_all (λ p. p.fits) body }
  part_function (Some name) parameters body =
      λ i. record { look = (function_part (record { name = Some name; parameters = parameters; body = body })).look; fits = mark_fits name && all_kept mark_fits unplaced (λ m. refl) parameters i && list_all (λ p. p.fits) body }

  shape_is_kept : AreKept shaping
  shape_is_kept = record {
    expr_kind = part_kind;
    stmt_kind = part_stmt_kind;
    decl = λ x. refl;
    expr = λ x. refl;
    function = λ x. part_function x.name x.parameters x.body;
    markup_attribute = λ x. refl;
    stmt = λ x. refl;
  }

  pub shape_kept : (body : List Stmt) → is_shaped (subst values body) ≡ is_shaped body
  shape_kept = all_kept is_shaped_stmt (subst_stmt values) (λ t. ap (λ p. p.fits) (stmt_kept shaping shape_is_kept t))

  -- ---- services, tildes and elements

  filled_plain : (at : ℕ) (d : Option Data) → expr_kind_is_plain (chosen (Every Bool) at d) ≡ true
  filled_plain at None = refl
  filled_plain at (Some d) = refl

  plain_kind : (x : ExprKindLayer (Every Bool)) → expr_kind_is_plain (new_expr_kind (Every Bool) values x) ≡ expr_kind_is_plain x
  plain_kind (ExprKind-F.ExprKind::Dollar at) = filled_plain at (slice_get values at)
  plain_kind _ = refl

  plain_stmt_kind : (x : StmtKindLayer (Every Bool)) → stmt_kind_is_plain (new_stmt_kind (Every Bool) x) ≡ stmt_kind_is_plain x
  plain_stmt_kind (StmtKind-F.Try body name handler) = refl
  plain_stmt_kind _ = refl

  plain_is_kept : AreKept testing_plain
  plain_is_kept = record {
    expr_kind = plain_kind;
    stmt_kind = plain_stmt_kind;
    decl = λ x. refl;
    expr = λ x. refl;
    function = λ x. refl;
    markup_attribute = λ x. refl;
    stmt = λ x. refl;
  }

  pub plain_kept : (body : List Stmt) → is_plain (subst values body) ≡ is_plain body
  plain_kept = all_kept (on_stmt testing_plain) (subst_stmt values) (stmt_kept testing_plain plain_is_kept)
