-- A substituted body has no misplaced jump where the body has none.
use Rattle.std.proofs.Common.{◌≡◌, ℕ, Bool, true, false, List, [], ◌∷◌, Option, None, Some, slice_get, refl, sym, subst}
use Rattle.mt_tree.specs.declared.data.Data.{Data}
use Rattle.mt_tree.specs.declared.place.Place.{Place}
use Rattle.mt_syntax.specs.Joining.{all}
use Rattle.mt_syntax.specs.Sort.{Sort}
use Rattle.mt_syntax.specs.Sort as sort
use Rattle.mt_syntax.specs.Fold.{Every, ExprKindLayer, StmtKindLayer, on_stmt}
use Rattle.mt_syntax.specs.Gathering.{gathering, of_expr_kind}
use Rattle.mt_syntax.specs.Substitution.{chosen, new_expr_kind, new_stmt_kind, nowhere, subst_stmt, substituting}
use Rattle.mt_syntax.specs.Substitution as substitution
use Rattle.mt_syntax.specs.declared.tree.Stmt.{Stmt}
use Rattle.mt_syntax.specs.declared.tree.ExprKind.TheOpen.{ExprKind-F, StmtKind-F}
use Rattle.mt_syntax_laws.proofs.Gathered.{Alike, gathered, rows}
use Rattle.mt_syntax_laws.proofs.Layers.{map_expr_kind, map_stmt_kind}
use Rattle.mt_syntax_laws.proofs.Related.{Preserved, Two, lefts, rights, related_stmt}
use Rattle.mt_syntax_laws.proofs.Substituted.{stmt_substituted}
use Rattle.mt_stage_placement.specs.Jumps.{Found, at_node, broken_unless, finding_jumps, in_each, in_function, in_loop, join, none, stmt_kind_jumps}
use Rattle.mt_stage_placement.specs.Placement.{misplaced_jumps, nothing_around}
use Rattle.mt_stage_placement.specs.declared.jumps.around.Around.{Around}
use Rattle.mt_stage.proofs.Empty.{joined_empty, something}

-- where nothing is found in a part, nothing is found in the substituted part, wherever it stands
abbrev IsFree : Found all → Found all → Type 0
IsFree substituted jumps = (around : Around) (place : Place) → jumps around ≡ [] → substituted (at_node place around) ≡ []

free_both : (x x' y y' : Found all) → IsFree x y → IsFree x' y' → IsFree (join all x x') (join all y y')
free_both x x' y y' p q around place = joined_empty (y around) (y' around) (x (at_node place around)) (x' (at_node place around)) (p around place) (q around place)

free_none : IsFree (none all) (none all)
free_none around place e = refl

met : Preserved (gathering (none all) (join all)) (gathering (none all) (join all)) (Alike IsFree)
met = gathered IsFree (none all) (join all) (none all) (join all) free_none free_both

free_here : (fits : Bool) (around : Around) (place : Place) → broken_unless all fits around ≡ [] → broken_unless all fits (at_node place around) ≡ []
free_here true around place e = refl
free_here false around place e = something _ _ e

abbrev Pair : Sort → Type 0
Pair = Two {A = Every (Found all)} {B = Every (Found all)} (Alike IsFree)

looped : (body : Pair sort.Stmt) → IsFree (λ around. body.left (in_loop around)) (λ around. body.right (in_loop around))
looped body around place = body.holds (in_loop around) place

in_for : (start : Pair sort.ForStart) (body : Pair sort.Stmt) (x x' y y' : Found all) → IsFree x y → IsFree x' y'
    → IsFree (join all start.left (join all x (join all x' (λ around. body.left (in_loop around))))) (join all start.right (join all y (join all y' (λ around. body.right (in_loop around)))))
in_for start body x x' y y' p q =
    free_both start.left (join all x (join all x' (λ around. body.left (in_loop around)))) start.right (join all y (join all y' (λ around. body.right (in_loop around)))) start.holds
    (free_both x (join all x' (λ around. body.left (in_loop around))) y (join all y' (λ around. body.right (in_loop around))) p
    (free_both x' (λ around. body.left (in_loop around)) y' (λ around. body.right (in_loop around)) q (looped body)))

in_stmt_kind : (x : StmtKindLayer Pair)
    → IsFree (stmt_kind_jumps all (new_stmt_kind (Every (Found all)) (map_stmt_kind (lefts (Alike IsFree)) x))) (stmt_kind_jumps all (map_stmt_kind (rights (Alike IsFree)) x))
in_stmt_kind (StmtKind-F.Return None) =
    free_both (λ around. broken_unless all around.function around) (none all) (λ around. broken_unless all around.function around) (none all) (λ around. free_here around.function around) free_none
in_stmt_kind (StmtKind-F.Return (Some value)) =
    free_both (λ around. broken_unless all around.function around) value.left (λ around. broken_unless all around.function around) value.right (λ around. free_here around.function around) value.holds
in_stmt_kind StmtKind-F.Break = λ around. free_here around.repeated around
in_stmt_kind StmtKind-F.Continue = λ around. free_here around.repeated around
in_stmt_kind (StmtKind-F.While test body) =
    free_both test.left (λ around. body.left (in_loop around)) test.right (λ around. body.right (in_loop around)) test.holds (looped body)
in_stmt_kind (StmtKind-F.For start None None body) = in_for start body (none all) (none all) (none all) (none all) free_none free_none
in_stmt_kind (StmtKind-F.For start None (Some step) body) = in_for start body (none all) step.left (none all) step.right free_none step.holds
in_stmt_kind (StmtKind-F.For start (Some test) None body) = in_for start body test.left (none all) test.right (none all) test.holds free_none
in_stmt_kind (StmtKind-F.For start (Some test) (Some step) body) = in_for start body test.left step.left test.right step.right test.holds step.holds
in_stmt_kind (StmtKind-F.Try body name handler) = free_both body.left handler.left body.right handler.right body.holds handler.holds
in_stmt_kind x = met.stmt_kind x

module _ (values : List Data) where
  in_hole : (at : ℕ) (d : Option Data) → IsFree (of_expr_kind (none all) (join all) (chosen (Every (Found all)) at d)) (none all)
  in_hole at None = free_none
  in_hole at (Some d) = free_none

  in_kind : (x : ExprKindLayer Pair)
      → IsFree (of_expr_kind (none all) (join all) (new_expr_kind (Every (Found all)) values (map_expr_kind (lefts (Alike IsFree)) x))) (of_expr_kind (none all) (join all) (map_expr_kind (rights (Alike IsFree)) x))
  in_kind (ExprKind-F.ExprKind::Dollar at) = in_hole at (slice_get values at)
  in_kind x = met.expr_kind x

  preserved : Preserved (substituting (Every (Found all)) values (finding_jumps all)) (finding_jumps all) (Alike IsFree)
  preserved = record {
    expr_kind = in_kind;
    for_start = met.for_start;
    markup_child = met.markup_child;
    markup_value = met.markup_value;
    stmt_kind = in_stmt_kind;
    decl = met.decl;
    expr = λ x around place e. x.kind.holds (at_node x.place around) nowhere e;
    function = λ x around place e. rows IsFree (none all) (join all) (none all) (join all) free_none free_both x.body (in_function around) place e;
    markup = met.markup;
    markup_attribute = met.markup_attribute;
    prop = met.prop;
    stmt = λ x around place e. x.kind.holds (at_node x.place around) nowhere e;
  }

  in_stmt : (t : Stmt) → IsFree (on_stmt (finding_jumps all) (subst_stmt values t)) (on_stmt (finding_jumps all) t)
  in_stmt t =
      subst (λ jumps. IsFree jumps (on_stmt (finding_jumps all) t)) (sym (stmt_substituted values (finding_jumps all) t))
      (related_stmt (substituting (Every (Found all)) values (finding_jumps all)) (finding_jumps all) (Alike IsFree) preserved t)

  in_body : (body : List Stmt) → IsFree (in_each all (on_stmt (finding_jumps all)) (substitution.subst values body)) (in_each all (on_stmt (finding_jumps all)) body)
  in_body [] = free_none
  in_body (t ∷ body) =
      free_both (on_stmt (finding_jumps all) (subst_stmt values t)) (in_each all (on_stmt (finding_jumps all)) (substitution.subst values body))
      (on_stmt (finding_jumps all) t) (in_each all (on_stmt (finding_jumps all)) body) (in_stmt t) (in_body body)

  pub jumps_fit : (body : List Stmt) → misplaced_jumps body ≡ [] → misplaced_jumps (substitution.subst values body) ≡ []
  jumps_fit body = in_body body nothing_around nowhere
