-- The walk that gives the first jump gives the first of all jumps.
use Rattle.std.proofs.Common.{◌≡◌, Bool, true, false, List, [], ◌∷◌, ◌++◌, Option, None, Some, refl, ◌∙◌}
use Rattle.mt_syntax.specs.First.{earlier_of, first_of}
use Rattle.mt_syntax.specs.Joining.{all, first}
use Rattle.mt_syntax.specs.declared.broken.Broken.{Broken}
use Rattle.mt_syntax.proofs.Order.{first_of_lists}
use Rattle.mt_syntax.specs.Fold.{StmtKindLayer, on_expr, on_stmt}
use Rattle.mt_syntax.specs.Gathering.{gathering}
use Rattle.mt_syntax_laws.proofs.Gathered.{Alike, gathered, rows}
use Rattle.mt_syntax_laws.proofs.Layers.{map_stmt_kind}
use Rattle.mt_syntax_laws.proofs.Related.{Preserved, Two, lefts, rights, related_expr, related_stmt}
use Rattle.mt_syntax.specs.declared.tree.Expr.{Expr}
use Rattle.mt_syntax.specs.declared.tree.Stmt.{Stmt}
use Rattle.mt_syntax.specs.declared.tree.ExprKind.TheOpen.{StmtKind-F}
use Rattle.mt_stage_placement.specs.Jumps.{Found, at_node, broken_unless, finding_jumps, in_each, in_function, in_loop, join, none, stmt_kind_jumps}
use Rattle.mt_stage_placement.specs.declared.jumps.around.Around.{Around}

abbrev IsFirst : Found all → Found first → Type 0
IsFirst jumps jump = (around : Around) → first_of (jumps around) ≡ jump around

both : (xs ys : List Broken) (a b : Option Broken) → first_of xs ≡ a → first_of ys ≡ b → first_of (xs ++ ys) ≡ earlier_of a b
both xs ys a b p q = first_of_lists xs ys ∙ (λ i. earlier_of (p i) (q i))

four : (xs ys zs us : List Broken) (a b c d : Option Broken) → first_of xs ≡ a → first_of ys ≡ b → first_of zs ≡ c → first_of us ≡ d
    → first_of (xs ++ (ys ++ (zs ++ us))) ≡ earlier_of a (earlier_of b (earlier_of c d))
four xs ys zs us a b c d p q r s = both xs (ys ++ (zs ++ us)) a (earlier_of b (earlier_of c d)) p (both ys (zs ++ us) b (earlier_of c d) q (both zs us c d r s))

at_join : (x x' : Found all) (y y' : Found first) → IsFirst x y → IsFirst x' y' → IsFirst (join all x x') (join first y y')
at_join x x' y y' p q around = both (x around) (x' around) (y around) (y' around) (p around) (q around)

met : Preserved (gathering (none all) (join all)) (gathering (none first) (join first)) (Alike IsFirst)
met = gathered IsFirst (none all) (join all) (none first) (join first) (λ around. refl) at_join

here : (fits : Bool) (around : Around) → first_of (broken_unless all fits around) ≡ broken_unless first fits around
here true around = refl
here false around = refl

kind_is_first : (x : StmtKindLayer (Two (Alike IsFirst)))
    → IsFirst (stmt_kind_jumps all (map_stmt_kind (lefts (Alike IsFirst)) x)) (stmt_kind_jumps first (map_stmt_kind (rights (Alike IsFirst)) x))
kind_is_first (StmtKind-F.Return None) around = both (broken_unless all around.function around) [] (broken_unless first around.function around) None (here around.function around) refl
kind_is_first (StmtKind-F.Return (Some a)) around =
    both (broken_unless all around.function around) (a.left around) (broken_unless first around.function around) (a.right around) (here around.function around) (a.holds around)
kind_is_first StmtKind-F.Break around = here around.repeated around
kind_is_first StmtKind-F.Continue around = here around.repeated around
kind_is_first (StmtKind-F.While test body) around =
    both (test.left around) (body.left (in_loop around)) (test.right around) (body.right (in_loop around)) (test.holds around) (body.holds (in_loop around))
kind_is_first (StmtKind-F.For start None None body) around =
    four (start.left around) [] [] (body.left (in_loop around)) (start.right around) None None (body.right (in_loop around))
    (start.holds around) refl refl (body.holds (in_loop around))
kind_is_first (StmtKind-F.For start None (Some step) body) around =
    four (start.left around) [] (step.left around) (body.left (in_loop around)) (start.right around) None (step.right around) (body.right (in_loop around))
    (start.holds around) refl (step.holds around) (body.holds (in_loop around))
kind_is_first (StmtKind-F.For start (Some test) None body) around =
    four (start.left around) (test.left around) [] (body.left (in_loop around)) (start.right around) (test.right around) None (body.right (in_loop around))
    (start.holds around) (test.holds around) refl (body.holds (in_loop around))
kind_is_first (StmtKind-F.For start (Some test) (Some step) body) around =
    four (start.left around) (test.left around) (step.left around) (body.left (in_loop around)) (start.right around) (test.right around) (step.right around) (body.right (in_loop around))
    (start.holds around) (test.holds around) (step.holds around) (body.holds (in_loop around))
kind_is_first x around = met.stmt_kind x around

preserved : Preserved (finding_jumps all) (finding_jumps first) (Alike IsFirst)
preserved = record {
  expr_kind = met.expr_kind;
  for_start = met.for_start;
  markup_child = met.markup_child;
  markup_value = met.markup_value;
  stmt_kind = kind_is_first;
  decl = met.decl;
  expr = λ x around. x.kind.holds (at_node x.place around);
  function = λ x around. rows IsFirst (none all) (join all) (none first) (join first) (λ a. refl) at_join x.body (in_function around);
  markup = met.markup;
  markup_attribute = met.markup_attribute;
  prop = met.prop;
  stmt = λ x around. x.kind.holds (at_node x.place around);
}

pub in_stmts : (body : List Stmt) → IsFirst (in_each all (on_stmt (finding_jumps all)) body) (in_each first (on_stmt (finding_jumps first)) body)
in_stmts [] around = refl
in_stmts (t ∷ body) around =
    both (on_stmt (finding_jumps all) t around) (in_each all (on_stmt (finding_jumps all)) body around) (on_stmt (finding_jumps first) t around) (in_each first (on_stmt (finding_jumps first)) body around)
    (related_stmt (finding_jumps all) (finding_jumps first) (Alike IsFirst) preserved t around) (in_stmts body around)

pub in_exprs : (es : List Expr) → IsFirst (in_each all (on_expr (finding_jumps all)) es) (in_each first (on_expr (finding_jumps first)) es)
in_exprs [] around = refl
in_exprs (e ∷ es) around =
    both (on_expr (finding_jumps all) e around) (in_each all (on_expr (finding_jumps all)) es around) (on_expr (finding_jumps first) e around) (in_each first (on_expr (finding_jumps first)) es around)
    (related_expr (finding_jumps all) (finding_jumps first) (Alike IsFirst) preserved e around) (in_exprs es around)
