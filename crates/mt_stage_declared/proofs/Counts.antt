-- What is counted of the places where a name is declared twice is counted of the list of all of them.
use Rattle.std.proofs.Common.{◌≡◌, List, [], ◌∷◌, ◌++◌, map, None, ◌∙◌, refl}
use Rattle.mt_syntax.specs.First.{earlier_of, first_of}
use Rattle.mt_syntax.proofs.Order.{first_of_lists}
use Rattle.mt_syntax.specs.declared.broken.Broken.{Broken}
use Rattle.mt_syntax.specs.Sort.{Sort}
use Rattle.mt_syntax.specs.declared.tree.Mark.{Mark}
use Rattle.mt_syntax.specs.Fold.{Every, StmtKindLayer, on_expr, on_stmt}
use Rattle.mt_syntax.specs.declared.tree.Expr.{Expr}
use Rattle.mt_syntax.specs.declared.tree.Stmt.{Stmt}
use Rattle.mt_syntax.specs.declared.tree.ExprKind.TheOpen.{StmtKind-F}
use Rattle.mt_syntax_laws.proofs.Gathered.{Alike, gathered}
use Rattle.mt_syntax_laws.proofs.Layers.{map_stmt_kind}
use Rattle.mt_syntax_laws.proofs.Related.{Preserved, Two, lefts, rights, related_expr, related_stmt}
use Rattle.mt_stage_declared.specs.Declarations.{declaration, declarations}
use Rattle.mt_stage_declared.specs.Parts.{Part, both, empty, found_in, gathering_found}
use Rattle.mt_stage_declared.specs.Repeated.{repeated}
use Rattle.mt_stage_declared.specs.Twice.{joined, twice_in_body, twice_in_catch, twice_in_kind, counting_twice, first_twice, listing_twice, twice_in_row, twice_in_row_of}
use Rattle.mt_stage_declared.proofs.Declares.{kind_same, row_same, start_same}
use Rattle.mt_stage_declared.specs.declared.declaration.DeclarationKind.TheVariants as kind

module _ {Y : Type 0} (none : Y) (join : Y → Y → Y) (of : List Broken → Y) (at_none : of [] ≡ none) (at_join : (xs ys : List Broken) → of (xs ++ ys) ≡ join (of xs) (of ys)) where
  record Counted (p : Part (List Broken)) (q : Part Y) : Type 0 where
    declared : p.declared ≡ q.declared
    found : of p.found ≡ q.found

  both_counted : (p p' : Part (List Broken)) (q q' : Part Y) → Counted p q → Counted p' q' → Counted (both [] joined p p') (both none join q q')
  both_counted p p' q q' h k = record { declared = refl; found = at_join p.found p'.found ∙ (λ i. join (h.found i) (k.found i)) }

  empty_counted : Counted (empty [] joined) (empty none join)
  empty_counted = record { declared = refl; found = at_none }

  base : Preserved (gathering_found [] joined) (gathering_found none join) (Alike Counted)
  base = gathered Counted (empty [] joined) (both [] joined) (empty none join) (both none join) empty_counted both_counted

  same_declarations : (s : Sort) (t : Two {A = Every (Part (List Broken))} {B = Every (Part Y)} (Alike Counted) s) → t.left.declared ≡ t.right.declared
  same_declarations s t = t.holds.declared

  in_row : {s : Sort} (ps : List (Two {A = Every (Part (List Broken))} {B = Every (Part Y)} (Alike Counted) s))
      → of (found_in [] joined (map (lefts (Alike Counted) s) ps)) ≡ found_in none join (map (rights (Alike Counted) s) ps)
  in_row [] = at_none
  in_row {s = s} (p ∷ ps) = at_join p.left.found (found_in [] joined (map (lefts (Alike Counted) s) ps)) ∙ (λ i. join (p.holds.found i) (in_row ps i))

  in_body : {s : Sort} (parameters : List Mark) (ps : List (Two {A = Every (Part (List Broken))} {B = Every (Part Y)} (Alike Counted) s))
      → of (twice_in_body parameters (map (lefts (Alike Counted) s) ps) ++ found_in [] joined (map (lefts (Alike Counted) s) ps))
      ≡ join (of (twice_in_body parameters (map (rights (Alike Counted) s) ps))) (found_in none join (map (rights (Alike Counted) s) ps))
  in_body {s = s} parameters ps =
      at_join (twice_in_body parameters (map (lefts (Alike Counted) s) ps)) (found_in [] joined (map (lefts (Alike Counted) s) ps))
      ∙ (λ i. join (of (repeated (declarations kind.Parameter parameters ++ row_same (Alike Counted) (λ p. p.declared) (λ q. q.declared) same_declarations (λ d. d.here) ps i))) (in_row ps i))

  in_kind : (x : StmtKindLayer (Two (Alike Counted))) → of (twice_in_kind [] joined (λ bs. bs) (map_stmt_kind (lefts (Alike Counted)) x)) ≡ twice_in_kind none join of (map_stmt_kind (rights (Alike Counted)) x)
  in_kind (StmtKind-F.Block items) = in_body [] items
  in_kind (StmtKind-F.Try body name handler) =
      at_join body.left.found (twice_in_catch name handler.left ++ handler.left.found)
      ∙ (λ i. join (body.holds.found i) ((at_join (twice_in_catch name handler.left) handler.left.found ∙ (λ j. join (of (repeated (declaration kind.Catch name ∷ (handler.holds.declared j).inside))) (handler.holds.found j))) i))
  in_kind x = (base.stmt_kind x).found

  counted : Preserved listing_twice (counting_twice none join of) (Alike Counted)
  counted = record {
    expr_kind = λ x. record { declared = refl; found = (base.expr_kind x).found };
    for_start = λ x. record { declared = start_same (Alike Counted) (λ p. p.declared) (λ q. q.declared) same_declarations x; found = (base.for_start x).found };
    markup_child = λ x. record { declared = refl; found = (base.markup_child x).found };
    markup_value = λ x. record { declared = refl; found = (base.markup_value x).found };
    stmt_kind = λ x. record { declared = kind_same (Alike Counted) (λ p. p.declared) (λ q. q.declared) same_declarations x; found = in_kind x };
    decl = λ x. record { declared = refl; found = (base.decl x).found };
    expr = λ x. record { declared = refl; found = x.kind.holds.found };
    function = λ x. record { declared = refl; found = in_body x.parameters x.body };
    markup = λ x. record { declared = refl; found = (base.markup x).found };
    markup_attribute = λ x. record { declared = refl; found = x.value.holds.found };
    prop = λ x. record { declared = refl; found = x.value.holds.found };
    stmt = λ x. record { declared = x.kind.holds.declared; found = x.kind.holds.found };
  }

  pub row_counted : (ss : List Stmt) → of (twice_in_row ss) ≡ found_in none join (map (on_stmt (counting_twice none join of)) ss)
  row_counted [] = at_none
  row_counted (s ∷ ss) =
      at_join (on_stmt listing_twice s).found (twice_in_row ss)
      ∙ (λ i. join ((related_stmt listing_twice (counting_twice none join of) (Alike Counted) counted s).found i) (row_counted ss i))

  pub exprs_counted : (es : List Expr) → of (twice_in_row_of es) ≡ found_in none join (map (on_expr (counting_twice none join of)) es)
  exprs_counted [] = at_none
  exprs_counted (e ∷ es) =
      at_join (on_expr listing_twice e).found (twice_in_row_of es)
      ∙ (λ i. join ((related_expr listing_twice (counting_twice none join of) (Alike Counted) counted e).found i) (exprs_counted es i))

pub first_in_row : (ss : List Stmt) → first_of (twice_in_row ss) ≡ found_in None earlier_of (map (on_stmt first_twice) ss)
first_in_row = row_counted None earlier_of first_of refl first_of_lists

pub first_in_exprs : (es : List Expr) → first_of (twice_in_row_of es) ≡ found_in None earlier_of (map (on_expr first_twice) es)
first_in_exprs = exprs_counted None earlier_of first_of refl first_of_lists
