-- What one statement uses and declares, from its parts.
use Rattle.std.proofs.Common.{◌≡◌, ℕ, List, [], ◌∷◌, ◌++◌, map, flat_map, Option, None, Some, refl, sym, ap, ap₂, ◌∙◌}
use Rattle.std.specs.Prelude.{option_map}
use Rattle.mt_eval_meaning.specs.Free.{Names, enclosed, finding, joined, none}
use Rattle.mt_eval_meaning.specs.Hoisting.{hoisting, name_of_decl, variables, variables_by_word}
use Rattle.mt_syntax.specs.Fold.{on_decl, on_expr, on_for_start, on_stmt, on_stmt_kind}
use Rattle.mt_syntax.specs.Gathering.{all_of, or_none}
use Rattle.mt_syntax.specs.declared.tree.Decl.{Decl, out-Decl, roll-out-Decl}
use Rattle.mt_syntax.specs.declared.tree.Expr.{Expr, out-Expr, roll-out-Expr}
use Rattle.mt_syntax.specs.declared.tree.ExprKind.TheOpen.{ForStart-F, StmtKind-F}
use Rattle.mt_syntax.specs.declared.tree.ForStart as start_tree
use Rattle.mt_syntax.specs.declared.tree.ForStart.{ForStart}
use Rattle.mt_syntax.specs.declared.tree.ForStart.TheVariants as start
use Rattle.mt_syntax.specs.declared.tree.Mark.{Mark}
use Rattle.mt_syntax.specs.declared.tree.Stmt.{Stmt}
use Rattle.mt_syntax.specs.declared.tree.StmtKind as tree
use Rattle.mt_syntax.specs.declared.tree.StmtKind.TheVariants as statement
use Rattle.mt_tree.specs.declared.operators.VarKind.{VarKind}
use Rattle.mt_syntax_laws.proofs.Related.{at_decl, at_expr, at_for_start, at_stmt_kind}

-- ---- uses

module _ (tilde : ℕ → Names) where
  pub in_if : (e : Expr) (s : Stmt) (other : Option Stmt) → on_stmt_kind (finding tilde) (statement.If e s other)
      ≡ enclosed (joined (on_expr (finding tilde) e) (joined (on_stmt (finding tilde) s) (or_none none joined (option_map (on_stmt (finding tilde)) other))))
  unfolding tree.roll-StmtKind denote.Hole.Carrier.roll
  in_if e s None = at_stmt_kind (finding tilde) (StmtKind-F.If e s None)
  in_if e s (Some other) = at_stmt_kind (finding tilde) (StmtKind-F.If e s (Some other))

  pub in_for : (a : ForStart) (b c : Option Expr) (s : Stmt) → on_stmt_kind (finding tilde) (statement.For a b c s)
      ≡ enclosed (record (joined (on_for_start (finding tilde) a) (joined (or_none none joined (option_map (on_expr (finding tilde)) b)) (joined (or_none none joined (option_map (on_expr (finding tilde)) c)) (on_stmt (finding tilde) s)))) { variables = (on_for_start (finding tilde) a).here ++ (on_stmt (finding tilde) s).variables })
  unfolding tree.roll-StmtKind denote.Hole.Carrier.roll
  in_for a None None s = at_stmt_kind (finding tilde) (StmtKind-F.For a None None s)
  in_for a None (Some c) s = at_stmt_kind (finding tilde) (StmtKind-F.For a None (Some c) s)
  in_for a (Some b) None s = at_stmt_kind (finding tilde) (StmtKind-F.For a (Some b) None s)
  in_for a (Some b) (Some c) s = at_stmt_kind (finding tilde) (StmtKind-F.For a (Some b) (Some c) s)

-- ---- variables

expr_none : (e : Expr) → on_expr hoisting e ≡ []
expr_none e = sym (ap (on_expr hoisting) (roll-out-Expr e)) ∙ at_expr hoisting (out-Expr e)

decl_name : (d : Decl) → on_decl hoisting d ≡ name_of_decl d ∷ []
decl_name d = sym (ap (on_decl hoisting) (roll-out-Decl d)) ∙ at_decl hoisting (out-Decl d)

all_names : (ds : List Decl) → all_of {X = Names} [] (λ xs ys. xs ++ ys) (map (on_decl hoisting) ds) ≡ map name_of_decl ds
all_names [] = refl
all_names (d ∷ ds) = ap₂ (λ (xs ys : Names). xs ++ ys) (decl_name d) (all_names ds)

flat_names : (ds : List Decl) → flat_map (λ (names : Names). names) (map (on_decl hoisting) ds) ≡ map name_of_decl ds
flat_names [] = refl
flat_names (d ∷ ds) = ap₂ (λ (xs ys : Names). xs ++ ys) (decl_name d) (flat_names ds)

all_variables : (ts : List Stmt) → all_of {X = Names} [] (λ xs ys. xs ++ ys) (map (on_stmt hoisting) ts) ≡ variables ts
all_variables [] = refl
all_variables (t ∷ ts) = ap (λ (xs : Names). on_stmt hoisting t ++ xs) (all_variables ts)

pub variables_of_var : (kind : VarKind) (ds : List Decl) → on_stmt_kind hoisting (statement.Var kind ds) ≡ variables_by_word kind (map name_of_decl ds)
unfolding tree.roll-StmtKind denote.Hole.Carrier.roll
variables_of_var kind ds = at_stmt_kind hoisting (StmtKind-F.StmtKind::Var kind ds) ∙ ap (variables_by_word kind) (flat_names ds)

pub variables_of_block : (ts : List Stmt) → on_stmt_kind hoisting (statement.Block ts) ≡ variables ts
unfolding tree.roll-StmtKind denote.Hole.Carrier.roll
variables_of_block ts = at_stmt_kind hoisting (StmtKind-F.Block ts) ∙ all_variables ts

pub variables_of_start : (ds : List Decl) → on_for_start hoisting (start.Var ds) ≡ map name_of_decl ds
unfolding start_tree.roll-ForStart denote.Hole.Carrier.roll
variables_of_start ds = at_for_start hoisting (ForStart-F.ForStart::Var ds) ∙ all_names ds

pub variables_of_if : (e : Expr) (s : Stmt) (other : Option Stmt) → on_stmt_kind hoisting (statement.If e s other) ≡ on_stmt hoisting s ++ or_none {X = Names} [] (λ xs ys. xs ++ ys) (option_map (on_stmt hoisting) other)
unfolding tree.roll-StmtKind denote.Hole.Carrier.roll
variables_of_if e s None = at_stmt_kind hoisting (StmtKind-F.If e s None) ∙ ap (λ (xs : Names). xs ++ (on_stmt hoisting s ++ [])) (expr_none e)
variables_of_if e s (Some other) = at_stmt_kind hoisting (StmtKind-F.If e s (Some other)) ∙ ap (λ (xs : Names). xs ++ (on_stmt hoisting s ++ on_stmt hoisting other)) (expr_none e)

pub variables_of_for : (a : ForStart) (b c : Option Expr) (s : Stmt) → on_stmt_kind hoisting (statement.For a b c s) ≡ on_for_start hoisting a ++ on_stmt hoisting s
unfolding tree.roll-StmtKind denote.Hole.Carrier.roll
variables_of_for a None None s = at_stmt_kind hoisting (StmtKind-F.For a None None s)
variables_of_for a None (Some c) s = at_stmt_kind hoisting (StmtKind-F.For a None (Some c) s) ∙ ap (λ (xs : Names). on_for_start hoisting a ++ (xs ++ on_stmt hoisting s)) (expr_none c)
variables_of_for a (Some b) None s = at_stmt_kind hoisting (StmtKind-F.For a (Some b) None s) ∙ ap (λ (xs : Names). on_for_start hoisting a ++ (xs ++ on_stmt hoisting s)) (expr_none b)
variables_of_for a (Some b) (Some c) s =
    at_stmt_kind hoisting (StmtKind-F.For a (Some b) (Some c) s)
    ∙ ap₂ (λ (xs ys : Names). on_for_start hoisting a ++ (xs ++ (ys ++ on_stmt hoisting s))) (expr_none b) (expr_none c)

pub variables_of_try : (s : Stmt) (name : Mark) (handler : Stmt) → on_stmt_kind hoisting (statement.Try s name handler) ≡ on_stmt hoisting s ++ on_stmt hoisting handler
unfolding tree.roll-StmtKind denote.Hole.Carrier.roll
variables_of_try s name handler = at_stmt_kind hoisting (StmtKind-F.Try s name handler)
