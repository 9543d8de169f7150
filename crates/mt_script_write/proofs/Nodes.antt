-- The text of a node from those of its parts.
use Rattle.std.proofs.Common.{◌≡◌, ◌++◌, ℕ, List, [], ◌∷◌, codes, map, Option, None, Some, refl, sym, ap, ap₂, ◌∙◌}
use Rattle.std.specs.List.{flat_map}
use Rattle.std.specs.Prelude.{option_map}
use Rattle.mt_syntax.specs.CodeText.{name_text, named, or_nothing}
use Rattle.mt_syntax.specs.DataText.{separated}
use Rattle.mt_syntax.specs.Substitution.{unplaced}
use Rattle.mt_syntax.specs.declared.tree.Expr.{Expr}
use Rattle.mt_syntax.specs.declared.tree.ExprKind.TheOpen.{StmtKind-F}
use Rattle.mt_syntax.specs.declared.tree.ForStart.{ForStart}
use Rattle.mt_syntax.specs.declared.tree.Function.{Function, out-Function, roll-out-Function}
use Rattle.mt_syntax.specs.declared.tree.Mark.{Mark}
use Rattle.mt_syntax.specs.declared.tree.Stmt.{Stmt}
use Rattle.mt_syntax.specs.declared.tree.StmtKind as tree
use Rattle.mt_syntax.specs.declared.tree.StmtKind.TheVariants as statement
use Rattle.mt_syntax_laws.proofs.Kept.{map_kept}
use Rattle.mt_syntax_laws.proofs.Related.{at_function, at_stmt_kind}
use Rattle.mt_tree.specs.declared.data.Data.{Data}
use Rattle.mt_script_write.specs.Written.{writing, expr_written, for_start_written, function_written, stmt_kind_written, stmt_written}

named_unplaced : (name : Option Mark) → named (option_map unplaced name) ≡ named name
named_unplaced None = refl
named_unplaced (Some m) = refl

module _ (values : List Data) where
  flat_written : (ts : List Stmt) → flat_map (λ (t : List ℕ). t) (map (stmt_written values) ts) ≡ flat_map (stmt_written values) ts
  flat_written [] = refl
  flat_written (t ∷ ts) = ap (λ (xs : List ℕ). stmt_written values t ++ xs) (flat_written ts)

  pub of_block : (ts : List Stmt) → stmt_kind_written values (statement.Block ts) ≡ codes "{" ++ (flat_map (stmt_written values) ts ++ codes "}")
  unfolding tree.roll-StmtKind denote.Hole.Carrier.roll
  of_block ts = at_stmt_kind (writing values) (StmtKind-F.Block ts) ∙ ap (λ (xs : List ℕ). codes "{" ++ (xs ++ codes "}")) (flat_written ts)

  pub of_try : (s : Stmt) (name : Mark) (handler : Stmt) → stmt_kind_written values (statement.Try s name handler)
      ≡ codes "try" ++ (stmt_written values s ++ (codes "catch(" ++ (name_text name ++ (codes ")" ++ stmt_written values handler))))
  unfolding tree.roll-StmtKind denote.Hole.Carrier.roll
  of_try s name handler = at_stmt_kind (writing values) (StmtKind-F.Try s name handler)

  pub of_for : (a : ForStart) (b c : Option Expr) (s : Stmt) → stmt_kind_written values (statement.For a b c s)
      ≡ codes "for(" ++ (for_start_written values a ++ (codes ";" ++ (or_nothing (option_map (expr_written values) b) ++ (codes ";" ++ (or_nothing (option_map (expr_written values) c) ++ (codes ")" ++ stmt_written values s))))))
  unfolding tree.roll-StmtKind denote.Hole.Carrier.roll
  of_for a None None s = at_stmt_kind (writing values) (StmtKind-F.For a None None s)
  of_for a None (Some c) s = at_stmt_kind (writing values) (StmtKind-F.For a None (Some c) s)
  of_for a (Some b) None s = at_stmt_kind (writing values) (StmtKind-F.For a (Some b) None s)
  of_for a (Some b) (Some c) s = at_stmt_kind (writing values) (StmtKind-F.For a (Some b) (Some c) s)

  pub of_function : (f : Function) → function_written values f
      ≡ named (out-Function f).name ++ (codes "(" ++ (separated (map name_text (out-Function f).parameters) ++ (codes ")" ++ (codes "{" ++ (flat_map (stmt_written values) (out-Function f).body ++ codes "}")))))
  of_function f =
      let g = out-Function f in
      sym (ap (function_written values) (roll-out-Function f)) ∙ at_function (writing values) g
      ∙ ap (λ (name : List ℕ). name ++ (codes "(" ++ (separated (map name_text (map unplaced g.parameters)) ++ (codes ")" ++ (codes "{" ++ (flat_map (λ (t : List ℕ). t) (map (stmt_written values) g.body) ++ codes "}")))))) (named_unplaced g.name)
      ∙ ap₂ (λ (ps : List (List ℕ)) (body : List ℕ). named g.name ++ (codes "(" ++ (separated ps ++ (codes ")" ++ (codes "{" ++ (body ++ codes "}")))))) (map_kept name_text unplaced (λ m. refl) g.parameters) (flat_written g.body)
