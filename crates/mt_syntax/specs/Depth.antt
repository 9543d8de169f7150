-- How deep a tree is: the number of statements and expressions on its longest path. The blocks of `if`, `while`, `for` and
-- `try` count, the start of a `for`, a quoted value and a text of an element don't.
use Rattle.std.specs.Prelude.{ℕ, suc, max, List, map}
use Rattle.mt_syntax.specs.Fold.{Every, ExprKindLayer, Steps, on_expr, on_stmt}
use Rattle.mt_syntax.specs.Gathering.{all_of, gathering}
use Rattle.mt_syntax.specs.Whole.{on_program}
use Rattle.mt_syntax.specs.declared.tree.Expr.{Expr}
use Rattle.mt_syntax.specs.declared.tree.Stmt.{Stmt}
use Rattle.mt_syntax.specs.declared.tree.ExprKind.TheOpen.{ExprKind-F}
use Rattle.mt_syntax.specs.declared.program.Program.{Program}

abbrev pub greatest : List ℕ → ℕ
greatest = all_of 0 max

-- with the depths of what stands in tildes and dollars
module _ (tilde dollar : ℕ → ℕ) where
  abbrev pub depth_of_kind : ExprKindLayer (Every ℕ) → ℕ
  depth_of_kind (ExprKind-F.ExprKind::Tilde id) = tilde id
  depth_of_kind (ExprKind-F.ExprKind::Dollar at) = dollar at
  depth_of_kind layer = (gathering 0 max).expr_kind layer

  abbrev pub measuring : Steps (Every ℕ)
  measuring = record (gathering 0 max) { expr_kind = depth_of_kind; expr = λ e. suc e.kind; stmt = λ s. suc s.kind }

abbrev pub nothing : ℕ → ℕ
nothing number = 0

-- tildes and dollars left aside
abbrev pub depth_of_expr : Expr → ℕ
depth_of_expr = on_expr (measuring nothing nothing)

abbrev pub depth_of_stmt : Stmt → ℕ
depth_of_stmt = on_stmt (measuring nothing nothing)

-- a body of client code
abbrev pub depth_of : List Stmt → ℕ
depth_of body = greatest (map depth_of_stmt body)

-- a program with its tildes and their dollars: an item has depth 1, and a dollar's expression stands one below the dollar
abbrev pub depth_of_program : Program → ℕ
depth_of_program = on_program measuring 0 greatest (λ id depth. depth)
