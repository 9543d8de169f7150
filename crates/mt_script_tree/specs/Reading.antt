-- Code, as a lenient reader finds it: nested no deeper than a number, but for the keys and arguments in a chain, each of which
-- makes what it stands behind one deeper.
use Rattle.std.specs.Prelude.{ℕ, zero, suc, ◌+◌, List, [], ◌∷◌, length, Option, Some, None}
use Rattle.mt_syntax.specs.declared.tree.Expr.{Expr}
use Rattle.mt_syntax.specs.declared.tree.Stmt.{Stmt}
use Rattle.mt_json.specs.Reading.{◌>>=◌, Parse, many}
use Rattle.mt_script_tree.specs.Expressions.{expr_by}
use Rattle.mt_script_tree.specs.Statements.{block_by, stmt_by}

unfoldable mutual
  pub expr_at : ℕ → Parse Expr
  expr_at zero bytes = None
  expr_at (suc n) bytes = expr_by (expr_at n) (stmt_at n) (suc n) bytes

  pub stmt_at : ℕ → Parse Stmt
  stmt_at zero bytes = None
  stmt_at (suc n) bytes = stmt_by (expr_at n) (stmt_at n) (block_at n) bytes

  -- a block as the body of a statement
  pub block_at : ℕ → Parse Stmt
  block_at zero bytes = None
  block_at (suc n) bytes = block_by (stmt_at n) bytes

-- a statement, or None at the end
abbrev pub stmt_step : Parse Stmt → Parse (Option Stmt)
stmt_step stmt [] = Some (None, [])
stmt_step stmt (b ∷ bytes) = stmt (b ∷ bytes) >>= λ s. Some (Some s.0, s.1)

abbrev pub stmts_by : Parse Stmt → Parse (List Stmt)
stmts_by stmt bytes = many (stmt_step stmt) (length bytes + 1) bytes

-- the statements up to the end of the bytes
abbrev pub stmts_at : ℕ → List ℕ → Option (List Stmt)
stmts_at depth bytes = stmts_by (stmt_at depth) bytes >>= λ ss. Some ss.0
