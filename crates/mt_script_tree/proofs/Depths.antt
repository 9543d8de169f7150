-- The two cases of the depth.
use Rattle.std.proofs.Common.{◌≡◌, ℕ, zero, suc, ◌-◌, ◌<◌, List, None, refl, arith}
use Rattle.mt_script_tree.specs.Expressions.{expr_by}
use Rattle.mt_script_tree.specs.Statements.{block_by, stmt_by}
use Rattle.mt_script_tree.specs.Reading.{block_at, expr_at, stmt_at}

pub no_expr : (bytes : List ℕ) → expr_at 0 bytes ≡ None
unfolding expr_at
no_expr bytes = refl

pub expr_below : (n : ℕ) (bytes : List ℕ) → 0 < n → expr_at n bytes ≡ expr_by (expr_at (n - 1)) (stmt_at (n - 1)) n bytes
unfolding expr_at
expr_below zero bytes h = absurd (omega arith)
expr_below (suc n) bytes h = let one : suc n - 1 ≡ n = omega arith in rw one refl

pub no_stmt : (bytes : List ℕ) → stmt_at 0 bytes ≡ None
unfolding stmt_at
no_stmt bytes = refl

pub stmt_below : (n : ℕ) (bytes : List ℕ) → 0 < n → stmt_at n bytes ≡ stmt_by (expr_at (n - 1)) (stmt_at (n - 1)) (block_at (n - 1)) bytes
unfolding stmt_at
stmt_below zero bytes h = absurd (omega arith)
stmt_below (suc n) bytes h = let one : suc n - 1 ≡ n = omega arith in rw one refl

pub no_block : (bytes : List ℕ) → block_at 0 bytes ≡ None
unfolding block_at
no_block bytes = refl

pub block_below : (n : ℕ) (bytes : List ℕ) → 0 < n → block_at n bytes ≡ block_by (stmt_at (n - 1)) bytes
unfolding block_at
block_below zero bytes h = absurd (omega arith)
block_below (suc n) bytes h = let one : suc n - 1 ≡ n = omega arith in rw one refl
