-- The first jump in a list of parts, part by part, and in the parts of a `for`.
use Rattle.std.proofs.Common.{◌≡◌, ℕ, ◌+◌, ◌<◌, List, Option, None, Some, length, get_or, take, refl, ap}
use Rattle.mt_syntax.specs.First.{earlier_of}
use Rattle.mt_syntax.specs.Joining.{first}
use Rattle.mt_syntax.specs.declared.broken.Broken.{Broken}
use Rattle.mt_syntax.specs.Fold.{on_expr, on_for_start, on_stmt, on_stmt_kind}
use Rattle.mt_syntax_laws.proofs.Related.{at_stmt_kind}
use Rattle.mt_syntax.specs.declared.tree.Expr.{Expr}
use Rattle.mt_syntax.specs.declared.tree.ForStart.{ForStart}
use Rattle.mt_syntax.specs.declared.tree.Stmt.{Stmt}
use Rattle.mt_syntax.specs.declared.tree.StmtKind.{roll-StmtKind}
use Rattle.mt_syntax.specs.declared.tree.ExprKind.TheOpen.{StmtKind-F}
use Rattle.mt_stage_placement.specs.Jumps.{Found, finding_jumps, in_each, in_loop, in_optional, join, none}
use Rattle.mt_stage_placement.specs.declared.jumps.around.Around.{Around}
use Rattle.mt_stage_placement.proofs.Rows as rows

pub with_next : {T : Type 0} (f : T → Found first) (around : Around) (xs : List T) (i : ℕ) (x : T) (so_far : Option Broken) → x ≡ get_or xs i x → i < length xs
    → so_far ≡ in_each first f (take i xs) around → earlier_of so_far (f x around) ≡ in_each first f (take (i + 1) xs) around
with_next f around = rows.with_next (λ r. r around) (none first) (join first) refl (λ a b. refl) f

pub in_for : (start : ForStart) (test step : Option Expr) (body : Stmt) (around : Around)
    → on_stmt_kind (finding_jumps first) (roll-StmtKind (StmtKind-F.For start test step body)) around
    ≡ earlier_of (on_for_start (finding_jumps first) start around) (earlier_of (in_optional first (on_expr (finding_jumps first)) test around)
    (earlier_of (in_optional first (on_expr (finding_jumps first)) step around) (on_stmt (finding_jumps first) body (in_loop around))))
in_for start None None body around = ap (λ f. f around) (at_stmt_kind (finding_jumps first) (StmtKind-F.For start None None body))
in_for start None (Some step) body around = ap (λ f. f around) (at_stmt_kind (finding_jumps first) (StmtKind-F.For start None (Some step) body))
in_for start (Some test) None body around = ap (λ f. f around) (at_stmt_kind (finding_jumps first) (StmtKind-F.For start (Some test) None body))
in_for start (Some test) (Some step) body around = ap (λ f. f around) (at_stmt_kind (finding_jumps first) (StmtKind-F.For start (Some test) (Some step) body))
