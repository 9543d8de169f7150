-- What the evaluation of a statement with a list or with an optional part is.
use Rattle.std.proofs.Common.{◌≡◌, ℕ, List, Option, rules, sym, ap, ◌∙◌}
use Rattle.mt_eval_meaning.specs.Statements as statements
use Rattle.mt_eval_meaning.specs.declared.state.State.{State}
use Rattle.mt_eval_meaning.specs.Slots.{Parts, stmt_at, block, declarations, or_else, returned_by, started_by, stepped_by, tested_by}
use Rattle.mt_eval_meaning.specs.declared.expr.Expr.{Expr}
use Rattle.mt_eval_meaning.specs.declared.function.Function.{Function}
use Rattle.mt_eval_meaning.specs.declared.stmt.Decl.{Decl}
use Rattle.mt_eval_meaning.specs.declared.stmt.ForStart.{ForStart}
use Rattle.mt_eval_meaning.specs.declared.stmt.Stmt as code
use Rattle.mt_eval_meaning.specs.declared.stmt.Stmt.{Stmt, out-Stmt, the_lemmas}
use Rattle.mt_eval_meaning.specs.declared.stmt.Stmt.TheOpen.{Stmt-F}
use Rattle.mt_tree.specs.declared.operators.VarKind.{VarKind}

var_layer : (kind : VarKind) (decls : List Decl) → out-Stmt (code.Var kind decls) ≡ Stmt-F.Var kind decls
var_layer kind decls = search (rules, the_lemmas)

if_layer : (test : Expr) (a : Stmt) (b : Option Stmt) → out-Stmt (code.If test a b) ≡ Stmt-F.If test a b
if_layer test a b = search (rules, the_lemmas)

for_layer : (start : ForStart) (test step : Option Expr) (body : Stmt) → out-Stmt (code.For start test step body) ≡ Stmt-F.For start test step body
for_layer start test step body = search (rules, the_lemmas)

return_layer : (e : Option Expr) → out-Stmt (code.Return e) ≡ Stmt-F.Return e
return_layer e = search (rules, the_lemmas)

block_layer : (names : ℕ) (ts : List Stmt) → out-Stmt (code.Block names ts) ≡ Stmt-F.Block names ts
block_layer names ts = search (rules, the_lemmas)

module _ {H : Type 0} (functions : List Function) (p : Parts H) (activation : List ℕ) (s : State × H) (t : Stmt) where
  pub of_var : (kind : VarKind) (decls xs : List Decl) → t ≡ code.Var kind decls → xs ≡ decls → stmt_at functions p (out-Stmt t) activation s ≡ statements.finished (declarations functions p kind xs activation) s
  of_var kind decls xs is same = ap (λ l. stmt_at functions p l activation s) (ap out-Stmt is ∙ var_layer kind decls) ∙ ap (λ ds. statements.finished (declarations functions p kind ds activation) s) (sym same)

  pub of_if : (test : Expr) (a a' : Stmt) (b b' : Option Stmt) → t ≡ code.If test a b → a' ≡ a → b' ≡ b
      → stmt_at functions p (out-Stmt t) activation s ≡ statements.choice (p.expr test activation) (p.stmt a' activation) (or_else functions p b' activation) s
  of_if test a a' b b' is same same' =
      ap (λ l. stmt_at functions p l activation s) (ap out-Stmt is ∙ if_layer test a b)
      ∙ ap (λ x. statements.choice (p.expr test activation) (p.stmt x activation) (or_else functions p b activation) s) (sym same)
      ∙ ap (λ x. statements.choice (p.expr test activation) (p.stmt a' activation) (or_else functions p x activation) s) (sym same')

  pub of_for : (start : ForStart) (test test' step step' : Option Expr) (body body' : Stmt) → t ≡ code.For start test step body → test' ≡ test → step' ≡ step → body' ≡ body
      → stmt_at functions p (out-Stmt t) activation s ≡ statements.starting (started_by functions p start activation) (statements.loop (tested_by functions p test' activation) (p.stmt body' activation) (stepped_by functions p step' activation)) s
  of_for start test test' step step' body body' is same same' same'' =
      ap (λ l. stmt_at functions p l activation s) (ap out-Stmt is ∙ for_layer start test step body)
      ∙ ap (λ x. statements.starting (started_by functions p start activation) (statements.loop (tested_by functions p x activation) (p.stmt body activation) (stepped_by functions p step activation)) s) (sym same)
      ∙ ap (λ x. statements.starting (started_by functions p start activation) (statements.loop (tested_by functions p test' activation) (p.stmt body activation) (stepped_by functions p x activation)) s) (sym same')
      ∙ ap (λ x. statements.starting (started_by functions p start activation) (statements.loop (tested_by functions p test' activation) (p.stmt x activation) (stepped_by functions p step' activation)) s) (sym same'')

  pub of_return : (e e' : Option Expr) → t ≡ code.Return e → e' ≡ e → stmt_at functions p (out-Stmt t) activation s ≡ returned_by functions p e' activation s
  of_return e e' is same = ap (λ l. stmt_at functions p l activation s) (ap out-Stmt is ∙ return_layer e) ∙ ap (λ x. returned_by functions p x activation s) (sym same)

  pub of_block : (names : ℕ) (ts xs : List Stmt) → t ≡ code.Block names ts → xs ≡ ts → stmt_at functions p (out-Stmt t) activation s ≡ block functions p names xs activation s
  of_block names ts xs is same = ap (λ l. stmt_at functions p l activation s) (ap out-Stmt is ∙ block_layer names ts) ∙ ap (λ us. block functions p names us activation s) (sym same)
