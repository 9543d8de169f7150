-- Statements, as a lenient reader finds them.
use Rattle.std.specs.Prelude.{ℕ, ◌==◌, if◌then◌else◌, List, ◌∷◌, drop, Bool, true, false, ◌&&◌, Option, Some, None, codes}
use Rattle.std.specs.List.{list_all}
use Rattle.std.specs.Str.{bytes_eq}
use Rattle.mt_syntax.specs.Fold.{on_stmt}
use Rattle.mt_syntax.specs.Shape.{is_some_item, is_statement, shaping}
use Rattle.mt_tree.specs.declared.operators.VarKind.{VarKind}
use Rattle.mt_tree.specs.declared.operators.VarKind.TheVariants as words
use Rattle.mt_syntax.specs.declared.tree.Decl.{Decl, out-Decl}
use Rattle.mt_syntax.specs.declared.tree.Expr.{Expr}
use Rattle.mt_syntax.specs.declared.tree.ForStart.{ForStart}
use Rattle.mt_syntax.specs.declared.tree.Function.{Function, out-Function}
use Rattle.mt_syntax.specs.declared.tree.Stmt.{Stmt}
use Rattle.mt_syntax.specs.declared.tree.StmtKind.{StmtKind}
use Rattle.mt_syntax.specs.declared.tree.ExprKind.TheOpen.{ForStart-F, StmtKind-F}
use Rattle.mt_json.specs.Reading.{◌>>=◌, Parse, first_at}
use Rattle.mt_script_words.specs.Keywords.{keyword_of}
use Rattle.mt_script_words.specs.Words.{after_word, mark_at, word_of}
use Rattle.mt_script_words.specs.declared.keywords.Keyword.{Keyword}
use Rattle.mt_script_words.specs.declared.keywords.Keyword.TheVariants as keyword
use Rattle.mt_script_tree.specs.Expressions.{function_at}
use Rattle.mt_script_tree.specs.Lists.{list_by}
use Rattle.mt_script_tree.specs.Made as made

abbrev pub is_present : {A : Type 0} → Option A → Bool
is_present None = false
is_present (Some x) = true

abbrev pub has_value : Decl → Bool
has_value d = is_present (out-Decl d).value

-- a declaration declares something, and one by `const` gives each name a value
abbrev pub are_declared : VarKind → List Decl → Bool
are_declared words.Const ds = is_some_item ds && list_all has_value ds
are_declared _ ds = is_some_item ds

-- no function is declared in a block
abbrev pub is_plain_statement : Stmt → Bool
is_plain_statement s = is_statement (on_stmt shaping s).look

abbrev pub are_statements : List Stmt → Bool
are_statements = list_all is_plain_statement

abbrev pub named_function : Function → Parse StmtKind
named_function f bytes = if is_present (out-Function f).name then Some (made.stmt_kind (StmtKind-F.Function f), bytes) else None

-- ---- by what reads an expression

module _ (expr : Parse Expr) where
  abbrev pub value_from : ℕ → Parse (Option Expr)
  value_from b bytes = if b == 61 then (expr bytes >>= λ e. Some (Some e.0, e.1)) else Some (None, b ∷ bytes)

  abbrev pub value_at : Parse (Option Expr)
  value_at bytes = first_at bytes >>= λ p. value_from p.0 p.1

  abbrev pub decl_at : Parse Decl
  decl_at bytes = mark_at bytes >>= λ m. value_at m.1 >>= λ v. Some (made.decl m.0 v.0, v.1)

  -- the declarations behind a word, up to the `;`
  abbrev pub decls_at : VarKind → Parse (List Decl)
  decls_at word bytes = list_by 59 decl_at bytes >>= λ ds. (if are_declared word ds.0 then Some (ds.0, ds.1) else None)

  abbrev pub declare_at : VarKind → Parse StmtKind
  declare_at word bytes = decls_at word (drop 1 bytes) >>= λ ds. Some (made.stmt_kind (StmtKind-F.StmtKind::Var word ds.0), ds.1)

  abbrev pub start_from : ℕ → Parse ForStart
  start_from b bytes =
      if b == 59 then Some (made.start ForStart-F.Absent, bytes) else
      if bytes_eq (codes "var") (word_of (b ∷ bytes)) then (decls_at words.Var (drop 4 (b ∷ bytes)) >>= λ ds. Some (made.start (ForStart-F.ForStart::Var ds.0), ds.1)) else
      (expr (b ∷ bytes) >>= λ e. Some (made.start (ForStart-F.ForStart::Expr e.0), drop 1 e.1))

  -- the head of a `for`, up to the first `;`
  abbrev pub start_at : Parse ForStart
  start_at bytes = first_at bytes >>= λ p. start_from p.0 p.1

  abbrev pub part_from : ℕ → ℕ → Parse (Option Expr)
  part_from close b bytes = if b == close then Some (None, bytes) else (expr (b ∷ bytes) >>= λ e. Some (Some e.0, drop 1 e.1))

  -- an expression that may be absent, and the byte behind it
  abbrev pub part_at : ℕ → Parse (Option Expr)
  part_at close bytes = first_at bytes >>= λ p. part_from close p.0 p.1

  abbrev pub return_from : ℕ → Parse StmtKind
  return_from b bytes = if b == 59 then Some (made.stmt_kind (StmtKind-F.Return None), bytes) else (expr bytes >>= λ e. Some (made.stmt_kind (StmtKind-F.Return (Some e.0)), drop 1 e.1))

  abbrev pub return_at : Parse StmtKind
  return_at bytes = first_at bytes >>= λ p. return_from p.0 p.1

  abbrev pub throw_at : Parse StmtKind
  throw_at bytes = expr (drop 1 bytes) >>= λ e. Some (made.stmt_kind (StmtKind-F.Throw e.0), drop 1 e.1)

  abbrev pub expression_at : Parse StmtKind
  expression_at bytes = expr bytes >>= λ e. Some (made.stmt_kind (StmtKind-F.StmtKind::Expr e.0), drop 1 e.1)

-- ---- by what reads an expression and the block of a statement

abbrev pub else_at : Parse Stmt → Parse (Option Stmt)
else_at block bytes = if bytes_eq (codes "else") (word_of bytes) then (block (drop 4 bytes) >>= λ s. Some (Some s.0, s.1)) else Some (None, bytes)

abbrev pub try_at : Parse Stmt → Parse StmtKind
try_at block bytes = block bytes >>= λ b. mark_at (drop 6 b.1) >>= λ m. block (drop 1 m.1) >>= λ h. Some (made.stmt_kind (StmtKind-F.Try b.0 m.0 h.0), h.1)

module _ (expr : Parse Expr) (block : Parse Stmt) where
  abbrev pub if_at : Parse StmtKind
  if_at bytes = expr (drop 1 bytes) >>= λ t. block (drop 1 t.1) >>= λ b. else_at block b.1 >>= λ o. Some (made.stmt_kind (StmtKind-F.If t.0 b.0 o.0), o.1)

  abbrev pub while_at : Parse StmtKind
  while_at bytes = expr (drop 1 bytes) >>= λ t. block (drop 1 t.1) >>= λ b. Some (made.stmt_kind (StmtKind-F.While t.0 b.0), b.1)

  abbrev pub for_at : Parse StmtKind
  for_at bytes =
      start_at expr (drop 1 bytes) >>= λ a. part_at expr 59 a.1 >>= λ b. part_at expr 41 b.1 >>= λ c. block c.1 >>= λ d. Some (made.stmt_kind (StmtKind-F.For a.0 b.0 c.0 d.0), d.1)

-- ---- by what reads an expression, a statement and the block of a statement

-- the statements of a block, up to its closing brace
abbrev pub items_at : Parse Stmt → Parse (List Stmt)
items_at stmt bytes = list_by 125 stmt bytes >>= λ ss. (if are_statements ss.0 then Some (ss.0, ss.1) else None)

abbrev pub declared_function_at : Parse Stmt → Parse StmtKind
declared_function_at stmt bytes = function_at stmt bytes >>= λ f. named_function f.0 f.1

module _ (expr : Parse Expr) (stmt block : Parse Stmt) where
  -- with what follows the word, and the word too
  abbrev pub led_at : Keyword → List ℕ → Parse StmtKind
  led_at (keyword.Declare word) after bytes = declare_at expr word after
  led_at keyword.Function after bytes = declared_function_at stmt after
  led_at keyword.If after bytes = if_at expr block after
  led_at keyword.While after bytes = while_at expr block after
  led_at keyword.For after bytes = for_at expr block after
  led_at keyword.Return after bytes = return_at expr after
  led_at keyword.Throw after bytes = throw_at expr after
  led_at keyword.Break after bytes = Some (made.stmt_kind StmtKind-F.Break, drop 1 after)
  led_at keyword.Continue after bytes = Some (made.stmt_kind StmtKind-F.Continue, drop 1 after)
  led_at keyword.Try after bytes = try_at block after
  led_at keyword.Other after bytes = expression_at expr bytes

  abbrev pub kind_from : ℕ → Parse StmtKind
  kind_from b bytes =
      if b == 123 then (items_at stmt bytes >>= λ ss. Some (made.stmt_kind (StmtKind-F.Block ss.0), ss.1)) else
      if b == 59 then Some (made.stmt_kind StmtKind-F.Empty, bytes) else
      led_at (keyword_of (word_of (b ∷ bytes))) (after_word (b ∷ bytes)) (b ∷ bytes)

  abbrev pub kind_at : Parse StmtKind
  kind_at bytes = first_at bytes >>= λ p. kind_from p.0 p.1

  abbrev pub stmt_by : Parse Stmt
  stmt_by bytes = kind_at bytes >>= λ k. Some (made.stmt k.0, k.1)

abbrev pub block_by : Parse Stmt → Parse Stmt
block_by stmt bytes = items_at stmt (drop 1 bytes) >>= λ ss. Some (made.stmt (made.stmt_kind (StmtKind-F.Block ss.0)), ss.1)
