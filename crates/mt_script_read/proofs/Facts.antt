-- What is known of the text of each part of good code: what it begins with, and that it is read as that part.
use Rattle.std.proofs.Common.{◌≡◌, ℕ, zero, suc, ◌+◌, ◌<◌, ◌≤◌, Bool, true, false, ◌||◌, eqb, List, ◌∷◌, ◌++◌, Some, sym, ap, subst, ◌∙◌, arith}
use Rattle.std.specs.Prelude.{codes}
use Rattle.std.specs.Str.{bytes_eq}
use Rattle.mt_syntax.specs.CodeText.{decl_text, expr_kind_text, expr_text, for_start_text, function_text, prop_text, stmt_kind_text, stmt_text, writing_code}
use Rattle.mt_syntax.specs.Depth.{depth_of_expr, depth_of_stmt, measuring, nothing}
use Rattle.mt_syntax.specs.Fold.{ExprKindLayer, StmtKindLayer, Tree, on_decl, on_expr_kind, on_for_start, on_function, on_prop, on_stmt, on_stmt_kind}
use Rattle.mt_syntax.specs.Shape.{is_block, shaping}
use Rattle.mt_syntax.specs.Sort.{Sort}
use Rattle.mt_syntax.specs.Sort as sort
use Rattle.mt_syntax.specs.Substitution.{nowhere}
use Rattle.mt_syntax.specs.declared.tree.Decl.{Decl}
use Rattle.mt_syntax.specs.declared.tree.Expr.{Expr}
use Rattle.mt_syntax.specs.declared.tree.ExprKind.{ExprKind, roll-ExprKind}
use Rattle.mt_syntax.specs.declared.tree.ForStart.{ForStart}
use Rattle.mt_syntax.specs.declared.tree.Function.{Function}
use Rattle.mt_syntax.specs.declared.tree.Prop.{Prop}
use Rattle.mt_syntax.specs.declared.tree.Stmt.{Stmt}
use Rattle.mt_syntax.specs.declared.tree.StmtKind.{StmtKind, roll-StmtKind}
use Rattle.mt_syntax_laws.proofs.Related.{at_expr, at_stmt}
use Rattle.mt_json.proofs.Again.{Begins}
use Rattle.mt_script_words.specs.Words.{is_word_byte, word_of}
use Rattle.mt_script_words.proofs.PlainWords.{IsPlainWord}
use Rattle.mt_script_words.proofs.WordTexts.{ends_word}
use Rattle.mt_script_tree.specs.Expressions.{chain_at, function_at, head_at, prop_at}
use Rattle.mt_script_tree.specs.Made as made
use Rattle.mt_script_tree.specs.Reading.{block_at, expr_at, stmt_at}
use Rattle.mt_script_tree.specs.Statements.{decl_at, start_at}
use Rattle.mt_script_read.proofs.Ends.{chain_ends, chain_more, chain_turns, closes, closes_word}
use Rattle.mt_script_read.proofs.Goodness.{Good}
use Rattle.mt_script_read.proofs.Items.{IsInside}

-- ---- depths

abbrev pub depth_of_kind : ExprKind → ℕ
depth_of_kind = on_expr_kind (measuring nothing nothing)

abbrev pub depth_of_stmt_kind : StmtKind → ℕ
depth_of_stmt_kind = on_stmt_kind (measuring nothing nothing)

abbrev pub depth_of_start : ForStart → ℕ
depth_of_start = on_for_start (measuring nothing nothing)

abbrev pub depth_of_decl : Decl → ℕ
depth_of_decl = on_decl (measuring nothing nothing)

abbrev pub depth_of_function : Function → ℕ
depth_of_function = on_function (measuring nothing nothing)

abbrev pub depth_of_prop : Prop → ℕ
depth_of_prop = on_prop (measuring nothing nothing)

-- ---- expressions

-- a byte of a word, a quote, a dollar, or a parenthesis or bracket that opens
abbrev pub opens : ℕ → Bool
opens b = is_word_byte b || (eqb b 34 || (eqb b 36 || (eqb b 40 || eqb b 91)))

abbrev pub Opens : ℕ → Type 0
Opens b = opens b ≡ true

pub record ExprFacts (e : Expr) : Type 0 where
  pub begins : Begins (expr_text e) Opens
  pub leads : (rest : List ℕ) → ends_word rest ≡ true → IsPlainWord (word_of (expr_text e ++ rest))
  pub deep : 0 < depth_of_expr e
  pub reads : (n t : ℕ) (rest : List ℕ) (x : Expr × List ℕ) → depth_of_expr e + t ≤ n + 2 → ends_word rest ≡ true → chain_at (expr_at n) t e rest ≡ Some x
      → expr_at (suc n) (expr_text e ++ rest) ≡ Some x

pub whole : (e : Expr) → ExprFacts e → (n : ℕ) (rest : List ℕ) → depth_of_expr e ≤ n → closes rest ≡ true → expr_at n (expr_text e ++ rest) ≡ Some (e, rest)
whole e f zero rest deep c = absurd (omega (arith, f.deep))
whole e f (suc n) rest deep c = f.reads n 1 rest (e, rest) (omega arith) (closes_word rest c) (chain_ends (expr_at n) e rest c)

pub text_of_made : (k : ExprKind) → expr_text (made.expr k) ≡ expr_kind_text k
text_of_made k = at_expr writing_code (record { place = nowhere; kind = k })

pub depth_of_made : (k : ExprKind) → depth_of_expr (made.expr k) ≡ suc (depth_of_kind k)
depth_of_made k = at_expr (measuring nothing nothing) (record { place = nowhere; kind = k })

abbrev pub HeadReads : ExprKind → Type 0
HeadReads k = (n : ℕ) (rest : List ℕ) → depth_of_kind k ≤ n → ends_word rest ≡ true → head_at (expr_at n) (stmt_at n) (expr_kind_text k ++ rest) ≡ Some (k, rest)

abbrev pub Leads : ExprKind → Type 0
Leads k = (rest : List ℕ) → ends_word rest ≡ true → IsPlainWord (word_of (expr_kind_text k ++ rest))

-- an expression that is no key's and no call's base
pub by_head : (k : ExprKind) → Begins (expr_kind_text k) Opens → Leads k → HeadReads k → ExprFacts (made.expr k)
unfolding expr_at
by_head k b l h = record {
  begins = subst (λ s. Begins s Opens) (sym (text_of_made k)) b;
  leads = λ rest e. subst (λ s. IsPlainWord (word_of (s ++ rest))) (sym (text_of_made k)) (l rest e);
  deep = omega (arith, depth_of_made k);
  reads = λ n t rest x deep e chain.
      let turns : 0 < t = chain_turns (expr_at n) t (made.expr k) rest x chain in
      let one : head_at (expr_at n) (stmt_at n) (expr_kind_text k ++ rest) ≡ Some (k, rest) = h n rest (omega (arith, depth_of_made k)) e in
      ap (λ s. expr_at (suc n) (s ++ rest)) (text_of_made k) ∙ rw one (chain_more (expr_at n) t (suc n) (made.expr k) rest x (omega (arith, depth_of_made k)) chain);
}

-- the kind that a node makes of its parts is read, where it is good
abbrev pub ReadsKind : ExprKindLayer Tree → Type 0
ReadsKind x = Good sort.ExprKind (roll-ExprKind x) → ExprFacts (made.expr (roll-ExprKind x))

-- ---- statements

-- no `else` comes first
abbrev pub NoElse : List ℕ → Type 0
NoElse bytes = bytes_eq (codes "else") (word_of bytes) ≡ false

-- the body of another statement
pub record BlockFacts (s : Stmt) : Type 0 where
  pub ends : (more : List ℕ) → ends_word (stmt_text s ++ more) ≡ true
  pub reads : (n : ℕ) (rest : List ℕ) → depth_of_stmt s ≤ n → block_at n (stmt_text s ++ rest) ≡ Some (s, rest)

pub record StmtFacts (s : Stmt) : Type 0 where
  pub begins : Begins (stmt_text s) (IsInside 125)
  pub follows : (more : List ℕ) → NoElse (stmt_text s ++ more)
  pub deep : 0 < depth_of_stmt s
  pub reads : (n : ℕ) (rest : List ℕ) → depth_of_stmt s ≤ n → NoElse rest → stmt_at n (stmt_text s ++ rest) ≡ Some (s, rest)
  pub block : is_block (on_stmt shaping s).look ≡ true → BlockFacts s

pub stmt_text_of_made : (k : StmtKind) → stmt_text (made.stmt k) ≡ stmt_kind_text k
stmt_text_of_made k = at_stmt writing_code (record { place = nowhere; kind = k })

pub stmt_depth_of_made : (k : StmtKind) → depth_of_stmt (made.stmt k) ≡ suc (depth_of_stmt_kind k)
stmt_depth_of_made k = at_stmt (measuring nothing nothing) (record { place = nowhere; kind = k })

abbrev pub ReadsStmtKind : StmtKindLayer Tree → Type 0
ReadsStmtKind x = Good sort.StmtKind (roll-StmtKind x) → StmtFacts (made.stmt (roll-StmtKind x))

-- ---- what stands in statements and expressions

pub record DeclFacts (d : Decl) : Type 0 where
  pub begins : Begins (decl_text d) (IsInside 59)
  pub reads : (n : ℕ) (more : List ℕ) → depth_of_decl d ≤ n → closes more ≡ true → decl_at (expr_at n) (decl_text d ++ more) ≡ Some (d, more)

pub record PropFacts (p : Prop) : Type 0 where
  pub begins : Begins (prop_text p) (IsInside 125)
  pub reads : (n : ℕ) (more : List ℕ) → depth_of_prop p ≤ n → closes more ≡ true → prop_at (expr_at n) (prop_text p ++ more) ≡ Some (p, more)

pub record FunctionFacts (f : Function) : Type 0 where
  pub ends : (more : List ℕ) → ends_word (function_text f ++ more) ≡ true
  pub reads : (n : ℕ) (rest : List ℕ) → depth_of_function f ≤ n → function_at (stmt_at n) (function_text f ++ rest) ≡ Some (f, rest)

abbrev pub StartReads : ForStart → Type 0
StartReads s = (n : ℕ) (rest : List ℕ) → depth_of_start s ≤ n → start_at (expr_at n) (for_start_text s ++ 59 ∷ rest) ≡ Some (s, rest)

-- ---- of each part that is good

abbrev pub Reads : (s : Sort) → Tree s → Type 0
Reads sort.ExprKind k = Good sort.ExprKind k → ExprFacts (made.expr k)
Reads sort.ForStart s = Good sort.ForStart s → StartReads s
Reads sort.StmtKind k = Good sort.StmtKind k → StmtFacts (made.stmt k)
Reads sort.Decl d = Good sort.Decl d → DeclFacts d
Reads sort.Expr e = Good sort.Expr e → ExprFacts e
Reads sort.Function f = Good sort.Function f → FunctionFacts f
Reads sort.Prop p = Good sort.Prop p → PropFacts p
Reads sort.Stmt s = Good sort.Stmt s → StmtFacts s
Reads _ t = Unit {0}
