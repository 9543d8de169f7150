-- Statements with bodies, as loops and `if`, are read from their texts.
use Rattle.std.proofs.Common.{◌≡◌, ℕ, ◌≤◌, max, Bool, true, false, ◌&&◌, eqb, List, [], ◌∷◌, ◌++◌, map, Option, Some, None, refl, sym, ap, subst, ◌∙◌, append_assoc, arith}
use Rattle.std.specs.Prelude.{codes, option_map}
use Rattle.std.specs.Str.{bytes_eq}
use Rattle.std.proofs.lemmas.Bool.{and_parts}
use Rattle.mt_syntax.specs.CodeText.{decl_text, expr_text, for_start_text, name_text, or_nothing, stmt_kind_text, stmt_text, writing_code}
use Rattle.mt_syntax.specs.Codes.{mark_is_nowhere, testing_filled, testing_nowhere, testing_plain}
use Rattle.mt_syntax.specs.DataText.{separated}
use Rattle.mt_syntax.specs.Depth.{depth_of_expr, depth_of_stmt, measuring, nothing}
use Rattle.mt_syntax.specs.Fold.{StmtKindLayer, Tree, on_expr, on_for_start, on_stmt, on_stmt_kind}
use Rattle.mt_syntax.specs.Gathering.{all_of, or_none}
use Rattle.mt_syntax.specs.Shape.{block_fits, is_block, mark_fits, optional_fits, shaping}
use Rattle.mt_syntax.specs.Sort as sort
use Rattle.mt_syntax.specs.declared.tree.Decl.{Decl}
use Rattle.mt_syntax.specs.declared.tree.Expr.{Expr}
use Rattle.mt_syntax.specs.declared.tree.ForStart.{ForStart, roll-ForStart}
use Rattle.mt_syntax.specs.declared.tree.Mark.{Mark}
use Rattle.mt_syntax.specs.declared.tree.Stmt.{Stmt}
use Rattle.mt_syntax.specs.declared.tree.StmtKind.{StmtKind, roll-StmtKind}
use Rattle.mt_tree.specs.declared.operators.VarKind.TheVariants as word
use Rattle.mt_syntax.specs.declared.tree.ExprKind.TheOpen.{ForStart-F, StmtKind-F}
use Rattle.mt_syntax_laws.proofs.Related.{at_for_start, at_stmt_kind}
use Rattle.mt_syntax.specs.Texts.{measuring_texts}
use Rattle.mt_script_words.specs.Keywords.{keyword_of}
use Rattle.mt_script_words.specs.Words.{word_of}
use Rattle.mt_script_words.specs.declared.keywords.Keyword.TheVariants as keyword
use Rattle.mt_script_words.proofs.WordTexts.{ends_word, word_read}
use Rattle.mt_script_tree.specs.Made as made
use Rattle.mt_script_tree.specs.Reading.{block_at, expr_at, stmt_at}
use Rattle.mt_script_tree.specs.Statements.{led_at, part_at, start_at}
use Rattle.mt_script_read.proofs.Ends.{closes, differ}
use Rattle.mt_script_read.proofs.Facts.{BlockFacts, ReadsStmtKind, StartReads, StmtFacts, depth_of_decl, depth_of_start, depth_of_stmt_kind, opens, whole}
use Rattle.mt_script_read.proofs.Goodness.{AreBothClean, Clean, Good, GoodIfAny, IsClean, IsCleanIfAny, clean_with, good_for_start, good_if_any, good_stmt_kind, mark_is, nothing_clean, testing_within}
use Rattle.mt_script_read.proofs.Heads.{HeldExpr}
use Rattle.mt_script_read.proofs.Marks.{HeldStmt, mark_again}
use Rattle.mt_script_read.proofs.Clauses.{HeldDecl, by_keyword, decls_read, look_of}

-- ---- blocks in other statements

-- an expression that may be absent, beside other parts
pub clean_optional : {pl fi no : Bool} {lo : ℕ} {wi : Bool} (o : Option Expr)
    → Clean (or_none true (λ a b. a && b) (option_map (on_expr testing_plain) o) && pl) (or_none true (λ a b. a && b) (option_map (on_expr testing_filled) o) && fi) (or_none true (λ a b. a && b) (option_map (on_expr testing_nowhere) o) && no)
    (max (or_none 0 max (option_map (on_expr measuring_texts) o)) lo) (or_none true (λ a b. a && b) (option_map (on_expr testing_within) o) && wi)
    → IsCleanIfAny sort.Expr o × Clean pl fi no lo wi
clean_optional None g = (nothing_clean, record { plain_code = g.plain_code; filled_code = g.filled_code; no_places = g.no_places; short_texts = omega (arith, g.short_texts); small_values = g.small_values })
clean_optional (Some e) g = clean_with sort.Expr e g

-- the body of another statement
pub body_facts : (b : HeldStmt) → block_fits (on_stmt shaping b.0) ≡ true → IsClean sort.Stmt b.0 → BlockFacts b.0
body_facts b fit clean =
    let parts = and_parts (is_block (on_stmt shaping b.0).look) (on_stmt shaping b.0).fits fit in
    let facts = b.1 (record { shaped = parts.1; clean = clean }) in facts.block parts.0

-- ---- loops and choices

pub reads_while : (a : HeldExpr) (b : HeldStmt) → ReadsStmtKind (StmtKind-F.While a.0 b.0)
unfolding keyword_of
reads_while a b g =
    let x : StmtKindLayer Tree = StmtKind-F.While a.0 b.0 in
    let good = good_stmt_kind x g in
    let fits = and_parts (on_expr shaping a.0).fits (block_fits (on_stmt shaping b.0)) good.0 in
    let cleans : IsClean sort.Expr a.0 × IsClean sort.Stmt b.0 = clean_with sort.Expr a.0 good.1 in
    let test = a.1 (record { shaped = fits.0; clean = cleans.0 }) in
    let text : stmt_kind_text (roll-StmtKind x) ≡ codes "while" ++ 40 ∷ (expr_text a.0 ++ 41 ∷ stmt_text b.0) = at_stmt_kind writing_code x in
    let depth : depth_of_stmt_kind (roll-StmtKind x) ≡ max (depth_of_expr a.0) (depth_of_stmt b.0) = at_stmt_kind (measuring nothing nothing) x in
    by_keyword (roll-StmtKind x) 119 (codes "hile") (40 ∷ (expr_text a.0 ++ 41 ∷ stmt_text b.0)) keyword.While text refl refl refl (λ more. refl) (look_of x refl)
    (λ n rest deep free.
    ap (λ s. led_at (expr_at n) (stmt_at n) (block_at n) keyword.While (40 ∷ s) []) (append_assoc (expr_text a.0) (41 ∷ stmt_text b.0) rest)
    ∙ rw (whole a.0 test n (41 ∷ (stmt_text b.0 ++ rest)) (omega (arith, depth)) refl, (body_facts b fits.1 cleans.1).reads n rest (omega (arith, depth))) refl)

pub reads_if : (a : HeldExpr) (b : HeldStmt) → ReadsStmtKind (StmtKind-F.If a.0 b.0 None)
unfolding keyword_of
reads_if a b g =
    let x : StmtKindLayer Tree = StmtKind-F.If a.0 b.0 None in
    let good = good_stmt_kind x g in
    let outer = and_parts ((on_expr shaping a.0).fits && block_fits (on_stmt shaping b.0)) true good.0 in
    let fits = and_parts (on_expr shaping a.0).fits (block_fits (on_stmt shaping b.0)) outer.0 in
    let cleans : IsClean sort.Expr a.0 × Clean (on_stmt testing_plain b.0 && true) (on_stmt testing_filled b.0 && true) (on_stmt testing_nowhere b.0 && true) (max (on_stmt measuring_texts b.0) 0) (on_stmt testing_within b.0 && true) = clean_with sort.Expr a.0 good.1 in
    let body : IsClean sort.Stmt b.0 × Clean true true true 0 true = clean_with sort.Stmt b.0 cleans.1 in
    let test = a.1 (record { shaped = fits.0; clean = cleans.0 }) in
    let text : stmt_kind_text (roll-StmtKind x) ≡ codes "if" ++ 40 ∷ (expr_text a.0 ++ 41 ∷ (stmt_text b.0 ++ [])) = at_stmt_kind writing_code x in
    let depth : depth_of_stmt_kind (roll-StmtKind x) ≡ max (depth_of_expr a.0) (max (depth_of_stmt b.0) 0) = at_stmt_kind (measuring nothing nothing) x in
    by_keyword (roll-StmtKind x) 105 (codes "f") (40 ∷ (expr_text a.0 ++ 41 ∷ (stmt_text b.0 ++ []))) keyword.If text refl refl refl (λ more. refl) (look_of x refl)
    (λ n rest deep free.
    let bytes : (expr_text a.0 ++ 41 ∷ (stmt_text b.0 ++ [])) ++ rest ≡ expr_text a.0 ++ 41 ∷ (stmt_text b.0 ++ rest) = simp append_assoc in
    ap (λ s. led_at (expr_at n) (stmt_at n) (block_at n) keyword.If (40 ∷ s) []) bytes
    ∙ rw (whole a.0 test n (41 ∷ (stmt_text b.0 ++ rest)) (omega (arith, depth)) refl, (body_facts b fits.1 body.0).reads n rest (omega (arith, depth)), free) refl)

pub reads_if_else : (a : HeldExpr) (b c : HeldStmt) → ReadsStmtKind (StmtKind-F.If a.0 b.0 (Some c.0))
unfolding keyword_of
reads_if_else a b c g =
    let x : StmtKindLayer Tree = StmtKind-F.If a.0 b.0 (Some c.0) in
    let good = good_stmt_kind x g in
    let outer = and_parts ((on_expr shaping a.0).fits && block_fits (on_stmt shaping b.0)) (block_fits (on_stmt shaping c.0)) good.0 in
    let fits = and_parts (on_expr shaping a.0).fits (block_fits (on_stmt shaping b.0)) outer.0 in
    let cleans : IsClean sort.Expr a.0 × AreBothClean sort.Stmt sort.Stmt b.0 c.0 = clean_with sort.Expr a.0 good.1 in
    let bodies : IsClean sort.Stmt b.0 × IsClean sort.Stmt c.0 = clean_with sort.Stmt b.0 cleans.1 in
    let test = a.1 (record { shaped = fits.0; clean = cleans.0 }) in
    let text : stmt_kind_text (roll-StmtKind x) ≡ codes "if" ++ 40 ∷ (expr_text a.0 ++ 41 ∷ (stmt_text b.0 ++ (codes "else" ++ stmt_text c.0))) = at_stmt_kind writing_code x in
    let depth : depth_of_stmt_kind (roll-StmtKind x) ≡ max (depth_of_expr a.0) (max (depth_of_stmt b.0) (depth_of_stmt c.0)) = at_stmt_kind (measuring nothing nothing) x in
    let second : (rest : List ℕ) → ends_word (stmt_text c.0 ++ rest) ≡ true = (body_facts c outer.1 bodies.1).ends in
    by_keyword (roll-StmtKind x) 105 (codes "f") (40 ∷ (expr_text a.0 ++ 41 ∷ (stmt_text b.0 ++ (codes "else" ++ stmt_text c.0)))) keyword.If text refl refl refl (λ more. refl) (look_of x refl)
    (λ n rest deep free.
    let bytes : (expr_text a.0 ++ 41 ∷ (stmt_text b.0 ++ (codes "else" ++ stmt_text c.0))) ++ rest ≡ expr_text a.0 ++ 41 ∷ (stmt_text b.0 ++ (codes "else" ++ (stmt_text c.0 ++ rest))) = simp append_assoc in
    ap (λ s. led_at (expr_at n) (stmt_at n) (block_at n) keyword.If (40 ∷ s) []) bytes
    ∙ rw (
      whole a.0 test n (41 ∷ (stmt_text b.0 ++ (codes "else" ++ (stmt_text c.0 ++ rest)))) (omega (arith, depth)) refl,
      (body_facts b fits.1 bodies.0).reads n (codes "else" ++ (stmt_text c.0 ++ rest)) (omega (arith, depth)),
      word_read (codes "else") (stmt_text c.0 ++ rest) refl (second rest),
      (body_facts c outer.1 bodies.1).reads n rest (omega (arith, depth)),
    ) refl)

-- ---- the head of a `for`

abbrev pub ReadsStart : ForStart → Type 0
ReadsStart s = Good sort.ForStart s → StartReads s

pub reads_no_start : ReadsStart (roll-ForStart ForStart-F.Absent)
reads_no_start g =
    let text : for_start_text (roll-ForStart ForStart-F.Absent) ≡ [] = at_for_start writing_code ForStart-F.Absent in
    λ n rest deep. ap (λ s. start_at (expr_at n) (s ++ 59 ∷ rest)) text

pub reads_start_declaration : (ds : List HeldDecl) → ReadsStart (roll-ForStart (ForStart-F.ForStart::Var (map (λ (h : HeldDecl). h.0) ds)))
reads_start_declaration ds g =
    let items : List Decl = map (λ (h : HeldDecl). h.0) ds in
    let good = good_for_start (ForStart-F.ForStart::Var items) g in
    let text : for_start_text (roll-ForStart (ForStart-F.ForStart::Var items)) ≡ codes "var" ++ 32 ∷ separated (map decl_text items) = at_for_start writing_code (ForStart-F.ForStart::Var items) in
    let depth : depth_of_start (roll-ForStart (ForStart-F.ForStart::Var items)) ≡ all_of 0 max (map depth_of_decl items) = at_for_start (measuring nothing nothing) (ForStart-F.ForStart::Var items) in
    λ n rest deep.
    ap (λ s. start_at (expr_at n) (s ++ 59 ∷ rest)) text
    ∙ rw (word_read (codes "var") (32 ∷ (separated (map decl_text items) ++ 59 ∷ rest)) refl refl, decls_read n word.Var ds rest good.0 good.1 (omega (arith, depth))) refl

pub reads_start_expression : (a : HeldExpr) → ReadsStart (roll-ForStart (ForStart-F.ForStart::Expr a.0))
reads_start_expression a g =
    let good = good_for_start (ForStart-F.ForStart::Expr a.0) g in
    let f = a.1 (record { shaped = good.0; clean = good.1 }) in
    let b = f.begins in
    let text : for_start_text (roll-ForStart (ForStart-F.ForStart::Expr a.0)) ≡ expr_text a.0 = at_for_start writing_code (ForStart-F.ForStart::Expr a.0) in
    let depth : depth_of_start (roll-ForStart (ForStart-F.ForStart::Expr a.0)) ≡ depth_of_expr a.0 = at_for_start (measuring nothing nothing) (ForStart-F.ForStart::Expr a.0) in
    λ n rest deep.
    let bytes : expr_text a.0 ++ 59 ∷ rest ≡ b.head ∷ (b.tail ++ 59 ∷ rest) = ap (λ s. s ++ 59 ∷ rest) b.whole in
    let lead : bytes_eq (codes "var") (word_of (b.head ∷ (b.tail ++ 59 ∷ rest))) ≡ false = subst (λ s. bytes_eq (codes "var") (word_of s) ≡ false) bytes (f.leads (59 ∷ rest) refl).no_var in
    let read : expr_at n (b.head ∷ (b.tail ++ 59 ∷ rest)) ≡ Some (a.0, 59 ∷ rest) = ap (expr_at n) (sym bytes) ∙ whole a.0 f n (59 ∷ rest) (omega (arith, depth)) refl in
    ap (λ s. start_at (expr_at n) (s ++ 59 ∷ rest)) text ∙ ap (start_at (expr_at n)) bytes ∙ rw (differ opens b.head 59 b.is refl, lead, read) refl

-- ---- for

-- an expression that may be absent
part_read : (n close : ℕ) (o : Option HeldExpr) (rest : List ℕ) → eqb close close ≡ true → opens close ≡ false → closes (close ∷ rest) ≡ true → GoodIfAny sort.Expr (option_map (λ (h : HeldExpr). h.0) o)
    → or_none 0 max (option_map depth_of_expr (option_map (λ (h : HeldExpr). h.0) o)) ≤ n
    → part_at (expr_at n) close (or_nothing (option_map expr_text (option_map (λ (h : HeldExpr). h.0) o)) ++ close ∷ rest) ≡ Some (option_map (λ (h : HeldExpr). h.0) o, rest)
part_read n close None rest same shut c g deep = rw same refl
part_read n close (Some a) rest same shut c g deep =
    let f = a.1 g in
    let b = f.begins in
    let bytes : expr_text a.0 ++ close ∷ rest ≡ b.head ∷ (b.tail ++ close ∷ rest) = ap (λ s. s ++ close ∷ rest) b.whole in
    let read : expr_at n (b.head ∷ (b.tail ++ close ∷ rest)) ≡ Some (a.0, close ∷ rest) = ap (expr_at n) (sym bytes) ∙ whole a.0 f n (close ∷ rest) deep c in
    ap (part_at (expr_at n) close) bytes ∙ rw (differ opens b.head close b.is shut, read) refl

abbrev pub HeldStart : Type 0
HeldStart = (s : ForStart) × (Good sort.ForStart s → StartReads s)

-- what stands behind the start, beside its form
abbrev pub CleanRest : Option Expr → Option Expr → Stmt → Type 0
CleanRest test step body =
    Clean (or_none true (λ a b. a && b) (option_map (on_expr testing_plain) test) && (or_none true (λ a b. a && b) (option_map (on_expr testing_plain) step) && on_stmt testing_plain body))
    (or_none true (λ a b. a && b) (option_map (on_expr testing_filled) test) && (or_none true (λ a b. a && b) (option_map (on_expr testing_filled) step) && on_stmt testing_filled body))
    (or_none true (λ a b. a && b) (option_map (on_expr testing_nowhere) test) && (or_none true (λ a b. a && b) (option_map (on_expr testing_nowhere) step) && on_stmt testing_nowhere body))
    (max (or_none 0 max (option_map (on_expr measuring_texts) test)) (max (or_none 0 max (option_map (on_expr measuring_texts) step)) (on_stmt measuring_texts body)))
    (or_none true (λ a b. a && b) (option_map (on_expr testing_within) test) && (or_none true (λ a b. a && b) (option_map (on_expr testing_within) step) && on_stmt testing_within body))

-- with what is known of the node, by the parts that may be absent
for_by : (a : HeldStart) (b c : Option HeldExpr) (d : HeldStmt) (k : StmtKind)
    → ((((on_for_start shaping a.0).fits && optional_fits (option_map (on_expr shaping) (option_map (λ (h : HeldExpr). h.0) b))) && optional_fits (option_map (on_expr shaping) (option_map (λ (h : HeldExpr). h.0) c))) && block_fits (on_stmt shaping d.0)) ≡ true
    → IsClean sort.ForStart a.0 → IsCleanIfAny sort.Expr (option_map (λ (h : HeldExpr). h.0) b) → IsCleanIfAny sort.Expr (option_map (λ (h : HeldExpr). h.0) c) → IsClean sort.Stmt d.0
    → k ≡ roll-StmtKind (StmtKind-F.For a.0 (option_map (λ (h : HeldExpr). h.0) b) (option_map (λ (h : HeldExpr). h.0) c) d.0)
    → stmt_kind_text k ≡ codes "for" ++ 40 ∷ (for_start_text a.0 ++ 59 ∷ (or_nothing (option_map expr_text (option_map (λ (h : HeldExpr). h.0) b)) ++ 59 ∷ (or_nothing (option_map expr_text (option_map (λ (h : HeldExpr). h.0) c)) ++ 41 ∷ stmt_text d.0)))
    → depth_of_stmt_kind k ≡ max (depth_of_start a.0) (max (or_none 0 max (option_map depth_of_expr (option_map (λ (h : HeldExpr). h.0) b))) (max (or_none 0 max (option_map depth_of_expr (option_map (λ (h : HeldExpr). h.0) c))) (depth_of_stmt d.0)))
    → is_block (on_stmt_kind shaping k).look ≡ false → StmtFacts (made.stmt k)
unfolding keyword_of
for_by a b c d k fit clean_a clean_b clean_c clean_d is text depth no_block =
    let test : Option Expr = option_map (λ (h : HeldExpr). h.0) b in
    let step : Option Expr = option_map (λ (h : HeldExpr). h.0) c in
    let three = and_parts (((on_for_start shaping a.0).fits && optional_fits (option_map (on_expr shaping) test)) && optional_fits (option_map (on_expr shaping) step)) (block_fits (on_stmt shaping d.0)) fit in
    let two = and_parts ((on_for_start shaping a.0).fits && optional_fits (option_map (on_expr shaping) test)) (optional_fits (option_map (on_expr shaping) step)) three.0 in
    let one = and_parts (on_for_start shaping a.0).fits (optional_fits (option_map (on_expr shaping) test)) two.0 in
    let start = a.1 (record { shaped = one.0; clean = clean_a }) in
    let good_test = good_if_any sort.Expr test one.1 clean_b in
    let good_step = good_if_any sort.Expr step two.1 clean_c in
    let body = body_facts d three.1 clean_d in
    let test_text : List ℕ = or_nothing (option_map expr_text test) in
    let step_text : List ℕ = or_nothing (option_map expr_text step) in
    by_keyword k 102 (codes "or") (40 ∷ (for_start_text a.0 ++ 59 ∷ (test_text ++ 59 ∷ (step_text ++ 41 ∷ stmt_text d.0)))) keyword.For text refl refl refl (λ more. refl) no_block
    (λ n rest deep free.
    let bytes : (for_start_text a.0 ++ 59 ∷ (test_text ++ 59 ∷ (step_text ++ 41 ∷ stmt_text d.0))) ++ rest ≡ for_start_text a.0 ++ 59 ∷ (test_text ++ 59 ∷ (step_text ++ 41 ∷ (stmt_text d.0 ++ rest))) = simp append_assoc in
    ap (λ s. led_at (expr_at n) (stmt_at n) (block_at n) keyword.For (40 ∷ s) []) bytes
    ∙ rw (
      start n (test_text ++ 59 ∷ (step_text ++ 41 ∷ (stmt_text d.0 ++ rest))) (omega (arith, depth)),
      part_read n 59 b (step_text ++ 41 ∷ (stmt_text d.0 ++ rest)) refl refl refl good_test (omega (arith, depth)),
      part_read n 41 c (stmt_text d.0 ++ rest) refl refl refl good_step (omega (arith, depth)),
      body.reads n rest (omega (arith, depth)),
    ) (ap (λ (x : StmtKind). Some (x, rest)) (sym is)))

pub reads_for : (a : HeldStart) (b c : Option HeldExpr) (d : HeldStmt) → ReadsStmtKind (StmtKind-F.For a.0 (option_map (λ (h : HeldExpr). h.0) b) (option_map (λ (h : HeldExpr). h.0) c) d.0)
reads_for a None None d g =
    let x : StmtKindLayer Tree = StmtKind-F.For a.0 None None d.0 in
    let good = good_stmt_kind x g in
    let start : IsClean sort.ForStart a.0 × CleanRest None None d.0 = clean_with sort.ForStart a.0 good.1 in
    let test = clean_optional None start.1 in
    let step : IsCleanIfAny sort.Expr None × IsClean sort.Stmt d.0 = clean_optional None test.1 in
    for_by a None None d (roll-StmtKind x) good.0 start.0 test.0 step.0 step.1 refl (at_stmt_kind writing_code x) (at_stmt_kind (measuring nothing nothing) x) (look_of x refl)
reads_for a None (Some c) d g =
    let x : StmtKindLayer Tree = StmtKind-F.For a.0 None (Some c.0) d.0 in
    let good = good_stmt_kind x g in
    let start : IsClean sort.ForStart a.0 × CleanRest None (Some c.0) d.0 = clean_with sort.ForStart a.0 good.1 in
    let test = clean_optional None start.1 in
    let step : IsCleanIfAny sort.Expr (Some c.0) × IsClean sort.Stmt d.0 = clean_optional (Some c.0) test.1 in
    for_by a None (Some c) d (roll-StmtKind x) good.0 start.0 test.0 step.0 step.1 refl (at_stmt_kind writing_code x) (at_stmt_kind (measuring nothing nothing) x) (look_of x refl)
reads_for a (Some b) None d g =
    let x : StmtKindLayer Tree = StmtKind-F.For a.0 (Some b.0) None d.0 in
    let good = good_stmt_kind x g in
    let start : IsClean sort.ForStart a.0 × CleanRest (Some b.0) None d.0 = clean_with sort.ForStart a.0 good.1 in
    let test = clean_optional (Some b.0) start.1 in
    let step : IsCleanIfAny sort.Expr None × IsClean sort.Stmt d.0 = clean_optional None test.1 in
    for_by a (Some b) None d (roll-StmtKind x) good.0 start.0 test.0 step.0 step.1 refl (at_stmt_kind writing_code x) (at_stmt_kind (measuring nothing nothing) x) (look_of x refl)
reads_for a (Some b) (Some c) d g =
    let x : StmtKindLayer Tree = StmtKind-F.For a.0 (Some b.0) (Some c.0) d.0 in
    let good = good_stmt_kind x g in
    let start : IsClean sort.ForStart a.0 × CleanRest (Some b.0) (Some c.0) d.0 = clean_with sort.ForStart a.0 good.1 in
    let test = clean_optional (Some b.0) start.1 in
    let step : IsCleanIfAny sort.Expr (Some c.0) × IsClean sort.Stmt d.0 = clean_optional (Some c.0) test.1 in
    for_by a (Some b) (Some c) d (roll-StmtKind x) good.0 start.0 test.0 step.0 step.1 refl (at_stmt_kind writing_code x) (at_stmt_kind (measuring nothing nothing) x) (look_of x refl)

-- ---- try

pub reads_try : (a : HeldStmt) (name : Mark) (b : HeldStmt) → ReadsStmtKind (StmtKind-F.Try a.0 name b.0)
unfolding keyword_of
reads_try a name b g =
    let x : StmtKindLayer Tree = StmtKind-F.Try a.0 name b.0 in
    let good = good_stmt_kind x g in
    let outer = and_parts (block_fits (on_stmt shaping a.0) && mark_fits name) (block_fits (on_stmt shaping b.0)) good.0 in
    let inner = and_parts (block_fits (on_stmt shaping a.0)) (mark_fits name) outer.0 in
    let places = and_parts (on_stmt testing_nowhere a.0 && mark_is_nowhere name) (on_stmt testing_nowhere b.0) good.1.no_places in
    let first = and_parts (on_stmt testing_nowhere a.0) (mark_is_nowhere name) places.0 in
    let plain = and_parts (on_stmt testing_plain a.0) (on_stmt testing_plain b.0) good.1.plain_code in
    let filled = and_parts (on_stmt testing_filled a.0) (on_stmt testing_filled b.0) good.1.filled_code in
    let within = and_parts (on_stmt testing_within a.0) (on_stmt testing_within b.0) good.1.small_values in
    let mark = mark_is name inner.1 first.1 (omega (arith, good.1.short_texts)) in
    let clean_a : IsClean sort.Stmt a.0 = record { plain_code = plain.0; filled_code = filled.0; no_places = first.0; short_texts = omega (arith, good.1.short_texts); small_values = within.0 } in
    let clean_b : IsClean sort.Stmt b.0 = record { plain_code = plain.1; filled_code = filled.1; no_places = places.1; short_texts = omega (arith, good.1.short_texts); small_values = within.1 } in
    let body = body_facts a inner.0 clean_a in
    let handler = body_facts b outer.1 clean_b in
    let text : stmt_kind_text (roll-StmtKind x) ≡ codes "try" ++ (stmt_text a.0 ++ (codes "catch(" ++ (name_text name ++ 41 ∷ stmt_text b.0))) = at_stmt_kind writing_code x in
    let depth : depth_of_stmt_kind (roll-StmtKind x) ≡ max (depth_of_stmt a.0) (depth_of_stmt b.0) = at_stmt_kind (measuring nothing nothing) x in
    by_keyword (roll-StmtKind x) 116 (codes "ry") (stmt_text a.0 ++ (codes "catch(" ++ (name_text name ++ 41 ∷ stmt_text b.0))) keyword.Try text refl refl refl
    (λ more. ap ends_word (append_assoc (stmt_text a.0) (codes "catch(" ++ (name_text name ++ 41 ∷ stmt_text b.0)) more) ∙ body.ends ((codes "catch(" ++ (name_text name ++ 41 ∷ stmt_text b.0)) ++ more)) (look_of x refl)
    (λ n rest deep free.
    let bytes : (stmt_text a.0 ++ (codes "catch(" ++ (name_text name ++ 41 ∷ stmt_text b.0))) ++ rest ≡ stmt_text a.0 ++ (codes "catch(" ++ (name_text name ++ 41 ∷ (stmt_text b.0 ++ rest))) = simp append_assoc in
    ap (λ s. led_at (expr_at n) (stmt_at n) (block_at n) keyword.Try s []) bytes
    ∙ rw (body.reads n (codes "catch(" ++ (name_text name ++ 41 ∷ (stmt_text b.0 ++ rest))) (omega (arith, depth)), mark_again name mark (41 ∷ (stmt_text b.0 ++ rest)) refl, handler.reads n rest (omega (arith, depth))) refl)
