-- Statements without bodies, and blocks, are read from their texts.
use Rattle.std.proofs.Common.{◌≡◌, ℕ, zero, suc, ◌≤◌, max, Bool, true, false, ◌&&◌, List, [], ◌∷◌, ◌++◌, map, Option, Some, None, refl, sym, ap, subst, ◌∙◌, append_assoc, arith}
use Rattle.std.specs.Prelude.{codes, option_map}
use Rattle.std.specs.List.{flat_map, list_all}
use Rattle.std.specs.Str.{bytes_eq}
use Rattle.std.proofs.lemmas.Bool.{and_from, and_parts}
use Rattle.mt_syntax.specs.CodeText.{decl_text, expr_text, function_text, stmt_kind_text, stmt_text, var_text, writing_code}
use Rattle.mt_syntax.specs.DataText.{separated}
use Rattle.mt_syntax.specs.Depth.{depth_of_expr, depth_of_stmt, measuring, nothing}
use Rattle.mt_syntax.specs.Fold.{StmtKindLayer, Tree, on_decl, on_function, on_stmt, on_stmt_kind}
use Rattle.mt_syntax.specs.Gathering.{all_of}
use Rattle.mt_syntax.specs.Shape.{all_fit, decls_fit, is_block, is_named, is_some_item, is_statement, is_valued, shaping}
use Rattle.mt_syntax.specs.Sort as sort
use Rattle.mt_syntax.specs.declared.tree.Decl.{Decl, out-Decl, roll-Decl, roll-out-Decl}
use Rattle.mt_syntax.specs.declared.tree.Expr.{Expr}
use Rattle.mt_syntax.specs.declared.tree.Function.{Function, out-Function, roll-Function, roll-out-Function}
use Rattle.mt_syntax.specs.declared.tree.Mark.{Mark}
use Rattle.mt_syntax.specs.declared.tree.Stmt.{Stmt}
use Rattle.mt_syntax.specs.declared.tree.StmtKind.{StmtKind, roll-StmtKind}
use Rattle.mt_tree.specs.declared.operators.VarKind.{VarKind}
use Rattle.mt_tree.specs.declared.operators.VarKind.TheVariants as word
use Rattle.mt_syntax.specs.declared.tree.ExprKind.TheOpen.{StmtKind-F}
use Rattle.mt_syntax.specs.Substitution.{nowhere}
use Rattle.mt_syntax_laws.proofs.Related.{at_decl, at_function, at_stmt, at_stmt_kind, on}
use Rattle.mt_syntax_laws.proofs.Layers.{map_stmt_kind}
use Rattle.mt_json.proofs.Again.{Begins}
use Rattle.mt_script_words.specs.Keywords.{keyword_of}
use Rattle.mt_script_words.specs.Words.{after_word, is_word_byte, word_length, word_of}
use Rattle.mt_script_words.specs.declared.keywords.Keyword.{Keyword}
use Rattle.mt_script_words.specs.declared.keywords.Keyword.TheVariants as keyword
use Rattle.mt_script_words.proofs.WordTexts.{ends_word, word_passed, word_read}
use Rattle.mt_script_tree.specs.Lists.{list_by}
use Rattle.mt_script_tree.specs.Made as made
use Rattle.mt_script_tree.specs.Reading.{block_at, expr_at, stmt_at}
use Rattle.mt_script_tree.specs.Statements.{are_declared, are_statements, decl_at, decls_at, has_value, is_present, kind_at, led_at}
use Rattle.mt_script_read.proofs.Ends.{differ}
use Rattle.mt_script_read.proofs.Facts.{DeclFacts, NoElse, ReadsStmtKind, StmtFacts, depth_of_decl, depth_of_function, depth_of_stmt_kind, opens, stmt_depth_of_made, stmt_text_of_made, whole}
use Rattle.mt_script_read.proofs.Goodness.{AllGood, AreClean, Good, good_rows, good_stmt_kind}
use Rattle.mt_script_read.proofs.Heads.{HeldExpr}
use Rattle.mt_script_read.proofs.Items.{AreItems, IsInside, list_read}
use Rattle.mt_script_read.proofs.Marks.{HeldStmt, block_bytes, stmts_read}
use Rattle.mt_script_read.proofs.Operations.{HeldFunction}

-- ---- declarations

abbrev pub HeldDecl : Type 0
HeldDecl = (d : Decl) × (Good sort.Decl d → DeclFacts d)

decl_items : (n : ℕ) (ds : List HeldDecl) → AllGood sort.Decl (map (λ (h : HeldDecl). h.0) ds)
    → all_of 0 max (map depth_of_decl (map (λ (h : HeldDecl). h.0) ds)) ≤ n → AreItems decl_text 59 (decl_at (expr_at n)) (map (λ (h : HeldDecl). h.0) ds)
decl_items n [] g deep = tt
decl_items n (h ∷ ds) g deep = let f = h.1 g.0 in (record { begins = f.begins; reads = λ more c. f.reads n more (omega arith) c }, decl_items n ds g.1 (omega arith))

has_value_by : (name : Mark) (value : Option Expr) → is_valued (on_decl shaping (roll-Decl (record { name = name; value = value }))).look ≡ true → is_present value ≡ true
has_value_by name None h = let e = at_decl shaping (record { name = name; value = None }) in absurd (valued (sym (ap (λ p. is_valued p.look) e) ∙ h))
  where
    valued : false ≡ true → ⊥
    valued e = cc
has_value_by name (Some e) h = refl

valued_has : (d : Decl) → is_valued (on_decl shaping d).look ≡ true → has_value d ≡ true
valued_has d h = has_value_by (out-Decl d).name (out-Decl d).value (ap (λ e. is_valued (on_decl shaping e).look) (roll-out-Decl d) ∙ h)

constants_fit : (ds : List Decl) → list_all (λ d. is_valued d.look && d.fits) (map (on_decl shaping) ds) ≡ true → (list_all has_value ds ≡ true) × (all_fit (map (on_decl shaping) ds) ≡ true)
constants_fit [] h = (refl, refl)
constants_fit (d ∷ ds) h =
    let parts = and_parts (is_valued (on_decl shaping d).look && (on_decl shaping d).fits) (list_all (λ d. is_valued d.look && d.fits) (map (on_decl shaping) ds)) h in
    let one = and_parts (is_valued (on_decl shaping d).look) (on_decl shaping d).fits parts.0 in
    let others = constants_fit ds parts.1 in
    (and_from (has_value d) (list_all has_value ds) (valued_has d one.0) others.0, and_from (on_decl shaping d).fits (all_fit (map (on_decl shaping) ds)) one.1 others.1)

some_item : (ds : List Decl) → is_some_item (map (on_decl shaping) ds) ≡ true → is_some_item ds ≡ true
some_item [] h = h
some_item (d ∷ ds) h = refl

pub declared_fit : (kind : VarKind) (ds : List Decl) → decls_fit kind (map (on_decl shaping) ds) ≡ true → (are_declared kind ds ≡ true) × (all_fit (map (on_decl shaping) ds) ≡ true)
declared_fit word.Var ds h = let parts = and_parts (is_some_item (map (on_decl shaping) ds)) (all_fit (map (on_decl shaping) ds)) h in (some_item ds parts.0, parts.1)
declared_fit word.Let ds h = let parts = and_parts (is_some_item (map (on_decl shaping) ds)) (all_fit (map (on_decl shaping) ds)) h in (some_item ds parts.0, parts.1)
declared_fit word.Const ds h =
    let parts = and_parts (is_some_item (map (on_decl shaping) ds)) (list_all (λ d. is_valued d.look && d.fits) (map (on_decl shaping) ds)) h in
    let all = constants_fit ds parts.1 in (and_from (is_some_item ds) (list_all has_value ds) (some_item ds parts.0) all.0, all.1)

pub decls_read : (n : ℕ) (kind : VarKind) (ds : List HeldDecl) (rest : List ℕ) → decls_fit kind (map (on_decl shaping) (map (λ (h : HeldDecl). h.0) ds)) ≡ true → AreClean sort.Decl (map (λ (h : HeldDecl). h.0) ds)
    → all_of 0 max (map depth_of_decl (map (λ (h : HeldDecl). h.0) ds)) ≤ n
    → decls_at (expr_at n) kind (separated (map decl_text (map (λ (h : HeldDecl). h.0) ds)) ++ 59 ∷ rest) ≡ Some (map (λ (h : HeldDecl). h.0) ds, rest)
decls_read n kind ds rest fit clean deep =
    let items : List Decl = map (λ (h : HeldDecl). h.0) ds in
    let declared = declared_fit kind items fit in
    let all = good_rows sort.Decl items declared.1 clean in
    let list : list_by 59 (decl_at (expr_at n)) (separated (map decl_text items) ++ 59 ∷ rest) ≡ Some (items, rest) =
    list_read decl_text 59 (decl_at (expr_at n)) refl (λ r. refl) items rest (decl_items n ds all deep) in
    rw (list, declared.0) refl

-- ---- any statement but a block

by_kind : (k : StmtKind) → Begins (stmt_kind_text k) (IsInside 125) → ((more : List ℕ) → NoElse (stmt_kind_text k ++ more)) → is_block (on_stmt_kind shaping k).look ≡ false
    → ((n : ℕ) (rest : List ℕ) → depth_of_stmt_kind k ≤ n → NoElse rest → kind_at (expr_at n) (stmt_at n) (block_at n) (stmt_kind_text k ++ rest) ≡ Some (k, rest)) → StmtFacts (made.stmt k)
unfolding stmt_at
by_kind k b follows no_block h = record {
  begins = subst (λ s. Begins s (IsInside 125)) (sym (stmt_text_of_made k)) b;
  follows = λ more. subst (λ s. NoElse (s ++ more)) (sym (stmt_text_of_made k)) (follows more);
  deep = omega (arith, stmt_depth_of_made k);
  reads = λ n rest deep free. by_depth n rest (sym (stmt_depth_of_made k)) deep free;
  block = λ is.
      let same : is_block (on_stmt_kind shaping k).look ≡ true = sym (ap (λ p. is_block p.look) (at_stmt shaping (record { place = nowhere; kind = k }))) ∙ is in absurd (both is_block_look same no_block);
}
  where
    is_block_look : Bool
    is_block_look = is_block (on_stmt_kind shaping k).look

    both : (b : Bool) → b ≡ true → b ≡ false → ⊥
    both b e f = let h : true ≡ false = sym e ∙ f in cc

    by_depth : (n : ℕ) (rest : List ℕ) → suc (depth_of_stmt_kind k) ≡ depth_of_stmt (made.stmt k) → depth_of_stmt (made.stmt k) ≤ n → NoElse rest → stmt_at n (stmt_text (made.stmt k) ++ rest) ≡ Some (made.stmt k, rest)
    by_depth zero rest same deep free = absurd (omega arith)
    by_depth (suc n) rest same deep free = ap (λ s. stmt_at (suc n) (s ++ rest)) (stmt_text_of_made k) ∙ rw (h n rest (omega arith) free) refl

-- ---- statements that begin with a word

module _ (n : ℕ) where
  by_led : (w : List ℕ) (after : List ℕ) (key : Keyword) → list_all is_word_byte w ≡ true → ends_word after ≡ true → keyword_of w ≡ key
      → led_at (expr_at n) (stmt_at n) (block_at n) (keyword_of (word_of (w ++ after))) (after_word (w ++ after)) (w ++ after) ≡ led_at (expr_at n) (stmt_at n) (block_at n) key after (w ++ after)
  by_led w after key bytes e is =
      ap (λ s. led_at (expr_at n) (stmt_at n) (block_at n) (keyword_of s) (after_word (w ++ after)) (w ++ after)) (word_read w after bytes e)
      ∙ ap (λ s. led_at (expr_at n) (stmt_at n) (block_at n) (keyword_of w) s (w ++ after)) (word_passed w after bytes e)
      ∙ ap (λ l. led_at (expr_at n) (stmt_at n) (block_at n) l after (w ++ after)) is

  -- the first byte of a word begins no block and is no semicolon
  first_of_word : (b : ℕ) (bytes : List ℕ) → is_word_byte b ≡ true
      → kind_at (expr_at n) (stmt_at n) (block_at n) (b ∷ bytes) ≡ led_at (expr_at n) (stmt_at n) (block_at n) (keyword_of (word_of (b ∷ bytes))) (after_word (b ∷ bytes)) (b ∷ bytes)
  first_of_word b bytes h = rw (differ is_word_byte b 123 h refl, differ is_word_byte b 59 h refl) refl

pub by_keyword : (k : StmtKind) (b : ℕ) (tail after : List ℕ) (key : Keyword) → stmt_kind_text k ≡ (b ∷ tail) ++ after → list_all is_word_byte (b ∷ tail) ≡ true → keyword_of (b ∷ tail) ≡ key
    → bytes_eq (codes "else") (b ∷ tail) ≡ false → ((more : List ℕ) → ends_word (after ++ more) ≡ true) → is_block (on_stmt_kind shaping k).look ≡ false
    → ((n : ℕ) (rest : List ℕ) → depth_of_stmt_kind k ≤ n → NoElse rest → led_at (expr_at n) (stmt_at n) (block_at n) key (after ++ rest) ((b ∷ tail) ++ (after ++ rest)) ≡ Some (k, rest)) → StmtFacts (made.stmt k)
by_keyword k b tail after key text bytes is not_else ends no_block h =
    let byte : is_word_byte b ≡ true = (and_parts (is_word_byte b) (list_all is_word_byte tail) bytes).0 in
    let with_more : (more : List ℕ) → stmt_kind_text k ++ more ≡ (b ∷ tail) ++ (after ++ more) = λ more. ap (λ s. s ++ more) text ∙ append_assoc (b ∷ tail) after more in
    by_kind k (record { head = b; tail = tail ++ after; whole = text; is = (differ is_word_byte b 125 byte refl, differ is_word_byte b 44 byte refl) })
    (λ more. ap (λ s. bytes_eq (codes "else") (word_of s)) (with_more more) ∙ ap (bytes_eq (codes "else")) (word_read (b ∷ tail) (after ++ more) bytes (ends more)) ∙ not_else) no_block
    (λ n rest deep free.
    ap (kind_at (expr_at n) (stmt_at n) (block_at n)) (with_more rest) ∙ first_of_word n b (tail ++ (after ++ rest)) byte ∙ by_led n (b ∷ tail) (after ++ rest) key bytes (ends rest) is ∙ h n rest deep free)

-- the form of a statement is that of its kind
pub look_of : (x : StmtKindLayer Tree) → is_block (shaping.stmt_kind (map_stmt_kind (on shaping) x)).look ≡ false → is_block (on_stmt_kind shaping (roll-StmtKind x)).look ≡ false
look_of x h = ap (λ p. is_block p.look) (at_stmt_kind shaping x) ∙ h

-- ---- var, let and const

reads_declaration_by : (kind : VarKind) (b : ℕ) (tail : List ℕ) (ds : List HeldDecl) → var_text kind ≡ (b ∷ tail) ++ 32 ∷ [] → list_all is_word_byte (b ∷ tail) ≡ true → keyword_of (b ∷ tail) ≡ keyword.Declare kind
    → bytes_eq (codes "else") (b ∷ tail) ≡ false → ReadsStmtKind (StmtKind-F.StmtKind::Var kind (map (λ (h : HeldDecl). h.0) ds))
reads_declaration_by kind b tail ds word bytes is not_else g =
    let items : List Decl = map (λ (h : HeldDecl). h.0) ds in
    let x : StmtKindLayer Tree = StmtKind-F.StmtKind::Var kind items in
    let good = good_stmt_kind x g in
    let text : stmt_kind_text (roll-StmtKind x) ≡ (b ∷ tail) ++ 32 ∷ (separated (map decl_text items) ++ 59 ∷ []) =
    at_stmt_kind writing_code x ∙ ap (λ s. s ++ (separated (map decl_text items) ++ 59 ∷ [])) word ∙ append_assoc (b ∷ tail) (32 ∷ []) (separated (map decl_text items) ++ 59 ∷ []) in
    let depth : depth_of_stmt_kind (roll-StmtKind x) ≡ all_of 0 max (map depth_of_decl items) = at_stmt_kind (measuring nothing nothing) x in
    by_keyword (roll-StmtKind x) b tail (32 ∷ (separated (map decl_text items) ++ 59 ∷ [])) (keyword.Declare kind) text bytes is not_else (λ more. refl) (look_of x refl)
    (λ n rest deep free.
    ap (λ s. led_at (expr_at n) (stmt_at n) (block_at n) (keyword.Declare kind) (32 ∷ s) []) (append_assoc (separated (map decl_text items)) (59 ∷ []) rest)
    ∙ rw (decls_read n kind ds rest good.0 good.1 (omega (arith, depth))) refl)

pub reads_declaration : (kind : VarKind) (ds : List HeldDecl) → ReadsStmtKind (StmtKind-F.StmtKind::Var kind (map (λ (h : HeldDecl). h.0) ds))
unfolding keyword_of
reads_declaration word.Var ds = reads_declaration_by word.Var 118 (codes "ar") ds refl refl refl refl
reads_declaration word.Let ds = reads_declaration_by word.Let 108 (codes "et") ds refl refl refl refl
reads_declaration word.Const ds = reads_declaration_by word.Const 99 (codes "onst") ds refl refl refl refl

-- ---- functions

has_name : (name : Option Mark) (parameters : List Mark) (body : List Stmt) → is_named (on_function shaping (roll-Function (record { name = name; parameters = parameters; body = body }))).look ≡ true → is_present name ≡ true
has_name None parameters body h = let e = at_function shaping (record { name = None; parameters = parameters; body = body }) in absurd (named (sym (ap (λ p. is_named p.look) e) ∙ h))
  where
    named : false ≡ true → ⊥
    named e = cc
has_name (Some m) parameters body h = refl

named_has : (f : Function) → is_named (on_function shaping f).look ≡ true → is_present (out-Function f).name ≡ true
named_has f h = has_name (out-Function f).name (out-Function f).parameters (out-Function f).body (ap (λ e. is_named (on_function shaping e).look) (roll-out-Function f) ∙ h)

pub reads_function_statement : (f : HeldFunction) → ReadsStmtKind (StmtKind-F.Function f.0)
unfolding keyword_of
reads_function_statement f g =
    let x : StmtKindLayer Tree = StmtKind-F.Function f.0 in
    let good = good_stmt_kind x g in
    let fits = and_parts (is_named (on_function shaping f.0).look) (on_function shaping f.0).fits good.0 in
    let facts = f.1 (record { shaped = fits.1; clean = good.1 }) in
    let text : stmt_kind_text (roll-StmtKind x) ≡ codes "function" ++ function_text f.0 = at_stmt_kind writing_code x in
    let depth : depth_of_stmt_kind (roll-StmtKind x) ≡ depth_of_function f.0 = at_stmt_kind (measuring nothing nothing) x in
    by_keyword (roll-StmtKind x) 102 (codes "unction") (function_text f.0) keyword.Function text refl refl refl facts.ends (look_of x refl)
    (λ n rest deep free. rw (facts.reads n rest (omega (arith, depth)), named_has f.0 fits.0) refl)

-- ---- jumps

pub reads_return : (o : Option HeldExpr) → ReadsStmtKind (StmtKind-F.Return (option_map (λ (h : HeldExpr). h.0) o))
unfolding keyword_of
reads_return None g =
    let x : StmtKindLayer Tree = StmtKind-F.Return None in
    let text : stmt_kind_text (roll-StmtKind x) ≡ codes "return" ++ 59 ∷ [] = at_stmt_kind writing_code x in
    by_keyword (roll-StmtKind x) 114 (codes "eturn") (59 ∷ []) keyword.Return text refl refl refl (λ more. refl) (look_of x refl) (λ n rest deep free. refl)
reads_return (Some a) g =
    let x : StmtKindLayer Tree = StmtKind-F.Return (Some a.0) in
    let good = good_stmt_kind x g in
    let f = a.1 (record { shaped = good.0; clean = good.1 }) in
    let text : stmt_kind_text (roll-StmtKind x) ≡ codes "return" ++ 32 ∷ (expr_text a.0 ++ 59 ∷ []) = at_stmt_kind writing_code x in
    let depth : depth_of_stmt_kind (roll-StmtKind x) ≡ depth_of_expr a.0 = at_stmt_kind (measuring nothing nothing) x in
    by_keyword (roll-StmtKind x) 114 (codes "eturn") (32 ∷ (expr_text a.0 ++ 59 ∷ [])) keyword.Return text refl refl refl (λ more. refl) (look_of x refl)
    (λ n rest deep free.
    ap (λ s. led_at (expr_at n) (stmt_at n) (block_at n) keyword.Return (32 ∷ s) []) (append_assoc (expr_text a.0) (59 ∷ []) rest)
    ∙ rw (whole a.0 f n (59 ∷ rest) (omega (arith, depth)) refl) refl)

pub reads_throw : (a : HeldExpr) → ReadsStmtKind (StmtKind-F.Throw a.0)
unfolding keyword_of
reads_throw a g =
    let x : StmtKindLayer Tree = StmtKind-F.Throw a.0 in
    let good = good_stmt_kind x g in
    let f = a.1 (record { shaped = good.0; clean = good.1 }) in
    let text : stmt_kind_text (roll-StmtKind x) ≡ codes "throw" ++ 32 ∷ (expr_text a.0 ++ 59 ∷ []) = at_stmt_kind writing_code x in
    let depth : depth_of_stmt_kind (roll-StmtKind x) ≡ depth_of_expr a.0 = at_stmt_kind (measuring nothing nothing) x in
    by_keyword (roll-StmtKind x) 116 (codes "hrow") (32 ∷ (expr_text a.0 ++ 59 ∷ [])) keyword.Throw text refl refl refl (λ more. refl) (look_of x refl)
    (λ n rest deep free.
    ap (λ s. led_at (expr_at n) (stmt_at n) (block_at n) keyword.Throw (32 ∷ s) []) (append_assoc (expr_text a.0) (59 ∷ []) rest)
    ∙ rw (whole a.0 f n (59 ∷ rest) (omega (arith, depth)) refl) refl)

pub reads_break : ReadsStmtKind StmtKind-F.Break
unfolding keyword_of
reads_break g =
    let x : StmtKindLayer Tree = StmtKind-F.Break in
    let text : stmt_kind_text (roll-StmtKind x) ≡ codes "break" ++ 59 ∷ [] = at_stmt_kind writing_code x in
    by_keyword (roll-StmtKind x) 98 (codes "reak") (59 ∷ []) keyword.Break text refl refl refl (λ more. refl) (look_of x refl) (λ n rest deep free. refl)

pub reads_continue : ReadsStmtKind StmtKind-F.Continue
unfolding keyword_of
reads_continue g =
    let x : StmtKindLayer Tree = StmtKind-F.Continue in
    let text : stmt_kind_text (roll-StmtKind x) ≡ codes "continue" ++ 59 ∷ [] = at_stmt_kind writing_code x in
    by_keyword (roll-StmtKind x) 99 (codes "ontinue") (59 ∷ []) keyword.Continue text refl refl refl (λ more. refl) (look_of x refl) (λ n rest deep free. refl)

-- ---- the other statements

pub reads_empty : ReadsStmtKind StmtKind-F.Empty
unfolding word_length
reads_empty g =
    let x : StmtKindLayer Tree = StmtKind-F.Empty in
    let text : stmt_kind_text (roll-StmtKind x) ≡ 59 ∷ [] = at_stmt_kind writing_code x in
    by_kind (roll-StmtKind x) (record { head = 59; tail = []; whole = text; is = (refl, refl) }) (λ more. ap (λ s. bytes_eq (codes "else") (word_of (s ++ more))) text) (look_of x refl)
    (λ n rest deep free. ap (λ s. kind_at (expr_at n) (stmt_at n) (block_at n) (s ++ rest)) text)

pub reads_expression : (a : HeldExpr) → ReadsStmtKind (StmtKind-F.StmtKind::Expr a.0)
reads_expression a g =
    let x : StmtKindLayer Tree = StmtKind-F.StmtKind::Expr a.0 in
    let good = good_stmt_kind x g in
    let f = a.1 (record { shaped = good.0; clean = good.1 }) in
    let b = f.begins in
    let text : stmt_kind_text (roll-StmtKind x) ≡ expr_text a.0 ++ 59 ∷ [] = at_stmt_kind writing_code x in
    let depth : depth_of_stmt_kind (roll-StmtKind x) ≡ depth_of_expr a.0 = at_stmt_kind (measuring nothing nothing) x in
    let with_more : (more : List ℕ) → stmt_kind_text (roll-StmtKind x) ++ more ≡ expr_text a.0 ++ 59 ∷ more = λ more. ap (λ s. s ++ more) text ∙ append_assoc (expr_text a.0) (59 ∷ []) more in
    by_kind (roll-StmtKind x)
    (record { head = b.head; tail = b.tail ++ 59 ∷ []; whole = text ∙ ap (λ s. s ++ 59 ∷ []) b.whole; is = (differ opens b.head 125 b.is refl, differ opens b.head 44 b.is refl) })
    (λ more. subst NoElse (sym (with_more more)) (f.leads (59 ∷ more) refl).no_else) (look_of x refl)
    (λ n rest deep free.
    let bytes : expr_text a.0 ++ 59 ∷ rest ≡ b.head ∷ (b.tail ++ 59 ∷ rest) = ap (λ s. s ++ 59 ∷ rest) b.whole in
    let lead : keyword_of (word_of (b.head ∷ (b.tail ++ 59 ∷ rest))) ≡ keyword.Other = subst (λ s. keyword_of (word_of s) ≡ keyword.Other) bytes (f.leads (59 ∷ rest) refl).no_keyword in
    let read : expr_at n (b.head ∷ (b.tail ++ 59 ∷ rest)) ≡ Some (a.0, 59 ∷ rest) = ap (expr_at n) (sym bytes) ∙ whole a.0 f n (59 ∷ rest) (omega (arith, depth)) refl in
    ap (kind_at (expr_at n) (stmt_at n) (block_at n)) (with_more rest ∙ bytes) ∙ rw (differ opens b.head 123 b.is refl, differ opens b.head 59 b.is refl, lead, read) refl)

-- ---- a block, also as the body of another statement

pub statements_fit : (ss : List Stmt) → list_all (λ p. is_statement p.look && p.fits) (map (on_stmt shaping) ss) ≡ true → (all_fit (map (on_stmt shaping) ss) ≡ true) × (are_statements ss ≡ true)
statements_fit [] h = (refl, refl)
statements_fit (s ∷ ss) h =
    let parts = and_parts (is_statement (on_stmt shaping s).look && (on_stmt shaping s).fits) (list_all (λ p. is_statement p.look && p.fits) (map (on_stmt shaping) ss)) h in
    let one = and_parts (is_statement (on_stmt shaping s).look) (on_stmt shaping s).fits parts.0 in
    let others = statements_fit ss parts.1 in
    (and_from (on_stmt shaping s).fits (all_fit (map (on_stmt shaping) ss)) one.1 others.0, and_from (is_statement (on_stmt shaping s).look) (are_statements ss) one.0 others.1)

pub reads_block : (ss : List HeldStmt) → ReadsStmtKind (StmtKind-F.Block (map (λ (h : HeldStmt). h.0) ss))
unfolding stmt_at block_at word_length
reads_block ss g =
    let items : List Stmt = map (λ (h : HeldStmt). h.0) ss in
    let x : StmtKindLayer Tree = StmtKind-F.Block items in
    let k : StmtKind = roll-StmtKind x in
    let good = good_stmt_kind x g in
    let fits = statements_fit items good.0 in
    let all = good_rows sort.Stmt items fits.0 good.1 in
    let text : stmt_text (made.stmt k) ≡ 123 ∷ (flat_map (λ t. t) (map stmt_text items) ++ 125 ∷ []) = stmt_text_of_made k ∙ at_stmt_kind writing_code x in
    let depth : depth_of_stmt (made.stmt k) ≡ suc (all_of 0 max (map depth_of_stmt items)) = stmt_depth_of_made k ∙ ap suc (at_stmt_kind (measuring nothing nothing) x) in
    let bytes : (rest : List ℕ) → stmt_text (made.stmt k) ++ rest ≡ 123 ∷ (flat_map stmt_text items ++ 125 ∷ rest) = λ rest. ap (λ s. s ++ rest) text ∙ ap (λ s. 123 ∷ s) (block_bytes items rest) in
    let list : (m : ℕ) (rest : List ℕ) → all_of 0 max (map depth_of_stmt items) ≤ m → list_by 125 (stmt_at m) (flat_map stmt_text items ++ 125 ∷ rest) ≡ Some (items, rest) = λ m rest d. stmts_read m ss rest all d in
    record {
      begins = record { head = 123; tail = flat_map (λ t. t) (map stmt_text items) ++ 125 ∷ []; whole = text; is = (refl, refl) };
      follows = λ more. subst NoElse (sym (bytes more)) refl;
      deep = omega (arith, depth);
      reads = λ n rest d free. ap (stmt_at n) (bytes rest) ∙ as_statement n rest list fits.1 (omega (arith, depth, d));
      block = λ is. record {
        ends = λ more. ap ends_word (bytes more);
        reads = λ n rest d. ap (block_at n) (bytes rest) ∙ as_body n rest list fits.1 (omega (arith, depth, d));
      };
    }
  where
    items' : List Stmt
    items' = map (λ (h : HeldStmt). h.0) ss

    IsRead : Type 0
    IsRead = (m : ℕ) (rest : List ℕ) → all_of 0 max (map depth_of_stmt items') ≤ m → list_by 125 (stmt_at m) (flat_map stmt_text items' ++ 125 ∷ rest) ≡ Some (items', rest)

    as_statement : (n : ℕ) (rest : List ℕ) → IsRead → are_statements items' ≡ true → suc (all_of 0 max (map depth_of_stmt items')) ≤ n → stmt_at n (123 ∷ (flat_map stmt_text items' ++ 125 ∷ rest)) ≡ Some (made.stmt (roll-StmtKind (StmtKind-F.Block items')), rest)
    as_statement zero rest list plain d = absurd (omega arith)
    as_statement (suc n) rest list plain d = rw (list n rest (omega arith), plain) refl

    as_body : (n : ℕ) (rest : List ℕ) → IsRead → are_statements items' ≡ true → suc (all_of 0 max (map depth_of_stmt items')) ≤ n → block_at n (123 ∷ (flat_map stmt_text items' ++ 125 ∷ rest)) ≡ Some (made.stmt (roll-StmtKind (StmtKind-F.Block items')), rest)
    as_body zero rest list plain d = absurd (omega arith)
    as_body (suc n) rest list plain d = rw (list n rest (omega arith), plain) refl

-- ---- no code has a service

pub reads_service : (f : HeldFunction) → ReadsStmtKind (StmtKind-F.Service f.0)
reads_service f g = let good = good_stmt_kind (StmtKind-F.Service f.0) g in absurd (never good.1.plain_code)
  where
    never : false ≡ true → ⊥
    never e = cc
