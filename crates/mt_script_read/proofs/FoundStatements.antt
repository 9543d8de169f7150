-- Whatever is read as a statement is good.
use Rattle.std.proofs.Common.{◌≡◌, ℕ, zero, suc, ◌+◌, max, Bool, true, ◌&&◌, eqb, List, [], ◌∷◌, map, length, drop, Option, Some, None, refl, ap, subst, ◌∙◌, arith}
use Rattle.std.specs.Prelude.{codes, option_map}
use Rattle.std.specs.List.{list_all}
use Rattle.std.specs.Str.{bytes_eq}
use Rattle.std.proofs.lemmas.Bool.{and_from, and_parts}
use Rattle.mt_syntax.specs.Codes.{mark_is_nowhere, testing_filled, testing_nowhere, testing_plain}
use Rattle.mt_syntax.specs.Fold.{on_decl, on_expr, on_for_start, on_function, on_stmt}
use Rattle.mt_syntax.specs.Gathering.{or_none}
use Rattle.mt_syntax.specs.Shape.{all_fit, block_fits, decls_fit, is_block, is_named, is_some_item, is_statement, is_valued, mark_fits, optional_fits, shaping}
use Rattle.mt_syntax.specs.Sort as sort
use Rattle.mt_syntax.specs.Substitution.{nowhere}
use Rattle.mt_syntax.specs.declared.tree.Decl.{Decl, out-Decl, roll-Decl, roll-out-Decl}
use Rattle.mt_syntax.specs.declared.tree.Expr.{Expr}
use Rattle.mt_syntax.specs.declared.tree.ForStart.{ForStart}
use Rattle.mt_syntax.specs.declared.tree.Function.{Function, out-Function, roll-Function, roll-out-Function}
use Rattle.mt_syntax.specs.declared.tree.Mark.{Mark}
use Rattle.mt_syntax.specs.declared.tree.Stmt.{Stmt}
use Rattle.mt_syntax.specs.declared.tree.StmtKind.{StmtKind, roll-StmtKind}
use Rattle.mt_tree.specs.declared.operators.VarKind.{VarKind}
use Rattle.mt_tree.specs.declared.operators.VarKind.TheVariants as words
use Rattle.mt_syntax.specs.declared.tree.ExprKind.TheOpen.{ForStart-F, StmtKind-F}
use Rattle.mt_syntax_laws.proofs.Related.{at_decl, at_function, at_stmt, at_stmt_kind}
use Rattle.mt_syntax.specs.Texts.{measuring_texts}
use Rattle.mt_json.specs.Reading.{Parse, first_at}
use Rattle.mt_script_words.proofs.Found.{Finds, finds, finds_if, finds_nothing, then_finds}
use Rattle.mt_script_words.specs.Keywords.{keyword_of}
use Rattle.mt_script_words.specs.Words.{after_word, mark_at, word_of}
use Rattle.mt_script_words.specs.declared.keywords.Keyword.{Keyword}
use Rattle.mt_script_words.specs.declared.keywords.Keyword.TheVariants as keyword
use Rattle.mt_script_tree.specs.Expressions.{function_at}
use Rattle.mt_script_tree.specs.Lists.{list_by}
use Rattle.mt_script_tree.specs.Made as made
use Rattle.mt_script_tree.specs.Reading.{block_at, expr_at, stmt_at, stmt_step, stmts_at, stmts_by}
use Rattle.mt_script_tree.specs.Statements.{are_declared, are_statements, block_by, decl_at, declare_at, declared_function_at, decls_at, else_at, expression_at, for_at, has_value, if_at, is_plain_statement, is_present, items_at, kind_at, kind_from, led_at, part_at, return_at, start_at, stmt_by, throw_at, try_at, value_at, while_at}
use Rattle.mt_script_read.specs.Readable.{IsReadable}
use Rattle.mt_script_read.proofs.Limits.{good_is_readable}
use Rattle.mt_script_read.proofs.Found.{GoodExpr, Known, Yields, function_yields, gives, known, list_yields, many_yields, made_stmt, mark_nowhere, mark_short, mark_yields, reading}
use Rattle.mt_script_read.proofs.FoundExpressions.{expr_yields}
use Rattle.mt_script_read.proofs.Goodness.{Clean, Each, Good, GoodIfAny, IfAny, IsMark, decl_good, fits_if_any, for_start_good, nothing_clean, rows_clean, rows_fit, stmt_kind_good, testing_within, with_clean}

abbrev GoodStmt : Stmt → Type 0
GoodStmt = Good sort.Stmt

abbrev GoodKind : StmtKind → Type 0
GoodKind = Good sort.StmtKind

abbrev GoodStart : ForStart → Type 0
GoodStart = Good sort.ForStart

abbrev KindFound : Option (StmtKind × List ℕ) → Type 0
KindFound = Finds (λ (y : StmtKind × List ℕ). GoodKind y.0)

-- the body of another statement
pub record IsBody (s : Stmt) : Type 0 where
  pub good : GoodStmt s
  pub block : is_block (on_stmt shaping s).look ≡ true

body_fits : (s : Stmt) → IsBody s → block_fits (on_stmt shaping s) ≡ true
body_fits s b = and_from (is_block (on_stmt shaping s).look) (on_stmt shaping s).fits b.block b.good.shaped

-- ---- declarations

made_decl : (name : Mark) (value : Option Expr) → IsMark name → GoodIfAny sort.Expr value → Good sort.Decl (made.decl name value)
made_decl name None is g =
    decl_good (record { name = name; value = None }) (and_from (mark_fits name) true is.name refl)
    (record { plain_code = refl; filled_code = refl; no_places = and_from (mark_is_nowhere name) true (mark_nowhere name is) refl; short_texts = omega (arith, mark_short name is); small_values = refl })
made_decl name (Some e) is g =
    decl_good (record { name = name; value = Some e }) (and_from (mark_fits name) (on_expr shaping e).fits is.name g.shaped)
    (record {
      plain_code = g.clean.plain_code;
      filled_code = g.clean.filled_code;
      no_places = and_from (mark_is_nowhere name) (on_expr testing_nowhere e) (mark_nowhere name is) g.clean.no_places;
      short_texts = omega (arith, mark_short name is, g.clean.short_texts);
      small_values = g.clean.small_values;
    })

value_is : (name : Mark) (value : Option Expr) → is_present value ≡ true → is_valued (on_decl shaping (roll-Decl (record { name = name; value = value }))).look ≡ true
value_is name None h = absurd cc
value_is name (Some e) h = ap (λ p. is_valued p.look) (at_decl shaping (record { name = name; value = Some e }))

has_valued : (d : Decl) → has_value d ≡ true → is_valued (on_decl shaping d).look ≡ true
has_valued d h = subst (λ x. is_valued (on_decl shaping x).look ≡ true) (roll-out-Decl d) (value_is (out-Decl d).name (out-Decl d).value h)

all_valued : (ds : List Decl) → list_all has_value ds ≡ true → Each (Good sort.Decl) ds → list_all (λ d. is_valued d.look && d.fits) (map (on_decl shaping) ds) ≡ true
all_valued [] h all = refl
all_valued (d ∷ ds) h all =
    let parts = and_parts (has_value d) (list_all has_value ds) h in
    and_from (is_valued (on_decl shaping d).look && (on_decl shaping d).fits) (list_all (λ d. is_valued d.look && d.fits) (map (on_decl shaping) ds))
    (and_from (is_valued (on_decl shaping d).look) (on_decl shaping d).fits (has_valued d parts.0) all.0.shaped) (all_valued ds parts.1 all.1)

some_part : (ds : List Decl) → is_some_item ds ≡ true → is_some_item (map (on_decl shaping) ds) ≡ true
some_part [] h = h
some_part (d ∷ ds) h = refl

decls_good : (word : VarKind) (ds : List Decl) → are_declared word ds ≡ true → Each (Good sort.Decl) ds → decls_fit word (map (on_decl shaping) ds) ≡ true
decls_good words.Var ds h all = and_from (is_some_item (map (on_decl shaping) ds)) (all_fit (map (on_decl shaping) ds)) (some_part ds h) (rows_fit sort.Decl ds all)
decls_good words.Let ds h all = and_from (is_some_item (map (on_decl shaping) ds)) (all_fit (map (on_decl shaping) ds)) (some_part ds h) (rows_fit sort.Decl ds all)
decls_good words.Const ds h all =
    let parts = and_parts (is_some_item ds) (list_all has_value ds) h in
    and_from (is_some_item (map (on_decl shaping) ds)) (list_all (λ d. is_valued d.look && d.fits) (map (on_decl shaping) ds)) (some_part ds parts.0) (all_valued ds parts.1 all)

-- declarations by a word
record Declared (word : VarKind) (ds : List Decl) : Type 0 where
  fit : decls_fit word (map (on_decl shaping) ds) ≡ true
  all : Each (Good sort.Decl) ds

module _ (expr : Parse Expr) (e : Yields GoodExpr expr) where
  value_yields : Yields (GoodIfAny sort.Expr) (value_at expr)
  value_yields bytes =
      then_finds {P = Known} {Q = λ (y : Option Expr × List ℕ). GoodIfAny sort.Expr y.0} (first_at bytes) _ (known (first_at bytes))
      (λ p k. finds_if (eqb p.0 61) _ (Some (None, p.0 ∷ p.1)) (λ h. reading GoodExpr (GoodIfAny sort.Expr) (expr p.1) _ (e p.1) (λ x g. gives (GoodIfAny sort.Expr) (Some x.0) x.1 g))
      (λ h. gives (GoodIfAny sort.Expr) None (p.0 ∷ p.1) tt))

  decl_yields : Yields (Good sort.Decl) (decl_at expr)
  decl_yields bytes =
      reading IsMark (Good sort.Decl) (mark_at bytes) _ (mark_yields bytes)
      (λ m is. reading (GoodIfAny sort.Expr) (Good sort.Decl) (value_at expr m.1) _ (value_yields m.1) (λ v g. gives (Good sort.Decl) _ v.1 (made_decl m.0 v.0 is g)))

  decls_yields : (word : VarKind) → Yields (Declared word) (decls_at expr word)
  decls_yields word bytes =
      reading (Each (Good sort.Decl)) (Declared word) (list_by 59 (decl_at expr) bytes) _ (list_yields (Good sort.Decl) 59 (decl_at expr) decl_yields bytes)
      (λ ds all. finds_if (are_declared word ds.0) (Some (ds.0, ds.1)) None (λ h. gives (Declared word) ds.0 ds.1 (record { fit = decls_good word ds.0 h all; all = all })) (λ h. finds_nothing _))

  declare_yields : (word : VarKind) → Yields GoodKind (declare_at expr word)
  declare_yields word bytes =
      reading (Declared word) GoodKind (decls_at expr word (drop 1 bytes)) _ (decls_yields word (drop 1 bytes))
      (λ ds d. gives GoodKind _ ds.1 (stmt_kind_good (StmtKind-F.StmtKind::Var word ds.0) d.fit (rows_clean sort.Decl ds.0 d.all)))

  start_yields : Yields GoodStart (start_at expr)
  start_yields bytes =
      then_finds {P = Known} {Q = λ (y : ForStart × List ℕ). GoodStart y.0} (first_at bytes) _ (known (first_at bytes))
      (λ p k. finds_if (eqb p.0 59) _ _ (λ h. gives GoodStart _ p.1 (for_start_good ForStart-F.Absent refl nothing_clean))
      (λ h. finds_if (bytes_eq (codes "var") (word_of (p.0 ∷ p.1))) _ _
      (λ h. reading (Declared words.Var) GoodStart (decls_at expr words.Var (drop 4 (p.0 ∷ p.1))) _ (decls_yields words.Var (drop 4 (p.0 ∷ p.1)))
      (λ ds d. gives GoodStart _ ds.1 (for_start_good (ForStart-F.ForStart::Var ds.0) d.fit (rows_clean sort.Decl ds.0 d.all))))
      (λ h. reading GoodExpr GoodStart (expr (p.0 ∷ p.1)) _ (e (p.0 ∷ p.1)) (λ a g. gives GoodStart _ (drop 1 a.1) (for_start_good (ForStart-F.ForStart::Expr a.0) g.shaped g.clean)))))

  part_yields : (close : ℕ) → Yields (GoodIfAny sort.Expr) (part_at expr close)
  part_yields close bytes =
      then_finds {P = Known} {Q = λ (y : Option Expr × List ℕ). GoodIfAny sort.Expr y.0} (first_at bytes) _ (known (first_at bytes))
      (λ p k. finds_if (eqb p.0 close) (Some (None, p.1)) _ (λ h. gives (GoodIfAny sort.Expr) None p.1 tt)
      (λ h. reading GoodExpr (GoodIfAny sort.Expr) (expr (p.0 ∷ p.1)) _ (e (p.0 ∷ p.1)) (λ a g. gives (GoodIfAny sort.Expr) (Some a.0) (drop 1 a.1) g)))

  return_yields : Yields GoodKind (return_at expr)
  return_yields bytes =
      then_finds {P = Known} {Q = λ (y : StmtKind × List ℕ). GoodKind y.0} (first_at bytes) _ (known (first_at bytes))
      (λ p k. finds_if (eqb p.0 59) _ _ (λ h. gives GoodKind _ p.1 (stmt_kind_good (StmtKind-F.Return None) refl nothing_clean))
      (λ h. reading GoodExpr GoodKind (expr p.1) _ (e p.1) (λ a g. gives GoodKind _ (drop 1 a.1) (stmt_kind_good (StmtKind-F.Return (Some a.0)) g.shaped g.clean))))

  throw_yields : Yields GoodKind (throw_at expr)
  throw_yields bytes = reading GoodExpr GoodKind (expr (drop 1 bytes)) _ (e (drop 1 bytes)) (λ a g. gives GoodKind _ (drop 1 a.1) (stmt_kind_good (StmtKind-F.Throw a.0) g.shaped g.clean))

  expression_yields : Yields GoodKind (expression_at expr)
  expression_yields bytes = reading GoodExpr GoodKind (expr bytes) _ (e bytes) (λ a g. gives GoodKind _ (drop 1 a.1) (stmt_kind_good (StmtKind-F.StmtKind::Expr a.0) g.shaped g.clean))

-- ---- functions and blocks

named_fits : (name : Option Mark) (parameters : List Mark) (body : List Stmt) → is_present name ≡ true → is_named (on_function shaping (roll-Function (record { name = name; parameters = parameters; body = body }))).look ≡ true
named_fits None parameters body h = absurd cc
named_fits (Some m) parameters body h = ap (λ p. is_named p.look) (at_function shaping (record { name = Some m; parameters = parameters; body = body }))

is_named_by : (f : Function) → is_present (out-Function f).name ≡ true → is_named (on_function shaping f).look ≡ true
is_named_by f h = subst (λ x. is_named (on_function shaping x).look ≡ true) (roll-out-Function f) (named_fits (out-Function f).name (out-Function f).parameters (out-Function f).body h)

declared_yields : (stmt : Parse Stmt) → Yields GoodStmt stmt → Yields GoodKind (declared_function_at stmt)
declared_yields stmt s bytes =
    reading (Good sort.Function) GoodKind (function_at stmt bytes) _ (function_yields stmt s bytes)
    (λ f g. finds_if (is_present (out-Function f.0).name) _ None
    (λ h. gives GoodKind _ f.1 (stmt_kind_good (StmtKind-F.Function f.0) (and_from (is_named (on_function shaping f.0).look) (on_function shaping f.0).fits (is_named_by f.0 h) g.shaped) g.clean))
    (λ h. finds_nothing _))

record Items (ss : List Stmt) : Type 0 where
  plain : are_statements ss ≡ true
  all : Each GoodStmt ss

statements_fit : (ss : List Stmt) → are_statements ss ≡ true → Each GoodStmt ss → list_all (λ p. is_statement p.look && p.fits) (map (on_stmt shaping) ss) ≡ true
statements_fit [] h all = refl
statements_fit (s ∷ ss) h all =
    let parts = and_parts (is_plain_statement s) (are_statements ss) h in
    and_from (is_statement (on_stmt shaping s).look && (on_stmt shaping s).fits) (list_all (λ p. is_statement p.look && p.fits) (map (on_stmt shaping) ss))
    (and_from (is_statement (on_stmt shaping s).look) (on_stmt shaping s).fits parts.0 all.0.shaped) (statements_fit ss parts.1 all.1)

items_yields : (stmt : Parse Stmt) → Yields GoodStmt stmt → Yields Items (items_at stmt)
items_yields stmt s bytes =
    reading (Each GoodStmt) Items (list_by 125 stmt bytes) _ (list_yields GoodStmt 125 stmt s bytes)
    (λ ss all. finds_if (are_statements ss.0) (Some (ss.0, ss.1)) None (λ h. gives Items ss.0 ss.1 (record { plain = h; all = all })) (λ h. finds_nothing _))

block_good : (ss : List Stmt) → Items ss → GoodKind (made.stmt_kind (StmtKind-F.Block ss))
block_good ss i = stmt_kind_good (StmtKind-F.Block ss) (statements_fit ss i.plain i.all) (rows_clean sort.Stmt ss i.all)

block_look : (ss : List Stmt) → is_block (on_stmt shaping (made.stmt (made.stmt_kind (StmtKind-F.Block ss)))).look ≡ true
block_look ss = ap (λ p. is_block p.look) (at_stmt shaping (record { place = nowhere; kind = roll-StmtKind (StmtKind-F.Block ss) }) ∙ at_stmt_kind shaping (StmtKind-F.Block ss))

pub body_yields : (stmt : Parse Stmt) → Yields GoodStmt stmt → Yields IsBody (block_by stmt)
body_yields stmt s bytes =
    reading Items IsBody (items_at stmt (drop 1 bytes)) _ (items_yields stmt s (drop 1 bytes))
    (λ ss i. gives IsBody _ ss.1 (record { good = made_stmt (made.stmt_kind (StmtKind-F.Block ss.0)) (block_good ss.0 i); block = block_look ss.0 }))

-- ---- statements with bodies

-- an expression that may be absent, beside other parts
with_optional : {pl fi no : Bool} {lo : ℕ} {wi : Bool} (o : Option Expr) → GoodIfAny sort.Expr o → Clean pl fi no lo wi
    → Clean (or_none true (λ a b. a && b) (option_map (on_expr testing_plain) o) && pl) (or_none true (λ a b. a && b) (option_map (on_expr testing_filled) o) && fi) (or_none true (λ a b. a && b) (option_map (on_expr testing_nowhere) o) && no)
    (max (or_none 0 max (option_map (on_expr measuring_texts) o)) lo) (or_none true (λ a b. a && b) (option_map (on_expr testing_within) o) && wi)
with_optional None g c = record { plain_code = c.plain_code; filled_code = c.filled_code; no_places = c.no_places; short_texts = omega (arith, c.short_texts); small_values = c.small_values }
with_optional (Some e) g c = with_clean sort.Expr e g.clean c

module _ (block : Parse Stmt) (b : Yields IsBody block) where
  else_yields : Yields (IfAny IsBody) (else_at block)
  else_yields bytes =
      finds_if (bytes_eq (codes "else") (word_of bytes)) _ (Some (None, bytes)) (λ h. reading IsBody (IfAny IsBody) (block (drop 4 bytes)) _ (b (drop 4 bytes)) (λ s is. gives (IfAny IsBody) (Some s.0) s.1 is))
      (λ h. gives (IfAny IsBody) None bytes tt)

  try_yields : Yields GoodKind (try_at block)
  try_yields bytes =
      reading IsBody GoodKind (block bytes) _ (b bytes)
      (λ body is. reading IsMark GoodKind (mark_at (drop 6 body.1)) _ (mark_yields (drop 6 body.1))
      (λ m mark. reading IsBody GoodKind (block (drop 1 m.1)) _ (b (drop 1 m.1))
      (λ handler also. gives GoodKind _ handler.1 (try_good body.0 m.0 handler.0 is mark also))))
    where
      try_good : (s : Stmt) (name : Mark) (t : Stmt) → IsBody s → IsMark name → IsBody t → GoodKind (made.stmt_kind (StmtKind-F.Try s name t))
      try_good s name t is mark also =
          let c = is.good.clean in
          let d = also.good.clean in
          stmt_kind_good (StmtKind-F.Try s name t)
          (and_from (block_fits (on_stmt shaping s) && mark_fits name) (block_fits (on_stmt shaping t)) (and_from (block_fits (on_stmt shaping s)) (mark_fits name) (body_fits s is) mark.name) (body_fits t also))
          (record {
            plain_code = and_from (on_stmt testing_plain s) (on_stmt testing_plain t) c.plain_code d.plain_code;
            filled_code = and_from (on_stmt testing_filled s) (on_stmt testing_filled t) c.filled_code d.filled_code;
            no_places = and_from (on_stmt testing_nowhere s && mark_is_nowhere name) (on_stmt testing_nowhere t) (and_from (on_stmt testing_nowhere s) (mark_is_nowhere name) c.no_places (mark_nowhere name mark)) d.no_places;
            short_texts = omega (arith, c.short_texts, d.short_texts, mark_short name mark);
            small_values = and_from (on_stmt testing_within s) (on_stmt testing_within t) c.small_values d.small_values;
          })

module _ (expr : Parse Expr) (block : Parse Stmt) (e : Yields GoodExpr expr) (b : Yields IsBody block) where
  if_good : (test : Expr) (body : Stmt) (other : Option Stmt) → GoodExpr test → IsBody body → IfAny IsBody other → GoodKind (made.stmt_kind (StmtKind-F.If test body other))
  if_good test body None g is also =
      stmt_kind_good (StmtKind-F.If test body None)
      (and_from ((on_expr shaping test).fits && block_fits (on_stmt shaping body)) true (and_from (on_expr shaping test).fits (block_fits (on_stmt shaping body)) g.shaped (body_fits body is)) refl)
      (with_clean sort.Expr test g.clean (with_clean sort.Stmt body is.good.clean nothing_clean))
  if_good test body (Some other) g is also =
      stmt_kind_good (StmtKind-F.If test body (Some other))
      (and_from ((on_expr shaping test).fits && block_fits (on_stmt shaping body)) (block_fits (on_stmt shaping other)) (and_from (on_expr shaping test).fits (block_fits (on_stmt shaping body)) g.shaped (body_fits body is)) (body_fits other also))
      (with_clean sort.Expr test g.clean (with_clean sort.Stmt body is.good.clean also.good.clean))

  if_yields : Yields GoodKind (if_at expr block)
  if_yields bytes =
      reading GoodExpr GoodKind (expr (drop 1 bytes)) _ (e (drop 1 bytes))
      (λ t g. reading IsBody GoodKind (block (drop 1 t.1)) _ (b (drop 1 t.1))
      (λ s is. reading (IfAny IsBody) GoodKind (else_at block s.1) _ (else_yields block b s.1) (λ o also. gives GoodKind _ o.1 (if_good t.0 s.0 o.0 g is also))))

  while_yields : Yields GoodKind (while_at expr block)
  while_yields bytes =
      reading GoodExpr GoodKind (expr (drop 1 bytes)) _ (e (drop 1 bytes))
      (λ t g. reading IsBody GoodKind (block (drop 1 t.1)) _ (b (drop 1 t.1))
      (λ s is. gives GoodKind _ s.1 (stmt_kind_good (StmtKind-F.While t.0 s.0) (and_from (on_expr shaping t.0).fits (block_fits (on_stmt shaping s.0)) g.shaped (body_fits s.0 is)) (with_clean sort.Expr t.0 g.clean is.good.clean))))

  for_good : (start : ForStart) (test step : Option Expr) (body : Stmt) → GoodStart start → GoodIfAny sort.Expr test → GoodIfAny sort.Expr step → IsBody body → GoodKind (made.stmt_kind (StmtKind-F.For start test step body))
  for_good start None None body g h i is =
      stmt_kind_good (StmtKind-F.For start None None body)
      (and_from (((on_for_start shaping start).fits && optional_fits (option_map (on_expr shaping) None)) && optional_fits (option_map (on_expr shaping) None)) (block_fits (on_stmt shaping body))
      (and_from ((on_for_start shaping start).fits && optional_fits (option_map (on_expr shaping) None)) (optional_fits (option_map (on_expr shaping) None))
      (and_from (on_for_start shaping start).fits (optional_fits (option_map (on_expr shaping) None)) g.shaped (fits_if_any sort.Expr None h)) (fits_if_any sort.Expr None i)) (body_fits body is))
      (with_clean sort.ForStart start g.clean (with_optional None h (with_optional None i is.good.clean)))
  for_good start None (Some c) body g h i is =
      stmt_kind_good (StmtKind-F.For start None (Some c) body)
      (and_from (((on_for_start shaping start).fits && optional_fits (option_map (on_expr shaping) None)) && optional_fits (option_map (on_expr shaping) (Some c))) (block_fits (on_stmt shaping body))
      (and_from ((on_for_start shaping start).fits && optional_fits (option_map (on_expr shaping) None)) (optional_fits (option_map (on_expr shaping) (Some c)))
      (and_from (on_for_start shaping start).fits (optional_fits (option_map (on_expr shaping) None)) g.shaped (fits_if_any sort.Expr None h)) (fits_if_any sort.Expr (Some c) i)) (body_fits body is))
      (with_clean sort.ForStart start g.clean (with_optional None h (with_optional (Some c) i is.good.clean)))
  for_good start (Some a) None body g h i is =
      stmt_kind_good (StmtKind-F.For start (Some a) None body)
      (and_from (((on_for_start shaping start).fits && optional_fits (option_map (on_expr shaping) (Some a))) && optional_fits (option_map (on_expr shaping) None)) (block_fits (on_stmt shaping body))
      (and_from ((on_for_start shaping start).fits && optional_fits (option_map (on_expr shaping) (Some a))) (optional_fits (option_map (on_expr shaping) None))
      (and_from (on_for_start shaping start).fits (optional_fits (option_map (on_expr shaping) (Some a))) g.shaped (fits_if_any sort.Expr (Some a) h)) (fits_if_any sort.Expr None i)) (body_fits body is))
      (with_clean sort.ForStart start g.clean (with_optional (Some a) h (with_optional None i is.good.clean)))
  for_good start (Some a) (Some c) body g h i is =
      stmt_kind_good (StmtKind-F.For start (Some a) (Some c) body)
      (and_from (((on_for_start shaping start).fits && optional_fits (option_map (on_expr shaping) (Some a))) && optional_fits (option_map (on_expr shaping) (Some c))) (block_fits (on_stmt shaping body))
      (and_from ((on_for_start shaping start).fits && optional_fits (option_map (on_expr shaping) (Some a))) (optional_fits (option_map (on_expr shaping) (Some c)))
      (and_from (on_for_start shaping start).fits (optional_fits (option_map (on_expr shaping) (Some a))) g.shaped (fits_if_any sort.Expr (Some a) h)) (fits_if_any sort.Expr (Some c) i)) (body_fits body is))
      (with_clean sort.ForStart start g.clean (with_optional (Some a) h (with_optional (Some c) i is.good.clean)))

  for_yields : Yields GoodKind (for_at expr block)
  for_yields bytes =
      reading GoodStart GoodKind (start_at expr (drop 1 bytes)) _ (start_yields expr e (drop 1 bytes))
      (λ a g. reading (GoodIfAny sort.Expr) GoodKind (part_at expr 59 a.1) _ (part_yields expr e 59 a.1)
      (λ t h. reading (GoodIfAny sort.Expr) GoodKind (part_at expr 41 t.1) _ (part_yields expr e 41 t.1)
      (λ s i. reading IsBody GoodKind (block s.1) _ (b s.1) (λ d is. gives GoodKind _ d.1 (for_good a.0 t.0 s.0 d.0 g h i is)))))

-- ---- any statement

module _ (expr : Parse Expr) (stmt block : Parse Stmt) (e : Yields GoodExpr expr) (s : Yields GoodStmt stmt) (b : Yields IsBody block) where
  led_finds : (key : Keyword) (after bytes : List ℕ) → KindFound (led_at expr stmt block key after bytes)
  led_finds (keyword.Declare word) after bytes = declare_yields expr e word after
  led_finds keyword.Function after bytes = declared_yields stmt s after
  led_finds keyword.If after bytes = if_yields expr block e b after
  led_finds keyword.While after bytes = while_yields expr block e b after
  led_finds keyword.For after bytes = for_yields expr block e b after
  led_finds keyword.Return after bytes = return_yields expr e after
  led_finds keyword.Throw after bytes = throw_yields expr e after
  led_finds keyword.Break after bytes = gives GoodKind _ (drop 1 after) (stmt_kind_good StmtKind-F.Break refl nothing_clean)
  led_finds keyword.Continue after bytes = gives GoodKind _ (drop 1 after) (stmt_kind_good StmtKind-F.Continue refl nothing_clean)
  led_finds keyword.Try after bytes = try_yields block b after
  led_finds keyword.Other after bytes = expression_yields expr e bytes

  kind_finds : (c : ℕ) (bytes : List ℕ) → KindFound (kind_from expr stmt block c bytes)
  kind_finds c bytes =
      finds_if (eqb c 123) _ _ (λ h. reading Items GoodKind (items_at stmt bytes) _ (items_yields stmt s bytes) (λ ss i. gives GoodKind _ ss.1 (block_good ss.0 i)))
      (λ h. finds_if (eqb c 59) _ _ (λ h. gives GoodKind _ bytes (stmt_kind_good StmtKind-F.Empty refl nothing_clean))
      (λ h. led_finds (keyword_of (word_of (c ∷ bytes))) (after_word (c ∷ bytes)) (c ∷ bytes)))

  kind_yields : Yields GoodKind (kind_at expr stmt block)
  kind_yields bytes = then_finds {P = Known} {Q = λ (y : StmtKind × List ℕ). GoodKind y.0} (first_at bytes) _ (known (first_at bytes)) (λ p k. kind_finds p.0 p.1)

  pub stmt_yields : Yields GoodStmt (stmt_by expr stmt block)
  stmt_yields bytes = reading GoodKind GoodStmt (kind_at expr stmt block bytes) _ (kind_yields bytes) (λ k g. gives GoodStmt (made.stmt k.0) k.1 (made_stmt k.0 g))

-- ---- at any depth

mutual
  unfolding expr_at stmt_at block_at

  exprs_found : (n : ℕ) → Yields GoodExpr (expr_at n)
  exprs_found zero bytes = finds_nothing _
  exprs_found (suc n) bytes = expr_yields (expr_at n) (stmt_at n) (exprs_found n) (stmts_found n) (suc n) bytes

  stmts_found : (n : ℕ) → Yields GoodStmt (stmt_at n)
  stmts_found zero bytes = finds_nothing _
  stmts_found (suc n) bytes = stmt_yields (expr_at n) (stmt_at n) (block_at n) (exprs_found n) (stmts_found n) (bodies_found n) bytes

  bodies_found : (n : ℕ) → Yields IsBody (block_at n)
  bodies_found zero bytes = finds_nothing _
  bodies_found (suc n) bytes = body_yields (stmt_at n) (stmts_found n) bytes

step_finds : (n : ℕ) → Yields (IfAny GoodStmt) (stmt_step (stmt_at n))
step_finds n [] = gives (IfAny GoodStmt) None [] tt
step_finds n (c ∷ bytes) = reading GoodStmt (IfAny GoodStmt) (stmt_at n (c ∷ bytes)) _ (stmts_found n (c ∷ bytes)) (λ s g. gives (IfAny GoodStmt) (Some s.0) s.1 g)

code_found : (n : ℕ) (bytes : List ℕ) → Finds (Each GoodStmt) (stmts_at n bytes)
code_found n bytes =
    then_finds {P = λ (x : List Stmt × List ℕ). Each GoodStmt x.0} {Q = Each GoodStmt} (stmts_by (stmt_at n) bytes) _ (many_yields GoodStmt (stmt_step (stmt_at n)) (step_finds n) (length bytes + 1) bytes) (λ ss all. finds _ ss.0 all)

pub found_code_is_readable : (n : ℕ) (bytes : List ℕ) (body : List Stmt) → stmts_at n bytes ≡ Some body → IsReadable body
found_code_is_readable n bytes body found = good_is_readable body (code_found n bytes body found)
