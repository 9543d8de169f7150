-- Names, declarations, properties and functions are read from their texts.
use Rattle.std.proofs.Common.{◌≡◌, ℕ, ◌≤◌, max, Bool, true, false, ◌&&◌, List, [], ◌∷◌, ◌++◌, map, Option, Some, None, refl, sym, ap, ◌∙◌, append_assoc, arith}
use Rattle.std.specs.Prelude.{option_map}
use Rattle.std.specs.List.{flat_map, list_all}
use Rattle.std.specs.Str.{all_scalars}
use Rattle.std.proofs.lemmas.Bool.{and_parts, le-leb}
use Rattle.mt_tree.specs.Text.{units_of}
use Rattle.mt_syntax.specs.CodeText.{code_escaped, decl_text, expr_text, function_text, literal, name_text, named, prop_text, stmt_text, writing_code}
use Rattle.mt_syntax.specs.Codes.{mark_is_nowhere, name_is_nowhere, testing_nowhere}
use Rattle.mt_syntax.specs.DataText.{separated}
use Rattle.mt_syntax.specs.Depth.{depth_of_expr, depth_of_stmt, measuring, nothing}
use Rattle.mt_syntax.specs.Fold.{on_expr, on_stmt}
use Rattle.mt_syntax.specs.Gathering.{all_of}
use Rattle.mt_syntax.specs.Shape.{all_fit, mark_fits, shaping}
use Rattle.mt_syntax.specs.Sort as sort
use Rattle.mt_syntax.specs.declared.tree.Decl.{Decl, roll-Decl}
use Rattle.mt_syntax.specs.declared.tree.Expr.{Expr}
use Rattle.mt_syntax.specs.declared.tree.Function.{Function, roll-Function}
use Rattle.mt_syntax.specs.declared.tree.Mark.{Mark}
use Rattle.mt_syntax.specs.declared.tree.Prop.{Prop, roll-Prop}
use Rattle.mt_syntax.specs.declared.tree.Stmt.{Stmt}
use Rattle.mt_syntax_laws.proofs.Related.{at_decl, at_function, at_prop}
use Rattle.mt_syntax.specs.Texts.{length_of_own_name}
use Rattle.mt_json.proofs.Again.{Begins}
use Rattle.mt_script_words.specs.Words.{is_short, is_word_byte, mark_at, unplaced_mark, word_length}
use Rattle.mt_script_words.proofs.LiteralTexts.{text_read}
use Rattle.mt_script_words.proofs.WordTexts.{ends_word, mark_read, name_begins}
use Rattle.mt_script_tree.specs.Expressions.{function_at, own_name_at, prop_at}
use Rattle.mt_script_tree.specs.Lists.{list_by}
use Rattle.mt_script_tree.specs.Made as made
use Rattle.mt_script_tree.specs.Reading.{expr_at, stmt_at}
use Rattle.mt_script_tree.specs.Statements.{decl_at}
use Rattle.mt_script_read.proofs.Ends.{closes, closes_word, closing, differ}
use Rattle.mt_script_read.proofs.Facts.{DeclFacts, FunctionFacts, NoElse, PropFacts, StmtFacts, depth_of_decl, depth_of_function, depth_of_prop, whole}
use Rattle.mt_script_read.proofs.Goodness.{AllGood, AreClean, AreMarks, FunctionClean, Good, IsClean, IsMark, IsMarkIfAny, good_decl, good_function, good_prop, good_rows, mark_is, marks_are}
use Rattle.mt_script_read.proofs.Heads.{HeldExpr}
use Rattle.mt_script_read.proofs.Items.{AreItems, AreNext, IsInside, list_read, nexts_by_length}
use Rattle.mt_tree.specs.Limits.{text_limit}

-- ---- names

pub mark_again : (m : Mark) → IsMark m → (more : List ℕ) → ends_word more ≡ true → mark_at (name_text m ++ more) ≡ Some (m, more)
mark_again m is more e =
    let same : unplaced_mark m.name ≡ m = λ i. record { place = sym is.place i; name = m.name } in
    mark_read m.name more is.name is.short e ∙ ap (λ (x : Mark). Some (x, more)) same

pub name_inside : (m : Mark) → IsMark m → (close : ℕ) → is_word_byte close ≡ false → Begins (name_text m) (IsInside close)
name_inside m is close shut =
    let b = name_begins m.name is.name in
    record { head = b.head; tail = b.tail; whole = b.whole; is = (differ is_word_byte b.head close b.is.0 shut, differ is_word_byte b.head 44 b.is.0 refl) }

parameter_items : (ms : List Mark) → AreMarks ms → AreItems name_text 41 mark_at ms
parameter_items [] is = tt
parameter_items (m ∷ ms) is = (record { begins = name_inside m is.0 41 refl; reads = λ more h. mark_again m is.0 more (closes_word more h) }, parameter_items ms is.1)

-- ---- declarations

begins_with : (front more all : List ℕ) (P : ℕ → Type 0) → all ≡ front ++ more → Begins front P → Begins all P
begins_with front more all P e b = record { head = b.head; tail = b.tail ++ more; whole = e ∙ ap (λ s. s ++ more) b.whole; is = b.is }

abbrev pub ReadsDecl : Mark → Option Expr → Type 0
ReadsDecl name value = Good sort.Decl (roll-Decl (record { name = name; value = value })) → DeclFacts (made.decl name value)

value_again : (n : ℕ) (name : Mark) (more : List ℕ) → IsMark name → closes more ≡ true → decl_at (expr_at n) (name_text name ++ more) ≡ Some (made.decl name None, more)
value_again n name [] is h = absurd cc
value_again n name (b ∷ more) is h = rw (mark_again name is (b ∷ more) (closes_word (b ∷ more) h), (closing b more h).no_value) refl

pub reads_decl : (name : Mark) (value : Option HeldExpr) → ReadsDecl name (option_map (λ (h : HeldExpr). h.0) value)
reads_decl name None g =
    let good = good_decl (record { name = name; value = None }) g in
    let fits = and_parts (mark_fits name) true good.0 in
    let places = and_parts (mark_is_nowhere name) true good.1.no_places in
    let mark = mark_is name fits.0 places.0 (omega (arith, good.1.short_texts)) in
    let b = name_inside name mark 59 refl in
    let text : decl_text (made.decl name None) ≡ name_text name ++ [] = at_decl writing_code (record { name = name; value = None }) in
    record {
      begins = begins_with (name_text name) [] (decl_text (made.decl name None)) (IsInside 59) text b;
      reads = λ n more deep h. ap (λ s. decl_at (expr_at n) (s ++ more)) text ∙ ap (decl_at (expr_at n)) (append_assoc (name_text name) [] more) ∙ value_again n name more mark h;
    }
reads_decl name (Some e) g =
    let good = good_decl (record { name = name; value = Some e.0 }) g in
    let fits = and_parts (mark_fits name) (on_expr shaping e.0).fits good.0 in
    let places = and_parts (mark_is_nowhere name) (on_expr testing_nowhere e.0) good.1.no_places in
    let mark = mark_is name fits.0 places.0 (omega (arith, good.1.short_texts)) in
    let clean : IsClean sort.Expr e.0 = record { plain_code = good.1.plain_code; filled_code = good.1.filled_code; no_places = places.1; short_texts = omega (arith, good.1.short_texts); small_values = good.1.small_values } in
    let f = e.1 (record { shaped = fits.1; clean = clean }) in
    let b = name_inside name mark 59 refl in
    let d : Decl = made.decl name (Some e.0) in
    let text : decl_text d ≡ name_text name ++ (61 ∷ expr_text e.0) = at_decl writing_code (record { name = name; value = Some e.0 }) in
    let depth : depth_of_decl d ≡ depth_of_expr e.0 = at_decl (measuring nothing nothing) (record { name = name; value = Some e.0 }) in
    record {
      begins = begins_with (name_text name) (61 ∷ expr_text e.0) (decl_text d) (IsInside 59) text b;
      reads = λ n more deep h.
          let bytes : decl_text d ++ more ≡ name_text name ++ 61 ∷ (expr_text e.0 ++ more) = ap (λ s. s ++ more) text ∙ append_assoc (name_text name) (61 ∷ expr_text e.0) more in
          ap (decl_at (expr_at n)) bytes ∙ rw (mark_again name mark (61 ∷ (expr_text e.0 ++ more)) refl, whole e.0 f n more (omega (arith, depth)) h) refl;
    }

-- ---- properties

abbrev pub ReadsProp : List ℕ → Expr → Type 0
ReadsProp name value = Good sort.Prop (roll-Prop (record { name = name; value = value })) → PropFacts (made.prop name value)

pub reads_prop : (name : List ℕ) (e : HeldExpr) → ReadsProp name e.0
reads_prop name e g =
    let p : Prop = made.prop name e.0 in
    let good = good_prop (record { name = name; value = e.0 }) g in
    let fits = and_parts (all_scalars name) (on_expr shaping e.0).fits good.0 in
    let short : is_short name ≡ true = le-leb (units_of name) text_limit (omega (arith, good.1.short_texts)) in
    let clean : IsClean sort.Expr e.0 = record { plain_code = good.1.plain_code; filled_code = good.1.filled_code; no_places = good.1.no_places; short_texts = omega (arith, good.1.short_texts); small_values = good.1.small_values } in
    let f = e.1 (record { shaped = fits.1; clean = clean }) in
    let text : prop_text p ≡ literal name ++ (58 ∷ expr_text e.0) = at_prop writing_code (record { name = name; value = e.0 }) in
    let depth : depth_of_prop p ≡ depth_of_expr e.0 = at_prop (measuring nothing nothing) (record { name = name; value = e.0 }) in
    record {
      begins = record { head = 34; tail = (flat_map code_escaped name ++ 34 ∷ []) ++ (58 ∷ expr_text e.0); whole = text; is = (refl, refl) };
      reads = λ n more deep h.
          let bytes : prop_text p ++ more ≡ 34 ∷ (flat_map code_escaped name ++ 34 ∷ 58 ∷ (expr_text e.0 ++ more)) = ap (λ s. s ++ more) text ∙ simp append_assoc in
          ap (prop_at (expr_at n)) bytes ∙ rw (text_read name (58 ∷ (expr_text e.0 ++ more)) fits.0 short, whole e.0 f n more (omega (arith, depth)) h) refl;
    }

-- ---- statements, one directly behind the other

abbrev pub HeldStmt : Type 0
HeldStmt = (s : Stmt) × (Good sort.Stmt s → StmtFacts s)

pub stmts_next : (n : ℕ) (ss : List HeldStmt) → AllGood sort.Stmt (map (λ (h : HeldStmt). h.0) ss)
    → all_of 0 max (map depth_of_stmt (map (λ (h : HeldStmt). h.0) ss)) ≤ n → AreNext stmt_text 125 (stmt_at n) NoElse (map (λ (h : HeldStmt). h.0) ss)
stmts_next n [] g deep = tt
stmts_next n (h ∷ ss) g deep =
    let f = h.1 g.0 in (record { begins = f.begins; reads = λ more no. f.reads n more (omega arith) no; follows = f.follows }, stmts_next n ss g.1 (omega arith))

pub no_else : (rest : List ℕ) → NoElse (125 ∷ rest)
unfolding word_length
no_else rest = refl

pub stmts_read : (n : ℕ) (ss : List HeldStmt) (rest : List ℕ) → AllGood sort.Stmt (map (λ (h : HeldStmt). h.0) ss) → all_of 0 max (map depth_of_stmt (map (λ (h : HeldStmt). h.0) ss)) ≤ n
    → list_by 125 (stmt_at n) (flat_map stmt_text (map (λ (h : HeldStmt). h.0) ss) ++ 125 ∷ rest) ≡ Some (map (λ (h : HeldStmt). h.0) ss, rest)
stmts_read n ss rest g deep = nexts_by_length stmt_text 125 (stmt_at n) NoElse (map (λ (h : HeldStmt). h.0) ss) rest (stmts_next n ss g deep) (no_else rest)

-- ---- functions

flat_by_map : {A B : Type 0} (f : A → List B) (xs : List A) → flat_map (λ ys. ys) (map f xs) ≡ flat_map f xs
flat_by_map f [] = refl
flat_by_map f (x ∷ xs) = ap (λ s. f x ++ s) (flat_by_map f xs)

-- the text of a block, and what stands behind it
pub block_bytes : (ss : List Stmt) (rest : List ℕ) → (flat_map (λ t. t) (map stmt_text ss) ++ 125 ∷ []) ++ rest ≡ flat_map stmt_text ss ++ 125 ∷ rest
block_bytes ss rest = append_assoc (flat_map (λ t. t) (map stmt_text ss)) (125 ∷ []) rest ∙ ap (λ s. s ++ 125 ∷ rest) (flat_by_map stmt_text ss)

-- whether a function's own name has the form of one
abbrev pub name_fits : Option Mark → Bool
name_fits None = true
name_fits (Some m) = mark_fits m

own_name_read : (name : Option Mark) → IsMarkIfAny name → (more : List ℕ) → own_name_at (named name ++ 40 ∷ more) ≡ Some (name, 40 ∷ more)
own_name_read None is more = refl
own_name_read (Some m) is more = rw (mark_again m is (40 ∷ more) refl) refl

own_name_is : (name : Option Mark) → name_fits name ≡ true → name_is_nowhere name ≡ true → length_of_own_name name ≤ text_limit → IsMarkIfAny name
own_name_is None fits no_where short = tt
own_name_is (Some m) fits no_where short = mark_is m fits no_where short

own_name_ends : (name : Option Mark) (more : List ℕ) → ends_word (named name ++ 40 ∷ more) ≡ true
own_name_ends None more = refl
own_name_ends (Some m) more = refl

abbrev pub ReadsFunction : Option Mark → List Mark → List Stmt → Type 0
ReadsFunction name parameters body = Good sort.Function (roll-Function (record { name = name; parameters = parameters; body = body })) → FunctionFacts (made.function name parameters body)

function_by : (name : Option Mark) (parameters : List Mark) (ss : List HeldStmt)
    → ((name_fits name && list_all mark_fits parameters) && all_fit (map (on_stmt shaping) (map (λ (h : HeldStmt). h.0) ss))) ≡ true → FunctionClean (record { name = name; parameters = parameters; body = map (λ (h : HeldStmt). h.0) ss })
    → FunctionFacts (made.function name parameters (map (λ (h : HeldStmt). h.0) ss))
function_by name parameters ss fit clean' =
    let body : List Stmt = map (λ (h : HeldStmt). h.0) ss in
    let f : Function = made.function name parameters body in
    let fits = and_parts (name_fits name && list_all mark_fits parameters) (all_fit (map (on_stmt shaping) body)) fit in
    let names = and_parts (name_fits name) (list_all mark_fits parameters) fits.0 in
    let places = and_parts (name_is_nowhere name && list_all mark_is_nowhere parameters) (all_of true (λ a b. a && b) (map (on_stmt testing_nowhere) body)) clean'.no_places in
    let no_names = and_parts (name_is_nowhere name) (list_all mark_is_nowhere parameters) places.0 in
    let own = own_name_is name names.0 no_names.0 (omega (arith, clean'.short_texts)) in
    let marks = marks_are parameters names.1 no_names.1 (omega (arith, clean'.short_texts)) in
    let clean : AreClean sort.Stmt body = record { plain_code = clean'.plain_code; filled_code = clean'.filled_code; no_places = places.1; short_texts = omega (arith, clean'.short_texts); small_values = clean'.small_values } in
    let all = good_rows sort.Stmt body fits.1 clean in
    let text : function_text f ≡ named name ++ (40 ∷ (separated (map name_text parameters) ++ (41 ∷ 123 ∷ (flat_map (λ t. t) (map stmt_text body) ++ 125 ∷ [])))) = at_function writing_code (record { name = name; parameters = parameters; body = body }) in
    let depth : depth_of_function f ≡ all_of 0 max (map depth_of_stmt body) = at_function (measuring nothing nothing) (record { name = name; parameters = parameters; body = body }) in
    let bytes : (rest : List ℕ) → function_text f ++ rest ≡ named name ++ 40 ∷ (separated (map name_text parameters) ++ 41 ∷ 123 ∷ ((flat_map (λ t. t) (map stmt_text body) ++ 125 ∷ []) ++ rest)) =
    λ rest. ap (λ s. s ++ rest) text ∙ simp append_assoc in
    record {
      ends = λ more. ap ends_word (bytes more) ∙ own_name_ends name _;
      reads = λ n rest deep.
          let block : List ℕ = flat_map stmt_text body ++ 125 ∷ rest in
          let same : (flat_map (λ t. t) (map stmt_text body) ++ 125 ∷ []) ++ rest ≡ block = block_bytes body rest in
          let list : list_by 41 mark_at (separated (map name_text parameters) ++ 41 ∷ 123 ∷ block) ≡ Some (parameters, 123 ∷ block) =
          list_read name_text 41 mark_at refl (λ r. refl) parameters (123 ∷ block) (parameter_items parameters marks) in
          ap (function_at (stmt_at n)) (bytes rest ∙ ap (λ s. named name ++ 40 ∷ (separated (map name_text parameters) ++ 41 ∷ 123 ∷ s)) same)
          ∙ rw (own_name_read name own (separated (map name_text parameters) ++ 41 ∷ 123 ∷ block), list, stmts_read n ss rest all (omega (arith, depth))) refl;
    }

pub reads_function : (name : Option Mark) (parameters : List Mark) (ss : List HeldStmt) → ReadsFunction name parameters (map (λ (h : HeldStmt). h.0) ss)
reads_function None parameters ss g = let good = good_function (record { name = None; parameters = parameters; body = map (λ (h : HeldStmt). h.0) ss }) g in function_by None parameters ss good.0 good.1
reads_function (Some m) parameters ss g = let good = good_function (record { name = Some m; parameters = parameters; body = map (λ (h : HeldStmt). h.0) ss }) g in function_by (Some m) parameters ss good.0 good.1
