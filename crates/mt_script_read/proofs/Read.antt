-- Code within the limits is read from its text.
use Rattle.std.proofs.Common.{◌≡◌, ℕ, zero, suc, ◌+◌, ◌<◌, ◌≤◌, true, false, List, [], ◌∷◌, ◌++◌, map, length, Option, Some, None, refl, sym, ap, subst, ◌∙◌, arith}
use Rattle.std.specs.List.{flat_map}
use Rattle.std.proofs.lemmas.Bool.{and_parts}
use Rattle.mt_syntax.specs.CodeText.{code_text, stmt_text}
use Rattle.mt_syntax.specs.Codes.{is_nowhere, testing_nowhere}
use Rattle.mt_syntax.specs.Depth.{depth_of, depth_of_stmt, greatest}
use Rattle.mt_syntax.specs.Fold.{ExprKindLayer, ExprLayer, ForStartLayer, StmtKindLayer, StmtLayer, on_expr_kind, on_stmt_kind}
use Rattle.mt_syntax.specs.Sort as sort
use Rattle.mt_syntax.specs.declared.tree.Expr.{roll-Expr}
use Rattle.mt_syntax.specs.declared.tree.ExprKind.{roll-ExprKind}
use Rattle.mt_syntax.specs.declared.tree.ForStart.{roll-ForStart}
use Rattle.mt_syntax.specs.declared.tree.Stmt.{Stmt, roll-Stmt}
use Rattle.mt_syntax.specs.declared.tree.StmtKind.{roll-StmtKind}
use Rattle.mt_syntax.specs.declared.tree.ExprKind.TheOpen.{ExprKind-F, ForStart-F, StmtKind-F}
use Rattle.mt_syntax.specs.declared.tree.Decl.{roll-Decl}
use Rattle.mt_syntax.specs.declared.tree.Mark.{Mark}
use Rattle.mt_syntax_laws.proofs.Layers.{map_decl, map_expr_kind, map_for_start, map_stmt_kind}
use Rattle.mt_json.specs.Reading.{many}
use Rattle.mt_script_words.specs.Words.{word_length}
use Rattle.mt_script_tree.specs.Made as made
use Rattle.mt_script_tree.specs.Reading.{stmt_at, stmt_step, stmts_at, stmts_by}
use Rattle.mt_script_read.proofs.Chained.{reads_call, reads_key}
use Rattle.mt_script_read.proofs.Bodies.{reads_for, reads_if, reads_if_else, reads_no_start, reads_start_declaration, reads_start_expression, reads_try, reads_while}
use Rattle.mt_script_read.proofs.Clauses.{reads_block, reads_break, reads_continue, reads_declaration, reads_empty, reads_expression, reads_function_statement, reads_return, reads_service, reads_throw}
use Rattle.mt_script_read.proofs.Facts.{ExprFacts, NoElse, Reads, StmtFacts}
use Rattle.mt_script_read.proofs.Goodness.{AllGood, Good, good_expr, good_expr_kind, good_stmt, no_place}
use Rattle.mt_script_read.proofs.Heads.{reads_array, reads_name, reads_null, reads_number, reads_object, reads_text, reads_truth, reads_undefined, reads_value}
use Rattle.mt_script_read.proofs.Induction.{Held, Inherited, stmt_has, tree}
use Rattle.mt_script_read.proofs.Items.{AreNext, enough_bytes}
use Rattle.mt_script_read.specs.Readable.{IsReadable}
use Rattle.mt_script_read.proofs.Limits.{readable_is_good}
use Rattle.mt_script_read.proofs.Marks as marks
use Rattle.mt_script_read.proofs.Marks.{HeldStmt, reads_decl, reads_prop}
use Rattle.mt_script_read.proofs.Operations.{reads_and, reads_assignment, reads_binary, reads_choice, reads_function, reads_or, reads_step, reads_unary}

never : {X : Type 0} → false ≡ true → X
never e = absurd cc

expr_kind_reads : (y : ExprKindLayer (Held Reads)) → Reads sort.ExprKind (roll-ExprKind (map_expr_kind (tree Reads) y))
expr_kind_reads (ExprKind-F.Name cs) = reads_name cs
expr_kind_reads (ExprKind-F.Num z) = reads_number z
expr_kind_reads (ExprKind-F.ExprKind::Text cs) = reads_text cs
expr_kind_reads (ExprKind-F.Bool b) = λ g. reads_truth b
expr_kind_reads ExprKind-F.Null = λ g. reads_null
expr_kind_reads ExprKind-F.Undefined = λ g. reads_undefined
expr_kind_reads (ExprKind-F.Arr items) = reads_array items
expr_kind_reads (ExprKind-F.Obj props) = reads_object props
expr_kind_reads (ExprKind-F.Fun function) = reads_function function
expr_kind_reads (ExprKind-F.Unary op a) = reads_unary a op
expr_kind_reads (ExprKind-F.Step step a) = reads_step a step
expr_kind_reads (ExprKind-F.Binary op a b) = reads_binary a b op
expr_kind_reads (ExprKind-F.And a b) = reads_and a b
expr_kind_reads (ExprKind-F.Or a b) = reads_or a b
expr_kind_reads (ExprKind-F.Cond a b c) = reads_choice a b c
expr_kind_reads (ExprKind-F.Assign op a b) = reads_assignment a b op
expr_kind_reads (ExprKind-F.Index a b) = reads_key a b
expr_kind_reads (ExprKind-F.Call a arguments) = reads_call a arguments
expr_kind_reads (ExprKind-F.ExprKind::Tilde id) = λ g. never (good_expr_kind (ExprKind-F.ExprKind::Tilde id) g).1.plain_code
expr_kind_reads (ExprKind-F.ExprKind::Dollar at) = λ g. never (good_expr_kind (ExprKind-F.ExprKind::Dollar at) g).1.filled_code
expr_kind_reads (ExprKind-F.Stray a) = λ g. never (good_expr_kind (ExprKind-F.Stray a.0) g).1.plain_code
expr_kind_reads (ExprKind-F.Markup markup) = λ g. never (good_expr_kind (ExprKind-F.Markup markup.0) g).1.plain_code
expr_kind_reads (ExprKind-F.Val d) = reads_value d

start_reads : (y : ForStartLayer (Held Reads)) → Reads sort.ForStart (roll-ForStart (map_for_start (tree Reads) y))
start_reads ForStart-F.Absent = reads_no_start
start_reads (ForStart-F.ForStart::Var decls) = reads_start_declaration decls
start_reads (ForStart-F.ForStart::Expr a) = reads_start_expression a

stmt_kind_reads : (y : StmtKindLayer (Held Reads)) → Reads sort.StmtKind (roll-StmtKind (map_stmt_kind (tree Reads) y))
stmt_kind_reads (StmtKind-F.StmtKind::Expr a) = reads_expression a
stmt_kind_reads (StmtKind-F.StmtKind::Var kind decls) = reads_declaration kind decls
stmt_kind_reads (StmtKind-F.Function function) = reads_function_statement function
stmt_kind_reads (StmtKind-F.Service function) = reads_service function
stmt_kind_reads (StmtKind-F.If test body None) = reads_if test body
stmt_kind_reads (StmtKind-F.If test body (Some other)) = reads_if_else test body other
stmt_kind_reads (StmtKind-F.While test body) = reads_while test body
stmt_kind_reads (StmtKind-F.For start None None body) = reads_for start None None body
stmt_kind_reads (StmtKind-F.For start None (Some step) body) = reads_for start None (Some step) body
stmt_kind_reads (StmtKind-F.For start (Some test) None body) = reads_for start (Some test) None body
stmt_kind_reads (StmtKind-F.For start (Some test) (Some step) body) = reads_for start (Some test) (Some step) body
stmt_kind_reads (StmtKind-F.Return None) = reads_return None
stmt_kind_reads (StmtKind-F.Return (Some value)) = reads_return (Some value)
stmt_kind_reads StmtKind-F.Break = reads_break
stmt_kind_reads StmtKind-F.Continue = reads_continue
stmt_kind_reads (StmtKind-F.Throw a) = reads_throw a
stmt_kind_reads (StmtKind-F.Try body name handler) = reads_try body name handler
stmt_kind_reads (StmtKind-F.Block items) = reads_block items
stmt_kind_reads StmtKind-F.Empty = reads_empty

expr_reads : (y : ExprLayer (Held Reads)) → Reads sort.Expr (roll-Expr (record { place = y.place; kind = y.kind.0 }))
expr_reads y g =
    let good = good_expr (record { place = y.place; kind = y.kind.0 }) g in
    let places = and_parts (is_nowhere y.place) (on_expr_kind testing_nowhere y.kind.0) good.1.no_places in
    let facts : ExprFacts (made.expr y.kind.0) =
    y.kind.1 (record { shaped = good.0; clean = record { plain_code = good.1.plain_code; filled_code = good.1.filled_code; no_places = places.1; short_texts = good.1.short_texts; small_values = good.1.small_values } }) in
    subst (λ p. ExprFacts (record { place = p; kind = y.kind.0 })) (sym (no_place y.place places.0)) facts

stmt_reads : (y : StmtLayer (Held Reads)) → Reads sort.Stmt (roll-Stmt (record { place = y.place; kind = y.kind.0 }))
stmt_reads y g =
    let good = good_stmt (record { place = y.place; kind = y.kind.0 }) g in
    let places = and_parts (is_nowhere y.place) (on_stmt_kind testing_nowhere y.kind.0) good.1.no_places in
    let facts : StmtFacts (made.stmt y.kind.0) =
    y.kind.1 (record { shaped = good.0; clean = record { plain_code = good.1.plain_code; filled_code = good.1.filled_code; no_places = places.1; short_texts = good.1.short_texts; small_values = good.1.small_values } }) in
    subst (λ p. StmtFacts (record { place = p; kind = y.kind.0 })) (sym (no_place y.place places.0)) facts

decl_reads : (name : Mark) (value : Option (Held Reads sort.Expr)) → Reads sort.Decl (roll-Decl (map_decl (tree Reads) (record { name = name; value = value })))
decl_reads name None = reads_decl name None
decl_reads name (Some value) = reads_decl name (Some value)

all_read : Inherited Reads
all_read = record {
  expr_kind = expr_kind_reads;
  for_start = start_reads;
  markup_child = λ y. tt;
  markup_value = λ y. tt;
  stmt_kind = stmt_kind_reads;
  decl = λ y. decl_reads y.name y.value;
  expr = expr_reads;
  function = λ y. marks.reads_function y.name y.parameters y.body;
  markup = λ y. tt;
  markup_attribute = λ y. tt;
  prop = λ y. reads_prop y.name y.value;
  stmt = stmt_reads;
}

pub stmt_facts : (s : Stmt) → Good sort.Stmt s → StmtFacts s
stmt_facts = stmt_has Reads all_read

-- ---- whole code

follows_end : (n : ℕ) (ss : List Stmt) → AreNext stmt_text 125 (stmt_at n) NoElse ss → NoElse (flat_map stmt_text ss)
unfolding word_length
follows_end n [] is = refl
follows_end n (s ∷ ss) is = is.0.follows (flat_map stmt_text ss)

to_the_end : (n : ℕ) (ss : List Stmt) (count : ℕ) → AreNext stmt_text 125 (stmt_at n) NoElse ss → length ss < count → many (stmt_step (stmt_at n)) count (flat_map stmt_text ss) ≡ Some (ss, [])
unfolding many
to_the_end n ss zero is lt = absurd (omega arith)
to_the_end n [] (suc k) is lt = refl
to_the_end n (s ∷ ss) (suc k) is lt =
    let more : List ℕ = flat_map stmt_text ss in
    let b = is.0.begins in
    let here : stmt_at n (b.head ∷ (b.tail ++ more)) ≡ Some (s, more) = ap (λ t. stmt_at n (t ++ more)) (sym b.whole) ∙ is.0.reads more (follows_end n ss is.1) in
    let one : stmt_step (stmt_at n) (stmt_text s ++ more) ≡ Some (Some s, more) = ap (λ t. stmt_step (stmt_at n) (t ++ more)) b.whole ∙ rw here refl in
    let others : many (stmt_step (stmt_at n)) k more ≡ Some (ss, []) = to_the_end n ss k is.1 (omega arith) in
    rw (one, others) refl

all_next : (n : ℕ) (ss : List Stmt) → AllGood sort.Stmt ss → greatest (map depth_of_stmt ss) ≤ n → AreNext stmt_text 125 (stmt_at n) NoElse ss
all_next n [] g deep = tt
all_next n (s ∷ ss) g deep =
    let f = stmt_facts s g.0 in (record { begins = f.begins; reads = λ more no. f.reads n more (omega arith) no; follows = f.follows }, all_next n ss g.1 (omega arith))

code_read : (n : ℕ) (body : List Stmt) → AllGood sort.Stmt body → depth_of body ≤ n → stmts_at n (code_text body) ≡ Some body
code_read n body g deep =
    let next = all_next n body g deep in
    let read : stmts_by (stmt_at n) (code_text body) ≡ Some (body, []) = to_the_end n body (length (code_text body) + 1) next (omega (arith, enough_bytes stmt_text 125 (stmt_at n) NoElse body next)) in
    rw read refl

pub readable_code_is_found : (n : ℕ) (body : List Stmt) → IsReadable body → depth_of body ≤ n → stmts_at n (code_text body) ≡ Some body
readable_code_is_found n body r deep = code_read n body (readable_is_good body r) deep
