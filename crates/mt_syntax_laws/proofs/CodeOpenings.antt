-- The text of code opens neither a tag nor a comment, node by node.
use Rattle.std.proofs.Common.{◌≡◌, ℕ, ◌^◌, ℤ, pos, negsuc, List, [], ◌∷◌, ◌++◌, map, option_map, Option, None, Some, Bool, true, false, ◌&&◌, refl, arith}
use Rattle.std.specs.Prelude.{codes, flat_map}
use Rattle.std.specs.List.{list_all}
use Rattle.std.proofs.lemmas.Bool.{and_parts, ltb-true, false≢true}
use Rattle.mt_syntax.specs.Sort.{Sort}
use Rattle.mt_syntax.specs.Sort as sort
use Rattle.mt_syntax.specs.Fold.{ExprKindLayer, ForStartLayer, StmtKindLayer, PropLayer, on_stmt}
use Rattle.mt_syntax.specs.Shape.{Part, all_fit, block_fits, decl_part, decls_fit, expr_kind_part, for_start_part, function_part, is_assignment, is_block, is_named, is_number, is_shaped, is_shaped_stmt, is_some_item, is_statement, is_target, is_valued, mark_fits, optional_block_fits, optional_fits, shaping, stmt_kind_part, target_fits}
use Rattle.mt_syntax.specs.DataText.{comma_if, data_text, separated, separated_after, truth_text}
use Rattle.mt_syntax.specs.CodeText.{after_return, assign_text, between, binary_text, block, code_text, decl_code, expr_kind_code, for_start_code, function_code, literal, name_text, or_nothing, prop_code, step_text, stmt_kind_code, unary_text, var_text, with_else, writing_code}
use Rattle.std.specs.Str.{chars, all_scalars}
use Rattle.mt_syntax_laws.proofs.Gathered.{Alike}
use Rattle.mt_syntax_laws.proofs.Harmless.{Harmless, joined, literal_harmless, name, number}
use Rattle.mt_syntax_laws.proofs.Layers.{map_decl, map_expr_kind, map_for_start, map_function, map_prop, map_stmt_kind}
use Rattle.mt_syntax_laws.proofs.Related.{Preserved, Two, related_stmt}
use Rattle.mt_syntax.specs.declared.tree.Mark.{Mark}
use Rattle.mt_tree.specs.declared.operators.Binary.{Binary}
use Rattle.mt_tree.specs.declared.operators.Binary.TheVariants as binary
use Rattle.mt_tree.specs.declared.operators.Unary.{Unary}
use Rattle.mt_tree.specs.declared.operators.Unary.TheVariants as unary
use Rattle.mt_tree.specs.declared.operators.StepKind.{StepKind}
use Rattle.mt_tree.specs.declared.operators.StepKind.TheVariants as steps
use Rattle.mt_tree.specs.declared.operators.VarKind.{VarKind}
use Rattle.mt_tree.specs.declared.operators.VarKind.TheVariants as word
use Rattle.mt_syntax.specs.declared.tree.Stmt.{Stmt}
use Rattle.mt_syntax.specs.declared.tree.ExprKind.TheOpen.{ExprKind-F, ForStart-F, StmtKind-F}

-- a part that has the form has a harmless text
abbrev Writes : List ℕ → Part → Type 0
Writes text p = p.fits ≡ true → Harmless text

abbrev Piece : Sort → Type 0
Piece = Two (Alike Writes)

abbrev text : (s : Sort) → Piece s → List ℕ
text s p = p.left

abbrev part : (s : Sort) → Piece s → Part
part s p = p.right

around : (front back bs : List ℕ) → Harmless front → Harmless back → Harmless bs → Harmless (front ++ (bs ++ back))
around front back bs p q h = joined front (bs ++ back) p (joined bs back h q)

-- ---- lists

comma : (later : Bool) → Harmless (comma_if later)
comma true = refl
comma false = refl

items : {s : Sort} (later : Bool) (ps : List (Piece s)) → all_fit (map (part s) ps) ≡ true → Harmless (separated_after later (map (text s) ps))
items later [] e = refl
items {s} later (p ∷ ps) e =
    let es = and_parts p.right.fits (all_fit (map (part s) ps)) e in
    let rest = separated_after true (map (text s) ps) in
    joined (comma_if later) (p.left ++ rest) (comma later) (joined p.left rest (p.holds es.0) (items true ps es.1))

valued_items : {s : Sort} (later : Bool) (ps : List (Piece s)) → list_all (λ d. is_valued d.look && d.fits) (map (part s) ps) ≡ true → Harmless (separated_after later (map (text s) ps))
valued_items later [] e = refl
valued_items {s} later (p ∷ ps) e =
    let es = and_parts (is_valued p.right.look && p.right.fits) (list_all (λ d. is_valued d.look && d.fits) (map (part s) ps)) e in
    let rest = separated_after true (map (text s) ps) in
    joined (comma_if later) (p.left ++ rest) (comma later) (joined p.left rest (p.holds (and_parts (is_valued p.right.look) p.right.fits es.0).1) (valued_items true ps es.1))

decls : {s : Sort} (kind : VarKind) (ps : List (Piece s)) → decls_fit kind (map (part s) ps) ≡ true → Harmless (separated (map (text s) ps))
decls {s} word.Var ps e = items false ps (and_parts (is_some_item (map (part s) ps)) (all_fit (map (part s) ps)) e).1
decls {s} word.Let ps e = items false ps (and_parts (is_some_item (map (part s) ps)) (all_fit (map (part s) ps)) e).1
decls {s} word.Const ps e = valued_items false ps (and_parts (is_some_item (map (part s) ps)) (list_all (λ d. is_valued d.look && d.fits) (map (part s) ps)) e).1

all_items : {s : Sort} (ps : List (Piece s)) → all_fit (map (part s) ps) ≡ true → Harmless (flat_map (λ t. t) (map (text s) ps))
all_items [] e = refl
all_items {s} (p ∷ ps) e =
    let es = and_parts p.right.fits (all_fit (map (part s) ps)) e in joined p.left (flat_map (λ t. t) (map (text s) ps)) (p.holds es.0) (all_items ps es.1)

statements : {s : Sort} (ps : List (Piece s)) → list_all (λ p. is_statement p.look && p.fits) (map (part s) ps) ≡ true → Harmless (flat_map (λ t. t) (map (text s) ps))
statements [] e = refl
statements {s} (p ∷ ps) e =
    let es = and_parts (is_statement p.right.look && p.right.fits) (list_all (λ p. is_statement p.look && p.fits) (map (part s) ps)) e in
    joined p.left (flat_map (λ t. t) (map (text s) ps)) (p.holds (and_parts (is_statement p.right.look) p.right.fits es.0).1) (statements ps es.1)

parameters : (later : Bool) (ms : List Mark) → list_all mark_fits ms ≡ true → Harmless (separated_after later (map name_text ms))
parameters later [] e = refl
parameters later (m ∷ ms) e =
    let es = and_parts (mark_fits m) (list_all mark_fits ms) e in
    let rest = separated_after true (map name_text ms) in
    joined (comma_if later) (name_text m ++ rest) (comma later) (joined (name_text m) rest (name m.name es.0) (parameters true ms es.1))

-- ---- operators

-- an operator with the space behind it
abbrev Operator : List ℕ → Type 0
Operator op = (rest : List ℕ) → Harmless rest → Harmless (op ++ 32 ∷ rest)

operator : (op : Binary) → Operator (binary_text op)
operator binary.Add rest h = h
operator binary.Sub rest h = h
operator binary.Mul rest h = h
operator binary.Div rest h = h
operator binary.Rem rest h = h
operator binary.Less rest h = h
operator binary.LessEqual rest h = h
operator binary.Greater rest h = h
operator binary.GreaterEqual rest h = h
operator binary.Same rest h = h
operator binary.Different rest h = h

assignment : (op : Option Binary) → Operator (assign_text op)
assignment None rest h = h
assignment (Some binary.Add) rest h = h
assignment (Some binary.Sub) rest h = h
assignment (Some binary.Mul) rest h = h
assignment (Some binary.Div) rest h = h
assignment (Some binary.Rem) rest h = h
assignment (Some binary.Less) rest h = h
assignment (Some binary.LessEqual) rest h = h
assignment (Some binary.Greater) rest h = h
assignment (Some binary.GreaterEqual) rest h = h
assignment (Some binary.Same) rest h = h
assignment (Some binary.Different) rest h = h

operands : (a op b : List ℕ) → Operator op → Harmless a → Harmless b → Harmless (between a op b)
operands a op b o p q =
    joined (codes "(") (a ++ 32 ∷ (op ++ 32 ∷ (b ++ codes ")"))) refl (joined a (32 ∷ (op ++ 32 ∷ (b ++ codes ")"))) p (o (b ++ codes ")") (joined b (codes ")") q refl)))

sign : (op : Unary) → Harmless (unary_text op)
sign unary.Not = refl
sign unary.Minus = refl
sign unary.Plus = refl
sign unary.Typeof = refl

step : (op : StepKind) (t : List ℕ) → Harmless t → Harmless (step_text op t)
step steps.IncBefore t h = around (codes "(++") (codes ")") t refl refl h
step steps.DecBefore t h = around (codes "(--") (codes ")") t refl refl h
step steps.IncAfter t h = around (codes "(") (codes "++)") t refl refl h
step steps.DecAfter t h = around (codes "(") (codes "--)") t refl refl h

truth : (b : Bool) → Harmless (truth_text b)
truth true = refl
truth false = refl

sourced_number : (z : ℤ) → is_number z ≡ true → Harmless (expr_kind_code (ExprKind-F.Num z))
sourced_number (pos n) e = number n (omega (arith, ltb-true n (2 ^ 53) e))
sourced_number (negsuc n) e = absurd (false≢true e)

-- ---- expressions

expr_kind : (x : ExprKindLayer Piece) → Writes (expr_kind_code (map_expr_kind text x)) (expr_kind_part (map_expr_kind part x))
expr_kind (ExprKind-F.Name cs) e = name cs e
expr_kind (ExprKind-F.Num n) e = sourced_number n e
expr_kind (ExprKind-F.ExprKind::Text cs) e = literal_harmless cs
expr_kind (ExprKind-F.Bool b) e = truth b
expr_kind ExprKind-F.Null e = refl
expr_kind ExprKind-F.Undefined e = refl
expr_kind (ExprKind-F.Arr ps) e = around (codes "[") (codes "]") (separated (map (text _) ps)) refl refl (items false ps e)
expr_kind (ExprKind-F.Obj ps) e = around (codes "({") (codes "})") (separated (map (text _) ps)) refl refl (items false ps e)
expr_kind (ExprKind-F.Fun f) e = around (codes "(function") (codes ")") f.left refl refl (f.holds e)
expr_kind (ExprKind-F.Unary op a) e = joined (codes "(") (unary_text op ++ (a.left ++ codes ")")) refl (around (unary_text op) (codes ")") a.left (sign op) refl (a.holds e))
expr_kind (ExprKind-F.Step op a) e = step op a.left (a.holds (and_parts (is_target a.right.look) a.right.fits e).1)
expr_kind (ExprKind-F.Binary op a b) e =
    let es = and_parts a.right.fits b.right.fits e in operands a.left (binary_text op) b.left (operator op) (a.holds es.0) (b.holds es.1)
expr_kind (ExprKind-F.And a b) e = let es = and_parts a.right.fits b.right.fits e in operands a.left (codes "&&") b.left (λ rest h. h) (a.holds es.0) (b.holds es.1)
expr_kind (ExprKind-F.Or a b) e = let es = and_parts a.right.fits b.right.fits e in operands a.left (codes "||") b.left (λ rest h. h) (a.holds es.0) (b.holds es.1)
expr_kind (ExprKind-F.Cond a b c) e =
    let es = and_parts (a.right.fits && b.right.fits) c.right.fits e in
    let fs = and_parts a.right.fits b.right.fits es.0 in
    joined (codes "(") (a.left ++ (codes " ? " ++ (b.left ++ (codes " : " ++ (c.left ++ codes ")"))))) refl
    (joined a.left (codes " ? " ++ (b.left ++ (codes " : " ++ (c.left ++ codes ")")))) (a.holds fs.0)
    (around (codes " ? ") (codes " : " ++ (c.left ++ codes ")")) b.left refl (around (codes " : ") (codes ")") c.left refl refl (c.holds es.1)) (b.holds fs.1)))
expr_kind (ExprKind-F.Assign op a b) e =
    let es = and_parts (is_assignment op && target_fits a.right) b.right.fits e in
    let target = (and_parts (is_target a.right.look) a.right.fits (and_parts (is_assignment op) (target_fits a.right) es.0).1).1 in
    operands a.left (assign_text op) b.left (assignment op) (a.holds target) (b.holds es.1)
expr_kind (ExprKind-F.Index a b) e =
    let es = and_parts a.right.fits b.right.fits e in joined a.left (codes "[" ++ (b.left ++ codes "]")) (a.holds es.0) (around (codes "[") (codes "]") b.left refl refl (b.holds es.1))
expr_kind (ExprKind-F.Call a ps) e =
    let es = and_parts a.right.fits (all_fit (map (part _) ps)) e in
    joined a.left (codes "(" ++ (separated (map (text _) ps) ++ codes ")")) (a.holds es.0) (around (codes "(") (codes ")") (separated (map (text _) ps)) refl refl (items false ps es.1))
expr_kind (ExprKind-F.Val d) e = around (codes "$v(") (codes ")") (literal (chars (data_text d))) refl refl (literal_harmless (chars (data_text d)))
expr_kind _ e = refl

for_start : (x : ForStartLayer Piece) → Writes (for_start_code (map_for_start text x)) (for_start_part (map_for_start part x))
for_start ForStart-F.Absent e = refl
for_start (ForStart-F.ForStart::Var ps) e = joined (codes "var ") (separated (map (text _) ps)) refl (decls word.Var ps e)
for_start (ForStart-F.ForStart::Expr a) e = a.holds e

value_of_decl : (m : Mark) (value : Option (Piece _)) → Writes (decl_code (map_decl text (record { name = m; value = value }))) (decl_part (map_decl part (record { name = m; value = value })))
value_of_decl m None e = joined (name_text m) [] (name m.name (and_parts (mark_fits m) true e).0) refl
value_of_decl m (Some p) e = let es = and_parts (mark_fits m) p.right.fits e in joined (name_text m) (61 ∷ p.left) (name m.name es.0) (joined (61 ∷ []) p.left refl (p.holds es.1))

-- ---- statements

block_holds : {s : Sort} (p : Piece s) → block_fits p.right ≡ true → Harmless p.left
block_holds p e = p.holds (and_parts (is_block p.right.look) p.right.fits e).1

-- behind the test of an `if`
branches : {s t : Sort} (body : Piece s) (other : Option (Piece t)) → block_fits body.right ≡ true → optional_block_fits (option_map (part t) other) ≡ true
    → Harmless (codes ")" ++ (body.left ++ with_else (option_map (text t) other)))
branches body None e f = around (codes ")") [] body.left refl refl (block_holds body e)
branches body (Some p) e f = around (codes ")") (codes "else" ++ p.left) body.left refl (joined (codes "else") p.left refl (block_holds p f)) (block_holds body e)

optional : {s : Sort} (p : Option (Piece s)) → optional_fits (option_map (part s) p) ≡ true → Harmless (or_nothing (option_map (text s) p))
optional None e = refl
optional (Some p) e = p.holds e

returned : {s : Sort} (p : Option (Piece s)) → optional_fits (option_map (part s) p) ≡ true → Harmless (codes "return" ++ after_return (option_map (text s) p))
returned None e = refl
returned (Some p) e = joined (codes "return ") (p.left ++ codes ";") refl (joined p.left (codes ";") (p.holds e) refl)

var_word : (kind : VarKind) → Harmless (var_text kind)
var_word word.Var = refl
var_word word.Let = refl
var_word word.Const = refl

loop : (start test step body : List ℕ) → Harmless start → Harmless test → Harmless step → Harmless body → Harmless (codes "for(" ++ (start ++ (codes ";" ++ (test ++ (codes ";" ++ (step ++ (codes ")" ++ body)))))))
loop start test step body p q r h =
    around (codes "for(") (codes ";" ++ (test ++ (codes ";" ++ (step ++ (codes ")" ++ body))))) start refl
    (around (codes ";") (codes ";" ++ (step ++ (codes ")" ++ body))) test refl (around (codes ";") (codes ")" ++ body) step refl (joined (codes ")") body refl h) r) q) p

stmt_kind : (x : StmtKindLayer Piece) → Writes (stmt_kind_code (map_stmt_kind text x)) (stmt_kind_part (map_stmt_kind part x))
stmt_kind (StmtKind-F.StmtKind::Expr a) e = joined a.left (codes ";") (a.holds e) refl
stmt_kind (StmtKind-F.StmtKind::Var kind ps) e = around (var_text kind) (codes ";") (separated (map (text _) ps)) (var_word kind) refl (decls kind ps e)
stmt_kind (StmtKind-F.Function f) e = joined (codes "function") f.left refl (f.holds (and_parts (is_named f.right.look) f.right.fits e).1)
stmt_kind (StmtKind-F.Service f) e = refl
stmt_kind (StmtKind-F.If test body None) e =
    let es = and_parts (test.right.fits && block_fits body.right) true e in
    let fs = and_parts test.right.fits (block_fits body.right) es.0 in
    around (codes "if(") (codes ")" ++ (body.left ++ [])) test.left refl (branches {t = sort.Stmt} body None fs.1 refl) (test.holds fs.0)
stmt_kind (StmtKind-F.If test body (Some other)) e =
    let es = and_parts (test.right.fits && block_fits body.right) (block_fits other.right) e in
    let fs = and_parts test.right.fits (block_fits body.right) es.0 in
    around (codes "if(") (codes ")" ++ (body.left ++ (codes "else" ++ other.left))) test.left refl (branches body (Some other) fs.1 es.1) (test.holds fs.0)
stmt_kind (StmtKind-F.While test body) e =
    let es = and_parts test.right.fits (block_fits body.right) e in around (codes "while(") (codes ")" ++ body.left) test.left refl (joined (codes ")") body.left refl (block_holds body es.1)) (test.holds es.0)
stmt_kind (StmtKind-F.For start None None body) e =
    let es = and_parts ((start.right.fits && true) && true) (block_fits body.right) e in
    let start_fits = (and_parts start.right.fits true (and_parts (start.right.fits && true) true es.0).0).0 in
    loop start.left [] [] body.left (start.holds start_fits) refl refl (block_holds body es.1)
stmt_kind (StmtKind-F.For start None (Some step) body) e =
    let es = and_parts ((start.right.fits && true) && step.right.fits) (block_fits body.right) e in
    let fs = and_parts (start.right.fits && true) step.right.fits es.0 in
    loop start.left [] step.left body.left (start.holds (and_parts start.right.fits true fs.0).0) refl (step.holds fs.1) (block_holds body es.1)
stmt_kind (StmtKind-F.For start (Some test) None body) e =
    let es = and_parts ((start.right.fits && test.right.fits) && true) (block_fits body.right) e in
    let fs = and_parts start.right.fits test.right.fits (and_parts (start.right.fits && test.right.fits) true es.0).0 in
    loop start.left test.left [] body.left (start.holds fs.0) (test.holds fs.1) refl (block_holds body es.1)
stmt_kind (StmtKind-F.For start (Some test) (Some step) body) e =
    let es = and_parts ((start.right.fits && test.right.fits) && step.right.fits) (block_fits body.right) e in
    let fs = and_parts (start.right.fits && test.right.fits) step.right.fits es.0 in
    let gs = and_parts start.right.fits test.right.fits fs.0 in
    loop start.left test.left step.left body.left (start.holds gs.0) (test.holds gs.1) (step.holds fs.1) (block_holds body es.1)
stmt_kind (StmtKind-F.Return None) e = refl
stmt_kind (StmtKind-F.Return (Some value)) e = returned (Some value) e
stmt_kind StmtKind-F.Break e = refl
stmt_kind StmtKind-F.Continue e = refl
stmt_kind (StmtKind-F.Throw a) e = around (codes "throw ") (codes ";") a.left refl refl (a.holds e)
stmt_kind (StmtKind-F.Try body m handler) e =
    let es = and_parts (block_fits body.right && mark_fits m) (block_fits handler.right) e in
    let fs = and_parts (block_fits body.right) (mark_fits m) es.0 in
    around (codes "try") (codes "catch(" ++ (name_text m ++ (codes ")" ++ handler.left))) body.left refl
    (around (codes "catch(") (codes ")" ++ handler.left) (name_text m) refl (joined (codes ")") handler.left refl (block_holds handler es.1)) (name m.name fs.1)) (block_holds body fs.0)
stmt_kind (StmtKind-F.Block ps) e = around (codes "{") (codes "}") (flat_map (λ t. t) (map (text _) ps)) refl refl (statements ps e)
stmt_kind StmtKind-F.Empty e = refl

-- ---- functions

behind_name : (ms : List Mark) (ps : List (Piece sort.Stmt)) → list_all mark_fits ms ≡ true → all_fit (map (part sort.Stmt) ps) ≡ true
    → Harmless (codes "(" ++ (separated (map name_text ms) ++ (codes ")" ++ block (map (text sort.Stmt) ps))))
behind_name ms ps e f =
    around (codes "(") (codes ")" ++ block (map (text sort.Stmt) ps)) (separated (map name_text ms)) refl
    (joined (codes ")") (block (map (text sort.Stmt) ps)) refl (around (codes "{") (codes "}") (flat_map (λ t. t) (map (text sort.Stmt) ps)) refl refl (all_items ps f))) (parameters false ms e)

function : (n : Option Mark) (ms : List Mark) (ps : List (Piece sort.Stmt))
    → Writes (function_code (map_function text (record { name = n; parameters = ms; body = ps }))) (function_part (map_function part (record { name = n; parameters = ms; body = ps })))
function None ms ps e =
    let es = and_parts (true && list_all mark_fits ms) (all_fit (map (part sort.Stmt) ps)) e in
    behind_name ms ps es.0 es.1
function (Some m) ms ps e =
    let es = and_parts (mark_fits m && list_all mark_fits ms) (all_fit (map (part sort.Stmt) ps)) e in
    let fs = and_parts (mark_fits m) (list_all mark_fits ms) es.0 in
    joined (32 ∷ name_text m) (codes "(" ++ (separated (map name_text ms) ++ (codes ")" ++ block (map (text sort.Stmt) ps)))) (joined (32 ∷ []) (name_text m) refl (name m.name fs.0)) (behind_name ms ps fs.1 es.1)

property : (x : PropLayer Piece) → Writes (prop_code (map_prop text x)) (shaping.prop (map_prop part x))
property x e = joined (literal x.name) (codes ":" ++ x.value.left) (literal_harmless x.name) (joined (codes ":") x.value.left refl (x.value.holds (and_parts (all_scalars x.name) x.value.right.fits e).1))

harmless : Preserved writing_code shaping (Alike Writes)
harmless = record {
  expr_kind = expr_kind;
  for_start = for_start;
  markup_child = λ x e. refl;
  markup_value = λ x e. refl;
  stmt_kind = stmt_kind;
  decl = λ x. value_of_decl x.name x.value;
  expr = λ x. x.kind.holds;
  function = λ x. function x.name x.parameters x.body;
  markup = λ x e. refl;
  markup_attribute = λ x e. refl;
  prop = property;
  stmt = λ x. x.kind.holds;
}

pub code_opens_nothing : (body : List Stmt) → is_shaped body ≡ true → Harmless (code_text body)
code_opens_nothing [] e = refl
code_opens_nothing (t ∷ body) e =
    let es = and_parts (is_shaped_stmt t) (is_shaped body) e in
    joined (on_stmt writing_code t) (code_text body) (related_stmt writing_code shaping (Alike Writes) harmless t es.0) (code_opens_nothing body es.1)
