-- What the machine does at the parts of statements, functions, objects and elements.
use Rattle.std.proofs.Common.{None, ◌≡◌, ◌≢◌, ℕ, ◌+◌, ◌≤◌, Bool, true, false, List, [], ◌∷◌, ◌++◌, refl, sym, ap, ◌∙◌, arith}
use Rattle.std.proofs.lemmas.Bool.{le-leb}
use Rattle.std.specs.Str.{bytes_eq}
use Rattle.std.proofs.lemmas.Slice.Eq.{bytes_eq-Decides}
use Rattle.mt_tree.specs.declared.place.Place.{Place}
use Rattle.mt_tree.specs.declared.operators.Unary.{Unary}
use Rattle.mt_tree.specs.declared.operators.Unary.TheVariants as unary_op
use Rattle.mt_tree.specs.declared.operators.VarKind.{VarKind}
use Rattle.mt_grammar.specs.declared.terminal.Declaration.{Declaration}
use Rattle.mt_grammar.specs.declared.terminal.Declaration.TheVariants as declaration
use Rattle.mt_grammar.specs.declared.terminal.Heading.{Heading}
use Rattle.mt_grammar.specs.declared.terminal.Heading.TheVariants as heading
use Rattle.mt_grammar.specs.declared.terminal.Terminal.{Terminal}
use Rattle.mt_grammar.specs.declared.terminal.Terminal.TheVariants as k
use Rattle.mt_grammar.specs.Token.{Token, Tokens, place_of, terminal, is_word}
use Rattle.mt_grammar.specs.Tree.{Title, heading_of, Key, Names, names_count, Expr, Exprs, exprs_count, Props, props_count, Stmt, is_target}
use Rattle.mt_grammar.specs.Nodes.{Node, Nodes, names_nodes, title_nodes, key_node, expr_nodes, exprs_nodes, props_nodes, attribute_nodes, attributes_nodes, child_nodes, children_nodes, decl_nodes, decls_nodes, optional_nodes, start_nodes, stmt_nodes, stmts_nodes}
use Rattle.mt_grammar.specs.Nodes as n
use Rattle.mt_grammar.specs.Stack.{Level, Focus}
use Rattle.mt_grammar.specs.Stack as f
use Rattle.mt_grammar.specs.Grammar.{mark, sign_of, NotNext, begins_single, First, needs_value, is_expression, Ends, semicolon, before_brace, ReadsNames, first_name, next_name, Parameters, no_parameters, parameters, Head, h_service, h_declaration, h_named, h_expression, IsKey, key_word, key_text, ReadsTilde, tilde_of, ReadsElement, e_self, e_void, e_children, ReadsBlock, block_of, ReadsStmt, s_var, s_if, s_if_else, s_while, s_for, s_return, s_return_value, s_jump, s_throw, s_try, s_block, s_empty, s_expression}
use Rattle.mt_grammar.specs.Machine.{Next, at, awaits_at, binding, reduces, takes_items, settled, dollar_settled, function_closed, kind_of, operand_by, item_by, else_or, ended_by, declared_by, first_by, word_by, stop_by, shift_by, run}
use Rattle.mt_grammar.proofs.Precedence.{Stops}
use Rattle.mt_grammar.proofs.Steps.{closes, operand_at, word_at, statement_at, finished_at, close_at, if_true, if_false}
use Rattle.mt_grammar.proofs.Starts.{Starts, starts, first_operand, body_is}

abbrev pub is_end : Terminal → Bool
is_end k.Semicolon = true
is_end k.CloseBrace = true
is_end k.Comma = true
is_end _ = false

abbrev pub is_stop : Terminal → Bool
is_stop k.Semicolon = true
is_stop k.CloseBrace = true
is_stop _ = false

pub stop_end : (y : Terminal) → is_stop y ≡ true → is_end y ≡ true
stop_end k.Semicolon h = refl
stop_end k.CloseBrace h = refl
stop_end _ h = absurd cc

pub end_stops : (y : Terminal) → is_end y ≡ true → binding y ≡ 0
end_stops k.Semicolon h = refl
end_stops k.CloseBrace h = refl
end_stops k.Comma h = refl
end_stops _ h = absurd cc

-- after a statement that may end here, whatever stood in front of its end
pub ended : {mid rest : Tokens} (s : Next) (fs : List Level) (out : Nodes) → Ends mid rest → ((y : Terminal) (t : Token) (more : Tokens) → is_stop y ≡ true → terminal t ≡ y → run (t ∷ more) s ≡ run more (ended_by t y fs out))
    → run mid s ≡ run rest (at f.Finished fs out)
ended s fs out (semicolon {t} {rest} q) h = h k.Semicolon t rest refl q
ended s fs out (before_brace {t} {rest} q) h = h k.CloseBrace t rest refl q ∙ sym (finished_at k.CloseBrace t rest fs out q)

pub Ends-stops : {ts rest : Tokens} → Ends ts rest → Stops 0 ts
Ends-stops (semicolon {t} {rest} q) = closes k.Semicolon t rest refl q
Ends-stops (before_brace {t} {rest} q) = closes k.CloseBrace t rest refl q

abbrev pub is_statement_level : Level → Bool
is_statement_level (f.DeclValue d p c) = true
is_statement_level (f.Return p) = true
is_statement_level (f.Throw p) = true
is_statement_level (f.Expression p) = true
is_statement_level _ = false

-- the end of an expression at a level of a statement
pub stopped : (y : Terminal) (t : Token) (more : Tokens) (s : Place) (v : Bool) (x : Level) (fs : List Level) (out : Nodes) → is_statement_level x ≡ true → is_end y ≡ true → terminal t ≡ y
    → run (t ∷ more) (at (f.Value s v) (x ∷ fs) out) ≡ run more (stop_by t y x fs out)
stopped y t more s v x fs out h g e = close_at y t more s v x fs out (kept y v x h) (low x h) e ∙ ap (run more) (same y x h g)
  where
    kept : (y : Terminal) (v : Bool) (x : Level) → is_statement_level x ≡ true → reduces y v x ≡ false
    kept y v (f.DeclValue d p c) h = refl
    kept y v (f.Return p) h = refl
    kept y v (f.Throw p) h = refl
    kept y v (f.Expression p) h = refl
    kept y v _ h = absurd cc

    low : (x : Level) → is_statement_level x ≡ true → awaits_at x ≤ 0
    low (f.DeclValue d p c) h = omega arith
    low (f.Return p) h = omega arith
    low (f.Throw p) h = omega arith
    low (f.Expression p) h = omega arith
    low _ h = absurd cc

    same : (y : Terminal) (x : Level) → is_statement_level x ≡ true → is_end y ≡ true → shift_by t y s v x fs out ≡ stop_by t y x fs out
    same k.Semicolon (f.DeclValue d p c) h g = refl
    same k.Semicolon (f.Return p) h g = refl
    same k.Semicolon (f.Throw p) h g = refl
    same k.Semicolon (f.Expression p) h g = refl
    same k.CloseBrace (f.DeclValue d p c) h g = refl
    same k.CloseBrace (f.Return p) h g = refl
    same k.CloseBrace (f.Throw p) h g = refl
    same k.CloseBrace (f.Expression p) h g = refl
    same k.Comma (f.DeclValue d p c) h g = refl
    same k.Comma (f.Return p) h g = refl
    same k.Comma (f.Throw p) h g = refl
    same k.Comma (f.Expression p) h g = refl
    same _ _ h g = absurd cc

-- after the declarations of a statement
pub declared_ends : (t : Token) (y : Terminal) (d : VarKind) (p : Place) (c : ℕ) (fs : List Level) (out : Nodes) → is_stop y ≡ true → declared_by t y (declaration.Statement d) p c fs out ≡ ended_by t y fs (out ++ n.Var p d c ∷ [])
declared_ends t k.Semicolon d p c fs out h = refl
declared_ends t k.CloseBrace d p c fs out h = refl
declared_ends t _ d p c fs out h = absurd cc

pub next_declared : (t : Token) (y : Terminal) (d : Declaration) (p : Place) (c : ℕ) (fs : List Level) (out : Nodes) → is_end y ≡ true → needs_value (kind_of d) ≡ false
    → word_by t (f.DeclNext d p c) y fs out ≡ declared_by t y d p c fs out
next_declared t k.Semicolon d p c fs out h g = if_false None _ g
next_declared t k.CloseBrace d p c fs out h g = if_false None _ g
next_declared t k.Comma d p c fs out h g = if_false None _ g
next_declared t _ d p c fs out h g = absurd cc

pub names : {ts rest : Tokens} {ns : Names} → ReadsNames ts rest ns → (h : Heading) (p : Place) (fs : List Level) (out : Nodes)
    → run ts (at f.Word (f.FunctionFirst h p ∷ fs) out) ≡ run rest (at f.Word (f.FunctionNext h p (names_count ns) ∷ fs) (names_nodes ns out))
names (first_name {t} {rest} q) h p fs out = word_at k.Name t rest (f.FunctionFirst h p) fs out q
names (next_name {ts} {c} {t} {rest} {ns} d m q) h p fs out =
    names d h p fs out ∙ word_at k.Comma c (t ∷ rest) (f.FunctionNext h p (names_count ns)) fs (names_nodes ns out) m
    ∙ word_at k.Name t rest (f.ParameterName h p (names_count ns)) fs (names_nodes ns out) q

pub parameter_list : {ts rest : Tokens} {ns : Names} → Parameters ts rest ns → (h : Heading) (p : Place) (fs : List Level) (out : Nodes)
    → run ts (at f.Word (f.FunctionFirst h p ∷ fs) out) ≡ run rest (at f.Word (f.FunctionBrace h p (names_count ns) ∷ fs) (names_nodes ns out))
parameter_list (no_parameters {c} {rest} r) h p fs out = word_at k.Close c rest (f.FunctionFirst h p) fs out r
parameter_list (parameters {ts} {c} {rest} {ns} d r) h p fs out = names d h p fs out ∙ word_at k.Close c rest (f.FunctionNext h p (names_count ns)) fs (names_nodes ns out) r

-- the focus at which a function begins
abbrev pub head_focus : Heading → Focus
head_focus heading.Service = f.Statement
head_focus heading.Declaration = f.Statement
head_focus heading.NamedExpression = f.Operand
head_focus heading.Expression = f.Operand

abbrev pub HeadTakes : Heading → List Level → Type 0
HeadTakes heading.Service fs = takes_items fs ≡ true
HeadTakes heading.Declaration fs = takes_items fs ≡ true
HeadTakes _ fs = Unit {0}

pub item_taken : (t : Token) (h : Heading) (fs : List Level) (out : Nodes) → takes_items fs ≡ true → item_by t h fs out ≡ at f.Word (f.FunctionName h t.place ∷ fs) out
item_taken t h fs out e = if_true _ None e

pub head : {h : Title} {ts list : Tokens} → Head h ts list → (fs : List Level) (out : Nodes) → HeadTakes (heading_of h) fs
    → run ts (at (head_focus (heading_of h)) fs out) ≡ run list (at f.Word (f.FunctionFirst (heading_of h) (place_of ts) ∷ fs) (title_nodes h out))
head (h_service {w} {n = x} {o} {rest} qw qn qo) fs out takes =
    statement_at k.Service w (x ∷ o ∷ rest) fs out qw ∙ ap (run (x ∷ o ∷ rest)) (item_taken w heading.Service fs out takes) ∙ word_at k.Name x (o ∷ rest) (f.FunctionName heading.Service w.place) fs out qn
    ∙ word_at k.Open o rest (f.FunctionOpen heading.Service w.place) fs (out ++ n.Word (mark x) ∷ []) qo
head (h_declaration {w} {n = x} {o} {rest} qw qn qo) fs out takes =
    statement_at k.Function w (x ∷ o ∷ rest) fs out qw ∙ ap (run (x ∷ o ∷ rest)) (item_taken w heading.Declaration fs out takes) ∙ word_at k.Name x (o ∷ rest) (f.FunctionName heading.Declaration w.place) fs out qn
    ∙ word_at k.Open o rest (f.FunctionOpen heading.Declaration w.place) fs (out ++ n.Word (mark x) ∷ []) qo
head (h_named {w} {n = x} {o} {rest} qw qn qo) fs out takes =
    operand_at k.Function w (x ∷ o ∷ rest) fs out qw ∙ word_at k.Name x (o ∷ rest) (f.FunctionStart w.place) fs out qn
    ∙ word_at k.Open o rest (f.FunctionOpen heading.NamedExpression w.place) fs (out ++ n.Word (mark x) ∷ []) qo
head (h_expression {w} {o} {rest} qw qo) fs out takes = operand_at k.Function w (o ∷ rest) fs out qw ∙ word_at k.Open o rest (f.FunctionStart w.place) fs out qo

pub key_read : {t : Token} {x : Key} → IsKey t x → (p : Place) (c : ℕ) (ts : Tokens) (fs : List Level) (out : Nodes)
    → run (t ∷ ts) (at f.Word (f.ObjectKey p c ∷ fs) out) ≡ run ts (at f.Word (f.ObjectColon p c ∷ fs) (out ++ key_node x ∷ []))
key_read (key_text t q) p c ts fs out = word_at k.Text t ts (f.ObjectKey p c) fs out q
key_read (key_word t h) p c ts fs out = ap (run ts) (by_word t (terminal t) h)
  where
    by_word : (t : Token) (y : Terminal) → is_word y ≡ true → word_by t (f.ObjectKey p c) y fs out ≡ at f.Word (f.ObjectColon p c ∷ fs) (out ++ n.Word (mark t) ∷ [])
    by_word t k.CloseBrace h = absurd cc
    by_word t k.Text h = absurd cc
    by_word t _ h = if_true _ None h

-- levels that hold expressions with commas between them
pub record Lists (g : ℕ → Level) : Type 0 where
  pub low : (c : ℕ) → awaits_at (g c) ≤ 0
  pub comma : (i : ℕ) (c : Token) (mid : Tokens) (s : Place) (v : Bool) (fs : List Level) (out : Nodes) → terminal c ≡ k.Comma → Starts mid
      → run (c ∷ mid) (at (f.Value s v) (g i ∷ fs) out) ≡ run mid (at f.Operand (g (i + 1) ∷ fs) out)

pub in_arguments : (s : Place) → Lists (λ i. f.Arguments s i)
in_arguments s = record { low = λ i. omega arith; comma = λ i c mid s' v fs out q h. close_at k.Comma c mid s' v (f.Arguments s i) fs out refl (omega arith) q }

pub in_array : (p : Place) → Lists (λ i. f.Array p i)
in_array p = record { low = λ i. omega arith; comma = λ i c mid s' v fs out q h. close_at k.Comma c mid s' v (f.Array p i) fs out refl (omega arith) q ∙ first_operand mid (f.Array p (i + 1) ∷ fs) out h }

-- levels that hold statements
pub record Holds (g : ℕ → Level) : Type 0 where
  pub next : (i : ℕ) (ts : Tokens) (fs : List Level) (out : Nodes) → run ts (at f.Finished (g i ∷ fs) out) ≡ run ts (at f.Statement (g (i + 1) ∷ fs) out)

pub in_block : (p : Place) → Holds (λ i. f.Block p i)
in_block p = record { next = next }
  where
    next : (i : ℕ) (ts : Tokens) (fs : List Level) (out : Nodes) → run ts (at f.Finished (f.Block p i ∷ fs) out) ≡ run ts (at f.Statement (f.Block p (i + 1) ∷ fs) out)
    next i [] fs out = refl
    next i (t ∷ ts) fs out = refl

-- and items
pub record HoldsItems (g : ℕ → Level) : Type 0 where
  pub holds : Holds g
  pub takes : (i : ℕ) (fs : List Level) → takes_items (g i ∷ fs) ≡ true

pub in_program : HoldsItems f.Program
in_program = record { holds = record { next = next }; takes = λ i fs. refl }
  where
    next : (i : ℕ) (ts : Tokens) (fs : List Level) (out : Nodes) → run ts (at f.Finished (f.Program i ∷ fs) out) ≡ run ts (at f.Statement (f.Program (i + 1) ∷ fs) out)
    next i [] fs out = refl
    next i (t ∷ ts) fs out = refl

pub in_function : (h : Heading) (p : Place) (m : ℕ) → HoldsItems (λ i. f.FunctionBody h p m i)
in_function h p m = record { holds = record { next = next }; takes = λ i fs. refl }
  where
    next : (i : ℕ) (ts : Tokens) (fs : List Level) (out : Nodes) → run ts (at f.Finished (f.FunctionBody h p m i ∷ fs) out) ≡ run ts (at f.Statement (f.FunctionBody h p m (i + 1) ∷ fs) out)
    next i [] fs out = refl
    next i (t ∷ ts) fs out = refl

pub in_tilde : (p : Place) → HoldsItems (λ i. f.Tilde p i)
in_tilde p = record { holds = record { next = next }; takes = λ i fs. refl }
  where
    next : (i : ℕ) (ts : Tokens) (fs : List Level) (out : Nodes) → run ts (at f.Finished (f.Tilde p i ∷ fs) out) ≡ run ts (at f.Statement (f.Tilde p (i + 1) ∷ fs) out)
    next i [] fs out = refl
    next i (t ∷ ts) fs out = refl

-- levels above which a statement is complete, and the node that it makes
pub single : (rest : Tokens) (p : Place) (fs : List Level) (out : Nodes) → run rest (at f.Finished (f.Single p ∷ fs) out) ≡ run rest (at f.Finished fs (out ++ n.Block p 1 ∷ []))
single [] p fs out = refl
single (t ∷ ts) p fs out = refl

pub else_done : (rest : Tokens) (p : Place) (fs : List Level) (out : Nodes) → run rest (at f.Finished (f.IfElse p ∷ fs) out) ≡ run rest (at f.Finished fs (out ++ n.IfElse p ∷ []))
else_done [] p fs out = refl
else_done (t ∷ ts) p fs out = refl

pub while_done : (rest : Tokens) (p : Place) (fs : List Level) (out : Nodes) → run rest (at f.Finished (f.WhileBody p ∷ fs) out) ≡ run rest (at f.Finished fs (out ++ n.While p ∷ []))
while_done [] p fs out = refl
while_done (t ∷ ts) p fs out = refl

pub for_done : (rest : Tokens) (p : Place) (fs : List Level) (out : Nodes) → run rest (at f.Finished (f.ForBody p ∷ fs) out) ≡ run rest (at f.Finished fs (out ++ n.For p ∷ []))
for_done [] p fs out = refl
for_done (t ∷ ts) p fs out = refl

pub try_done : (rest : Tokens) (p : Place) (fs : List Level) (out : Nodes) → run rest (at f.Finished (f.CatchBlock p ∷ fs) out) ≡ run rest (at f.Finished fs (out ++ n.Try p ∷ []))
try_done [] p fs out = refl
try_done (t ∷ ts) p fs out = refl

pub no_else : (t : Token) (y : Terminal) (a b : Next) → y ≢ k.Else → else_or t y a b ≡ b
no_else t k.Else a b h = absurd (h refl)
no_else t _ a b h = refl

pub if_done : (rest : Tokens) (p : Place) (fs : List Level) (out : Nodes) → NotNext k.Else rest → run rest (at f.Finished (f.IfThen p ∷ fs) out) ≡ run rest (at f.Finished fs (out ++ n.If p ∷ []))
if_done [] p fs out h = refl
if_done (t ∷ ts) p fs out h = ap (run ts) (no_else t (terminal t) _ _ h)

abbrev pub NonEmpty : Tokens → Type 0
NonEmpty [] = ⊥
NonEmpty (t ∷ ts) = Unit {0}

pub starts_some : (ts : Tokens) → Starts ts → NonEmpty ts
starts_some [] h = h
starts_some (t ∷ ts) h = tt

pub block_some : {ts rest : Tokens} {s : Stmt} → ReadsBlock ts rest s → NonEmpty ts
block_some (block_of o ss c) = tt

pub stmt_some : {ts rest : Tokens} {s : Stmt} → ReadsStmt ts rest s → NonEmpty ts
stmt_some (s_var d q ds e) = tt
stmt_some (s_if q o e c s h) = tt
stmt_some (s_if_else q o e c s w d) = tt
stmt_some (s_while q o e c s) = tt
stmt_some (s_for q o a b c s) = tt
stmt_some (s_return q e) = tt
stmt_some (s_return_value q d e) = tt
stmt_some (s_jump j q e) = tt
stmt_some (s_throw q d e) = tt
stmt_some (s_try q s w o x c d) = tt
stmt_some (s_block d) = block_some d
stmt_some (s_empty q) = tt
stmt_some (s_expression {ts} h d e) = starts_some ts (starts d)

pub body_single : (ts : Tokens) (fs : List Level) (out : Nodes) → First begins_single ts → NonEmpty ts → run ts (at f.Body fs out) ≡ run ts (at f.Statement (f.Single (place_of ts) ∷ fs) out)
body_single [] fs out h g = elim g [ ]
body_single (t ∷ ts) fs out h g = ap (run ts) (body_is t (terminal t) fs out h)

-- above a level that takes expressions an element or a tilde is a value
pub settled_value : (p : Place) (x : Level) (fs : List Level) (out : Nodes) → awaits_at x ≤ 10 → settled p (x ∷ fs) out ≡ at (f.Value p false) (x ∷ fs) out
settled_value p (f.AttributeValue m a) fs out h = absurd (omega arith)
settled_value p (f.Children m a c) fs out h = absurd (omega arith)
settled_value p _ fs out h = refl

pub dollar_value : (p : Place) (x : Level) (fs : List Level) (out : Nodes) → awaits_at x ≤ 10 → dollar_settled p (x ∷ fs) out ≡ at (f.Value p false) (x ∷ fs) (out ++ n.Dollar p ∷ [])
dollar_value p (f.AttributeValue m a) fs out h = absurd (omega arith)
dollar_value p (f.Children m a c) fs out h = absurd (omega arith)
dollar_value p _ fs out h = refl

pub bytes_same : (xs ys : List ℕ) → xs ≡ ys → bytes_eq xs ys ≡ true
bytes_same xs ys e = (bytes_eq-Decides xs ys).1 e

pub same_bytes : (xs ys : List ℕ) → bytes_eq xs ys ≡ true → xs ≡ ys
same_bytes xs ys e = (bytes_eq-Decides xs ys).0 e

-- ---- functions by their headings

pub head_operand : (x : Heading) → is_expression x ≡ true → head_focus x ≡ f.Operand
head_operand heading.Service h = absurd cc
head_operand heading.Declaration h = absurd cc
head_operand heading.NamedExpression h = refl
head_operand heading.Expression h = refl

pub head_statement : (x : Heading) → is_expression x ≡ false → head_focus x ≡ f.Statement
head_statement heading.Service h = refl
head_statement heading.Declaration h = refl
head_statement heading.NamedExpression h = absurd cc
head_statement heading.Expression h = absurd cc

pub takes_any : (x : Heading) (fs : List Level) → is_expression x ≡ true → HeadTakes x fs
takes_any heading.Service fs h = absurd cc
takes_any heading.Declaration fs h = absurd cc
takes_any heading.NamedExpression fs h = tt
takes_any heading.Expression fs h = tt

pub takes_item : (x : Heading) (fs : List Level) → takes_items fs ≡ true → HeadTakes x fs
takes_item heading.Service fs h = h
takes_item heading.Declaration fs h = h
takes_item heading.NamedExpression fs h = tt
takes_item heading.Expression fs h = tt

pub expression_closed : (x : Heading) (p : Place) (m c : ℕ) (fs : List Level) (out : Nodes) → is_expression x ≡ true → function_closed x p m c fs out ≡ at (f.Value p false) fs (out ++ n.Function p x m c ∷ [])
expression_closed heading.Service p m c fs out h = absurd cc
expression_closed heading.Declaration p m c fs out h = absurd cc
expression_closed heading.NamedExpression p m c fs out h = refl
expression_closed heading.Expression p m c fs out h = refl

pub item_closed : (x : Heading) (p : Place) (m c : ℕ) (fs : List Level) (out : Nodes) → is_expression x ≡ false → function_closed x p m c fs out ≡ at f.Finished fs (out ++ n.Declare p x m c ∷ [])
item_closed heading.Service p m c fs out h = refl
item_closed heading.Declaration p m c fs out h = refl
item_closed heading.NamedExpression p m c fs out h = absurd cc
item_closed heading.Expression p m c fs out h = absurd cc

pub prefix_taken : (t : Token) (u : Unary) (x : Level) (fs : List Level) (out : Nodes) → awaits_at x ≤ 8 → operand_by t (sign_of u) (x ∷ fs) out ≡ at f.Operand (f.Unary u t.place ∷ x ∷ fs) out
prefix_taken t unary_op.Not x fs out h = if_true _ None (le-leb _ _ h)
prefix_taken t unary_op.Minus x fs out h = if_true _ None (le-leb _ _ h)
prefix_taken t unary_op.Plus x fs out h = if_true _ None (le-leb _ _ h)
prefix_taken t unary_op.Typeof x fs out h = if_true _ None (le-leb _ _ h)

-- a level above which an expression may be left out
pub record LeavesOut (y : Terminal) (x : Level) (fs : List Level) (next : Nodes → Next) : Type 0 where
  pub ends : binding y ≡ 0
  pub low : awaits_at x ≤ 0
  pub calm : (v : Bool) → reduces y v x ≡ false
  pub none : (t : Token) (out : Nodes) → first_by t y (x ∷ fs) out ≡ next (out ++ n.Absent ∷ [])
  pub some : (t : Token) (s : Place) (v : Bool) (out : Nodes) → shift_by t y s v x fs out ≡ next (out ++ n.Present ∷ [])

pub at_start : (p : Place) (fs : List Level) → LeavesOut k.Semicolon (f.ForStart p) fs (λ out. at f.First (f.ForTest p ∷ fs) (out ++ n.StartOptional ∷ []))
at_start p fs = record { ends = refl; low = omega arith; calm = λ v. refl; none = λ t out. refl; some = λ t s v out. refl }

pub at_test : (p : Place) (fs : List Level) → LeavesOut k.Semicolon (f.ForTest p) fs (λ out. at f.First (f.ForStep p ∷ fs) out)
at_test p fs = record { ends = refl; low = omega arith; calm = λ v. refl; none = λ t out. refl; some = λ t s v out. refl }

pub at_step : (p : Place) (fs : List Level) → LeavesOut k.Close (f.ForStep p) fs (λ out. at f.Body (f.ForBody p ∷ fs) out)
at_step p fs = record { ends = refl; low = omega arith; calm = λ v. refl; none = λ t out. refl; some = λ t s v out. refl }

abbrev pub Listed : Tokens → Tokens → Exprs → (ℕ → Level) → List Level → Nodes → Type 0
Listed ts rest es g fs out =
    (s : Place) × (v : Bool) × (i : ℕ) × (exprs_count es ≡ i + 1) × (run ts (at f.Operand (g 0 ∷ fs) out) ≡ run rest (at (f.Value s v) (g i ∷ fs) (exprs_nodes es out)))

abbrev pub Keyed : Tokens → Tokens → Props → Place → List Level → Nodes → Type 0
Keyed ts rest ps p fs out =
    (s : Place) × (v : Bool) × (i : ℕ) × (props_count ps ≡ i + 1) × (run ts (at f.Word (f.ObjectKey p 0 ∷ fs) out) ≡ run rest (at (f.Value s v) (f.ObjectValue p i ∷ fs) (props_nodes ps out)))

-- what stands at the end of a given number of declarations
abbrev pub Declared : Tokens → Tokens → Declaration → Place → ℕ → ℕ → List Level → Nodes → Nodes → Type 0
Declared ts rest d p c m fs out out' =
    (s : Next) × (run ts (at f.Word (f.DeclName d p c ∷ fs) out) ≡ run rest s)
    × ((y : Terminal) (t : Token) (more : Tokens) → is_end y ≡ true → terminal t ≡ y → run (t ∷ more) s ≡ run more (declared_by t y d p m fs out'))

pub return_ends : (t : Token) (y : Terminal) (p : Place) (fs : List Level) (out : Nodes) → is_stop y ≡ true
    → first_by t y (f.Return p ∷ fs) out ≡ ended_by t y fs (out ++ n.Absent ∷ [] ++ n.Return p ∷ [])
return_ends t k.Semicolon p fs out h = refl
return_ends t k.CloseBrace p fs out h = refl
return_ends t _ p fs out h = absurd cc

-- tildes and elements are no targets
pub tilde_is : {ts rest : Tokens} {e : Expr} → ReadsTilde ts rest e → is_target e ≡ false
tilde_is (tilde_of o ss c) = refl

pub element_is : {ts rest : Tokens} {e : Expr} → ReadsElement ts rest e → is_target e ≡ false
element_is (e_self o ats c) = refl
element_is (e_void o ats c h) = refl
element_is (e_children o ats c h cs z e) = refl
