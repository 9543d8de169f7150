-- How expressions and statements begin.
use Rattle.std.proofs.Common.{◌≡◌, ℕ, Bool, true, false, List, [], ◌∷◌, refl, ap, ◌∙◌}
use Rattle.mt_tree.specs.declared.operators.Binary.TheVariants as binary_op
use Rattle.mt_tree.specs.declared.operators.Unary.{Unary}
use Rattle.mt_tree.specs.declared.operators.Unary.TheVariants as unary_op
use Rattle.mt_tree.specs.declared.operators.VarKind.TheVariants as var_kind
use Rattle.mt_grammar.specs.declared.terminal.Infix.TheVariants as infix_op
use Rattle.mt_grammar.specs.declared.terminal.Terminal.{Terminal}
use Rattle.mt_grammar.specs.declared.terminal.Terminal.TheVariants as k
use Rattle.mt_grammar.specs.Token.{Token, Tokens, place_of, terminal}
use Rattle.mt_grammar.specs.Tree.{Title, heading_of, Names, Expr, Exprs, Stmts}
use Rattle.mt_grammar.specs.Nodes.{Nodes}
use Rattle.mt_grammar.specs.Stack.{Level, Focus}
use Rattle.mt_grammar.specs.Stack as f
use Rattle.mt_grammar.specs.Grammar.{sign_of, begins_expression, begins_single, First, is_expression, Head, h_service, h_declaration, h_named, h_expression, Reads, r_assign, r_up, r_condition, r_operation, r_unary, r_step_before, r_step_after, r_dot, r_index, r_call_none, r_call, r_name, r_number, r_text, r_constant, r_paren, r_array_none, r_array, r_array_comma, r_object_none, r_object, r_object_comma, r_function, r_tilde, r_dollar, r_element, ReadsList, first_expr, next_expr, ReadsFunction, function_of, ReadsTilde, tilde_of, ReadsDollar, dollar_of, ReadsElement, e_self, e_void, e_children}
use Rattle.mt_grammar.specs.Machine.{at, operand_by, statement_by, body_by, first_by, run}

abbrev pub starter : Terminal → Bool
starter k.Name = true
starter k.Number = true
starter k.Text = true
starter (k.Constant v) = true
starter k.Open = true
starter k.OpenSquare = true
starter k.OpenBrace = true
starter k.Function = true
starter k.Exclamation = true
starter k.Typeof = true
starter (k.Infix (infix_op.Binary binary_op.Add)) = true
starter (k.Infix (infix_op.Binary binary_op.Sub)) = true
starter (k.Step d) = true
starter k.TildeOpen = true
starter k.DollarOpen = true
starter k.TagOpen = true
starter _ = false

abbrev pub Starts : Tokens → Type 0
Starts [] = ⊥
Starts (t ∷ ts) = starter (terminal t) ≡ true

pub sign_starts : (u : Unary) → starter (sign_of u) ≡ true
sign_starts unary_op.Not = refl
sign_starts unary_op.Minus = refl
sign_starts unary_op.Plus = refl
sign_starts unary_op.Typeof = refl

pub function_starts : {h : Title} {ts rest : Tokens} {ns : Names} {ss : Stmts} → ReadsFunction h ts rest ns ss → is_expression (heading_of h) ≡ true → Starts ts
function_starts (function_of d ps b ss c) h = head_starts d h
  where
    head_starts : {h : Title} {ts list : Tokens} → Head h ts list → is_expression (heading_of h) ≡ true → Starts ts
    head_starts (h_service w n o) h = absurd cc
    head_starts (h_declaration w n o) h = absurd cc
    head_starts (h_named w n o) h = ap starter w
    head_starts (h_expression w o) h = ap starter w

pub tilde_starts : {ts rest : Tokens} {e : Expr} → ReadsTilde ts rest e → Starts ts
tilde_starts (tilde_of o ss c) = ap starter o

pub dollar_starts : {ts rest : Tokens} {e : Expr} → ReadsDollar ts rest e → Starts ts
dollar_starts (dollar_of o e c) = ap starter o

pub element_starts : {ts rest : Tokens} {e : Expr} → ReadsElement ts rest e → Starts ts
element_starts (e_self o ats c) = ap starter o
element_starts (e_void o ats c h) = ap starter o
element_starts (e_children o ats c h cs z e) = ap starter o

pub starts : {l : ℕ} {ts rest : Tokens} {e : Expr} → Reads l ts rest e → Starts ts
starts (r_assign o a h q e) = starts a
starts (r_up a) = starts a
starts (r_condition a q b c d) = starts a
starts (r_operation o h a q b) = starts a
starts (r_unary u q a) = ap starter q ∙ sign_starts u
starts (r_step_before d q a h) = ap starter q
starts (r_step_after d a h q) = starts a
starts (r_dot a q n) = starts a
starts (r_index a q x c) = starts a
starts (r_call_none a q c) = starts a
starts (r_call a q es c) = starts a
starts (r_name q) = ap starter q
starts (r_number q) = ap starter q
starts (r_text q) = ap starter q
starts (r_constant v q) = ap starter q
starts (r_paren q e c) = ap starter q
starts (r_array_none q c) = ap starter q
starts (r_array q es c) = ap starter q
starts (r_array_comma q es m c) = ap starter q
starts (r_object_none q c) = ap starter q
starts (r_object q es c) = ap starter q
starts (r_object_comma q es m c) = ap starter q
starts (r_function d h) = function_starts d h
starts (r_tilde d) = tilde_starts d
starts (r_dollar d) = dollar_starts d
starts (r_element d) = element_starts d

pub list_starts : {ts rest : Tokens} {es : Exprs} → ReadsList ts rest es → Starts ts
list_starts (first_expr e) = starts e
list_starts (next_expr es c e) = list_starts es

pub first_is : (t : Token) (y : Terminal) (fs : List Level) (out : Nodes) → starter y ≡ true → first_by t y fs out ≡ operand_by t y fs out
first_is t k.Close fs out h = absurd cc
first_is t k.CloseSquare fs out h = absurd cc
first_is t (k.Declare d) fs out h = absurd cc
first_is t k.Semicolon fs out h = absurd cc
first_is t k.CloseBrace fs out h = absurd cc
first_is t _ fs out h = refl

pub first_operand : (ts : Tokens) (fs : List Level) (out : Nodes) → Starts ts → run ts (at f.First fs out) ≡ run ts (at f.Operand fs out)
first_operand [] fs out h = elim h [ ]
first_operand (t ∷ ts) fs out h = ap (run ts) (first_is t (terminal t) fs out h)

pub statement_is : (t : Token) (y : Terminal) (fs : List Level) (out : Nodes) → starter y ≡ true → begins_expression y ≡ true → statement_by t y fs out ≡ operand_by t y (f.Expression t.place ∷ fs) out
statement_is t (k.Declare d) fs out h g = absurd cc
statement_is t k.If fs out h g = absurd cc
statement_is t k.While fs out h g = absurd cc
statement_is t k.For fs out h g = absurd cc
statement_is t k.Return fs out h g = absurd cc
statement_is t (k.Jump j) fs out h g = absurd cc
statement_is t k.Throw fs out h g = absurd cc
statement_is t k.Try fs out h g = absurd cc
statement_is t k.OpenBrace fs out h g = absurd cc
statement_is t k.CloseBrace fs out h g = absurd cc
statement_is t k.Semicolon fs out h g = absurd cc
statement_is t k.Function fs out h g = absurd cc
statement_is t k.Service fs out h g = absurd cc
statement_is t _ fs out h g = refl

pub statement_operand : (ts : Tokens) (fs : List Level) (out : Nodes) → Starts ts → First begins_expression ts → run ts (at f.Statement fs out) ≡ run ts (at f.Operand (f.Expression (place_of ts) ∷ fs) out)
statement_operand [] fs out h g = elim h [ ]
statement_operand (t ∷ ts) fs out h g = ap (run ts) (statement_is t (terminal t) fs out h g)

pub body_is : (t : Token) (y : Terminal) (fs : List Level) (out : Nodes) → begins_single y ≡ true → body_by t y fs out ≡ statement_by t y (f.Single t.place ∷ fs) out
body_is t (k.Declare var_kind.Let) fs out h = absurd cc
body_is t (k.Declare var_kind.Const) fs out h = absurd cc
body_is t k.OpenBrace fs out h = absurd cc
body_is t _ fs out h = refl
