-- Which level may stand on which, and the tokens that end what is open.
use Rattle.std.proofs.Common.{◌≡◌, ℕ, ◌≤◌, Bool, true, false, cond, List, [], ◌∷◌, ◌++◌, drop, codes, refl, sym, ap, ◌∙◌, arith}
use Rattle.mt_tree.specs.declared.kind.Kind.{Kind}
use Rattle.mt_tree.specs.declared.kind.Kind.TheVariants as kind
use Rattle.mt_grammar.specs.declared.terminal.Heading.{Heading}
use Rattle.mt_grammar.specs.declared.terminal.Heading.TheVariants as heading
use Rattle.mt_grammar.specs.declared.terminal.Infix.{Infix}
use Rattle.mt_grammar.specs.Token.{Token, Tokens, nowhere, open_name, close_name}
use Rattle.mt_grammar.specs.Nodes.{Nodes}
use Rattle.mt_grammar.specs.Stack.{Level, Focus}
use Rattle.mt_grammar.specs.Stack as f
use Rattle.mt_grammar.specs.Grammar.{precedence_of, is_expression}
use Rattle.mt_grammar.specs.Machine.{awaits_at}
use Rattle.mt_grammar.proofs.Open.{Want, an_item, a_statement, a_body, a_value, wants, takes_stmt, takes_block, holds_code, holds_element, leaves_out, head_wants, Open, o_program, o_block, o_body, o_tilde, o_single, o_if_open, o_if_test, o_if_then, o_if_else, o_while_open, o_while_test, o_while_body, o_for_open, o_for_start, o_for_test, o_for_step, o_for_body, o_decl_name, o_decl_next, o_decl_value, o_return, o_jump, o_throw, o_statement, o_try_open, o_try_block, o_catch_open, o_catch_name, o_catch_close, o_catch_brace, o_catch_block, o_function_start, o_function_name, o_function_open, o_function_first, o_function_next, o_parameter_name, o_function_brace, o_paren, o_operation, o_unary, o_step_before, o_step_after, o_assign, o_cond_test, o_cond_else, o_dot, o_index, o_arguments, o_array, o_object_key, o_object_colon, o_object_value, o_dollar, o_attributes, o_attribute_name, o_attribute_value, o_children}
use Rattle.mt_grammar.specs.Token.{is_tag_byte, tag_bytes}
use Rattle.mt_grammar.proofs.Precedence.{precedence_between}

-- tokens that end what is open
abbrev pub made : Kind → List ℕ → Token
made kd bs = record { kind = kd; text = bs; place = nowhere }

abbrev pub a_name : Token
a_name = made kind.Name (codes "a")

abbrev pub a_number : Token
a_number = made kind.Number (codes "0")

abbrev pub a_catch : Token
a_catch = made kind.Reserved (codes "catch")

abbrev pub a_sign : List ℕ → Token
a_sign bs = made kind.Punctuator bs

abbrev pub opening : Token
opening = a_sign (codes "(")

abbrev pub closing : Token
closing = a_sign (codes ")")

abbrev pub closing_square : Token
closing_square = a_sign (codes "]")

abbrev pub opening_brace : Token
opening_brace = a_sign (codes "{")

abbrev pub closing_brace : Token
closing_brace = a_sign (codes "}")

abbrev pub a_semicolon : Token
a_semicolon = a_sign (codes ";")

abbrev pub a_colon : Token
a_colon = a_sign (codes ":")

abbrev pub a_dot : Token
a_dot = a_sign (codes ".")

abbrev pub an_equals : Token
an_equals = a_sign (codes "=")

abbrev pub a_self_end : Token
a_self_end = made kind.TagEnd (codes "/>")

abbrev pub a_quoted_text : Token
a_quoted_text = made kind.Quoted (codes "''")

abbrev pub closing_tag : List ℕ → Token
closing_tag bs = made kind.CloseTag (60 ∷ 47 ∷ bs ++ 62 ∷ [])

-- a name that some token opens
abbrev pub IsTagName : List ℕ → Type 0
IsTagName bs = (word : List ℕ) × (bs ≡ tag_bytes word)

pub named_tag : (o : Token) → IsTagName (open_name o)
unfolding open_name
named_tag o = (drop 1 o.text, refl)

pub tag_step : (b : ℕ) (bs : List ℕ) (c : Bool) → is_tag_byte b ≡ c → tag_bytes (tag_bytes bs ++ 62 ∷ []) ≡ tag_bytes bs → tag_bytes (cond c (b ∷ tag_bytes bs) [] ++ 62 ∷ []) ≡ cond c (b ∷ tag_bytes bs) []
unfolding tag_bytes
tag_step b bs true e h = ap (λ c. cond c (b ∷ tag_bytes (tag_bytes bs ++ 62 ∷ [])) []) e ∙ ap (λ xs. b ∷ xs) h
tag_step b bs false e h = refl

pub tag_again : (bs : List ℕ) → tag_bytes (tag_bytes bs ++ 62 ∷ []) ≡ tag_bytes bs
unfolding tag_bytes
tag_again [] = refl
tag_again (b ∷ bs) = tag_step b bs (is_tag_byte b) refl (tag_again bs)

pub closes_tag : (bs : List ℕ) → IsTagName bs → close_name (closing_tag bs) ≡ bs
unfolding close_name
closes_tag bs h = ap (λ m. tag_bytes (m ++ 62 ∷ [])) h.1 ∙ tag_again h.0 ∙ sym h.1

-- which level may stand on which
abbrev pub StandsOn : Level → Level → Type 0
StandsOn (f.Program c) x = ⊥
StandsOn (f.Block p c) x = takes_block (wants x) ≡ true
StandsOn (f.FunctionBody h p m c) x = wants x ≡ head_wants h
StandsOn (f.Tilde p c) x = holds_code x ≡ true
StandsOn (f.Single p) x = wants x ≡ a_body
StandsOn (f.FunctionStart p) x = wants x ≡ a_value
StandsOn (f.FunctionName h p) x = wants x ≡ head_wants h
StandsOn (f.FunctionOpen h p) x = wants x ≡ head_wants h
StandsOn (f.FunctionFirst h p) x = wants x ≡ head_wants h
StandsOn (f.FunctionNext h p m) x = wants x ≡ head_wants h
StandsOn (f.ParameterName h p m) x = wants x ≡ head_wants h
StandsOn (f.FunctionBrace h p m) x = wants x ≡ head_wants h
StandsOn (f.Paren p) x = wants x ≡ a_value
StandsOn (f.Operation o s) x = (wants x ≡ a_value) × (awaits_at x ≤ 9)
StandsOn (f.Unary u p) x = (wants x ≡ a_value) × (awaits_at x ≤ 9)
StandsOn (f.StepBefore d p) x = (wants x ≡ a_value) × (awaits_at x ≤ 9)
StandsOn (f.StepAfter d s) x = (wants x ≡ a_value) × (awaits_at x ≤ 9)
StandsOn (f.Assign o s) x = (wants x ≡ a_value) × (awaits_at x ≤ 9)
StandsOn (f.CondTest s) x = (wants x ≡ a_value) × (awaits_at x ≤ 9)
StandsOn (f.CondElse s) x = (wants x ≡ a_value) × (awaits_at x ≤ 9)
StandsOn (f.Dot s) x = wants x ≡ a_value
StandsOn (f.Index s) x = wants x ≡ a_value
StandsOn (f.Arguments s c) x = wants x ≡ a_value
StandsOn (f.Array p c) x = wants x ≡ a_value
StandsOn (f.ObjectKey p c) x = wants x ≡ a_value
StandsOn (f.ObjectColon p c) x = wants x ≡ a_value
StandsOn (f.ObjectValue p c) x = wants x ≡ a_value
StandsOn (f.Dollar p) x = holds_code x ≡ true
StandsOn (f.Attributes m a v) x = holds_element x ≡ true
StandsOn (f.AttributeValue m a) x = holds_element x ≡ true
StandsOn (f.Children m a c) x = (holds_element x ≡ true) × IsTagName m.text
StandsOn y x = takes_stmt (wants x) ≡ true

pub data Stands : List Level → Type 0 where
  bottom : {c : ℕ} → Stands (f.Program c ∷ [])
  above : {y x : Level} {fs : List Level} → Stands (x ∷ fs) → StandsOn y x → Stands (y ∷ x ∷ fs)

pub item_head : (h : Heading) → is_expression h ≡ false → head_wants h ≡ an_item
item_head heading.Service e = refl
item_head heading.Declaration e = refl
item_head heading.NamedExpression e = absurd cc
item_head heading.Expression e = absurd cc

pub low_enough : (o : Infix) {m : ℕ} → m ≤ precedence_of o → m ≤ 9
low_enough o h = let b = (precedence_between o).1 in omega arith

module _ (all : Tokens) where
  pub stands : {fs : List Level} {out : Nodes} {ts : Tokens} → Open all fs out ts → Stands fs
  stands (o_program p1) = bottom
  stands (o_block st p2 p3 p4) = above (stands st) p2
  stands (o_body st p2 p3 p4 p5 p6) = above (stands st) p2
  stands (o_tilde st p2 p3 p4) = above (stands st) p2
  stands (o_single st p2 p3) = above (stands st) p2
  stands (o_if_open st p2 p3) = above (stands st) p2
  stands (o_if_test st p2 p3 p4) = above (stands st) p2
  stands (o_if_then st p2 p3 p4 p5 p6) = above (stands st) p2
  stands (o_if_else st p2 p3 p4 p5 p6 p7 p8) = above (stands st) p2
  stands (o_while_open st p2 p3) = above (stands st) p2
  stands (o_while_test st p2 p3 p4) = above (stands st) p2
  stands (o_while_body st p2 p3 p4 p5 p6) = above (stands st) p2
  stands (o_for_open st p2 p3) = above (stands st) p2
  stands (o_for_start st p2 p3 p4) = above (stands st) p2
  stands (o_for_test st p2 p3 p4 p5) = above (stands st) p2
  stands (o_for_step st p2 p3 p4 p5 p6) = above (stands st) p2
  stands (o_for_body st p2 p3 p4 p5 p6 p7) = above (stands st) p2
  stands (o_decl_name st p2 p3 p4) = above (stands st) p2
  stands (o_decl_next st p2 p3 p4 p5) = above (stands st) p2
  stands (o_decl_value st p2 p3 p4 p5 p6) = above (stands st) p2
  stands (o_return st p2 p3) = above (stands st) p2
  stands (o_jump j st p2 p3) = above (stands st) p2
  stands (o_throw st p2 p3) = above (stands st) p2
  stands (o_statement st p2 p3) = above (stands st) p2
  stands (o_try_open st p2 p3) = above (stands st) p2
  stands (o_try_block st p2 p3) = above (stands st) p2
  stands (o_catch_open st p2 p3 p4 p5) = above (stands st) p2
  stands (o_catch_name st p2 p3 p4 p5 p6) = above (stands st) p2
  stands (o_catch_close st p2 p3 p4 p5 p6 p7) = above (stands st) p2
  stands (o_catch_brace st p2 p3 p4 p5 p6 p7 p8) = above (stands st) p2
  stands (o_catch_block st p2 p3 p4 p5 p6 p7 p8) = above (stands st) p2
  stands (o_function_start st p2 p3) = above (stands st) p2
  stands (o_function_name h st p2 p3 p4) = above (stands st) (p2 ∙ sym (item_head h p3))
  stands (o_function_open st p2 p3) = above (stands st) p2
  stands (o_function_first st p2 p3) = above (stands st) p2
  stands (o_function_next st p2 p3 p4) = above (stands st) p2
  stands (o_parameter_name st p2 p3 p4 p5) = above (stands st) p2
  stands (o_function_brace st p2 p3 p4) = above (stands st) p2
  stands (o_paren st p2 p3) = above (stands st) p2
  stands (o_operation o st p2 p3 p4 p5) = above (stands st) (p2, (low_enough o p3))
  stands (o_unary u st p2 p3 p4) = above (stands st) (p2, omega arith)
  stands (o_step_before d st p2 p3 p4) = above (stands st) (p2, omega arith)
  stands (o_step_after d st p2 p3 p4 p5 p6) = above (stands st) (p2, omega arith)
  stands (o_assign o st p2 p3 p4 p5 p6) = above (stands st) (p2, omega arith)
  stands (o_cond_test st p2 p3 p4 p5) = above (stands st) (p2, omega arith)
  stands (o_cond_else st p2 p3 p4 p5 p6 p7) = above (stands st) (p2, omega arith)
  stands (o_dot st p2 p3 p4) = above (stands st) p2
  stands (o_index st p2 p3 p4) = above (stands st) p2
  stands (o_arguments st p2 p3 p4 p5) = above (stands st) p2
  stands (o_array st p2 p3 p4) = above (stands st) p2
  stands (o_object_key st p2 p3 p4) = above (stands st) p2
  stands (o_object_colon st p2 p3 p4 p5) = above (stands st) p2
  stands (o_object_value st p2 p3 p4 p5 p6) = above (stands st) p2
  stands (o_dollar st p2 p3) = above (stands st) p2
  stands (o_attributes st p2 p3 p4) = above (stands st) p2
  stands (o_attribute_name st p2 p3 p4 p5) = above (stands st) p2
  stands (o_attribute_value st p2 p3 p4 p5 p6) = above (stands st) p2
  stands (o_children {o} st p2 p3 p4 p5 p6 p7) = above (stands st) (p2, named_tag o)

pub stmt_block : (z : Want) → takes_stmt z ≡ true → takes_block z ≡ true
stmt_block an_item h = refl
stmt_block a_statement h = refl
stmt_block _ h = absurd cc

pub element_code : (x : Level) → holds_element x ≡ true → holds_code x ≡ true
element_code (f.AttributeValue m a) h = refl
element_code (f.Children m a c) h = refl
element_code _ h = h

pub leaves_value : (x : Level) → leaves_out x ≡ true → wants x ≡ a_value
leaves_value (f.Arguments s c) h = refl
leaves_value (f.Array p c) h = refl
leaves_value (f.ForStart p) h = refl
leaves_value (f.ForTest p) h = refl
leaves_value (f.ForStep p) h = refl
leaves_value (f.Return p) h = refl
leaves_value _ h = absurd cc
