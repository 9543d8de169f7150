-- The levels that the machine leaves open behind a token count at most two finished parts more than those before it.
use Rattle.std.proofs.Common.{ℕ, suc, ◌+◌, ◌≤◌, Bool, true, false, List, [], ◌∷◌, ◌++◌, Some, None, cond, length, arith, nat_le}
use Rattle.mt_tree.specs.declared.place.Place.{Place}
use Rattle.mt_tree.specs.Tables.{is_void_tag}
use Rattle.std.specs.Str.{bytes_eq}
use Rattle.mt_tree.specs.declared.operators.Binary.TheVariants as binary_op
use Rattle.mt_tree.specs.declared.operators.VarKind.{VarKind}
use Rattle.mt_tree.specs.declared.operators.VarKind.TheVariants as var_kind
use Rattle.mt_grammar.specs.declared.terminal.Declaration.{Declaration}
use Rattle.mt_grammar.specs.declared.terminal.Declaration.TheVariants as declaration
use Rattle.mt_grammar.specs.declared.terminal.Heading.{Heading}
use Rattle.mt_grammar.specs.declared.terminal.Heading.TheVariants as heading
use Rattle.mt_grammar.specs.declared.terminal.Infix.TheVariants as infix_op
use Rattle.mt_grammar.specs.declared.terminal.Terminal.{Terminal}
use Rattle.mt_grammar.specs.declared.terminal.Terminal.TheVariants as k
use Rattle.mt_grammar.specs.Token.{Token, Tokens, close_name, terminal, is_word}
use Rattle.mt_grammar.specs.Grammar.{mark, needs_value}
use Rattle.mt_grammar.specs.Nodes.{Nodes}
use Rattle.mt_grammar.specs.Nodes as node
use Rattle.mt_grammar.specs.Stack.{Level, Focus}
use Rattle.mt_grammar.specs.Stack as f
use Rattle.mt_grammar.specs.Machine.{Next, at, after, feed, feed_by, awaits, awaits_at, made_at, start_of, reduces, takes_items, kind_of, settled, dollar_settled, function_closed, close_brace, operand_by, statement_by, body_by, else_or, catch_by, hold_by, finished_by, ended_by, declared_by, start_by, first_by, word_by, stop_by, close_by, shift_by, value_by}
use Rattle.mt_parser_machine.specs.Counts.{count_of, counted}

-- where the machine goes on, its levels count at most that many parts
abbrev pub AtMost : ℕ → Next → Type 0
AtMost n None = Unit {0}
AtMost n (Some c) = counted c.levels ≤ n

either : (b : Bool) (n : ℕ) (p q : Next) → AtMost n p → AtMost n q → AtMost n (cond b p q)
either true n p q g h = g
either false n p q g h = h

if_any : (b : Bool) (n : ℕ) (p : Next) → AtMost n p → AtMost n (cond b p None)
if_any b n p g = either b n p None g tt

unless : (b : Bool) (n : ℕ) (p : Next) → AtMost n p → AtMost n (cond b None p)
unless b n p g = either b n None p tt g

settled_few : (n : ℕ) (p : Place) (fs : List Level) (out : Nodes) → counted fs + 1 ≤ n → AtMost n (settled p fs out)
settled_few n p [] out h = omega arith
settled_few n p (f.Children m a c ∷ fs) out h = omega arith
settled_few n p (x ∷ fs) out h = omega arith

dollar_few : (n : ℕ) (p : Place) (fs : List Level) (out : Nodes) → counted fs + 1 ≤ n → AtMost n (dollar_settled p fs out)
dollar_few n p [] out h = omega arith
dollar_few n p (f.Children m a c ∷ fs) out h = omega arith
dollar_few n p (x ∷ fs) out h = omega arith

closed_few : (n : ℕ) (h : Heading) (p : Place) (m c : ℕ) (fs : List Level) (out : Nodes) → counted fs ≤ n → AtMost n (function_closed h p m c fs out)
closed_few n heading.Service p m c fs out g = g
closed_few n heading.Declaration p m c fs out g = g
closed_few n heading.NamedExpression p m c fs out g = g
closed_few n heading.Expression p m c fs out g = g

brace_few : (n : ℕ) (fs : List Level) (out : Nodes) → counted fs + 1 ≤ n → AtMost n (close_brace fs out)
brace_few n (f.Block p c ∷ fs) out g = omega arith
brace_few n (f.FunctionBody h p m c ∷ fs) out g = closed_few n h p m c fs out (omega arith)
brace_few n (f.Tilde p c ∷ fs) out g = settled_few n p fs _ (omega arith)
brace_few n _ out g = tt

module _ (t : Token) (n : ℕ) where
  operand_few : (y : Terminal) (fs : List Level) (out : Nodes) → counted fs ≤ n → AtMost n (operand_by t y fs out)
  operand_few k.Name fs out g = g
  operand_few k.Number fs out g = g
  operand_few k.Text fs out g = g
  operand_few (k.Constant v) fs out g = g
  operand_few k.Open fs out g = omega arith
  operand_few k.OpenSquare fs out g = omega arith
  operand_few k.OpenBrace fs out g = omega arith
  operand_few k.Function fs out g = omega arith
  operand_few k.Exclamation fs out g = if_any (nat_le (awaits fs) 8) n _ (omega arith)
  operand_few k.Typeof fs out g = if_any (nat_le (awaits fs) 8) n _ (omega arith)
  operand_few (k.Infix (infix_op.Binary binary_op.Add)) fs out g = if_any (nat_le (awaits fs) 8) n _ (omega arith)
  operand_few (k.Infix (infix_op.Binary binary_op.Sub)) fs out g = if_any (nat_le (awaits fs) 8) n _ (omega arith)
  operand_few (k.Step d) fs out g = if_any (nat_le (awaits fs) 8) n _ (omega arith)
  operand_few k.TildeOpen fs out g = omega arith
  operand_few k.DollarOpen fs out g = omega arith
  operand_few k.TagOpen fs out g = omega arith
  operand_few _ fs out g = tt

  statement_few : (y : Terminal) (fs : List Level) (out : Nodes) → counted fs + 1 ≤ n → AtMost n (statement_by t y fs out)
  statement_few (k.Declare d) fs out g = omega arith
  statement_few k.If fs out g = omega arith
  statement_few k.While fs out g = omega arith
  statement_few k.For fs out g = omega arith
  statement_few k.Return fs out g = omega arith
  statement_few (k.Jump j) fs out g = omega arith
  statement_few k.Throw fs out g = omega arith
  statement_few k.Try fs out g = omega arith
  statement_few k.OpenBrace fs out g = omega arith
  statement_few k.CloseBrace fs out g = brace_few n fs out g
  statement_few k.Semicolon fs out g = omega arith
  statement_few k.Function fs out g = if_any (takes_items fs) n _ (omega arith)
  statement_few k.Service fs out g = if_any (takes_items fs) n _ (omega arith)
  statement_few y fs out g = operand_few y (f.Expression t.place ∷ fs) out (omega arith)

  body_few : (y : Terminal) (fs : List Level) (out : Nodes) → counted fs + 1 ≤ n → AtMost n (body_by t y fs out)
  body_few (k.Declare var_kind.Let) fs out g = tt
  body_few (k.Declare var_kind.Const) fs out g = tt
  body_few k.OpenBrace fs out g = omega arith
  body_few y fs out g = statement_few y (f.Single t.place ∷ fs) out (omega arith)

  catch_few : (y : Terminal) (s : Next) → AtMost n s → AtMost n (catch_by t y s)
  catch_few k.Catch s g = g
  catch_few _ s g = tt

  hold_few : (y : Terminal) (x : Level) (fs : List Level) (out : Nodes) → count_of x + counted fs + 2 ≤ n → AtMost n (hold_by t y x fs out)
  hold_few y (f.Program c) fs out g = statement_few y (f.Program (c + 1) ∷ fs) out (omega arith)
  hold_few y (f.Block p c) fs out g = statement_few y (f.Block p (c + 1) ∷ fs) out (omega arith)
  hold_few y (f.FunctionBody h p m c) fs out g = statement_few y (f.FunctionBody h p m (c + 1) ∷ fs) out (omega arith)
  hold_few y (f.Tilde p c) fs out g = statement_few y (f.Tilde p (c + 1) ∷ fs) out (omega arith)
  hold_few y (f.TryBlock p) fs out g = catch_few y _ (omega arith)
  hold_few y _ fs out g = tt

  else_few : (y : Terminal) (p q : Next) → AtMost n p → AtMost n q → AtMost n (else_or t y p q)
  else_few k.Else p q g h = g
  else_few _ p q g h = h

  finished_few : (y : Terminal) (fs : List Level) (out : Nodes) → counted fs + 2 ≤ n → AtMost n (finished_by t y fs out)
  finished_few y [] out g = tt
  finished_few y (f.Single p ∷ fs) out g = finished_few y fs _ (omega arith)
  finished_few y (f.IfThen p ∷ fs) out g = else_few y _ _ (omega arith) (finished_few y fs _ (omega arith))
  finished_few y (f.IfElse p ∷ fs) out g = finished_few y fs _ (omega arith)
  finished_few y (f.WhileBody p ∷ fs) out g = finished_few y fs _ (omega arith)
  finished_few y (f.ForBody p ∷ fs) out g = finished_few y fs _ (omega arith)
  finished_few y (f.CatchBlock p ∷ fs) out g = finished_few y fs _ (omega arith)
  finished_few y (x ∷ fs) out g = hold_few y x fs out g

  ended_few : (y : Terminal) (fs : List Level) (out : Nodes) → counted fs + 2 ≤ n → AtMost n (ended_by t y fs out)
  ended_few k.Semicolon fs out g = omega arith
  ended_few k.CloseBrace fs out g = finished_few k.CloseBrace fs out g
  ended_few _ fs out g = tt

  declared_few : (y : Terminal) (d : Declaration) (p : Place) (c : ℕ) (fs : List Level) (out : Nodes) → c + counted fs + 2 ≤ n → AtMost n (declared_by t y d p c fs out)
  declared_few k.Comma d p c fs out g = omega arith
  declared_few k.Semicolon declaration.ForStart p c fs out g = omega arith
  declared_few y (declaration.Statement d) p c fs out g = ended_few y fs (out ++ node.Var p d c ∷ []) (omega arith)
  declared_few y declaration.ForStart p c fs out g = tt

  start_few : (d : VarKind) (s : Next) → AtMost n s → AtMost n (start_by t d s)
  start_few var_kind.Var s g = g
  start_few _ s g = tt

  first_few : (y : Terminal) (fs : List Level) (out : Nodes) → counted fs + 2 ≤ n → AtMost n (first_by t y fs out)
  first_few k.Close (f.Arguments s c ∷ fs) out g = omega arith
  first_few k.CloseSquare (f.Array p c ∷ fs) out g = omega arith
  first_few (k.Declare d) (f.ForStart p ∷ fs) out g = start_few d _ (omega arith)
  first_few k.Semicolon (f.ForStart p ∷ fs) out g = omega arith
  first_few k.Semicolon (f.ForTest p ∷ fs) out g = omega arith
  first_few k.Close (f.ForStep p ∷ fs) out g = omega arith
  first_few k.Semicolon (f.Return p ∷ fs) out g = omega arith
  first_few k.CloseBrace (f.Return p ∷ fs) out g = finished_few k.CloseBrace fs _ (omega arith)
  first_few y fs out g = operand_few y fs out (omega arith)

  word_few : (x : Level) (y : Terminal) (fs : List Level) (out : Nodes) → count_of x + counted fs + 2 ≤ n → AtMost n (word_by t x y fs out)
  word_few (f.IfOpen p) k.Open fs out g = omega arith
  word_few (f.WhileOpen p) k.Open fs out g = omega arith
  word_few (f.ForOpen p) k.Open fs out g = omega arith
  word_few (f.DeclName d p c) k.Name fs out g = omega arith
  word_few (f.DeclNext d p c) (k.Assign None) fs out g = omega arith
  word_few (f.DeclNext d p c) y fs out g = unless (needs_value (kind_of d)) n _ (declared_few y d p c fs out g)
  word_few (f.Jump p j) y fs out g = ended_few y fs (out ++ node.Jump p j ∷ []) (omega arith)
  word_few (f.TryOpen p) k.OpenBrace fs out g = omega arith
  word_few (f.CatchOpen p) k.Open fs out g = omega arith
  word_few (f.CatchName p) k.Name fs out g = omega arith
  word_few (f.CatchClose p) k.Close fs out g = omega arith
  word_few (f.CatchBrace p) k.OpenBrace fs out g = omega arith
  word_few (f.FunctionStart p) k.Name fs out g = omega arith
  word_few (f.FunctionStart p) k.Open fs out g = omega arith
  word_few (f.FunctionName h p) k.Name fs out g = omega arith
  word_few (f.FunctionOpen h p) k.Open fs out g = omega arith
  word_few (f.FunctionFirst h p) k.Close fs out g = omega arith
  word_few (f.FunctionFirst h p) k.Name fs out g = omega arith
  word_few (f.FunctionNext h p m) k.Comma fs out g = omega arith
  word_few (f.FunctionNext h p m) k.Close fs out g = omega arith
  word_few (f.ParameterName h p m) k.Name fs out g = omega arith
  word_few (f.FunctionBrace h p m) k.OpenBrace fs out g = omega arith
  word_few (f.Dot s) y fs out g = if_any (is_word y) n (at (f.Value s true) fs (out ++ node.Property (mark t) ∷ [] ++ node.Index s ∷ [])) (omega arith)
  word_few (f.ObjectKey p c) k.CloseBrace fs out g = omega arith
  word_few (f.ObjectKey p c) k.Text fs out g = omega arith
  word_few (f.ObjectKey p c) y fs out g = if_any (is_word y) n (at f.Word (f.ObjectColon p c ∷ fs) (out ++ node.Word (mark t) ∷ [])) (omega arith)
  word_few (f.ObjectColon p c) k.Colon fs out g = omega arith
  word_few (f.Attributes m a v) k.AttributeName fs out g = omega arith
  word_few (f.Attributes m a v) (k.Assign None) fs out g = if_any v n _ (omega arith)
  word_few (f.Attributes m a v) k.TagSelfEnd fs out g = settled_few n m.place fs _ (omega arith)
  word_few (f.Attributes m a v) k.TagEnd fs out g = either (is_void_tag m.text) n _ _ (settled_few n m.place fs _ (omega arith)) (omega arith)
  word_few (f.AttributeValue m a) k.Quoted fs out g = omega arith
  word_few (f.AttributeValue m a) k.TildeOpen fs out g = omega arith
  word_few (f.AttributeValue m a) k.DollarOpen fs out g = omega arith
  word_few (f.Children m a c) k.ChildText fs out g = omega arith
  word_few (f.Children m a c) k.TagOpen fs out g = omega arith
  word_few (f.Children m a c) k.TildeOpen fs out g = omega arith
  word_few (f.Children m a c) k.DollarOpen fs out g = omega arith
  word_few (f.Children m a c) k.CloseTag fs out g = if_any (bytes_eq (close_name t) m.text) n _ (settled_few n m.place fs _ (omega arith))
  word_few _ _ fs out g = tt

  stop_few : (y : Terminal) (x : Level) (fs : List Level) (out : Nodes) → count_of x + counted fs + 2 ≤ n → AtMost n (stop_by t y x fs out)
  stop_few y (f.DeclValue d p c) fs out g = declared_few y d p c fs _ g
  stop_few y (f.Return p) fs out g = ended_few y fs _ (omega arith)
  stop_few y (f.Throw p) fs out g = ended_few y fs _ (omega arith)
  stop_few y (f.Expression p) fs out g = ended_few y fs _ (omega arith)
  stop_few y _ fs out g = tt

  close_few : (y : Terminal) (v : Bool) (x : Level) (fs : List Level) (out : Nodes) → count_of x + counted fs + 2 ≤ n → AtMost n (close_by t y v x fs out)
  close_few k.Close v (f.Paren p) fs out g = omega arith
  close_few k.Close v (f.IfTest p) fs out g = omega arith
  close_few k.Close v (f.WhileTest p) fs out g = omega arith
  close_few k.Close v (f.ForStep p) fs out g = omega arith
  close_few k.Close v (f.Arguments s c) fs out g = omega arith
  close_few k.CloseSquare v (f.Index s) fs out g = omega arith
  close_few k.CloseSquare v (f.Array p c) fs out g = omega arith
  close_few k.Comma v (f.Arguments s c) fs out g = omega arith
  close_few k.Comma v (f.Array p c) fs out g = omega arith
  close_few k.Comma v (f.ObjectValue p c) fs out g = omega arith
  close_few k.Comma v x fs out g = stop_few k.Comma x fs out g
  close_few k.Colon v (f.CondTest s) fs out g = omega arith
  close_few k.Semicolon v (f.ForStart p) fs out g = omega arith
  close_few k.Semicolon v (f.ForTest p) fs out g = omega arith
  close_few k.Semicolon v x fs out g = stop_few k.Semicolon x fs out g
  close_few k.CloseBrace v (f.ObjectValue p c) fs out g = omega arith
  close_few k.CloseBrace v (f.Dollar p) fs out g = dollar_few n p fs out (omega arith)
  close_few k.CloseBrace v x fs out g = stop_few k.CloseBrace x fs out g
  close_few _ v _ fs out g = tt

  shift_few : (y : Terminal) (s : Place) (v : Bool) (x : Level) (fs : List Level) (out : Nodes) → count_of x + counted fs + 2 ≤ n → AtMost n (shift_by t y s v x fs out)
  shift_few k.Dot s v x fs out g = omega arith
  shift_few k.OpenSquare s v x fs out g = omega arith
  shift_few k.Open s v x fs out g = omega arith
  shift_few (k.Assign o) s v x fs out g = if_any v n _ (omega arith)
  shift_few (k.Step d) s v x fs out g = if_any v n _ (omega arith)
  shift_few (k.Infix o) s v x fs out g = omega arith
  shift_few k.Question s v x fs out g = omega arith
  shift_few y s v x fs out g = close_few y v x fs out g

  value_few : (y : Terminal) (s : Place) (v : Bool) (fs : List Level) (out : Nodes) → counted fs + 2 ≤ n → AtMost n (value_by t y s v fs out)
  value_few y s v [] out g = tt
  value_few y s v (x ∷ fs) out g =
      either (reduces y v x) n _ _ (value_few y (start_of x) false fs _ (omega arith)) (if_any (nat_le (awaits_at x) (made_at y)) n _ (shift_few y s v x fs out g))

  feed_few : (x : Focus) (fs : List Level) (out : Nodes) → counted fs + 2 ≤ n → AtMost n (feed_by t x fs out)
  feed_few f.Statement fs out g = statement_few (terminal t) fs out (omega arith)
  feed_few f.Body fs out g = body_few (terminal t) fs out (omega arith)
  feed_few f.Operand fs out g = operand_few (terminal t) fs out (omega arith)
  feed_few f.First fs out g = first_few (terminal t) fs out g
  feed_few f.Word [] out g = tt
  feed_few f.Word (x ∷ fs) out g = word_few x (terminal t) fs out g
  feed_few (f.Value s v) fs out g = value_few (terminal t) s v fs out g
  feed_few f.Finished fs out g = finished_few (terminal t) fs out g

fed_few : (t : Token) (n : ℕ) (s : Next) → AtMost n s → AtMost (n + 2) (feed t s)
fed_few t n None g = tt
fed_few t n (Some c) g = feed_few t (n + 2) c.focus c.levels c.nodes (omega arith)

more : (n m : ℕ) (s : Next) → AtMost (n + 2 + (m + m)) s → AtMost (n + (suc m + suc m)) s
more n m None g = tt
more n m (Some c) g = omega arith

same : (n : ℕ) (s : Next) → AtMost n s → AtMost (n + (0 + 0)) s
same n None g = tt
same n (Some c) g = omega arith

-- behind each token two more
pub after_few : (ts : Tokens) (n : ℕ) (s : Next) → AtMost n s → AtMost (n + (length ts + length ts)) (after ts s)
after_few [] n s g = same n s g
after_few (t ∷ ts) n s g = more n (length ts) (after ts (feed t s)) (after_few ts (n + 2) (feed t s) (fed_few t n s g))
