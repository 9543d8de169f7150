-- The machine that the parser is, on lists. It reads each token once, and keeps what is open on a stack.
use Rattle.std.specs.Prelude.{ℕ, ◌+◌, Bool, true, false, ◌&&◌, nat_le, if◌then◌else◌, Option, Some, None, List, [], ◌∷◌, ◌++◌}
use Rattle.std.specs.Str.{bytes_eq}
use Rattle.mt_tree.specs.declared.place.Place.{Place}
use Rattle.mt_tree.specs.Tables.{is_void_tag}
use Rattle.mt_tree.specs.declared.operators.Binary.TheVariants as binary_op
use Rattle.mt_tree.specs.declared.operators.Unary.TheVariants as unary_op
use Rattle.mt_tree.specs.declared.operators.VarKind.{VarKind}
use Rattle.mt_tree.specs.declared.operators.VarKind.TheVariants as var_kind
use Rattle.mt_grammar.specs.declared.terminal.Declaration.{Declaration}
use Rattle.mt_grammar.specs.declared.terminal.Declaration.TheVariants as declaration
use Rattle.mt_grammar.specs.declared.terminal.Heading.{Heading}
use Rattle.mt_grammar.specs.declared.terminal.Heading.TheVariants as heading
use Rattle.mt_grammar.specs.declared.terminal.Infix.TheVariants as infix_op
use Rattle.mt_grammar.specs.declared.terminal.Terminal.{Terminal}
use Rattle.mt_grammar.specs.declared.terminal.Terminal.TheVariants as k
use Rattle.mt_grammar.specs.Token.{Token, Tokens, nowhere, terminal, is_word, close_name}
use Rattle.mt_grammar.specs.Nodes.{Node, Nodes}
use Rattle.mt_grammar.specs.Nodes as n
use Rattle.mt_grammar.specs.Stack.{Level, Focus}
use Rattle.mt_grammar.specs.Stack as f
use Rattle.mt_grammar.specs.Grammar.{mark, tag_mark, precedence_of, step_before, step_after, needs_value}

pub record Configuration : Type 0 where
  pub focus : Focus
  pub levels : List Level
  pub nodes : Nodes

-- where the machine stands, or nowhere once a token was refused
abbrev pub Next : Type 0
Next = Option Configuration

abbrev pub at : Focus → List Level → Nodes → Next
at x fs out = Some (record { focus = x; levels = fs; nodes = out })

-- the precedence of expressions that are read above this level; none is at precedence 11
abbrev pub awaits_at : Level → ℕ
awaits_at (f.Operation o s) = precedence_of o + 1
awaits_at (f.Unary u p) = 8
awaits_at (f.StepBefore d p) = 10
awaits_at (f.StepAfter d s) = 11
awaits_at (f.AttributeValue m a) = 11
awaits_at (f.Children m a c) = 11
awaits_at _ = 0

abbrev pub awaits : List Level → ℕ
awaits [] = 0
awaits (x ∷ fs) = awaits_at x

-- an expression of a lower precedence than this goes on with the token
abbrev pub binding : Terminal → ℕ
binding k.Dot = 10
binding k.OpenSquare = 10
binding k.Open = 10
binding (k.Assign o) = 10
binding (k.Step d) = 10
binding (k.Infix o) = precedence_of o
binding k.Question = 2
binding _ = 0

-- the precedence of the expression that the token makes of the one before it
abbrev pub made_at : Terminal → ℕ
made_at k.Dot = 10
made_at k.OpenSquare = 10
made_at k.Open = 10
made_at (k.Step d) = 9
made_at (k.Infix o) = precedence_of o
made_at k.Question = 1
made_at _ = 0

-- the level is an operator whose last operand ends before the token
abbrev pub reduces : Terminal → Bool → Level → Bool
reduces y v (f.Operation o s) = nat_le (binding y) (precedence_of o)
reduces y v (f.Unary u p) = nat_le (binding y) 8
reduces y v (f.StepBefore d p) = v && nat_le (binding y) 9
reduces y v (f.StepAfter d s) = nat_le (binding y) 9
reduces y v (f.Assign o s) = nat_le (binding y) 0
reduces y v (f.CondElse s) = nat_le (binding y) 0
reduces y v _ = false

abbrev pub start_of : Level → Place
start_of (f.Operation o s) = s
start_of (f.Unary u p) = p
start_of (f.StepBefore d p) = p
start_of (f.StepAfter d s) = s
start_of (f.Assign o s) = s
start_of (f.CondElse s) = s
start_of _ = nowhere

abbrev pub node_of : Level → Node
node_of (f.Operation o s) = n.Operation s o
node_of (f.Unary u p) = n.Unary p u
node_of (f.StepBefore d p) = n.Step p d
node_of (f.StepAfter d s) = n.Step s d
node_of (f.Assign o s) = n.Assign s o
node_of (f.CondElse s) = n.Condition s
node_of _ = n.Absent

-- the levels that hold items
abbrev pub takes_items : List Level → Bool
takes_items (f.Program c ∷ fs) = true
takes_items (f.FunctionBody h p m c ∷ fs) = true
takes_items (f.Tilde p c ∷ fs) = true
takes_items _ = false

-- a tilde or an element that began there is finished
abbrev pub settled : Place → List Level → Nodes → Next
settled p (f.AttributeValue m a ∷ fs) out = at f.Word (f.Attributes m a false ∷ fs) (out ++ n.AttributeTilde ∷ [])
settled p (f.Children m a c ∷ fs) out = at f.Word (f.Children m a (c + 1) ∷ fs) (out ++ n.ChildDirect ∷ [])
settled p fs out = at (f.Value p false) fs out

-- a dollar that began there is finished
abbrev pub dollar_settled : Place → List Level → Nodes → Next
dollar_settled p (f.AttributeValue m a ∷ fs) out = at f.Word (f.Attributes m a false ∷ fs) (out ++ n.AttributeDollar ∷ [])
dollar_settled p (f.Children m a c ∷ fs) out = at f.Word (f.Children m a (c + 1) ∷ fs) (out ++ n.ChildDollar ∷ [])
dollar_settled p fs out = at (f.Value p false) fs (out ++ n.Dollar p ∷ [])

-- a function with that number of parameters and of statements is finished
abbrev pub function_closed : Heading → Place → ℕ → ℕ → List Level → Nodes → Next
function_closed heading.Service p m c fs out = at f.Finished fs (out ++ n.Declare p heading.Service m c ∷ [])
function_closed heading.Declaration p m c fs out = at f.Finished fs (out ++ n.Declare p heading.Declaration m c ∷ [])
function_closed heading.NamedExpression p m c fs out = at (f.Value p false) fs (out ++ n.Function p heading.NamedExpression m c ∷ [])
function_closed heading.Expression p m c fs out = at (f.Value p false) fs (out ++ n.Function p heading.Expression m c ∷ [])

-- a closing brace where a statement can stand
abbrev pub close_brace : List Level → Nodes → Next
close_brace (f.Block p c ∷ fs) out = at f.Finished fs (out ++ n.Block p c ∷ [])
close_brace (f.FunctionBody h p m c ∷ fs) out = function_closed h p m c fs out
close_brace (f.Tilde p c ∷ fs) out = settled p fs (out ++ n.Tilde p c ∷ [])
close_brace _ out = None

abbrev pub kind_of : Declaration → VarKind
kind_of (declaration.Statement d) = d
kind_of declaration.ForStart = var_kind.Var

module _ (t : Token) where
  -- an operator before its operand
  abbrev pub prefix_by : Level → List Level → Nodes → Next
  prefix_by x fs out = if nat_le (awaits fs) 8 then at f.Operand (x ∷ fs) out else None

  abbrev pub operand_by : Terminal → List Level → Nodes → Next
  operand_by k.Name fs out = at (f.Value t.place true) fs (out ++ n.Name (mark t) ∷ [])
  operand_by k.Number fs out = at (f.Value t.place false) fs (out ++ n.Number (mark t) ∷ [])
  operand_by k.Text fs out = at (f.Value t.place false) fs (out ++ n.Text (mark t) ∷ [])
  operand_by (k.Constant v) fs out = at (f.Value t.place false) fs (out ++ n.Constant t.place v ∷ [])
  operand_by k.Open fs out = at f.Operand (f.Paren t.place ∷ fs) out
  operand_by k.OpenSquare fs out = at f.First (f.Array t.place 0 ∷ fs) out
  operand_by k.OpenBrace fs out = at f.Word (f.ObjectKey t.place 0 ∷ fs) out
  operand_by k.Function fs out = at f.Word (f.FunctionStart t.place ∷ fs) out
  operand_by k.Exclamation fs out = prefix_by (f.Unary unary_op.Not t.place) fs out
  operand_by k.Typeof fs out = prefix_by (f.Unary unary_op.Typeof t.place) fs out
  operand_by (k.Infix (infix_op.Binary binary_op.Add)) fs out = prefix_by (f.Unary unary_op.Plus t.place) fs out
  operand_by (k.Infix (infix_op.Binary binary_op.Sub)) fs out = prefix_by (f.Unary unary_op.Minus t.place) fs out
  operand_by (k.Step d) fs out = prefix_by (f.StepBefore (step_before d) t.place) fs out
  operand_by k.TildeOpen fs out = at f.Statement (f.Tilde t.place 0 ∷ fs) out
  operand_by k.DollarOpen fs out = at f.Operand (f.Dollar t.place ∷ fs) out
  operand_by k.TagOpen fs out = at f.Word (f.Attributes (tag_mark t) 0 false ∷ fs) (out ++ n.Word (tag_mark t) ∷ [])
  operand_by _ fs out = None

  -- the word of a function or service where an item can stand
  abbrev pub item_by : Heading → List Level → Nodes → Next
  item_by h fs out = if takes_items fs then at f.Word (f.FunctionName h t.place ∷ fs) out else None

  abbrev pub statement_by : Terminal → List Level → Nodes → Next
  statement_by (k.Declare d) fs out = at f.Word (f.DeclName (declaration.Statement d) t.place 0 ∷ fs) out
  statement_by k.If fs out = at f.Word (f.IfOpen t.place ∷ fs) out
  statement_by k.While fs out = at f.Word (f.WhileOpen t.place ∷ fs) out
  statement_by k.For fs out = at f.Word (f.ForOpen t.place ∷ fs) out
  statement_by k.Return fs out = at f.First (f.Return t.place ∷ fs) out
  statement_by (k.Jump j) fs out = at f.Word (f.Jump t.place j ∷ fs) out
  statement_by k.Throw fs out = at f.Operand (f.Throw t.place ∷ fs) out
  statement_by k.Try fs out = at f.Word (f.TryOpen t.place ∷ fs) out
  statement_by k.OpenBrace fs out = at f.Statement (f.Block t.place 0 ∷ fs) out
  statement_by k.CloseBrace fs out = close_brace fs out
  statement_by k.Semicolon fs out = at f.Finished fs (out ++ n.Empty t.place ∷ [])
  statement_by k.Function fs out = item_by heading.Declaration fs out
  statement_by k.Service fs out = item_by heading.Service fs out
  statement_by y fs out = operand_by y (f.Expression t.place ∷ fs) out

  abbrev pub body_by : Terminal → List Level → Nodes → Next
  body_by (k.Declare var_kind.Let) fs out = None
  body_by (k.Declare var_kind.Const) fs out = None
  body_by k.OpenBrace fs out = at f.Statement (f.Block t.place 0 ∷ fs) out
  body_by y fs out = statement_by y (f.Single t.place ∷ fs) out

  abbrev pub else_or : Terminal → Next → Next → Next
  else_or k.Else other without = other
  else_or _ other without = without

  abbrev pub catch_by : Terminal → Next → Next
  catch_by k.Catch next = next
  catch_by _ next = None

  -- after a statement, at a level that goes on
  abbrev pub hold_by : Terminal → Level → List Level → Nodes → Next
  hold_by y (f.Program c) fs out = statement_by y (f.Program (c + 1) ∷ fs) out
  hold_by y (f.Block p c) fs out = statement_by y (f.Block p (c + 1) ∷ fs) out
  hold_by y (f.FunctionBody h p m c) fs out = statement_by y (f.FunctionBody h p m (c + 1) ∷ fs) out
  hold_by y (f.Tilde p c) fs out = statement_by y (f.Tilde p (c + 1) ∷ fs) out
  hold_by y (f.TryBlock p) fs out = catch_by y (at f.Word (f.CatchOpen p ∷ fs) out)
  hold_by y _ fs out = None

  -- after a statement
  abbrev pub finished_by : Terminal → List Level → Nodes → Next
  finished_by y (f.Single p ∷ fs) out = finished_by y fs (out ++ n.Block p 1 ∷ [])
  finished_by y (f.IfThen p ∷ fs) out = else_or y (at f.Body (f.IfElse p ∷ fs) out) (finished_by y fs (out ++ n.If p ∷ []))
  finished_by y (f.IfElse p ∷ fs) out = finished_by y fs (out ++ n.IfElse p ∷ [])
  finished_by y (f.WhileBody p ∷ fs) out = finished_by y fs (out ++ n.While p ∷ [])
  finished_by y (f.ForBody p ∷ fs) out = finished_by y fs (out ++ n.For p ∷ [])
  finished_by y (f.CatchBlock p ∷ fs) out = finished_by y fs (out ++ n.Try p ∷ [])
  finished_by y (x ∷ fs) out = hold_by y x fs out
  finished_by y [] out = None

  -- after a statement that may end here
  abbrev pub ended_by : Terminal → List Level → Nodes → Next
  ended_by k.Semicolon fs out = at f.Finished fs out
  ended_by k.CloseBrace fs out = finished_by k.CloseBrace fs out
  ended_by _ fs out = None

  -- after the last of a given number of declarations
  abbrev pub declared_by : Terminal → Declaration → Place → ℕ → List Level → Nodes → Next
  declared_by k.Comma d p c fs out = at f.Word (f.DeclName d p c ∷ fs) out
  declared_by k.Semicolon declaration.ForStart p c fs out = at f.First (f.ForTest p ∷ fs) (out ++ n.StartVars c ∷ [])
  declared_by y (declaration.Statement d) p c fs out = ended_by y fs (out ++ n.Var p d c ∷ [])
  declared_by y declaration.ForStart p c fs out = None

  -- a `for` begins with no other declarations than those of `var`
  abbrev pub start_by : VarKind → Next → Next
  start_by var_kind.Var next = next
  start_by _ next = None

  -- an expression, or the token that ends the level without one
  abbrev pub first_by : Terminal → List Level → Nodes → Next
  first_by k.Close (f.Arguments s c ∷ fs) out = at (f.Value s false) fs (out ++ n.Call s c ∷ [])
  first_by k.CloseSquare (f.Array p c ∷ fs) out = at (f.Value p false) fs (out ++ n.Array p c ∷ [])
  first_by (k.Declare d) (f.ForStart p ∷ fs) out = start_by d (at f.Word (f.DeclName declaration.ForStart p 0 ∷ fs) out)
  first_by k.Semicolon (f.ForStart p ∷ fs) out = at f.First (f.ForTest p ∷ fs) (out ++ n.Absent ∷ [] ++ n.StartOptional ∷ [])
  first_by k.Semicolon (f.ForTest p ∷ fs) out = at f.First (f.ForStep p ∷ fs) (out ++ n.Absent ∷ [])
  first_by k.Close (f.ForStep p ∷ fs) out = at f.Body (f.ForBody p ∷ fs) (out ++ n.Absent ∷ [])
  first_by k.Semicolon (f.Return p ∷ fs) out = ended_by k.Semicolon fs (out ++ n.Absent ∷ [] ++ n.Return p ∷ [])
  first_by k.CloseBrace (f.Return p ∷ fs) out = ended_by k.CloseBrace fs (out ++ n.Absent ∷ [] ++ n.Return p ∷ [])
  first_by y fs out = operand_by y fs out

  -- a token that the level names
  abbrev pub word_by : Level → Terminal → List Level → Nodes → Next
  word_by (f.IfOpen p) k.Open fs out = at f.Operand (f.IfTest p ∷ fs) out
  word_by (f.WhileOpen p) k.Open fs out = at f.Operand (f.WhileTest p ∷ fs) out
  word_by (f.ForOpen p) k.Open fs out = at f.First (f.ForStart p ∷ fs) out
  word_by (f.DeclName d p c) k.Name fs out = at f.Word (f.DeclNext d p (c + 1) ∷ fs) (out ++ n.DeclName (mark t) ∷ [])
  word_by (f.DeclNext d p c) (k.Assign None) fs out = at f.Operand (f.DeclValue d p c ∷ fs) out
  word_by (f.DeclNext d p c) y fs out = if needs_value (kind_of d) then None else declared_by y d p c fs out
  word_by (f.Jump p j) y fs out = ended_by y fs (out ++ n.Jump p j ∷ [])
  word_by (f.TryOpen p) k.OpenBrace fs out = at f.Statement (f.Block t.place 0 ∷ f.TryBlock p ∷ fs) out
  word_by (f.CatchOpen p) k.Open fs out = at f.Word (f.CatchName p ∷ fs) out
  word_by (f.CatchName p) k.Name fs out = at f.Word (f.CatchClose p ∷ fs) (out ++ n.Word (mark t) ∷ [])
  word_by (f.CatchClose p) k.Close fs out = at f.Word (f.CatchBrace p ∷ fs) out
  word_by (f.CatchBrace p) k.OpenBrace fs out = at f.Statement (f.Block t.place 0 ∷ f.CatchBlock p ∷ fs) out
  word_by (f.FunctionStart p) k.Name fs out = at f.Word (f.FunctionOpen heading.NamedExpression p ∷ fs) (out ++ n.Word (mark t) ∷ [])
  word_by (f.FunctionStart p) k.Open fs out = at f.Word (f.FunctionFirst heading.Expression p ∷ fs) out
  word_by (f.FunctionName h p) k.Name fs out = at f.Word (f.FunctionOpen h p ∷ fs) (out ++ n.Word (mark t) ∷ [])
  word_by (f.FunctionOpen h p) k.Open fs out = at f.Word (f.FunctionFirst h p ∷ fs) out
  word_by (f.FunctionFirst h p) k.Close fs out = at f.Word (f.FunctionBrace h p 0 ∷ fs) out
  word_by (f.FunctionFirst h p) k.Name fs out = at f.Word (f.FunctionNext h p 1 ∷ fs) (out ++ n.Word (mark t) ∷ [])
  word_by (f.FunctionNext h p m) k.Comma fs out = at f.Word (f.ParameterName h p m ∷ fs) out
  word_by (f.FunctionNext h p m) k.Close fs out = at f.Word (f.FunctionBrace h p m ∷ fs) out
  word_by (f.ParameterName h p m) k.Name fs out = at f.Word (f.FunctionNext h p (m + 1) ∷ fs) (out ++ n.Word (mark t) ∷ [])
  word_by (f.FunctionBrace h p m) k.OpenBrace fs out = at f.Statement (f.FunctionBody h p m 0 ∷ fs) out
  word_by (f.Dot s) y fs out = if is_word y then at (f.Value s true) fs (out ++ n.Property (mark t) ∷ [] ++ n.Index s ∷ []) else None
  word_by (f.ObjectKey p c) k.CloseBrace fs out = at (f.Value p false) fs (out ++ n.Object p c ∷ [])
  word_by (f.ObjectKey p c) k.Text fs out = at f.Word (f.ObjectColon p c ∷ fs) (out ++ n.QuotedKey (mark t) ∷ [])
  word_by (f.ObjectKey p c) y fs out = if is_word y then at f.Word (f.ObjectColon p c ∷ fs) (out ++ n.Word (mark t) ∷ []) else None
  word_by (f.ObjectColon p c) k.Colon fs out = at f.Operand (f.ObjectValue p c ∷ fs) out
  word_by (f.Attributes m a v) k.AttributeName fs out = at f.Word (f.Attributes m (a + 1) true ∷ fs) (out ++ n.AttributeName (mark t) ∷ [])
  word_by (f.Attributes m a v) (k.Assign None) fs out = if v then at f.Word (f.AttributeValue m a ∷ fs) out else None
  word_by (f.Attributes m a v) k.TagSelfEnd fs out = settled m.place fs (out ++ n.Element m.place a 0 ∷ [])
  word_by (f.Attributes m a v) k.TagEnd fs out = if is_void_tag m.text then settled m.place fs (out ++ n.Element m.place a 0 ∷ []) else at f.Word (f.Children m a 0 ∷ fs) out
  word_by (f.AttributeValue m a) k.Quoted fs out = at f.Word (f.Attributes m a false ∷ fs) (out ++ n.AttributeQuoted (mark t) ∷ [])
  word_by (f.AttributeValue m a) k.TildeOpen fs out = at f.Statement (f.Tilde t.place 0 ∷ f.AttributeValue m a ∷ fs) out
  word_by (f.AttributeValue m a) k.DollarOpen fs out = at f.Operand (f.Dollar t.place ∷ f.AttributeValue m a ∷ fs) out
  word_by (f.Children m a c) k.ChildText fs out = at f.Word (f.Children m a (c + 1) ∷ fs) (out ++ n.ChildText (mark t) ∷ [])
  word_by (f.Children m a c) k.TagOpen fs out = at f.Word (f.Attributes (tag_mark t) 0 false ∷ f.Children m a c ∷ fs) (out ++ n.Word (tag_mark t) ∷ [])
  word_by (f.Children m a c) k.TildeOpen fs out = at f.Statement (f.Tilde t.place 0 ∷ f.Children m a c ∷ fs) out
  word_by (f.Children m a c) k.DollarOpen fs out = at f.Operand (f.Dollar t.place ∷ f.Children m a c ∷ fs) out
  word_by (f.Children m a c) k.CloseTag fs out = if bytes_eq (close_name t) m.text then settled m.place fs (out ++ n.Element m.place a c ∷ []) else None
  word_by _ _ fs out = None

  -- after an expression that ends a statement
  abbrev pub stop_by : Terminal → Level → List Level → Nodes → Next
  stop_by y (f.DeclValue d p c) fs out = declared_by y d p c fs (out ++ n.DeclValue ∷ [])
  stop_by y (f.Return p) fs out = ended_by y fs (out ++ n.Present ∷ [] ++ n.Return p ∷ [])
  stop_by y (f.Throw p) fs out = ended_by y fs (out ++ n.Throw p ∷ [])
  stop_by y (f.Expression p) fs out = ended_by y fs (out ++ n.Expression p ∷ [])
  stop_by y _ fs out = None

  -- after an expression, at a token that ends it
  abbrev pub close_by : Terminal → Bool → Level → List Level → Nodes → Next
  close_by k.Close v (f.Paren p) fs out = at (f.Value p v) fs out
  close_by k.Close v (f.IfTest p) fs out = at f.Body (f.IfThen p ∷ fs) out
  close_by k.Close v (f.WhileTest p) fs out = at f.Body (f.WhileBody p ∷ fs) out
  close_by k.Close v (f.ForStep p) fs out = at f.Body (f.ForBody p ∷ fs) (out ++ n.Present ∷ [])
  close_by k.Close v (f.Arguments s c) fs out = at (f.Value s false) fs (out ++ n.Call s (c + 1) ∷ [])
  close_by k.CloseSquare v (f.Index s) fs out = at (f.Value s true) fs (out ++ n.Index s ∷ [])
  close_by k.CloseSquare v (f.Array p c) fs out = at (f.Value p false) fs (out ++ n.Array p (c + 1) ∷ [])
  close_by k.Comma v (f.Arguments s c) fs out = at f.Operand (f.Arguments s (c + 1) ∷ fs) out
  close_by k.Comma v (f.Array p c) fs out = at f.First (f.Array p (c + 1) ∷ fs) out
  close_by k.Comma v (f.ObjectValue p c) fs out = at f.Word (f.ObjectKey p (c + 1) ∷ fs) out
  close_by k.Comma v x fs out = stop_by k.Comma x fs out
  close_by k.Colon v (f.CondTest s) fs out = at f.Operand (f.CondElse s ∷ fs) out
  close_by k.Semicolon v (f.ForStart p) fs out = at f.First (f.ForTest p ∷ fs) (out ++ n.Present ∷ [] ++ n.StartOptional ∷ [])
  close_by k.Semicolon v (f.ForTest p) fs out = at f.First (f.ForStep p ∷ fs) (out ++ n.Present ∷ [])
  close_by k.Semicolon v x fs out = stop_by k.Semicolon x fs out
  close_by k.CloseBrace v (f.ObjectValue p c) fs out = at (f.Value p false) fs (out ++ n.Object p (c + 1) ∷ [])
  close_by k.CloseBrace v (f.Dollar p) fs out = dollar_settled p fs out
  close_by k.CloseBrace v x fs out = stop_by k.CloseBrace x fs out
  close_by _ v _ fs out = None

  -- after an expression that no operator on the stack takes
  abbrev pub shift_by : Terminal → Place → Bool → Level → List Level → Nodes → Next
  shift_by k.Dot s v x fs out = at f.Word (f.Dot s ∷ x ∷ fs) out
  shift_by k.OpenSquare s v x fs out = at f.Operand (f.Index s ∷ x ∷ fs) out
  shift_by k.Open s v x fs out = at f.First (f.Arguments s 0 ∷ x ∷ fs) out
  shift_by (k.Assign o) s v x fs out = if v then at f.Operand (f.Assign o s ∷ x ∷ fs) out else None
  shift_by (k.Step d) s v x fs out = if v then at (f.Value s false) (f.StepAfter (step_after d) s ∷ x ∷ fs) out else None
  shift_by (k.Infix o) s v x fs out = at f.Operand (f.Operation o s ∷ x ∷ fs) out
  shift_by k.Question s v x fs out = at f.Operand (f.CondTest s ∷ x ∷ fs) out
  shift_by y s v x fs out = close_by y v x fs out

  -- after an expression
  abbrev pub value_by : Terminal → Place → Bool → List Level → Nodes → Next
  value_by y s v [] out = None
  value_by y s v (x ∷ fs) out =
      if reduces y v x then value_by y (start_of x) false fs (out ++ node_of x ∷ [])
      else if nat_le (awaits_at x) (made_at y) then shift_by y s v x fs out
      else None

  abbrev pub word_step : List Level → Nodes → Next
  word_step [] out = None
  word_step (x ∷ fs) out = word_by x (terminal t) fs out

  abbrev pub feed_by : Focus → List Level → Nodes → Next
  feed_by f.Statement fs out = statement_by (terminal t) fs out
  feed_by f.Body fs out = body_by (terminal t) fs out
  feed_by f.Operand fs out = operand_by (terminal t) fs out
  feed_by f.First fs out = first_by (terminal t) fs out
  feed_by f.Word fs out = word_step fs out
  feed_by (f.Value s v) fs out = value_by (terminal t) s v fs out
  feed_by f.Finished fs out = finished_by (terminal t) fs out

-- the end of the tokens, after a statement
abbrev pub end_finished : List Level → Nodes → Option Nodes
end_finished (f.Single p ∷ fs) out = end_finished fs (out ++ n.Block p 1 ∷ [])
end_finished (f.IfThen p ∷ fs) out = end_finished fs (out ++ n.If p ∷ [])
end_finished (f.IfElse p ∷ fs) out = end_finished fs (out ++ n.IfElse p ∷ [])
end_finished (f.WhileBody p ∷ fs) out = end_finished fs (out ++ n.While p ∷ [])
end_finished (f.ForBody p ∷ fs) out = end_finished fs (out ++ n.For p ∷ [])
end_finished (f.CatchBlock p ∷ fs) out = end_finished fs (out ++ n.Try p ∷ [])
end_finished (f.Program c ∷ fs) out = Some out
end_finished _ out = None

abbrev pub end_statement : List Level → Nodes → Option Nodes
end_statement (f.Program c ∷ fs) out = Some out
end_statement _ out = None

abbrev pub end_by : Focus → List Level → Nodes → Option Nodes
end_by f.Statement fs out = end_statement fs out
end_by f.Finished fs out = end_finished fs out
end_by _ fs out = None

abbrev pub feed : Token → Next → Next
feed t None = None
feed t (Some c) = feed_by t c.focus c.levels c.nodes

abbrev pub finish : Next → Option Nodes
finish None = None
finish (Some c) = end_by c.focus c.levels c.nodes

abbrev pub run : Tokens → Next → Option Nodes
run [] s = finish s
run (t ∷ ts) s = run ts (feed t s)

-- where the machine stands after these tokens
abbrev pub after : Tokens → Next → Next
after [] s = s
after (t ∷ ts) s = after ts (feed t s)

abbrev pub start : Next
start = at f.Statement (f.Program 0 ∷ []) []

-- the nodes of the program that the tokens are
abbrev pub parsed : Tokens → Option Nodes
parsed ts = run ts start
