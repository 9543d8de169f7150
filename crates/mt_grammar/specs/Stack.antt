-- What the machine has open, and what it reads next.
use Rattle.std.specs.Prelude.{ℕ, Bool, Option}
use Rattle.mt_tree.specs.declared.place.Place.{Place}
use Rattle.mt_tree.specs.declared.operators.Binary.{Binary}
use Rattle.mt_tree.specs.declared.operators.StepKind.{StepKind}
use Rattle.mt_tree.specs.declared.operators.Unary.{Unary as UnarySign}
use Rattle.mt_grammar.specs.declared.terminal.Declaration.{Declaration}
use Rattle.mt_grammar.specs.declared.terminal.Heading.{Heading}
use Rattle.mt_grammar.specs.declared.terminal.Infix.{Infix}
use Rattle.mt_grammar.specs.declared.terminal.Jump.{Jump as JumpWord}
use Rattle.mt_grammar.specs.Tree.{Mark}

-- The place is where the open part began; a number counts what is finished in it.
pub data Level : Type 0 where
  -- statements and items
  Program : ℕ → Level
  Block : Place → ℕ → Level
  -- with the number of its parameters
  FunctionBody : Heading → Place → ℕ → ℕ → Level
  Tilde : Place → ℕ → Level
  -- the one statement of a body that is no block
  Single : Place → Level
  -- parts of statements
  IfOpen : Place → Level
  IfTest : Place → Level
  IfThen : Place → Level
  IfElse : Place → Level
  WhileOpen : Place → Level
  WhileTest : Place → Level
  WhileBody : Place → Level
  ForOpen : Place → Level
  ForStart : Place → Level
  ForTest : Place → Level
  ForStep : Place → Level
  ForBody : Place → Level
  -- in front of a name, behind one, and behind its `=`
  DeclName : Declaration → Place → ℕ → Level
  DeclNext : Declaration → Place → ℕ → Level
  DeclValue : Declaration → Place → ℕ → Level
  Return : Place → Level
  Jump : Place → JumpWord → Level
  Throw : Place → Level
  Expression : Place → Level
  TryOpen : Place → Level
  TryBlock : Place → Level
  CatchOpen : Place → Level
  CatchName : Place → Level
  CatchClose : Place → Level
  CatchBrace : Place → Level
  CatchBlock : Place → Level
  -- parts of functions
  FunctionStart : Place → Level
  FunctionName : Heading → Place → Level
  FunctionOpen : Heading → Place → Level
  FunctionFirst : Heading → Place → Level
  FunctionNext : Heading → Place → ℕ → Level
  ParameterName : Heading → Place → ℕ → Level
  FunctionBrace : Heading → Place → ℕ → Level
  -- parts of expressions
  Paren : Place → Level
  Operation : Infix → Place → Level
  Unary : UnarySign → Place → Level
  StepBefore : StepKind → Place → Level
  StepAfter : StepKind → Place → Level
  Assign : Option Binary → Place → Level
  CondTest : Place → Level
  CondElse : Place → Level
  Dot : Place → Level
  Index : Place → Level
  Arguments : Place → ℕ → Level
  Array : Place → ℕ → Level
  ObjectKey : Place → ℕ → Level
  ObjectColon : Place → ℕ → Level
  ObjectValue : Place → ℕ → Level
  Dollar : Place → Level
  -- parts of elements, with the tag's name: the flag says whether a `=` may follow
  Attributes : Mark → ℕ → Bool → Level
  AttributeValue : Mark → ℕ → Level
  -- with the number of its attributes
  Children : Mark → ℕ → ℕ → Level

pub data Focus : Type 0 where
  -- a statement or item, or the end of what holds it
  Statement : Focus
  -- the body of an `if`, `while` or `for`
  Body : Focus
  -- an expression
  Operand : Focus
  -- an expression, or the token that ends the topmost level without one
  First : Focus
  -- a token that the topmost level names
  Word : Focus
  -- what follows an expression that began there; the flag says whether it can be assigned to
  Value : Place → Bool → Focus
  -- what follows a statement
  Finished : Focus
