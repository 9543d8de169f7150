-- The levels that name their next token, by what they are parts of, and those that a token ends without an expression.
use Rattle.std.specs.Prelude.{Bool, true, false}
use Rattle.mt_grammar.specs.declared.terminal.Terminal.{Terminal}
use Rattle.mt_grammar.specs.declared.terminal.Terminal.TheVariants as k
use Rattle.mt_grammar.specs.Stack.{Level}
use Rattle.mt_grammar.specs.Stack as f

abbrev pub is_statement_word : Level → Bool
is_statement_word (f.IfOpen p) = true
is_statement_word (f.WhileOpen p) = true
is_statement_word (f.ForOpen p) = true
is_statement_word (f.DeclName d p c) = true
is_statement_word (f.DeclNext d p c) = true
is_statement_word (f.Jump p j) = true
is_statement_word _ = false

abbrev pub is_try_word : Level → Bool
is_try_word (f.TryOpen p) = true
is_try_word (f.CatchOpen p) = true
is_try_word (f.CatchName p) = true
is_try_word (f.CatchClose p) = true
is_try_word (f.CatchBrace p) = true
is_try_word _ = false

abbrev pub is_function_word : Level → Bool
is_function_word (f.FunctionStart p) = true
is_function_word (f.FunctionName h p) = true
is_function_word (f.FunctionOpen h p) = true
is_function_word (f.FunctionFirst h p) = true
is_function_word (f.FunctionNext h p m) = true
is_function_word (f.ParameterName h p m) = true
is_function_word (f.FunctionBrace h p m) = true
is_function_word _ = false

abbrev pub is_object_word : Level → Bool
is_object_word (f.Dot s) = true
is_object_word (f.ObjectKey p c) = true
is_object_word (f.ObjectColon p c) = true
is_object_word _ = false

abbrev pub is_element_word : Level → Bool
is_element_word (f.Attributes m a v) = true
is_element_word (f.AttributeValue m a) = true
is_element_word (f.Children m a c) = true
is_element_word _ = false

-- the level ends at the token where no expression stands in front of it, or goes on without one
abbrev pub needs_none : Terminal → Level → Bool
needs_none k.Close (f.Arguments s c) = true
needs_none k.CloseSquare (f.Array p c) = true
needs_none (k.Declare d) (f.ForStart p) = true
needs_none k.Semicolon (f.ForStart p) = true
needs_none k.Semicolon (f.ForTest p) = true
needs_none k.Close (f.ForStep p) = true
needs_none k.Semicolon (f.Return p) = true
needs_none k.CloseBrace (f.Return p) = true
needs_none _ _ = false
