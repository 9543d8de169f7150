-- What the levels of the code stand for, and what it reads next.
use Rattle.std.specs.Prelude.{List, map, reverse}
use Rattle.mt_parser_marks.specs.Views.{mark_of}
use Rattle.mt_parser_machine.specs.declared.level.Level.{Level as CodeLevel}
use Rattle.mt_parser_machine.specs.declared.level.Level.TheVariants as code_level
use Rattle.mt_parser_machine.specs.declared.focus.Focus.{Focus as CodeFocus}
use Rattle.mt_parser_machine.specs.declared.focus.Focus.TheVariants as code_focus
use Rattle.mt_grammar.specs.Stack.{Level, Focus}
use Rattle.mt_grammar.specs.Stack as f

abbrev pub level_of : CodeLevel → Level
level_of (code_level.Program x0) = f.Program x0
level_of (code_level.Block x0 x1) = f.Block x0 x1
level_of (code_level.FunctionBody x0 x1 x2 x3) = f.FunctionBody x0 x1 x2 x3
level_of (code_level.Tilde x0 x1) = f.Tilde x0 x1
level_of (code_level.Single x0) = f.Single x0
level_of (code_level.IfOpen x0) = f.IfOpen x0
level_of (code_level.IfTest x0) = f.IfTest x0
level_of (code_level.IfThen x0) = f.IfThen x0
level_of (code_level.IfElse x0) = f.IfElse x0
level_of (code_level.WhileOpen x0) = f.WhileOpen x0
level_of (code_level.WhileTest x0) = f.WhileTest x0
level_of (code_level.WhileBody x0) = f.WhileBody x0
level_of (code_level.ForOpen x0) = f.ForOpen x0
level_of (code_level.ForStart x0) = f.ForStart x0
level_of (code_level.ForTest x0) = f.ForTest x0
level_of (code_level.ForStep x0) = f.ForStep x0
level_of (code_level.ForBody x0) = f.ForBody x0
level_of (code_level.DeclName x0 x1 x2) = f.DeclName x0 x1 x2
level_of (code_level.DeclNext x0 x1 x2) = f.DeclNext x0 x1 x2
level_of (code_level.DeclValue x0 x1 x2) = f.DeclValue x0 x1 x2
level_of (code_level.Return x0) = f.Return x0
level_of (code_level.Jump x0 x1) = f.Jump x0 x1
level_of (code_level.Throw x0) = f.Throw x0
level_of (code_level.Expression x0) = f.Expression x0
level_of (code_level.TryOpen x0) = f.TryOpen x0
level_of (code_level.TryBlock x0) = f.TryBlock x0
level_of (code_level.CatchOpen x0) = f.CatchOpen x0
level_of (code_level.CatchName x0) = f.CatchName x0
level_of (code_level.CatchClose x0) = f.CatchClose x0
level_of (code_level.CatchBrace x0) = f.CatchBrace x0
level_of (code_level.CatchBlock x0) = f.CatchBlock x0
level_of (code_level.FunctionStart x0) = f.FunctionStart x0
level_of (code_level.FunctionName x0 x1) = f.FunctionName x0 x1
level_of (code_level.FunctionOpen x0 x1) = f.FunctionOpen x0 x1
level_of (code_level.FunctionFirst x0 x1) = f.FunctionFirst x0 x1
level_of (code_level.FunctionNext x0 x1 x2) = f.FunctionNext x0 x1 x2
level_of (code_level.ParameterName x0 x1 x2) = f.ParameterName x0 x1 x2
level_of (code_level.FunctionBrace x0 x1 x2) = f.FunctionBrace x0 x1 x2
level_of (code_level.Paren x0) = f.Paren x0
level_of (code_level.Operation x0 x1) = f.Operation x0 x1
level_of (code_level.Unary x0 x1) = f.Unary x0 x1
level_of (code_level.StepBefore x0 x1) = f.StepBefore x0 x1
level_of (code_level.StepAfter x0 x1) = f.StepAfter x0 x1
level_of (code_level.Assign x0 x1) = f.Assign x0 x1
level_of (code_level.CondTest x0) = f.CondTest x0
level_of (code_level.CondElse x0) = f.CondElse x0
level_of (code_level.Dot x0) = f.Dot x0
level_of (code_level.Index x0) = f.Index x0
level_of (code_level.Arguments x0 x1) = f.Arguments x0 x1
level_of (code_level.Array x0 x1) = f.Array x0 x1
level_of (code_level.ObjectKey x0 x1) = f.ObjectKey x0 x1
level_of (code_level.ObjectColon x0 x1) = f.ObjectColon x0 x1
level_of (code_level.ObjectValue x0 x1) = f.ObjectValue x0 x1
level_of (code_level.Dollar x0) = f.Dollar x0
level_of (code_level.Attributes x0 x1 x2) = f.Attributes (mark_of x0) x1 x2
level_of (code_level.AttributeValue x0 x1) = f.AttributeValue (mark_of x0) x1
level_of (code_level.Children x0 x1 x2) = f.Children (mark_of x0) x1 x2

abbrev pub focus_of : CodeFocus → Focus
focus_of code_focus.Statement = f.Statement
focus_of code_focus.Body = f.Body
focus_of code_focus.Operand = f.Operand
focus_of code_focus.First = f.First
focus_of code_focus.Word = f.Word
focus_of (code_focus.Value x0 x1) = f.Value x0 x1
focus_of code_focus.Finished = f.Finished

-- the levels of a stack, the topmost first
unfoldable pub tops : List CodeLevel → List Level
tops fs = map level_of (reverse fs)
