-- The tokens that the grammar speaks of, and the terminal that each of them is, by its kind and text alone.
use Rattle.std.specs.Prelude.{ℕ, Bool, true, false, ◌||◌, ◌&&◌, ◌==◌, nat_lt, not, List, [], ◌∷◌, codes, Some, None, if◌then◌else◌, drop}
use Rattle.std.specs.Str.{bytes_eq}
use Rattle.mt_tree.specs.declared.place.Place.{Place}
use Rattle.mt_tree.specs.declared.kind.Kind.{Kind}
use Rattle.mt_tree.specs.declared.kind.Kind.TheVariants as kind
use Rattle.mt_tree.specs.declared.operators.Binary.TheVariants as binary_op
use Rattle.mt_tree.specs.declared.operators.VarKind.TheVariants as var_kind
use Rattle.mt_grammar.specs.declared.terminal.Constant.TheVariants as constant
use Rattle.mt_grammar.specs.declared.terminal.Infix.TheVariants as infix_op
use Rattle.mt_grammar.specs.declared.terminal.Jump.TheVariants as jump_word
use Rattle.mt_grammar.specs.declared.terminal.StepSign.TheVariants as step_sign
use Rattle.mt_grammar.specs.declared.terminal.Terminal.{Terminal}
use Rattle.mt_grammar.specs.declared.terminal.Terminal.TheVariants as k

-- the text is the bytes that spell it, and the place that of its first character
pub record Token : Type 0 where
  pub kind : Kind
  pub text : List ℕ
  pub place : Place

abbrev pub Tokens : Type 0
Tokens = List Token

abbrev pub nowhere : Place
nowhere = record { line = 0; column = 0 }

-- where the first of the tokens stands
abbrev pub place_of : Tokens → Place
place_of [] = nowhere
place_of (t ∷ ts) = t.place

abbrev pub words : List (List ℕ × Terminal)
words =
    (codes "true", k.Constant constant.True) ∷ (codes "false", k.Constant constant.False) ∷ (codes "null", k.Constant constant.Null) ∷ (codes "undefined", k.Constant constant.Undefined)
    ∷ (codes "catch", k.Catch) ∷ (codes "else", k.Else) ∷ (codes "for", k.For) ∷ (codes "function", k.Function) ∷ (codes "if", k.If)
    ∷ (codes "break", k.Jump jump_word.Break) ∷ (codes "continue", k.Jump jump_word.Continue) ∷ (codes "return", k.Return) ∷ (codes "service", k.Service) ∷ (codes "throw", k.Throw)
    ∷ (codes "try", k.Try) ∷ (codes "typeof", k.Typeof) ∷ (codes "while", k.While)
    ∷ (codes "var", k.Declare var_kind.Var) ∷ (codes "let", k.Declare var_kind.Let) ∷ (codes "const", k.Declare var_kind.Const) ∷ []

abbrev pub signs : List (List ℕ × Terminal)
signs =
    (codes "(", k.Open) ∷ (codes ")", k.Close) ∷ (codes "[", k.OpenSquare) ∷ (codes "]", k.CloseSquare) ∷ (codes "{", k.OpenBrace) ∷ (codes "}", k.CloseBrace)
    ∷ (codes ";", k.Semicolon) ∷ (codes ",", k.Comma) ∷ (codes ".", k.Dot) ∷ (codes "?", k.Question) ∷ (codes ":", k.Colon) ∷ (codes "!", k.Exclamation)
    ∷ (codes "++", k.Step step_sign.Increment) ∷ (codes "--", k.Step step_sign.Decrement) ∷ (codes "||", k.Infix infix_op.Or) ∷ (codes "&&", k.Infix infix_op.And)
    ∷ (codes "+", k.Infix (infix_op.Binary binary_op.Add)) ∷ (codes "-", k.Infix (infix_op.Binary binary_op.Sub)) ∷ (codes "*", k.Infix (infix_op.Binary binary_op.Mul))
    ∷ (codes "/", k.Infix (infix_op.Binary binary_op.Div)) ∷ (codes "%", k.Infix (infix_op.Binary binary_op.Rem)) ∷ (codes "<", k.Infix (infix_op.Binary binary_op.Less))
    ∷ (codes "<=", k.Infix (infix_op.Binary binary_op.LessEqual)) ∷ (codes ">", k.Infix (infix_op.Binary binary_op.Greater)) ∷ (codes ">=", k.Infix (infix_op.Binary binary_op.GreaterEqual))
    ∷ (codes "===", k.Infix (infix_op.Binary binary_op.Same)) ∷ (codes "!==", k.Infix (infix_op.Binary binary_op.Different))
    ∷ (codes "=", k.Assign None) ∷ (codes "+=", k.Assign (Some binary_op.Add)) ∷ (codes "-=", k.Assign (Some binary_op.Sub)) ∷ (codes "*=", k.Assign (Some binary_op.Mul))
    ∷ (codes "/=", k.Assign (Some binary_op.Div)) ∷ (codes "%=", k.Assign (Some binary_op.Rem)) ∷ []

abbrev pub tag_ends : List (List ℕ × Terminal)
tag_ends = (codes ">", k.TagEnd) ∷ (codes "/>", k.TagSelfEnd) ∷ []

-- what the table has for the text
abbrev pub listed : List (List ℕ × Terminal) → Terminal → List ℕ → Terminal
listed [] other text = other
listed (row ∷ rows) other text = if bytes_eq row.0 text then row.1 else listed rows other text

abbrev pub terminal_of : Kind → List ℕ → Terminal
terminal_of kind.Name text = k.Name
terminal_of kind.Reserved text = listed words k.OtherWord text
terminal_of kind.Number text = k.Number
terminal_of kind.Text text = k.Text
terminal_of kind.Punctuator text = listed signs k.Other text
terminal_of kind.TagOpen text = k.TagOpen
terminal_of kind.AttributeName text = k.AttributeName
terminal_of kind.Quoted text = k.Quoted
terminal_of kind.TagEnd text = listed tag_ends k.Other text
terminal_of kind.ChildText text = k.ChildText
terminal_of kind.CloseTag text = k.CloseTag
terminal_of kind.TildeOpen text = k.TildeOpen
terminal_of kind.DollarOpen text = k.DollarOpen

unfoldable pub terminal : Token → Terminal
terminal t = terminal_of t.kind t.text

-- a name, or a reserved word, which is a name behind a dot and as a key
abbrev pub is_word : Terminal → Bool
is_word k.Name = true
is_word (k.Constant c) = true
is_word k.Catch = true
is_word k.Else = true
is_word k.For = true
is_word k.Function = true
is_word k.If = true
is_word (k.Jump j) = true
is_word k.Return = true
is_word k.Service = true
is_word k.Throw = true
is_word k.Try = true
is_word k.Typeof = true
is_word (k.Declare d) = true
is_word k.While = true
is_word k.OtherWord = true
is_word _ = false

-- ---- the names of tags

-- an ASCII letter or digit, or a dash
abbrev pub is_tag_byte : ℕ → Bool
is_tag_byte b = (not (nat_lt b 48) && nat_lt b 58) || (not (nat_lt b 65) && nat_lt b 91) || (not (nat_lt b 97) && nat_lt b 123) || b == 45

-- the longest front of such bytes
unfoldable pub tag_bytes : List ℕ → List ℕ
tag_bytes [] = []
tag_bytes (b ∷ bs) = if is_tag_byte b then b ∷ tag_bytes bs else []

-- the name behind the `<`
unfoldable pub open_name : Token → List ℕ
open_name t = tag_bytes (drop 1 t.text)

-- the name behind the `</`
unfoldable pub close_name : Token → List ℕ
close_name t = tag_bytes (drop 2 t.text)
