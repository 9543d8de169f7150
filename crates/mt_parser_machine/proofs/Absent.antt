-- A token that ends no level without an expression begins one.
use Rattle.std.proofs.Common.{◌≡◌, false, List, ◌∷◌, refl}
use Rattle.mt_grammar.specs.declared.terminal.Terminal.{Terminal}
use Rattle.mt_grammar.specs.declared.terminal.Terminal.TheVariants as k
use Rattle.mt_grammar.specs.Token.{Token}
use Rattle.mt_grammar.specs.Nodes.{Nodes}
use Rattle.mt_grammar.specs.Stack.{Level}
use Rattle.mt_grammar.specs.Stack as f
use Rattle.mt_grammar.specs.Machine.{first_by, operand_by}
use Rattle.mt_parser_machine.specs.Families.{needs_none}

pub begins_operand : (t : Token) (y : Terminal) (x : Level) (fs : List Level) (out : Nodes) → needs_none y x ≡ false → first_by t y (x ∷ fs) out ≡ operand_by t y (x ∷ fs) out
begins_operand t k.Close (f.Arguments s c) fs out e = cc
begins_operand t k.CloseSquare (f.Array p c) fs out e = cc
begins_operand t (k.Declare d) (f.ForStart p) fs out e = cc
begins_operand t k.Semicolon (f.ForStart p) fs out e = cc
begins_operand t k.Semicolon (f.ForTest p) fs out e = cc
begins_operand t k.Close (f.ForStep p) fs out e = cc
begins_operand t k.Semicolon (f.Return p) fs out e = cc
begins_operand t k.CloseBrace (f.Return p) fs out e = cc
begins_operand t _ _ fs out e = refl
