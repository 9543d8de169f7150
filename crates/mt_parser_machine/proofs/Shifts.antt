-- What a token does behind an expression where it is none of those that have a case of their own.
use Rattle.std.proofs.Common.{◌≡◌, ℕ, Bool, List, Option, refl}
use Rattle.mt_tree.specs.declared.place.Place.{Place}
use Rattle.mt_tree.specs.declared.operators.Binary.{Binary}
use Rattle.mt_grammar.specs.declared.terminal.Infix.{Infix}
use Rattle.mt_grammar.specs.declared.terminal.StepSign.{StepSign}
use Rattle.mt_grammar.specs.declared.terminal.Terminal.{Terminal}
use Rattle.mt_grammar.specs.declared.terminal.Terminal.TheVariants as k
use Rattle.mt_grammar.specs.Token.{Token}
use Rattle.mt_grammar.specs.Nodes.{Nodes}
use Rattle.mt_grammar.specs.Stack.{Level}
use Rattle.mt_grammar.specs.Machine.{close_by, shift_by, stop_by}
use Rattle.mt_parser_machine.specs.declared.level.Level.{Level as CodeLevel}
use Rattle.mt_parser_machine.specs.declared.level.Level.TheVariants as code_level
use Rattle.mt_parser_machine.specs.Views.{level_of}

pub only_closes : (t : Token) (y : Terminal) (s : Place) (v : Bool) (x : Level) (fs : List Level) (out : Nodes) → (y ≡ k.Open → ⊥) → (y ≡ k.OpenSquare → ⊥) → (y ≡ k.Dot → ⊥) → (y ≡ k.Question → ⊥)
    → ((d : StepSign) → y ≡ k.Step d → ⊥) → ((o : Infix) → y ≡ k.Infix o → ⊥) → ((o : Option Binary) → y ≡ k.Assign o → ⊥) → shift_by t y s v x fs out ≡ close_by t y v x fs out
only_closes t k.Open s v x fs out a b c d e g h = absurd (a refl)
only_closes t k.OpenSquare s v x fs out a b c d e g h = absurd (b refl)
only_closes t k.Dot s v x fs out a b c d e g h = absurd (c refl)
only_closes t k.Question s v x fs out a b c d e g h = absurd (d refl)
only_closes t (k.Step i) s v x fs out a b c d e g h = absurd (e i refl)
only_closes t (k.Infix i) s v x fs out a b c d e g h = absurd (g i refl)
only_closes t (k.Assign i) s v x fs out a b c d e g h = absurd (h i refl)
only_closes t _ s v x fs out a b c d e g h = refl

pub comma_stops : (t : Token) (v : Bool) (x : CodeLevel) (fs : List Level) (out : Nodes) → ((p : Place) (c : ℕ) → x ≡ code_level.Arguments p c → ⊥) → ((p : Place) (c : ℕ) → x ≡ code_level.Array p c → ⊥)
    → ((p : Place) (c : ℕ) → x ≡ code_level.ObjectValue p c → ⊥) → close_by t k.Comma v (level_of x) fs out ≡ stop_by t k.Comma (level_of x) fs out
comma_stops t v (code_level.Arguments p c) fs out a b d = absurd (a p c refl)
comma_stops t v (code_level.Array p c) fs out a b d = absurd (b p c refl)
comma_stops t v (code_level.ObjectValue p c) fs out a b d = absurd (d p c refl)
comma_stops t v _ fs out a b d = refl

pub semicolon_stops : (t : Token) (v : Bool) (x : CodeLevel) (fs : List Level) (out : Nodes) → ((p : Place) → x ≡ code_level.ForStart p → ⊥) → ((p : Place) → x ≡ code_level.ForTest p → ⊥)
    → close_by t k.Semicolon v (level_of x) fs out ≡ stop_by t k.Semicolon (level_of x) fs out
semicolon_stops t v (code_level.ForStart p) fs out a b = absurd (a p refl)
semicolon_stops t v (code_level.ForTest p) fs out a b = absurd (b p refl)
semicolon_stops t v _ fs out a b = refl
