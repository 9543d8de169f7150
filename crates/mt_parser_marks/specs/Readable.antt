-- What is true of the tokens of a source, as the lexer's definition says what they are.
use Rattle.std.specs.Prelude.{◌≡◌, ℕ, true, List}
use Rattle.std.specs.Str.{IsUtf8, all_ascii_digits}
use Rattle.mt_tree.specs.declared.kind.Kind.{Kind}
use Rattle.mt_tree.specs.declared.kind.Kind.TheVariants as k
use Rattle.mt_lexer.specs.Word.{is_number}
use Rattle.mt_grammar.specs.Token.{Token}

-- a number has decimal digits alone, and is at most the greatest; nothing else is asked of a text by its kind
abbrev pub FitsKind : Kind → List ℕ → Type 0
FitsKind k.Number text = (all_ascii_digits text ≡ true) × (is_number text ≡ true)
FitsKind _ text = Unit {0}

abbrev pub IsReadable : Token → Type 0
IsReadable t = IsUtf8 t.text × FitsKind t.kind t.text
