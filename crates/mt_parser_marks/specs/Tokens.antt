-- The tokens of a source as the grammar speaks of them.
use Rattle.std.specs.Prelude.{◌≡◌, ℕ, List, map}
use Rattle.mt_tree.specs.Place.{place_of}
use Rattle.mt_lexer.specs.Character.{text_of}
use Rattle.mt_lexer.specs.Tokens.{Mark, Spelled}
use Rattle.mt_grammar.specs.Token.{Token, Tokens, terminal}
use Rattle.mt_parser_marks.specs.declared.token.Token.{Token as CodeToken}
use Rattle.mt_parser_marks.specs.Views.{token_of}

-- its text is the bytes of the source where it stands, and its place that of the first of them
abbrev pub token_in : List ℕ → Mark → Token
token_in source mark = record { kind = mark.kind; text = text_of source mark.span; place = place_of source mark.span.start }

unfoldable pub tokens_in : Spelled → Tokens
tokens_in s = map (token_in s.source) s.marks

-- it is classified as its kind and text say
abbrev pub HasTerminal : CodeToken → Type 0
HasTerminal t = t.terminal ≡ terminal (token_of t)
