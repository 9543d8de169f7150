-- What the marks and tokens of the code stand for.
use Rattle.std.specs.Prelude.{List, map}
use Rattle.mt_parser_marks.specs.declared.mark.Mark.{Mark as CodeMark}
use Rattle.mt_parser_marks.specs.declared.token.Token.{Token as CodeToken}
use Rattle.mt_grammar.specs.Token.{Token, Tokens}
use Rattle.mt_grammar.specs.Tree.{Mark}

abbrev pub mark_of : CodeMark → Mark
mark_of m = record { place = m.place; text = m.text.now }

abbrev pub token_of : CodeToken → Token
token_of t = record { kind = t.kind; text = t.mark.text.now; place = t.mark.place }

unfoldable pub tokens_of : List CodeToken → Tokens
tokens_of ts = map token_of ts
