-- What the tables of the code stand for.
use Rattle.std.specs.Prelude.{ℕ, List}
use Rattle.mt_grammar.specs.declared.terminal.Terminal.{Terminal}
use Rattle.mt_parser_marks.specs.declared.table.Row.{Row}

abbrev pub row_of : Row → List ℕ × Terminal
row_of r = (r.0.now, r.1)
