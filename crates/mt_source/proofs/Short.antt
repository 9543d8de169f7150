-- The texts of a program are no longer than its source.
use Rattle.std.proofs.Common.{◌≤◌, length, Ok, sym, subst}
use Rattle.mt_tree.specs.declared.place.Place.{Place}
use Rattle.mt_lexer.specs.Tokens.{Spelled}
use Rattle.mt_parser_marks.specs.Tokens.{tokens_in}
use Rattle.mt_parser.specs.Parsing.{Answers}
use Rattle.mt_syntax.specs.Texts.{longest_text}
use Rattle.mt_syntax.specs.declared.program.Program.{Program}
use Rattle.mt_source.proofs.Tokens.{tokens_short}
use Rattle.mt_source.proofs.Derived.{program_short}
use Rattle.mt_source.proofs.Built.{program_fits}

pub short : (s : Spelled) (end : Place) (p : Program) → Answers (tokens_in s) end (Ok p) → longest_text p ≤ length s.source
short s end p (ss, d, deep, e) =
    subst (λ (q : Program). longest_text q ≤ length s.source) (sym e) (program_fits (length s.source) ss (program_short (length s.source) (tokens_in s) ss d (tokens_short s)))
