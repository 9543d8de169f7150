-- Which tokens can stand at the front of a program.
use Rattle.std.specs.Prelude.{◌++◌}
use Rattle.mt_grammar.specs.Token.{Tokens}
use Rattle.mt_grammar.specs.Tree.{Stmts}
use Rattle.mt_grammar.specs.Grammar.{IsProgram}

-- some tokens behind these make a program of them
abbrev pub BeginsProgram : Tokens → Type 0
BeginsProgram front = (more : Tokens) × (ss : Stmts) × IsProgram (front ++ more) ss
