use Rattle.std.proofs.Common.{◌≡◌, take}
use Rattle.mt_grammar.specs.Machine.{after, at, start}
use Rattle.mt_parser_marks.specs.Views.{tokens_of}
use Rattle.mt_parser_machine.specs.Views.{focus_of}
use Rattle.mt_parser_machine.proofs.reading.read.Given as goal

abbrev pub invariant-loop-at : goal.invariant-loop-at
invariant-loop-at l = after (take l.at (tokens_of l.tokens)) start ≡ at (focus_of l.focus) l.machine.stack l.machine.nodes
