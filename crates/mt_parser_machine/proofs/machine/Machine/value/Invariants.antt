use Rattle.std.proofs.Common.{◌≡◌, ◌≤◌, length}
use Rattle.mt_grammar.specs.Machine.{value_by}
use Rattle.mt_parser_marks.specs.Views.{token_of}
use Rattle.mt_parser_machine.specs.Counts.{counted}
use Rattle.mt_parser_machine.proofs.machine.Machine.value.Given as goal

abbrev pub invariant-loop-top : goal.invariant-loop-top
invariant-loop-top l = record {
  same : value_by (token_of l.token) l.token.terminal l.start l.target l.self.stack l.self.nodes
      ≡ value_by (token_of l.token) l.token.terminal l.fn.start l.fn.target l.fn.self.stack l.fn.self.nodes;
  few : counted l.self.stack ≤ 1000000;
}

abbrev pub decreases-loop-top : goal.decreases-loop-top
decreases-loop-top l = length l.self.stack
