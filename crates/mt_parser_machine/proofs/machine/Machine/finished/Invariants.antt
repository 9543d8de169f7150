use Rattle.std.proofs.Common.{◌≡◌, ◌≤◌, length}
use Rattle.mt_grammar.specs.Machine.{finished_by}
use Rattle.mt_parser_marks.specs.Views.{token_of}
use Rattle.mt_parser_machine.specs.Counts.{counted}
use Rattle.mt_parser_machine.proofs.machine.Machine.finished.Given as goal

abbrev pub invariant-loop-top : goal.invariant-loop-top
invariant-loop-top l = record {
  same : finished_by (token_of l.token) l.token.terminal l.self.stack l.self.nodes ≡ finished_by (token_of l.token) l.token.terminal l.fn.self.stack l.fn.self.nodes;
  few : counted l.self.stack ≤ 1000000;
}

abbrev pub decreases-loop-top : goal.decreases-loop-top
decreases-loop-top l = length l.self.stack
