use Rattle.std.proofs.Common.{◌≡◌, length}
use Rattle.mt_grammar.specs.Machine.{end_finished}
use Rattle.mt_parser_machine.proofs.machine.Machine.end_finished.Given as goal

abbrev pub invariant-loop-top : goal.invariant-loop-top
invariant-loop-top l = end_finished l.self.stack l.self.nodes ≡ end_finished l.fn.self.stack l.fn.self.nodes

abbrev pub decreases-loop-top : goal.decreases-loop-top
decreases-loop-top l = length l.self.stack
