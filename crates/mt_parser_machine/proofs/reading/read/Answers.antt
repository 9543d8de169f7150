use Rattle.std.proofs.Common.{◌+◌, ◌≤◌, Some, ap, sym, ◌∙◌, arith}
use Rattle.mt_grammar.specs.Nodes.{Nodes}
use Rattle.mt_parser_marks.specs.Views.{tokens_of}
use Rattle.mt_parser_machine.specs.Views.{focus_of}
use Rattle.mt_parser_machine.specs.Counts.{counted}
use Rattle.mt_parser_machine.proofs.Turns.{few_counted, goes_on, refused_here, ended, refused_end}
use Rattle.mt_parser_machine.proofs.reading.read.Goals as goal

pub feed-requires-clause-few : goal.feed-requires-clause-few
feed-requires-clause-few c =
    let most : counted c.loop-at.machine.stack ≤ c.loop-at.at + c.loop-at.at =
    few_counted (tokens_of c.args.tokens.now) c.loop-at.at (focus_of c.loop-at.focus) c.loop-at.machine.stack c.loop-at.machine.nodes c.loop-at.invariant in
    let few : counted c.loop-at.machine.stack ≤ 1000000 = omega (arith, c.loop-at-test.true) in
    few

pub returns-in-None-clause-refused : goal.returns-in-None-clause-refused
returns-in-None-clause-refused c =
    refused_here c.args.tokens.now c.loop-at.at (focus_of c.loop-at.focus) c.loop-at.machine.stack c.loop-at.machine.nodes _ c.loop-at-test.true c.loop-at.invariant (rw c.in-None.is at c.in_ok-next.ensures)

pub loop-at-preserved : goal.loop-at-preserved
loop-at-preserved c =
    goes_on c.args.tokens.now c.loop-at.at (focus_of c.loop-at.focus) c.loop-at.machine.stack c.loop-at.machine.nodes _ _ c.loop-at-test.true c.loop-at.invariant (rw c.in-Some.is at c.in_ok-next.ensures)

pub returns-then-branch-clause-read : goal.returns-then-branch-clause-read
returns-then-branch-clause-read c =
    ended c.args.tokens.now c.loop-at.at (focus_of c.loop-at.focus) c.loop-at.machine.stack c.loop-at.machine.nodes _ c.loop-at-test.false c.loop-at.invariant (rw c.if-branch.true at c.in_ok-end.ensures)
    ∙ ap (λ (ns : Nodes). Some ns) (sym c.into_nodes.ensures)

pub returns-clause-refused : goal.returns-clause-refused
returns-clause-refused c =
    refused_end c.args.tokens.now c.loop-at.at (focus_of c.loop-at.focus) c.loop-at.machine.stack c.loop-at.machine.nodes c.loop-at-test.false c.loop-at.invariant (rw c.if-branch.false at c.in_ok-end.ensures)
