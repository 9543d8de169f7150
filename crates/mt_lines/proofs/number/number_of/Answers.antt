use Rattle.std.proofs.Common.{sym, arith}
use Rattle.mt_lines.proofs.Numbers.{number-within, number-above}
use Rattle.mt_lines.proofs.number.number_of.Goals as goal

pub returns-then-number-limit-clause-exact : goal.returns-then-number-limit-clause-exact
returns-then-number-limit-clause-exact c =
    let found = c.in_ok-number.ensures.found in
    sym (number-within c.args.limit c.in_ok-number.number c.args.bytes.now found.0 c.if-number-limit.true (omega arith) found.2)

pub returns-else-number-limit-clause-exact : goal.returns-else-number-limit-clause-exact
returns-else-number-limit-clause-exact c =
    let found = c.in_ok-number.ensures.found in
    sym (number-above c.args.limit c.in_ok-number.number c.args.bytes.now c.if-number-limit.false found.1 found.2)
