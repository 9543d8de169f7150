use Rattle.std.proofs.Common.{◌≡◌, length, sym, arith, eqb-true}
use Rattle.std.proofs.lemmas.Bool.{iff_false}
use Rattle.mt_lines.proofs.Numbers.{first-digit}
use Rattle.mt_lines.proofs.number.parse_positive.Goals as goal

pub returns-then-is_empty-clause-none : goal.returns-then-is_empty-clause-none
returns-then-is_empty-clause-none c = λ number some small is.
    let first = first-digit number c.args.bytes.now some small is in
    let none : length c.args.bytes.now ≡ 0 = eqb-true _ _ (sym c.if-is_empty.ensures) in
    omega arith

pub returns-else-is_positive_digit-clause-none : goal.returns-else-is_positive_digit-clause-none
returns-else-is_positive_digit-clause-none c = λ number some small is.
    let first = first-digit number c.args.bytes.now some small is in
    iff_false c.is_positive_digit.ensures c.if-is_positive_digit.false (first.0, first.1)
