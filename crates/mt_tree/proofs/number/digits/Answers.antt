use Rattle.std.proofs.Common.{arith}
use Rattle.mt_tree.proofs.Numbers.{digits_one, digits_more, digits_few}
use Rattle.mt_tree.proofs.number.digits.Goals as goal

pub overflow_add-count : goal.overflow_add-count
overflow_add-count c = omega (arith, c.loop-left.invariant.1, digits_few c.args.n c.ranges.n.fits)

pub loop-left-preserved : goal.loop-left-preserved
loop-left-preserved c =
    let more = digits_more c.loop-left.left c.loop-left-test.true (omega (arith, c.loop-left.invariant.0, c.ranges.n.fits)) in
    (omega (arith, c.loop-left.invariant.0), omega (arith, c.loop-left.invariant.1, more))

pub returns-clause-count : goal.returns-clause-count
returns-clause-count c = omega (arith, c.loop-left.invariant.1, digits_one c.loop-left.left c.loop-left-test.false)

pub returns-clause-small : goal.returns-clause-small
returns-clause-small c = omega (arith, c.loop-left.invariant.1, digits_one c.loop-left.left c.loop-left-test.false, digits_few c.args.n c.ranges.n.fits)
