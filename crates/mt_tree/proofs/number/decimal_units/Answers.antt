use Rattle.std.proofs.Common.{w64}
use Rattle.std.proofs.lemmas.Int.{to_z-of_z}
use Rattle.mt_tree.proofs.Numbers.{units_negative, units_other}
use Rattle.mt_tree.proofs.number.decimal_units.Goals as goal

pub returns-then-n-lt0-clause-units : goal.returns-then-n-lt0-clause-units
returns-then-n-lt0-clause-units c =
    let same = to_z-of_z w64 c.args.n c.ranges.n in
    units_negative c.args.n c.unsigned_abs.result c.digits-digits.result (rw same at c.if-n-lt0.true) (rw same at c.unsigned_abs.ensures.value) c.unsigned_abs.type_inv c.digits-digits.ensures.count

pub returns-else-n-lt0-clause-units : goal.returns-else-n-lt0-clause-units
returns-else-n-lt0-clause-units c =
    let same = to_z-of_z w64 c.args.n c.ranges.n in
    units_other c.args.n c.unsigned_abs.result c.digits-digits.result (rw same at c.if-n-lt0.false) (rw same at c.unsigned_abs.ensures.value) c.unsigned_abs.type_inv c.digits-digits.ensures.count
