use Rattle.std.proofs.Common.{◌≡◌, nat_lt, true, false, arith}
use Rattle.std.proofs.lemmas.Bool.Decides.{nat_tests}
use Rattle.mt_ops.proofs.Units.{same_side, small_large, large_small, beq_same, beq_left, beq_right, is_character}
use Rattle.mt_ops.proofs.order.is_below.Goals as goal

pub returns-then-c-d : goal.returns-then-c-d
returns-then-c-d c = λ us vs other. same_side c.args.c c.args.d us vs (beq_same _ _ c.if-c-d.true) other

pub returns-then-c-lt65536 : goal.returns-then-c-lt65536
returns-then-c-lt65536 c = λ us vs other.
    let small = c.if-c-lt65536.true in
    let test : nat_lt c.args.c 0x1_0000 ≡ true = grind (arith, nat_tests, small) in
    small_large c.args.c c.args.d us vs (is_character c.args.c c.ranges.c.0) (is_character c.args.d c.ranges.d.0) test (beq_right _ _ c.if-c-d.false test)

pub returns-else-c-lt65536 : goal.returns-else-c-lt65536
returns-else-c-lt65536 c = λ us vs other.
    let large = c.if-c-lt65536.false in
    let test : nat_lt c.args.c 0x1_0000 ≡ false = grind (arith, nat_tests, large) in
    large_small c.args.c c.args.d us vs (is_character c.args.c c.ranges.c.0) (is_character c.args.d c.ranges.d.0) test (beq_left _ _ c.if-c-d.false test)
