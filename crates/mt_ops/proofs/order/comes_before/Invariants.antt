use Rattle.std.proofs.Common.{◌≡◌}
use Rattle.std.specs.Str.{chars, IsUtf8}
use Rattle.std.specs.Str.Iter.{chars_rest}
use Rattle.mt_ops.specs.Order.{comes_before}
use Rattle.mt_ops.proofs.order.comes_before.Given as goal

abbrev pub invariant-loop-c : goal.invariant-loop-c
invariant-loop-c l =
    goal.iterator-loop-c.can_next l.c-iterator × goal.iterator-loop-c.is_finite l.c-iterator
    × IsUtf8 (chars_rest l.c-iterator) × IsUtf8 (chars_rest l.others)
    × (comes_before (chars (chars_rest l.c-iterator)) (chars (chars_rest l.others)) ≡ comes_before (chars l.a) (chars l.b))
