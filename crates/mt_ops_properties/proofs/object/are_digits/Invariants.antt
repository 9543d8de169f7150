use Rattle.std.proofs.Common.{◌≡◌}
use Rattle.std.specs.List.{list_all}
use Rattle.std.specs.Str.{chars, IsUtf8}
use Rattle.std.specs.Str.Iter.{chars_rest}
use Rattle.mt_syntax.specs.Data.{is_digit}
use Rattle.mt_ops_properties.proofs.object.are_digits.Given as goal

abbrev pub invariant-loop-c : goal.invariant-loop-c
invariant-loop-c l =
    goal.iterator-loop-c.can_next l.c-iterator × goal.iterator-loop-c.is_finite l.c-iterator × IsUtf8 (chars_rest l.c-iterator)
    × (list_all is_digit (chars (chars_rest l.c-iterator)) ≡ list_all is_digit (chars l.text))
