use Rattle.std.proofs.Common.{◌≡◌, ◌+◌}
use Rattle.std.specs.Str.{chars, IsUtf8}
use Rattle.std.specs.Str.Iter.{chars_rest}
use Rattle.mt_tree.specs.Text.{units_of}
use Rattle.mt_tree.proofs.units.units.Given as goal

abbrev pub invariant-loop-c : goal.invariant-loop-c
invariant-loop-c l =
    goal.iterator-loop-c.can_next l.c-iterator × goal.iterator-loop-c.is_finite l.c-iterator × IsUtf8 (chars_rest l.c-iterator)
    × (l.units + units_of (chars (chars_rest l.c-iterator)) ≡ units_of (chars l.text))
