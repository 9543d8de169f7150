use Rattle.std.proofs.Common.{◌≡◌, ◌++◌}
use Rattle.std.specs.Str.{chars, IsUtf8}
use Rattle.std.specs.Str.Iter.{chars_rest}
use Rattle.std.specs.String.{string_bytes}
use Rattle.mt_ops_properties.specs.ErrorText as spec
use Rattle.mt_ops_properties.proofs.thrown.within_bytes.Given as goal

abbrev pub invariant-loop-c : goal.invariant-loop-c
invariant-loop-c l =
    goal.iterator-loop-c.can_next l.c-iterator × goal.iterator-loop-c.is_finite l.c-iterator × IsUtf8 (chars_rest l.c-iterator)
    × (chars (string_bytes l.made) ++ spec.within_bytes l.room (chars (chars_rest l.c-iterator)) ≡ spec.within_bytes 4096 (chars l.text))
