use Rattle.std.proofs.Common.{◌≡◌, ◌++◌, take}
use Rattle.std.specs.Str.{chars, IsUtf8}
use Rattle.std.specs.Str.Iter.{chars_rest}
use Rattle.std.specs.String.{string_bytes}
use Rattle.mt_ops.proofs.text.shortened.Given as goal

abbrev pub invariant-loop-c : goal.invariant-loop-c
invariant-loop-c l =
    goal.iterator-loop-c.can_next l.c-iterator × goal.iterator-loop-c.is_finite l.c-iterator × IsUtf8 (chars_rest l.c-iterator)
    × (chars (string_bytes l.made) ++ take l.room (chars (chars_rest l.c-iterator)) ≡ take 64 (chars l.name))
