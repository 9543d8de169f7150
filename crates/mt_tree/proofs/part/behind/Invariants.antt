use Rattle.std.proofs.Common.{◌≡◌}
use Rattle.std.specs.Str.{chars, IsUtf8}
use Rattle.std.specs.Str.Iter.{chars_rest}
use Rattle.mt_tree.specs.Units.{behind}
use Rattle.mt_tree.proofs.part.behind.Given as goal

abbrev pub decreases-loop-left : goal.decreases-loop-left
decreases-loop-left l = l.left

abbrev pub invariant-loop-left : goal.invariant-loop-left
invariant-loop-left l = record {
  utf8 : IsUtf8 (chars_rest l.rest);
  so_far : behind (chars (chars_rest l.rest)) l.left ≡ behind (chars l.text) l.units;
}
