use Rattle.std.proofs.Common.{◌≡◌, ◌++◌, length, reverse}
use Rattle.mt_resolve_names.proofs.entry.Entry.inside.Given as goal

abbrev pub invariant-loop-left : goal.invariant-loop-left
invariant-loop-left l = l.scope.items ++ reverse l.left ≡ l.fn.self.1

abbrev pub decreases-loop-left : goal.decreases-loop-left
decreases-loop-left l = length l.left
