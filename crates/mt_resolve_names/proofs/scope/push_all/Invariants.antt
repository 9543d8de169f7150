use Rattle.std.proofs.Common.{◌≡◌, ◌++◌, take}
use Rattle.mt_resolve_names.proofs.scope.push_all.Given as goal

abbrev pub invariant-loop-slot : goal.invariant-loop-slot
invariant-loop-slot l = l.into.items ≡ l.fn.into.items ++ take l.slot-index l.slots
