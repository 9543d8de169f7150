use Rattle.std.proofs.Common.{◌≡◌, take}
use Rattle.mt_resolve_free.proofs.walk.expressions.copied.Given as goal

abbrev pub invariant-loop-name : goal.invariant-loop-name
invariant-loop-name l = l.copies.items ≡ take l.name-index l.names
