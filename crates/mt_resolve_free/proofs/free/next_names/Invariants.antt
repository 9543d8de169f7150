use Rattle.std.proofs.Common.{◌≡◌, take}
use Rattle.mt_resolve_free.specs.Tildes.{next_names}
use Rattle.mt_resolve_free.proofs.free.next_names.Given as goal

abbrev pub invariant-loop-tilde : goal.invariant-loop-tilde
invariant-loop-tilde l = l.next.items ≡ next_names (take l.tilde-index l.tildes) l.names
