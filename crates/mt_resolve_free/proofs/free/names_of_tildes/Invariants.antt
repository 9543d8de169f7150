use Rattle.std.proofs.Common.{◌≡◌}
use Rattle.mt_resolve_free.proofs.Levels.{names_to}
use Rattle.mt_resolve_free.proofs.free.names_of_tildes.Given as goal

abbrev pub invariant-loop-level : goal.invariant-loop-level
invariant-loop-level l = l.names.items ≡ names_to l.tildes l._level
