use Rattle.std.proofs.Common.{◌≡◌, ◌++◌, take}
use Rattle.mt_stage_scopes.specs.Misused.{client_globals}
use Rattle.mt_stage_scopes.proofs.globals.of_tildes.Given as goal

abbrev pub invariant-loop-tilde : goal.invariant-loop-tilde
invariant-loop-tilde l = l.into.items ≡ l.fn.into.items ++ client_globals (take l.tilde-index l.tildes)
