use Rattle.std.proofs.Common.{◌≡◌, ◌++◌, filter, take}
use Rattle.mt_stage_scopes.specs.Misused.{is_global}
use Rattle.mt_stage_scopes.proofs.globals.push_globals.Given as goal

abbrev pub invariant-loop-declaration : goal.invariant-loop-declaration
invariant-loop-declaration l = l.into.items ≡ l.fn.into.items ++ filter is_global (take l.declaration-index l.from)
