use Rattle.std.proofs.Common.{◌≡◌, ◌++◌, take}
use Rattle.mt_stage_scopes.proofs.around.push_all.Given as goal

abbrev pub invariant-loop-scope : goal.invariant-loop-scope
invariant-loop-scope l = l.into.items ≡ l.fn.into.items ++ take l.scope-index l.scope-items
