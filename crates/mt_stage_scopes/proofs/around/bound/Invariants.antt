use Rattle.std.proofs.Common.{◌≡◌, false, take}
use Rattle.mt_stage_scopes.specs.Bound.{is_bound}
use Rattle.mt_stage_scopes.proofs.around.bound.Given as goal

abbrev pub invariant-loop-scope : goal.invariant-loop-scope
invariant-loop-scope l = is_bound l.name (take l.scope-index l.scope-items) ≡ false
