use Rattle.std.proofs.Common.{take}
use Rattle.mt_stage_declared.specs.Scopes.{Tells}
use Rattle.mt_stage_declared.proofs.scope.table_of.Given as goal

abbrev pub invariant-loop-declaration : goal.invariant-loop-declaration
invariant-loop-declaration l = Tells l.table (take l.declaration-index l.declared)
