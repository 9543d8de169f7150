use Rattle.std.proofs.Common.{◌≡◌, ◌++◌, take}
use Rattle.mt_stage_declared.specs.Declarations.{declarations}
use Rattle.mt_stage_declared.proofs.names.declare_all.Given as goal

abbrev pub invariant-loop-mark : goal.invariant-loop-mark
invariant-loop-mark l = l.into.items ≡ l.fn.into.items ++ declarations l.kind (take l.mark-index l.from)
