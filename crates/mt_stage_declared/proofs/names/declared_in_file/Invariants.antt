use Rattle.std.proofs.Common.{◌≡◌, ◌++◌, take}
use Rattle.mt_stage_declared.specs.Declarations.{declared_in_file}
use Rattle.mt_stage_declared.proofs.names.declared_in_file.Given as goal

abbrev pub invariant-loop-item : goal.invariant-loop-item
invariant-loop-item l = l.into.items ≡ l.fn.into.items ++ declared_in_file (take l.item-index l.item-items)
