use Rattle.std.proofs.Common.{◌≡◌, ◌++◌, map, take}
use Rattle.mt_stage_declared.specs.Declarations.{declared, variables_in}
use Rattle.mt_stage_declared.proofs.names.+variables.Given as goal

abbrev pub invariant-row_variables-loop-item : goal.invariant-row_variables-loop-item
invariant-row_variables-loop-item l = l.into.items ≡ l.fn.into.items ++ variables_in (λ d. d) (map declared (take l.item-index l.item-items))
