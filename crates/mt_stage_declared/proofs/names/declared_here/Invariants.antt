use Rattle.std.proofs.Common.{◌≡◌, ◌++◌, map, take}
use Rattle.mt_stage_declared.specs.Declarations.{declared, here_in}
use Rattle.mt_stage_declared.proofs.names.declared_here.Given as goal

abbrev pub invariant-loop-item : goal.invariant-loop-item
invariant-loop-item l = l.into.items ≡ l.fn.into.items ++ here_in (λ d. d) (map declared (take l.item-index l.item-items))
