use Rattle.std.proofs.Common.{◌≡◌, map, take}
use Rattle.mt_syntax.specs.First.{first_of}
use Rattle.mt_stage_declared.specs.Declarations.{declared, variables_in}
use Rattle.mt_stage_declared.specs.Repeated.{where_holding}
use Rattle.mt_stage_declared.proofs.first.+variables.Given as goal

abbrev pub invariant-in_row_variables-loop-item : goal.invariant-in_row_variables-loop-item
invariant-in_row_variables-loop-item g l = l.found ≡ first_of (where_holding (g.P.Predicate.holds l.predicate) (variables_in (λ d. d) (map declared (take l.item-index l.item-items))))
