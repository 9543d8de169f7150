use Rattle.std.proofs.Common.{◌≡◌, take}
use Rattle.mt_syntax.specs.First.{first_of}
use Rattle.mt_stage_declared.specs.Repeated.{where_holding}
use Rattle.mt_stage_declared.proofs.first.in_list.Given as goal

abbrev pub invariant-loop-declaration : goal.invariant-loop-declaration
invariant-loop-declaration g l = l.found ≡ first_of (where_holding (g.P.Predicate.holds l.predicate) (take l.declaration-index l.from))
