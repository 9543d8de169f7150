use Rattle.std.proofs.Common.{◌≡◌, take}
use Rattle.mt_syntax.specs.First.{first_of}
use Rattle.mt_stage_declared.specs.Declarations.{declarations}
use Rattle.mt_stage_declared.specs.Repeated.{where_holding}
use Rattle.mt_stage_declared.proofs.first.in_marks.Given as goal

abbrev pub invariant-loop-name : goal.invariant-loop-name
invariant-loop-name g l = l.found ≡ first_of (where_holding (g.P.Predicate.holds l.predicate) (declarations l.kind (take l.name-index l.from)))
