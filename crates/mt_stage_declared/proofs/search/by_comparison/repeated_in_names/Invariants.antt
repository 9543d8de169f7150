use Rattle.std.proofs.Common.{◌≡◌, take}
use Rattle.mt_syntax.specs.First.{first_of}
use Rattle.mt_stage_declared.specs.Declarations.{declarations}
use Rattle.mt_stage_declared.specs.Repeated.{repeated}
use Rattle.mt_stage_declared.proofs.search.by_comparison.repeated_in_names.Given as goal

abbrev pub invariant-loop-at : goal.invariant-loop-at
invariant-loop-at l = l.found ≡ first_of (repeated (declarations l.kind (take l.at l.names)))
