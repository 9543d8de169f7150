use Rattle.std.proofs.Common.{◌≡◌, map, take}
use Rattle.mt_syntax.specs.First.{first_of}
use Rattle.mt_syntax.specs.Fold.{on_decl}
use Rattle.mt_stage_declared.specs.Declarations.{declarations, declaring, names_in}
use Rattle.mt_stage_declared.specs.Repeated.{repeated}
use Rattle.mt_stage_declared.proofs.search.by_comparison.repeated_in_decls.Given as goal

abbrev pub invariant-loop-at : goal.invariant-loop-at
invariant-loop-at l = l.found ≡ first_of (repeated (declarations l.kind (names_in (λ d. d) (map (on_decl declaring) (take l.at l.decls)))))
