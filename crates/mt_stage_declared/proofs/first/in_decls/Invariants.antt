use Rattle.std.proofs.Common.{◌≡◌, map, take}
use Rattle.mt_syntax.specs.First.{first_of}
use Rattle.mt_syntax.specs.Fold.{on_decl}
use Rattle.mt_stage_declared.specs.Declarations.{declarations, declaring, names_in}
use Rattle.mt_stage_declared.specs.Repeated.{where_holding}
use Rattle.mt_stage_declared.proofs.first.in_decls.Given as goal

abbrev pub invariant-loop-item : goal.invariant-loop-item
invariant-loop-item g l = l.found ≡ first_of (where_holding (g.P.Predicate.holds l.predicate) (declarations l.kind (names_in (λ d. d) (map (on_decl declaring) (take l.item-index l.from)))))
