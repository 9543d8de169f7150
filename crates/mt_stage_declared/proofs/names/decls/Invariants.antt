use Rattle.std.proofs.Common.{◌≡◌, ◌++◌, map, take}
use Rattle.mt_syntax.specs.Fold.{on_decl}
use Rattle.mt_stage_declared.specs.Declarations.{declarations, declaring, names_in}
use Rattle.mt_stage_declared.proofs.names.decls.Given as goal

abbrev pub invariant-loop-item : goal.invariant-loop-item
invariant-loop-item l = l.into.items ≡ l.fn.into.items ++ declarations l.kind (names_in (λ d. d) (map (on_decl declaring) (take l.item-index l.item-items)))
