use Rattle.std.proofs.Common.{◌≡◌, length}
use Rattle.mt_resolve.specs.Tops as spec
use Rattle.mt_resolve_names.specs.Around.{surroundings_of}
use Rattle.mt_resolve.proofs.program.all_services.Given as goal

abbrev pub invariant-loop-left : goal.invariant-loop-left
invariant-loop-left l =
    spec.all_services (surroundings_of l.r.around) l.r.first l.scope l.from l.fn.functions.items ≡ spec.services_from (surroundings_of l.r.around) l.r.first l.scope l.done.items l.left l.functions.items

abbrev pub decreases-loop-left : goal.decreases-loop-left
decreases-loop-left l = length l.left
