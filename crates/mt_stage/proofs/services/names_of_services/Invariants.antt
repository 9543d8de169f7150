use Rattle.std.proofs.Common.{◌≡◌, take}
use Rattle.mt_stage.specs.Services.{names_of_services}
use Rattle.mt_stage.proofs.services.names_of_services.Given as goal

abbrev pub invariant-loop-item : goal.invariant-loop-item
invariant-loop-item l = l.names.items ≡ names_of_services (take l.item-index l.declared)
