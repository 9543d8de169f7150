use Rattle.std.proofs.Common.{◌≡◌, flat_map, take}
use Rattle.mt_syntax.specs.First.{first_of}
use Rattle.mt_stage_declared.specs.Twice.{twice_in_tilde}
use Rattle.mt_stage_declared.proofs.check.tildes.Given as goal

abbrev pub invariant-loop-item : goal.invariant-loop-item
invariant-loop-item g l = l.found ≡ first_of (flat_map twice_in_tilde (take l.item-index l.all))
