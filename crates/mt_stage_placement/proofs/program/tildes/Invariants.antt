use Rattle.std.proofs.Common.{◌≡◌, None, map, take}
use Rattle.mt_syntax.specs.First.{earlier_of}
use Rattle.mt_syntax.specs.Joining.{first}
use Rattle.mt_syntax.specs.Gathering.{all_of}
use Rattle.mt_stage_placement.specs.Placement.{in_tilde}
use Rattle.mt_stage_placement.proofs.program.tildes.Given as goal

abbrev pub invariant-loop-item : goal.invariant-loop-item
invariant-loop-item l = l.found ≡ all_of None earlier_of (map (in_tilde first) (take l.item-index l.item-items))
