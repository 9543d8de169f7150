use Rattle.std.proofs.Common.{sym, ◌∙◌}
use Rattle.mt_stage_placement.specs.Placement.{misplaced_jumps}
use Rattle.mt_stage_placement.proofs.FirstPlace.{jumps_are_first, none_tells}
use Rattle.mt_stage_placement.proofs.program.jumps_fit.Goals as goal

pub returns : goal.returns
returns c = none_tells (misplaced_jumps c.args.body.now) c.jumps_in_body.result c.is_none.result (jumps_are_first c.args.body.now ∙ sym c.jumps_in_body.ensures) c.is_none.ensures
