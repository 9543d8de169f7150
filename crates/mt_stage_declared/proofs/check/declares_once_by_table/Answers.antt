use Rattle.std.proofs.Common.{sym}
use Rattle.mt_stage_declared.specs.Twice.{twice_in_client}
use Rattle.mt_stage_declared.proofs.Repeats.{none_tells}
use Rattle.mt_stage_declared.proofs.check.declares_once_by_table.Goals as goal

pub returns : goal.returns
returns c = none_tells (twice_in_client c.args.body.now) c.in_ok-found.found c.is_none.result (sym c.in_ok-found.ensures) c.is_none.ensures
