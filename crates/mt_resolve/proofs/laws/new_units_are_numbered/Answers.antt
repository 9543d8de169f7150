use Rattle.mt_resolve.proofs.FurtherStatements.{empty_numbered}
use Rattle.mt_resolve.proofs.laws.new_units_are_numbered.Goals as goal

pub returns : goal.returns
returns c = empty_numbered
