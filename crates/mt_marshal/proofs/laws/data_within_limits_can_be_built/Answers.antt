use Rattle.mt_marshal.proofs.Within.{data_fit}
use Rattle.mt_marshal.proofs.laws.data_within_limits_can_be_built.Goals as goal

pub returns : goal.returns
returns c = data_fit
