use Rattle.mt_marshal.proofs.Building.{build_stays}
use Rattle.mt_marshal.proofs.laws.built_data_are_lawful.Goals as goal

pub returns : goal.returns
returns c = build_stays
