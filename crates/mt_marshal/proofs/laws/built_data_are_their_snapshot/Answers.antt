use Rattle.mt_marshal.proofs.Snapped.{built_is_snapped}
use Rattle.mt_marshal.proofs.laws.built_data_are_their_snapshot.Goals as goal

pub returns : goal.returns
returns c = built_is_snapped
