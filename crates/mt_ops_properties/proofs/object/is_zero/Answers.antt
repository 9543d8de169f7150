use Rattle.std.proofs.Common.{refl}
use Rattle.std.specs.Prelude.{codes}
use Rattle.mt_ops_properties.proofs.Names.{same_plain}
use Rattle.mt_ops_properties.proofs.object.is_zero.Goals as goal

pub returns : goal.returns
returns c = same_plain c.args.name.now (codes "0") c.is.result refl c.is.ensures
