use Rattle.mt_builtins.proofs.Names.{same_plain}
use Rattle.mt_builtins.proofs.methods.is_name.Goals as goal

pub returns : goal.returns
returns c = same_plain c.args.key.now c.args.name.now c.is.result c.requires c.is.ensures
