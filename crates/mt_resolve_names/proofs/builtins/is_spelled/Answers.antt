use Rattle.mt_resolve_names.proofs.Words.{same_plain}
use Rattle.mt_resolve_names.proofs.builtins.is_spelled.Goals as goal

pub returns : goal.returns
returns c = same_plain c.args.name.now c.args.word.now c.is.result c.requires c.is.ensures
