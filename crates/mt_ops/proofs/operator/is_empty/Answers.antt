use Rattle.mt_ops.proofs.Texts.{empty_is}
use Rattle.mt_ops.proofs.operator.is_empty.Goals as goal

pub returns : goal.returns
returns c = empty_is c.args.text.now c.is.result c.is.ensures
