use Rattle.std.proofs.Common.{ap, ◌∙◌}
use Rattle.mt_value.specs.Names.{is_same}
use Rattle.mt_ops_methods.proofs.Names.{key_is}
use Rattle.mt_ops_methods.proofs.name.names.Goals as goal

pub returns : goal.returns
returns c = key_is c.args.key.now c.as_str.result.now c.is.result c.as_str.ensures.ascii c.is.ensures ∙ ap (is_same c.args.key.now) c.as_str.ensures.text
