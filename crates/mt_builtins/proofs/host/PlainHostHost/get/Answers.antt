use Rattle.std.specs.Prelude.{Err}
use Rattle.mt_builtins.proofs.Hosts.{answers_given}
use Rattle.mt_ops.specs.declared.error.ErrorKind.TheVariants as error
use Rattle.mt_builtins.proofs.host.PlainHostHost.get.Goals as goal

pub returns : goal.returns
returns c = answers_given c.no_property.result c.no_property.new.store (Err (error.NoSuchProperty c.args.key.now)) c.args.self.now c.args.store.now c.args._budget.now.left c.no_property.ensures.meant
