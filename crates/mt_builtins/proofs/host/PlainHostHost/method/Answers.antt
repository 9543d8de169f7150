use Rattle.mt_builtins.proofs.Table.{method_answers}
use Rattle.mt_builtins.proofs.host.PlainHostHost.method.Goals as goal

pub returns : goal.returns
returns c = method_answers c.method.result c.args.arguments.now c.args.self.now c.args.store.now c.method.new.store c.args.budget.now.left c.args.base.now c.args.key.now c.method.new.budget.left c.method.ensures.meant
