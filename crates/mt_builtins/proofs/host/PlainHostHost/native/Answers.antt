use Rattle.mt_builtins.proofs.Table.{log_answers, other_answers}
use Rattle.mt_builtins.proofs.host.PlainHostHost.native.Goals as goal

pub returns-in-Log : goal.returns-in-Log
returns-in-Log c = log_answers c.args.which c.in-Log.is c.write.result c.args.arguments.now c.args.self.now c.args.store.now c.write.new.store c.args._budget.now.left c.write.new.self c.write.ensures.meant c.write.ensures.log

pub returns-in_default : goal.returns-in_default
returns-in_default c = other_answers c.native.result c.args.arguments.now c.args.self.now c.args.store.now c.native.new.store c.args._budget.now.left c.args.which c.in_default.not-Log c.native.ensures.meant
