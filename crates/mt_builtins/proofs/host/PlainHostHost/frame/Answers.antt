use Rattle.mt_builtins.proofs.Table.{unmade_answers}
use Rattle.mt_builtins.proofs.host.PlainHostHost.frame.Goals as goal

pub returns : goal.returns
returns c = unmade_answers c.refuse_beyond.result c.args.self.now c.refuse_beyond.new.self c.args.store.now c.refuse_beyond.new.store c.args._budget.now.left c.refuse_beyond.ensures.asked c.refuse_beyond.ensures.meant
