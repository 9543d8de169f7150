use Rattle.mt_eval.specs.Jobs.{state}
use Rattle.mt_eval_jobs.proofs.Endings.{call_ends}
use Rattle.mt_eval_jobs.proofs.call.Goals as goal

pub returns-clause-kept : goal.returns-clause-kept
returns-clause-kept g c = λ tests most fit lawful f arguments.
    call_ends tests most g.H.Host.meaning c.args.functions.now fit (state c.args.store.now c.args.globals.now c.args.budget.now.left) c.args.host.now c.call.new.store c.call.new.globals c.call.new.host c.call.new.budget.left c.call.result lawful
    c.args.function.now c.args.arguments.now f arguments c.call.ensures.on_slots
