use Rattle.mt_eval.specs.Jobs.{state}
use Rattle.mt_eval_jobs.proofs.Endings.{unit_ends}
use Rattle.mt_eval_jobs.proofs.evaluate.Goals as goal

pub returns-clause-kept : goal.returns-clause-kept
returns-clause-kept g c = λ tests most fit code lawful.
    unit_ends tests most g.H.Host.meaning c.args.functions.now fit (state c.args.store.now c.args.globals.now c.args.budget.now.left) c.args.host.now c.evaluate.new.store c.evaluate.new.globals c.evaluate.new.host c.evaluate.new.budget.left c.evaluate.result lawful
    c.args.unit.now code c.evaluate.ensures.on_slots
