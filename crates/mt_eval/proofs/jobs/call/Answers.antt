use Rattle.mt_eval.specs.Jobs.{state}
use Rattle.mt_eval.proofs.ByNames.{call_by_names}
use Rattle.mt_eval.proofs.jobs.call.Goals as goal

pub returns-clause-by_names : goal.returns-clause-by_names
returns-clause-by_names g c = λ around table stands n now.
    call_by_names around c.args.functions.now table g.H.Host.meaning stands (state c.args.store.now c.args.globals.now c.args.budget.now.left, c.args.host.now) c.call_value.new.store c.call_value.new.globals c.call_value.new.host c.call_value.new.budget.left
    c.args.function.now c.args.arguments.now n now c.call_value.result c.call_value.ensures
