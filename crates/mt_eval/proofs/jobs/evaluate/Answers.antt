use Rattle.mt_eval.specs.Jobs.{state}
use Rattle.mt_eval.proofs.ByNames.{client_code_by_names, file_by_names}
use Rattle.mt_eval.proofs.jobs.evaluate.Goals as goal

pub returns-clause-file : goal.returns-clause-file
returns-clause-file g c = λ around table stands items code empty.
    file_by_names around c.args.functions.now table g.H.Host.meaning stands (state c.args.store.now c.args.globals.now c.args.budget.now.left, c.args.host.now) c.evaluate_unit.new.store c.evaluate_unit.new.globals c.evaluate_unit.new.host c.evaluate_unit.new.budget.left
    c.args.unit.now items code empty c.evaluate_unit.result c.evaluate_unit.ensures

pub returns-clause-client_code : goal.returns-clause-client_code
returns-clause-client_code g c = λ around table stands items code n now.
    client_code_by_names around c.args.functions.now table g.H.Host.meaning stands (state c.args.store.now c.args.globals.now c.args.budget.now.left, c.args.host.now) c.evaluate_unit.new.store c.evaluate_unit.new.globals c.evaluate_unit.new.host c.evaluate_unit.new.budget.left
    c.args.unit.now items code n now c.evaluate_unit.result c.evaluate_unit.ensures
