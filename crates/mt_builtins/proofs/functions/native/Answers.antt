use Rattle.mt_builtins.proofs.Lawfulness.{answer_lawful, native_lawful}
use Rattle.mt_builtins.specs.Builtins.{native}
use Rattle.mt_builtins.proofs.functions.native.Goals as goal

pub returns-clause-meant : goal.returns-clause-meant
returns-clause-meant c = c.finish.ensures (native c.args.which c.args.arguments.now) c.made-answer.ensures

pub returns-clause-lawful : goal.returns-clause-lawful
returns-clause-lawful c = λ lawful arguments.
    let store = c.args.store.now in
    let given = c.args.arguments.now in
    answer_lawful c.finish.result (native c.args.which given) store c.finish.new.store (returns-clause-meant c) (native_lawful store c.args.which given arguments) lawful
