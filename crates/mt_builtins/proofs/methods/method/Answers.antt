use Rattle.std.proofs.Common.{◌≡◌, nat_le, true, IfOk, subst, arith}
use Rattle.std.proofs.lemmas.Bool.Decides.{nat_tests}
use Rattle.mt_builtins.proofs.Lawfulness.{answer_lawful, method_lawful}
use Rattle.mt_builtins.proofs.Making.{paid}
use Rattle.mt_builtins.specs.Builtins as spec
use Rattle.mt_builtins.specs.Making.{ended_for}
use Rattle.mt_builtins.proofs.methods.method.Goals as goal

pub returns-clause-meant : goal.returns-clause-meant
returns-clause-meant c =
    let store = c.args.store.now in
    let budget = c.args.budget.now.left in
    let left = c.takes.new.budget.left in
    let new = c.finish.new.store in
    let made = spec.method c.args.base.now c.args.key.now c.args.arguments.now store in
    let enough : nat_le c.cost.result budget ≡ true = first_of (cc, grind (arith, nat_tests)) in
    subst (λ steps. IfOk c.finish.result (λ done. (done, new, left) ≡ ended_for steps made store budget)) c.cost.ensures
    (paid c.finish.result made store new c.cost.result budget left enough c.takes.ensures.left (c.finish.ensures made c.made-answer.ensures))

pub returns-clause-lawful : goal.returns-clause-lawful
returns-clause-lawful c = λ lawful.
    let store = c.args.store.now in
    let made = spec.method c.args.base.now c.args.key.now c.args.arguments.now store in
    answer_lawful c.finish.result made store c.finish.new.store (c.finish.ensures made c.made-answer.ensures)
    (method_lawful store lawful c.args.base.now c.args.key.now c.args.arguments.now) lawful
