use Rattle.std.proofs.Common.{subst}
use Rattle.std.specs.Prelude.{slice_get}
use Rattle.std.specs.Option.{option_copied}
use Rattle.mt_ops_methods.specs.Arrays.{value_at}
use Rattle.mt_ops.specs.Errors.{Answers, settled}
use Rattle.mt_ops.proofs.Lawfulness.{settled_lawful}
use Rattle.mt_ops_methods.proofs.Lawfulness.{meant_lawful, value_at_lawful}
use Rattle.mt_ops_methods.proofs.array.valued.Goals as goal

pub returns-clause-meant : goal.returns-clause-meant
returns-clause-meant c =
    c.settle.ensures _ (subst (λ cell. Answers (value_at cell c.args.method c.args.key.now (option_copied c.args.argument)) c.value_at-answer.result) c.get.ensures c.value_at-answer.ensures)

pub returns-clause-lawful : goal.returns-clause-lawful
returns-clause-lawful c = λ lawful.
    let store = c.args.store.now in
    let meant = value_at (slice_get store c.args.at) c.args.method c.args.key.now (option_copied c.args.argument) in
    meant_lawful c.settle.result store c.settle.new.store (settled meant store) (returns-clause-meant c)
    (settled_lawful meant store (value_at_lawful store lawful c.args.at c.args.method c.args.key.now (option_copied c.args.argument)) lawful)
