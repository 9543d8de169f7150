use Rattle.std.proofs.Common.{subst}
use Rattle.std.specs.Prelude.{slice_get}
use Rattle.std.specs.Option.{option_copied}
use Rattle.mt_ops_methods.specs.Arrays.{part_at}
use Rattle.mt_ops.specs.Errors.{Answers}
use Rattle.mt_ops_methods.specs.Arrays as array
use Rattle.mt_ops_methods.proofs.Lawfulness.{meant_lawful, made_lawful, part_at_lawful}
use Rattle.mt_ops_methods.proofs.array.sliced.Goals as goal

pub returns-clause-meant : goal.returns-clause-meant
returns-clause-meant c =
    c.made.ensures _ (subst (λ cell. Answers (part_at cell c.args.key.now (option_copied c.args.from) (option_copied c.args.to)) c.part_at-items.result) c.get.ensures c.part_at-items.ensures)

pub returns-clause-lawful : goal.returns-clause-lawful
returns-clause-lawful c = λ lawful.
    let store = c.args.store.now in
    let meant = part_at (slice_get store c.args.at) c.args.key.now (option_copied c.args.from) (option_copied c.args.to) in
    meant_lawful c.made.result store c.made.new.store (array.made meant store) (returns-clause-meant c)
    (made_lawful store lawful meant (part_at_lawful store lawful c.args.at c.args.key.now (option_copied c.args.from) (option_copied c.args.to)))
