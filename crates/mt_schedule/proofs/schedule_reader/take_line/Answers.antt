use Rattle.std.proofs.Common.{◌≡◌, inl, inr, sym, refl}
use Rattle.mt_schedule.specs.declared.line_reader.LineKind.TheVariants.{Skipped, Command, Bad}
use Rattle.mt_schedule.proofs.Commands.{kind-found}
use Rattle.mt_schedule.proofs.schedule_reader.take_line.Goals as goal

pub returns-in-Ok-Skipped-clause-taken : goal.returns-in-Ok-Skipped-clause-taken
returns-in-Ok-Skipped-clause-taken c =
    let is = rw c.in-Ok-Skipped.field-0-is at c.in-Ok-Skipped.ensures in
    inl (kind-found c.args.version c.args.line.now Skipped (sym is), refl)

pub returns-in-Ok-clause-taken : goal.returns-in-Ok-clause-taken
returns-in-Ok-clause-taken c =
    let is = rw c.in-Ok-Command.field-0-is at c.in-Ok-Command.ensures in
    inr (c.in-Ok-Command.command, kind-found c.args.version c.args.line.now (Command c.in-Ok-Command.command) (sym is), c.in-Ok.ensures.items)

pub returns-in-Ok-Bad-clause-refused : goal.returns-in-Ok-Bad-clause-refused
returns-in-Ok-Bad-clause-refused c = λ at e.
    let is = rw c.in-Ok-Bad.field-0-is at c.in-Ok-Bad.ensures in
    let same : at ≡ c.args.number = cc in
    (same, kind-found c.args.version c.args.line.now Bad (sym is))
