use Rattle.std.proofs.Common.{◌∙◌, List, ℕ, sym, ap}
use Rattle.mt_lines.specs.Lines.{without_return}
use Rattle.mt_schedule.specs.declared.line_reader.LineKind.TheVariants.{Skipped, Command, Bad}
use Rattle.mt_schedule.specs.Reading.{kind_of}
use Rattle.mt_schedule.proofs.Commands.{kind-found}
use Rattle.mt_schedule.proofs.line_reader.read_command.Goals as goal

pub returns-in-Skipped-clause-read : goal.returns-in-Skipped-clause-read
returns-in-Skipped-clause-read c =
    let line : List ℕ = without_return c.args.line.now in
    kind-found c.args.version line Skipped (ap (kind_of c.args.version) (sym c.without_return.ensures) ∙ sym c.in_ok-kind_of.ensures ∙ c.in-Skipped.is)

pub returns-in-Command-clause-read : goal.returns-in-Command-clause-read
returns-in-Command-clause-read c =
    let line : List ℕ = without_return c.args.line.now in
    kind-found c.args.version line (Command c.in-Command.command) (ap (kind_of c.args.version) (sym c.without_return.ensures) ∙ sym c.in_ok-kind_of.ensures ∙ c.in-Command.is)

pub returns-in-Bad-clause-refused : goal.returns-in-Bad-clause-refused
returns-in-Bad-clause-refused c = λ e.
    let line : List ℕ = without_return c.args.line.now in
    kind-found c.args.version line Bad (ap (kind_of c.args.version) (sym c.without_return.ensures) ∙ sym c.in_ok-kind_of.ensures ∙ c.in-Bad.is)
