use Rattle.std.proofs.Common.{subst, sym}
use Rattle.mt_grammar.specs.Machine.{Next}
use Rattle.mt_parser_machine.specs.Steps.{Steps}
use Rattle.mt_parser_marks.specs.Views.{token_of}
use Rattle.mt_parser_machine.specs.Views.{level_of}
use Rattle.mt_parser_machine.proofs.Shifts.{only_closes}
use Rattle.mt_parser_machine.proofs.machine.Machine.shift.Goals as goal

pub returns-in_default : goal.returns-in_default
returns-in_default c =
    let d = c.in_default in
    let same = only_closes (token_of c.args.token) c.args.token.terminal c.args.start c.args.target (level_of c.args.top) c.args.self.now.stack c.args.self.now.nodes
    d.not-Open d.not-OpenSquare d.not-Dot d.not-Question d.not-Step d.not-Infix d.not-Assign in
    subst (λ (z : Next). Steps c.close.result z c.close.new.self) (sym same) c.close.ensures
