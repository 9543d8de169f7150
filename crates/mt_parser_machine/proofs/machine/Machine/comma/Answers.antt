use Rattle.std.proofs.Common.{◌≡◌, subst, sym}
use Rattle.mt_grammar.specs.Machine.{Next, close_by, stop_by}
use Rattle.mt_grammar.specs.declared.terminal.Terminal.TheVariants as k
use Rattle.mt_parser_marks.specs.Views.{token_of}
use Rattle.mt_parser_machine.specs.Views.{level_of}
use Rattle.mt_parser_machine.specs.Steps.{Steps}
use Rattle.mt_parser_machine.proofs.Shifts.{comma_stops}
use Rattle.mt_parser_machine.proofs.machine.Machine.comma.Goals as goal

pub returns-in_default : goal.returns-in_default
returns-in_default c = λ target.
    let d = c.in_default in let t = token_of c.args.token in let fs = c.args.self.now.stack in let out = c.args.self.now.nodes in
    let same : stop_by t c.args.token.terminal (level_of c.args.top) fs out ≡ close_by t k.Comma target (level_of c.args.top) fs out =
    rw c.requires.is (sym (comma_stops t target c.args.top fs out d.not-Arguments d.not-Array d.not-ObjectValue)) in
    subst (λ (z : Next). Steps c.stop.result z c.stop.new.self) same c.stop.ensures
