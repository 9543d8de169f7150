use Rattle.std.proofs.Common.{◌≡◌, ◌∷◌, subst, sym, ◌∙◌}
use Rattle.mt_grammar.specs.Machine.{Next, first_by, operand_by}
use Rattle.mt_parser_marks.specs.Views.{token_of}
use Rattle.mt_parser_machine.specs.Views.{level_of}
use Rattle.mt_parser_machine.specs.Steps.{Steps}
use Rattle.mt_parser_machine.proofs.Absent.{begins_operand}
use Rattle.mt_parser_machine.proofs.machine.Machine.first.Goals as goal

pub returns-in_ok-push-in-Some : goal.returns-in_ok-push-in-Some
returns-in_ok-push-in-Some c =
    let t = token_of c.args.token in let y = c.args.token.terminal in let out = c.args.self.now.nodes in
    let x = level_of c.in-Some.top in let fs = c.pop.new.self in
    let before : c.args.self.now.stack ≡ x ∷ fs = c.in-Some.ensures.top in
    let again : c.push.new.self ≡ x ∷ fs = c.in_ok-push-in-Some.ensures.top in
    let same : first_by t y c.args.self.now.stack out ≡ operand_by t y (c.push.new.self) out =
    rw (before, again) (begins_operand t y x fs out (sym c.needs_none.ensures ∙ c.if-needs_none.false)) in
    subst (λ (z : Next). Steps c.operand.result z c.operand.new.self) (sym same) c.operand.ensures
