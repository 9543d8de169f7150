use Rattle.std.proofs.Common.{◌≡◌, ℕ, ap, ◌∙◌, inl, inr, arith}
use Rattle.mt_lexer.specs.declared.character.SourceChar.{SourceChar}
use Rattle.mt_lexer.specs.Character.{between}
use Rattle.mt_lexer.specs.Machine.{ends, end_mark}
use Rattle.mt_lexer.specs.Steps.{flow_of}
use Rattle.mt_lexer.specs.Tokens.{Spelled}
use Rattle.mt_lexer.proofs.Turn.{at_end}
use Rattle.mt_lexer.proofs.lexer.Lexer.finish.Goals as goal

pub returns-then-len-gt-TOKEN_LIMIT-clause-ends : goal.returns-then-len-gt-TOKEN_LIMIT-clause-ends
returns-then-len-gt-TOKEN_LIMIT-clause-ends c =
    let mark : c.end.result ≡ end_mark c.args.self.now.tokens.source = c.end.ensures ∙ ap (λ (n : ℕ). let g : SourceChar = record { value = 0; span = between n n } in g) c.requires in
    (ends (flow_of c.in_ok-flow.flow c.step.new.self.modes c.step.new.self.before), at_end _ _ _ _ _ _ _ mark c.in_ok-flow.ensures, omega (arith, c.len.ensures, c.if-len-gt-TOKEN_LIMIT.true))

pub returns-in-Continue : goal.returns-in-Continue
returns-in-Continue c =
    let mark : c.end.result ≡ end_mark c.args.self.now.tokens.source = c.end.ensures ∙ ap (λ (n : ℕ). let g : SourceChar = record { value = 0; span = between n n } in g) c.requires in
    record {
      source = ap (λ (s : Spelled). s.source) c.in_ok-flow.ensures.1;
      ends = (
        elim c.in-Continue.is [ inl w ↦ at_end _ _ _ _ _ _ _ mark (rw w.1 at c.in_ok-flow.ensures) | inr w ↦ at_end _ _ _ _ _ _ _ mark (rw w at c.in_ok-flow.ensures) ],
        omega (arith, c.len.ensures, c.if-len-gt-TOKEN_LIMIT.false),
      );
    }

pub returns-in-Refuse-clause-ends : goal.returns-in-Refuse-clause-ends
returns-in-Refuse-clause-ends c =
    let mark : c.end.result ≡ end_mark c.args.self.now.tokens.source = c.end.ensures ∙ ap (λ (n : ℕ). let g : SourceChar = record { value = 0; span = between n n } in g) c.requires in
    (at_end _ _ _ _ _ _ _ mark (rw c.in-Refuse.is at c.in_ok-flow.ensures), omega (arith, c.len.ensures, c.if-len-gt-TOKEN_LIMIT.false))
