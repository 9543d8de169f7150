use Rattle.std.proofs.Common.{◌∷◌, [], List, ap, sym, ◌∙◌}
use Rattle.mt_lexer.specs.Character.{text_of}
use Rattle.mt_lexer.specs.Tokens.{Mark, Spelled, with_marks}
use Rattle.mt_lexer.proofs.Marks.{AllCut-push, marks_of-push}
use Rattle.mt_lexer.proofs.token.Tokens.push.Goals as goal

pub invariant_of-self-2 : goal.invariant_of-self-2
invariant_of-self-2 c =
    rw c.in_ok-push.ensures.items (AllCut-push _ _ _ c.self.invariant (c.text-text.ensures ∙ ap (λ (s : Spelled). text_of s.source c.args.span) (sym c.self.view_is)))

pub returns : goal.returns
returns c =
    ap (λ (ts : List Mark). record { source = c.self.inside.source.now; marks = ts }) (rw c.in_ok-push.ensures.items (marks_of-push _ _))
    ∙ ap (λ (s : Spelled). with_marks s (record { kind = c.args.kind; span = c.args.span } ∷ [])) c.self.view_is
