use Rattle.std.proofs.Common.{◌≡◌, length, ap, sym, ◌∙◌, rules}
use Rattle.mt_lexer.specs.Tokens.{Spelled}
use Rattle.mt_lexer.proofs.Marks.{length-marks_of}
use Rattle.mt_lexer.proofs.token.Tokens.len.Goals as goal

pub returns : goal.returns
returns c = let e : c.len.result ≡ length c.self.inside.list.items = search rules in e ∙ sym (length-marks_of c.self.inside.list.items) ∙ ap (λ (s : Spelled). length s.marks) c.self.view_is
