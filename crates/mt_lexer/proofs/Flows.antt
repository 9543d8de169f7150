-- A step that touches nothing.
use Rattle.std.proofs.Common.{◌≡◌, ◌∙◌, ap, sym, ℕ, List, [], append-nil, Ok}
use Rattle.mt_lexer.specs.declared.mode.Before.{Before}
use Rattle.mt_lexer.specs.declared.mode.Mode.{Mode}
use Rattle.mt_lexer.specs.declared.lexer.Flow.{Flow}
use Rattle.mt_lexer.specs.declared.lexer.Lexer.{Lexer}
use Rattle.mt_lexer.specs.Machine.{Next}
use Rattle.mt_lexer.specs.Steps.{Steps, Flows}
use Rattle.mt_lexer.specs.Tokens.{Mark}

pub flowed : (r : Flow) (n : List ℕ → Before → List Mode → Next) (s : Next) (l : Lexer) → Flows r n → s ≡ n l.tokens.source l.before l.modes → Steps (Ok r) s l l
flowed r n s l h e = ([], ap (λ (ms : List Mark). record { source = l.tokens.source; marks = ms }) (sym (append-nil l.tokens.marks)), e ∙ h l.tokens.source l.before l.modes)
