use Rattle.std.proofs.Common.{◌≡◌, nat_eq, false, rules}
use Rattle.mt_lexer.proofs.part.OpenEscape.unicode.Goals as goal

pub returns-else-at-eq123 : goal.returns-else-at-eq123
returns-else-at-eq123 c = λ s b ms. let h : nat_eq c.args.at.value 123 ≡ false = search rules in rw h (c.unit.ensures s b ms)
