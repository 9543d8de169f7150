use Rattle.std.proofs.Common.{sym, subst}
use Rattle.std.specs.Str.{chars}
use Rattle.mt_parser_marks.specs.Values.{unplaced}
use Rattle.mt_parser_marks.proofs.Scalars.{Spells, unicode-spells}
use Rattle.mt_parser_marks.proofs.escape.escape.Goals as goal

pub returns-in_err-from_u32 : goal.returns-in_err-from_u32
returns-in_err-from_u32 c = absurd (c.in_err-from_u32.ensures.value (subst Spells (sym c.in_ok-value.ensures) (unicode-spells (unplaced (chars c.in_ok-letter.rest.now)))))
