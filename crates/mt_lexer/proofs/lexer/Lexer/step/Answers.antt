use Rattle.std.proofs.Common.{refl}
use Rattle.mt_lexer.proofs.Flows.{flowed}
use Rattle.mt_lexer.proofs.lexer.Lexer.step.Goals as goal

pub returns-in-Escape : goal.returns-in-Escape
returns-in-Escape c = flowed _ _ _ _ c.first.ensures (rw c.in-Escape.is refl)

pub returns-in-Unicode : goal.returns-in-Unicode
returns-in-Unicode c = flowed _ _ _ _ c.unicode.ensures (rw c.in-Unicode.is refl)

pub returns-in-Unit : goal.returns-in-Unit
returns-in-Unit c = flowed _ _ _ _ c.unit.ensures (rw c.in-Unit.is refl)

pub returns-in-CodePointStart : goal.returns-in-CodePointStart
returns-in-CodePointStart c = flowed _ _ _ _ c.code_point_start.ensures (rw c.in-CodePointStart.is refl)

pub returns-in-CodePoint : goal.returns-in-CodePoint
returns-in-CodePoint c = flowed _ _ _ _ c.code_point.ensures (rw c.in-CodePoint.is refl)

pub returns-in-HighSurrogate : goal.returns-in-HighSurrogate
returns-in-HighSurrogate c = flowed _ _ _ _ c.high.ensures (rw c.in-HighSurrogate.is refl)

pub returns-in-LowEscape : goal.returns-in-LowEscape
returns-in-LowEscape c = flowed _ _ _ _ c.low_escape.ensures (rw c.in-LowEscape.is refl)

pub returns-in-LowUnit : goal.returns-in-LowUnit
returns-in-LowUnit c = flowed _ _ _ _ c.low_unit.ensures (rw c.in-LowUnit.is refl)
