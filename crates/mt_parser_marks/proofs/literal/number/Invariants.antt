use Rattle.std.proofs.Common.{◌≡◌, take}
use Rattle.std.specs.Prelude.{min}
use Rattle.mt_lexer.specs.Word.{number_from}
use Rattle.mt_parser_marks.proofs.literal.number.Given as goal
use Rattle.mt_tree.specs.Limits.{number_limit}

abbrev pub invariant-loop-digit : goal.invariant-loop-digit
invariant-loop-digit l = l.value ≡ min (number_from 0 (take l.digit-index l.digits)) number_limit
