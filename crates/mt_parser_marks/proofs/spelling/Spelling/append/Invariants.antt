use Rattle.std.proofs.Common.{◌≡◌, ◌++◌, length}
use denote.Text.{Utf8}
use denote.Shadow.{shadow}
use Rattle.std.specs.Str.{chars}
use Rattle.std.specs.String.{string_bytes}
use Rattle.mt_parser_marks.specs.Values.{spelled}
use Rattle.mt_parser_marks.specs.Reading.{next_by}
use Rattle.mt_parser_marks.proofs.spelling.Spelling.append.Given as goal

-- what was read, and what is left to read
abbrev pub invariant-loop-c : goal.invariant-loop-c
invariant-loop-c l =
    shadow (Utf8 l.rest)
    × (chars (string_bytes l.into) ++ spelled (next_by l.self) (chars l.rest) ≡ chars (string_bytes l.initial.into) ++ spelled (next_by l.self) (chars l.initial.rest))

abbrev pub decreases-loop-c : goal.decreases-loop-c
decreases-loop-c l = length (chars l.rest)
