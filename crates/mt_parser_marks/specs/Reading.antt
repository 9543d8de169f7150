-- What the code has read off a text, as the lexer's definitions say it.
use Rattle.std.specs.Prelude.{ℕ, List, Option, option_map}
use Rattle.std.specs.Str.{chars}
use Rattle.mt_lexer.specs.Character.{Chars}
use Rattle.mt_parser_marks.specs.declared.spelling.Spelling.{Spelling}
use Rattle.mt_parser_marks.specs.declared.spelling.Spelling.TheVariants as spelling
use Rattle.mt_parser_marks.specs.Values.{unplaced, next_in_text, next_in_value}
use denote.Ref.{Bor}

-- a number, and the characters behind it
abbrev pub as_read : Option (ℕ × Bor (List ℕ)) → Option (ℕ × Chars)
as_read r = option_map (λ (p : ℕ × Bor (List ℕ)). (p.0, unplaced (chars p.1.now))) r

abbrev pub next_by : Spelling → ℕ → List ℕ → ℕ × List ℕ
next_by spelling.Escapes = next_in_text
next_by spelling.References = next_in_value
