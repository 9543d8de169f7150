-- The number that a text spells in decimal, without leading zeros, where it is within a limit.
use Rattle.std.specs.Prelude.{◌&&◌, ℕ, Bool, List, nat_le, decimal, if◌then◌else◌, Option, None, Some}
use Rattle.std.specs.Str.{bytes_eq}
use Rattle.std.specs.Str.Parse.{digits_value}

-- whether the text spells this number, which is at least 1 and at most the limit
abbrev pub is_spelled : ℕ → List ℕ → ℕ → Bool
is_spelled limit bytes number = nat_le 1 number && (nat_le number limit && bytes_eq (decimal number) bytes)

-- the number from 1 to the limit that the text spells
abbrev pub number_in : ℕ → List ℕ → Option ℕ
number_in limit bytes = if is_spelled limit bytes (digits_value 10 bytes) then Some (digits_value 10 bytes) else None
