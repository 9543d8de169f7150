-- The numbers that texts write.
use Rattle.std.specs.Prelude.{ℕ, ℤ, pos, neg_ℤ, Bool, ◌&&◌, nat_lt, List, drop, length, if◌then◌else◌, Option, None, Some}
use Rattle.std.specs.Str.Parse.{digits_value, starts_with_minus}
use Rattle.std.specs.Str.{all_ascii_digits}
use Rattle.mt_syntax.specs.Data.{is_in_range}

-- one digit or more, and nothing else
abbrev pub is_whole : List ℕ → Bool
is_whole text = nat_lt 0 (length text) && all_ascii_digits text

abbrev pub within : ℤ → Option ℤ
within n = if is_in_range n then Some n else None

-- the number in range that digits write in decimal, with `-` before them or not
unfoldable pub number_in : List ℕ → Option ℤ
number_in text =
    if is_whole text then within (pos (digits_value 10 text)) else
    if starts_with_minus text && is_whole (drop 1 text) then within (neg_ℤ (pos (digits_value 10 (drop 1 text)))) else None
