-- The text of a page: ASCII letters, digits and spaces.
use Rattle.std.specs.Prelude.{◌&&◌, ◌||◌, ◌==◌, ℕ, Bool, List, length, nat_le}
use Rattle.std.specs.List.{list_all}
use Rattle.mt_small.specs.Name.{is_lower}

-- an ASCII letter, a digit or a space
abbrev pub is_plain : ℕ → Bool
is_plain byte = is_lower byte || ((nat_le 65 byte && nat_le byte 90) || ((nat_le 48 byte && nat_le byte 57) || (byte == 32)))

-- 1 to 1,000 of them
abbrev pub is_paragraph : List ℕ → Bool
is_paragraph text = nat_le 1 (length text) && (nat_le (length text) 1000 && list_all is_plain text)
