-- What stands behind a backslash in a text of code: the character that it spells, and the rest of the source.
use Rattle.std.specs.Prelude.{ℕ, zero, suc, ◌+◌, ◌-◌, ◌*◌, Bool, ◌||◌, ◌&&◌, not, nat_eq, nat_le, min, [], ◌∷◌, Option, Some, None, if◌then◌else◌}
use Rattle.mt_lexer.specs.Character.{Chars}

-- `"` `'` `/` `\` and the letters b f n r t v
abbrev pub is_simple_escape : ℕ → Bool
is_simple_escape x =
    nat_eq x 34 || nat_eq x 39 || nat_eq x 47 || nat_eq x 92 || nat_eq x 98 || nat_eq x 102 || nat_eq x 110 || nat_eq x 114 || nat_eq x 116 || nat_eq x 118

abbrev pub simple_escape : ℕ → ℕ
simple_escape x =
    if nat_eq x 98 then 8 else if nat_eq x 102 then 12 else if nat_eq x 110 then 10 else if nat_eq x 114 then 13 else if nat_eq x 116 then 9
    else if nat_eq x 118 then 11 else x

abbrev pub is_hex : ℕ → Bool
is_hex x = (nat_le 48 x && nat_le x 57) || (nat_le 65 x && nat_le x 70) || (nat_le 97 x && nat_le x 102)

abbrev pub hex_value : ℕ → ℕ
hex_value x = if nat_le x 57 then x - 48 else if nat_le x 70 then x - 55 else x - 87

-- one digit more; every number that is no character's stands as one above the last
abbrev pub hex_more : ℕ → ℕ → ℕ
hex_more v x = min (min v 0x11_0000 * 16 + hex_value x) 0x11_0000

abbrev pub is_high : ℕ → Bool
is_high v = nat_le 0xD800 v && nat_le v 0xDBFF

abbrev pub is_low : ℕ → Bool
is_low v = nat_le 0xDC00 v && nat_le v 0xDFFF

abbrev pub is_character : ℕ → Bool
is_character v = nat_le v 0x10_FFFF && not (nat_le 0xD800 v && nat_le v 0xDFFF)

-- n hexadecimal digits, behind digits that spell v
abbrev pub digits : ℕ → ℕ → Chars → Option (ℕ × Chars)
digits zero v cs = Some (v, cs)
digits (suc n) v [] = None
digits (suc n) v (x ∷ cs) = if is_hex x.value then digits n (hex_more v x.value) cs else None

-- a closing brace, or at most n digits and then a closing brace, behind digits that spell v
abbrev pub code_point : ℕ → ℕ → Chars → Option (ℕ × Chars)
code_point n v [] = None
code_point zero v (x ∷ cs) = if nat_eq x.value 125 then (if is_character v then Some (v, cs) else None) else None
code_point (suc n) v (x ∷ cs) =
    if nat_eq x.value 125 then (if is_character v then Some (v, cs) else None) else if is_hex x.value then code_point n (hex_more v x.value) cs else None

-- one to six digits and a closing brace
abbrev pub in_braces : Chars → Option (ℕ × Chars)
in_braces [] = None
in_braces (x ∷ cs) = if is_hex x.value then code_point 5 (hex_more 0 x.value) cs else None

abbrev pub low_digits : Chars → Option (ℕ × Chars)
low_digits [] = None
low_digits (x ∷ cs) = if nat_eq x.value 117 then digits 4 0 cs else None

-- `\u` and four digits
abbrev pub second_unit : Chars → Option (ℕ × Chars)
second_unit [] = None
second_unit (x ∷ cs) = if nat_eq x.value 92 then low_digits cs else None

abbrev pub pair_of : ℕ → ℕ → ℕ
pair_of high low = 0x1_0000 + (high - 0xD800) * 0x400 + (low - 0xDC00)

-- a surrogate pair is one character
abbrev pub paired : ℕ → Option (ℕ × Chars) → Option (ℕ × Chars)
paired high None = None
paired high (Some low) = if is_low low.0 then Some (pair_of high low.0, low.1) else None

-- a unit that is no character alone needs its other half
abbrev pub of_unit : Option (ℕ × Chars) → Option (ℕ × Chars)
of_unit None = None
of_unit (Some unit) = if is_high unit.0 then paired unit.0 (second_unit unit.1) else if is_low unit.0 then None else Some unit

abbrev pub unicode : Chars → Option (ℕ × Chars)
unicode [] = None
unicode (x ∷ cs) = if nat_eq x.value 123 then in_braces cs else of_unit (digits 4 0 (x ∷ cs))

abbrev pub escape : Chars → Option (ℕ × Chars)
escape [] = None
escape (x ∷ cs) = if is_simple_escape x.value then Some (simple_escape x.value, cs) else if nat_eq x.value 117 then unicode cs else None
