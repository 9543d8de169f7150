-- Percent-encoding (RFC 3986). An unreserved character stands for itself, and each other byte is `%` and two upper-case
-- hexadecimal digits.
use Rattle.std.specs.Prelude.{ℕ, ◌||◌, ◌==◌, Bool, List, [], ◌∷◌, codes, flat_map, if◌then◌else◌}
use Rattle.std.specs.Char.{is_ascii_alphanumeric}
use Rattle.std.specs.List.{list_any}
use Rattle.percent_encoding.specs.Percent.{percent_encode_byte}

abbrev pub is_unreserved : ℕ → Bool
is_unreserved b = is_ascii_alphanumeric b || list_any (λ sign. sign == b) (codes "-._~")

abbrev pub escape_of : ℕ → List ℕ
escape_of b = if is_unreserved b then b ∷ [] else percent_encode_byte b

unfoldable pub escaped : List ℕ → List ℕ
escaped bytes = flat_map escape_of bytes
