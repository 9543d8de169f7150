-- Text literals, as a lenient reader finds them.
use Rattle.std.specs.Prelude.{ℕ, ◌+◌, ◌*◌, ◌==◌, if◌then◌else◌, List, [], ◌∷◌, length, flat_map, encode_utf8, Option, Some, None}
use lib.Utf8.{scalar}
use Rattle.mt_json.specs.Reading.{◌>>=◌, Parse, hex_value, many}
use Rattle.mt_script_words.specs.Words.{text_in}
use Rattle.mt_script_words.specs.declared.literals.Piece.{Piece}
use Rattle.mt_script_words.specs.declared.literals.Piece.TheVariants as piece

-- the number that four hexadecimal digits spell
abbrev pub code_of : ℕ → ℕ → ℕ → ℕ → ℕ
code_of a b c d = 256 * (16 * hex_value a + hex_value b) + (16 * hex_value c + hex_value d)

-- a character, behind `\u`
abbrev pub unicode_at : Parse (Option Piece)
unicode_at (a ∷ b ∷ c ∷ d ∷ bytes) = if scalar (code_of a b c d) then Some (Some (piece.Character (code_of a b c d)), bytes) else None
unicode_at bytes = None

abbrev pub escape_at : Parse (Option Piece)
escape_at [] = None
escape_at (e ∷ bytes) = if e == 117 then unicode_at bytes else Some (Some (piece.Byte e), bytes)

-- a part of a literal, or None at its end
unfoldable pub piece_at : Parse (Option Piece)
piece_at [] = None
piece_at (b ∷ bytes) =
    if b == 34 then Some (None, bytes) else
    if b == 92 then escape_at bytes else
    Some (Some (piece.Byte b), bytes)

abbrev pub piece_bytes : Piece → List ℕ
piece_bytes (piece.Byte b) = b ∷ []
piece_bytes (piece.Character c) = encode_utf8 c

abbrev pub pieces_at : Parse (List Piece)
pieces_at bytes = many piece_at (length bytes) bytes

-- the bytes of a literal, behind its first quote
unfoldable pub string_at : Parse (List ℕ)
string_at bytes = pieces_at bytes >>= λ p. Some (flat_map piece_bytes p.0, p.1)

-- the text of a literal
unfoldable pub text_at : Parse (List ℕ)
text_at bytes = string_at bytes >>= λ s. text_in s.0 >>= λ t. Some (t, s.1)
