-- The characters of a source, and what each is to the lexer.
use Rattle.std.specs.Prelude.{ℕ, ◌+◌, Bool, ◌||◌, ◌&&◌, nat_eq, nat_le, nat_lt, List, [], ◌∷◌, length, slice_range, if◌then◌else◌}
use Rattle.std.specs.Char.{encode_utf8}
use Rattle.std.specs.Str.{chars}
use Rattle.unicode_ident.specs.Ident.{is_xid_start, is_xid_continue}
use Rattle.mt_tree.specs.declared.place.Span.{Span}
use Rattle.mt_lexer.specs.declared.character.SourceChar.{SourceChar}
use Rattle.mt_lexer.specs.declared.character.Class.{Class}
use Rattle.mt_lexer.specs.declared.character.Class.TheVariants as c
use Rattle.mt_lexer.specs.declared.character.Sign.TheVariants as sign
use Rattle.mt_lexer.specs.declared.character.Quote.TheVariants as quote

abbrev pub Chars : Type 0
Chars = List SourceChar

-- the character at the byte `at`
abbrev pub located : ℕ → ℕ → SourceChar
located x at = record { value = x; span = record { start = at; end = at + length (encode_utf8 x) } }

-- these characters from the byte `at` on
abbrev pub characters_from : ℕ → List ℕ → Chars
characters_from at [] = []
characters_from at (x ∷ xs) = located x at ∷ characters_from (at + length (encode_utf8 x)) xs

-- the characters that the bytes of a source spell
abbrev pub characters : List ℕ → Chars
characters source = characters_from 0 (chars source)

abbrev pub is_ascii_letter : ℕ → Bool
is_ascii_letter x = (nat_le 65 x && nat_le x 90) || (nat_le 97 x && nat_le x 122)

-- the white space of code that isn't ASCII
abbrev pub is_wide_space : ℕ → Bool
is_wide_space x = nat_eq x 0xA0 || nat_eq x 0xFEFF || nat_eq x 0x2028 || nat_eq x 0x2029

abbrev pub sign_class : ℕ → Class
sign_class x =
    if nat_eq x 33 then (c.Sign sign.Exclamation) else if nat_eq x 34 then (c.Quote quote.Double) else if nat_eq x 36 then (c.Sign sign.Dollar) else if nat_eq x 37 then (c.Sign sign.Percent)
    else if nat_eq x 38 then (c.Sign sign.Ampersand) else if nat_eq x 39 then (c.Quote quote.Single) else if nat_eq x 41 || nat_eq x 93 then c.Closing
    else if nat_eq x 42 then (c.Sign sign.Star) else if nat_eq x 43 then (c.Sign sign.Plus) else if nat_eq x 45 then (c.Sign sign.Minus) else if nat_eq x 46 then c.Dot
    else if nat_eq x 47 then (c.Sign sign.Slash) else if nat_eq x 58 then c.Colon else if nat_eq x 60 then (c.Sign sign.Less) else if nat_eq x 61 then (c.Sign sign.Equals)
    else if nat_eq x 62 then (c.Sign sign.Greater) else if nat_eq x 92 then c.Backslash else if nat_eq x 123 then c.OpenBrace else if nat_eq x 124 then (c.Sign sign.Bar)
    else if nat_eq x 125 then c.CloseBrace else if nat_eq x 126 then (c.Sign sign.Tilde)
    else if nat_eq x 40 || nat_eq x 44 || nat_eq x 59 || nat_eq x 63 || nat_eq x 91 then c.Separator else c.Other

abbrev pub ascii_class : ℕ → Class
ascii_class x =
    if nat_eq x 10 then c.LineFeed else if nat_eq x 13 then c.CarriageReturn else if nat_eq x 9 || nat_eq x 11 || nat_eq x 12 || nat_eq x 32 then c.White
    else if is_ascii_letter x then c.Letter else if nat_eq x 95 then c.Underscore else if nat_eq x 48 then c.Zero else if nat_le 49 x && nat_le x 57 then c.Digit
    else sign_class x

-- Unicode says which of the other characters begin and continue a name
abbrev pub wide_class : ℕ → Class
wide_class x = if is_wide_space x then c.White else if is_xid_start x then c.NameStart else if is_xid_continue x then c.NameContinue else c.Other

abbrev pub class_of : ℕ → Class
class_of x = if nat_lt x 128 then ascii_class x else wide_class x

abbrev pub class : SourceChar → Class
class x = class_of x.value

-- what comes next, and what comes after it
abbrev pub first : Chars → Class
first [] = c.End
first (x ∷ cs) = class x

abbrev pub second : Chars → Class
second [] = c.End
second (x ∷ cs) = first cs

-- the byte at which the rest of the source begins
abbrev pub place : List ℕ → Chars → ℕ
place source [] = length source
place source (x ∷ cs) = x.span.start

abbrev pub between : ℕ → ℕ → Span
between start end = record { start = start; end = end }

-- from the character to before the rest
abbrev pub until : List ℕ → SourceChar → Chars → Span
until source x rest = between x.span.start (place source rest)

-- from the one character to the other
abbrev pub through : SourceChar → SourceChar → Span
through x y = between x.span.start y.span.end

abbrev pub text_of : List ℕ → Span → List ℕ
text_of source span = slice_range source span.start span.end
