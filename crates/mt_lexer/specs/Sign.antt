-- Which characters go together.
use Rattle.std.specs.Prelude.{Bool, true, false, ◌||◌, ◌&&◌, not, Option, Some, None}
use Rattle.mt_tree.specs.declared.kind.Kind.{Kind}
use Rattle.mt_tree.specs.declared.kind.Kind.TheVariants as k
use Rattle.mt_lexer.specs.declared.character.Class.{Class}
use Rattle.mt_lexer.specs.declared.character.Class.TheVariants as c
use Rattle.mt_lexer.specs.declared.character.Sign.{Sign}
use Rattle.mt_lexer.specs.declared.character.Sign.TheVariants as sign
use Rattle.mt_lexer.specs.declared.mode.Before.{Before}
use Rattle.mt_lexer.specs.declared.mode.Before.TheVariants as before
use Rattle.mt_lexer.specs.declared.mode.Opener.{Opener}
use Rattle.mt_lexer.specs.declared.mode.Opener.TheVariants as opener
use Rattle.mt_lexer.specs.declared.character.Quote.{Quote}
use Rattle.mt_lexer.specs.declared.character.Quote.TheVariants as quote

abbrev pub is_space : Class → Bool
is_space c.White = true
is_space c.LineFeed = true
is_space c.CarriageReturn = true
is_space _ = false

abbrev pub is_letter : Class → Bool
is_letter c.Letter = true
is_letter _ = false

abbrev pub is_digit : Class → Bool
is_digit c.Zero = true
is_digit c.Digit = true
is_digit _ = false

abbrev pub starts_name : Class → Bool
starts_name c.Letter = true
starts_name c.Underscore = true
starts_name c.NameStart = true
starts_name _ = false

abbrev pub continues_name : Class → Bool
continues_name c.NameContinue = true
continues_name y = starts_name y || is_digit y

abbrev pub continues_tag : Class → Bool
continues_tag (c.Sign sign.Minus) = true
continues_tag y = is_letter y || is_digit y

abbrev pub continues_attribute : Class → Bool
continues_attribute c.Underscore = true
continues_attribute c.Colon = true
continues_attribute y = continues_tag y

-- what can't stand directly behind a number
abbrev pub spoils_number : Class → Bool
spoils_number y = starts_name y || is_digit y

abbrev pub in_line : Class → Bool
in_line c.LineFeed = false
in_line c.End = false
in_line _ = true

-- a block comment goes on before `*/`
abbrev pub is_slash : Class → Bool
is_slash (c.Sign sign.Slash) = true
is_slash _ = false

abbrev pub in_block : Class → Class → Bool
in_block c.End z = false
in_block (c.Sign sign.Star) z = not (is_slash z)
in_block _ z = true

abbrev pub is_open_brace : Class → Bool
is_open_brace c.OpenBrace = true
is_open_brace _ = false

-- a text among children goes on before `<`, `~{` and `${`
abbrev pub in_child_text : Class → Class → Bool
in_child_text c.End z = false
in_child_text (c.Sign sign.Less) z = false
in_child_text (c.Sign sign.Tilde) z = not (is_open_brace z)
in_child_text (c.Sign sign.Dollar) z = not (is_open_brace z)
in_child_text _ z = true

abbrev pub opener_of : Class → Option Opener
opener_of (c.Sign sign.Tilde) = Some opener.Tilde
opener_of (c.Sign sign.Dollar) = Some opener.Dollar
opener_of _ = None

abbrev pub opener_kind : Opener → Kind
opener_kind opener.Tilde = k.TildeOpen
opener_kind opener.Dollar = k.DollarOpen

abbrev pub quote_of : Class → Option Quote
quote_of (c.Quote u) = Some u
quote_of _ = None

abbrev pub is_same_quote : Quote → Quote → Bool
is_same_quote quote.Double quote.Double = true
is_same_quote quote.Single quote.Single = true
is_same_quote _ _ = false

abbrev pub closes : Quote → Class → Bool
closes quote.Double (c.Quote quote.Double) = true
closes quote.Single (c.Quote quote.Single) = true
closes _ _ = false

-- an ordinary character of a text of code
abbrev pub is_plain : Quote → Class → Bool
is_plain quote.Double (c.Quote quote.Double) = false
is_plain quote.Single (c.Quote quote.Single) = false
is_plain _ c.Backslash = false
is_plain _ c.LineFeed = false
is_plain _ c.CarriageReturn = false
is_plain _ c.End = false
is_plain _ _ = true

-- where a text of code may not go on
abbrev pub ends_line : Class → Bool
ends_line c.LineFeed = true
ends_line c.CarriageReturn = true
ends_line c.End = true
ends_line _ = false

abbrev pub in_value : Quote → Class → Bool
in_value quote.Double (c.Quote quote.Double) = false
in_value quote.Single (c.Quote quote.Single) = false
in_value _ c.End = false
in_value _ _ = true

-- the first characters of signs that others may join
abbrev pub sign_of : Class → Option Sign
sign_of (c.Sign a) = Some a
sign_of _ = None

-- the signs that stand alone whatever follows
abbrev pub is_single : Class → Bool
is_single c.Closing = true
is_single c.Dot = true
is_single c.Colon = true
is_single c.Separator = true
is_single _ = false

abbrev pub before_single : Class → Before
before_single c.Closing = before.Operand
before_single c.Dot = before.Dot
before_single _ = before.Other

abbrev pub is_equals : Class → Bool
is_equals (c.Sign sign.Equals) = true
is_equals _ = false

-- `===` and `!==`
abbrev pub is_three : Sign → Class → Class → Bool
is_three sign.Equals y z = is_equals y && is_equals z
is_three sign.Exclamation y z = is_equals y && is_equals z
is_three _ y z = false

-- `<=` `>=` `&&` `||` `++` `--` `+=` `-=` `*=` `/=` `%=`
abbrev pub is_two : Sign → Class → Bool
is_two sign.Less (c.Sign sign.Equals) = true
is_two sign.Greater (c.Sign sign.Equals) = true
is_two sign.Ampersand (c.Sign sign.Ampersand) = true
is_two sign.Bar (c.Sign sign.Bar) = true
is_two sign.Plus (c.Sign sign.Plus) = true
is_two sign.Plus (c.Sign sign.Equals) = true
is_two sign.Minus (c.Sign sign.Minus) = true
is_two sign.Minus (c.Sign sign.Equals) = true
is_two sign.Star (c.Sign sign.Equals) = true
is_two sign.Slash (c.Sign sign.Equals) = true
is_two sign.Percent (c.Sign sign.Equals) = true
is_two _ _ = false

-- `++` and `--` may end an operand
abbrev pub before_two : Sign → Class → Before
before_two sign.Plus (c.Sign sign.Plus) = before.Operand
before_two sign.Minus (c.Sign sign.Minus) = before.Operand
before_two _ _ = before.Other

-- a `<` begins a tag before a letter, unless it compares what stands before it
abbrev pub allows_tag : Before → Bool
allows_tag before.Operand = false
allows_tag _ = true

abbrev pub begins_comment : Class → Bool
begins_comment (c.Sign sign.Slash) = true
begins_comment (c.Sign sign.Star) = true
begins_comment _ = false

-- a sign of one character, before characters of these classes
abbrev pub is_one : Before → Sign → Class → Class → Bool
is_one b sign.Ampersand y z = false
is_one b sign.Bar y z = false
is_one b sign.Tilde y z = false
is_one b sign.Dollar y z = false
is_one b sign.Less y z = not (is_equals y) && not (is_letter y && allows_tag b)
is_one b sign.Slash y z = not (is_equals y) && not (begins_comment y)
is_one b a y z = not (is_two a y) && not (is_three a y z)

-- a sign that is no sign, and begins nothing, before such a character
abbrev pub is_stray : Sign → Class → Bool
is_stray sign.Ampersand y = not (is_two sign.Ampersand y)
is_stray sign.Bar y = not (is_two sign.Bar y)
is_stray sign.Tilde y = not (is_open_brace y)
is_stray sign.Dollar y = not (is_open_brace y)
is_stray _ y = false

abbrev pub begins_nothing : Class → Bool
begins_nothing c.NameContinue = true
begins_nothing c.Backslash = true
begins_nothing c.Other = true
begins_nothing _ = false

-- what begins nothing in a tag, before a character of the class z
abbrev pub is_greater : Class → Bool
is_greater (c.Sign sign.Greater) = true
is_greater _ = false

abbrev pub begins_nothing_in_tag : Class → Class → Bool
begins_nothing_in_tag c.End z = false
begins_nothing_in_tag c.White z = false
begins_nothing_in_tag c.LineFeed z = false
begins_nothing_in_tag c.CarriageReturn z = false
begins_nothing_in_tag c.Letter z = false
begins_nothing_in_tag (c.Sign sign.Equals) z = false
begins_nothing_in_tag (c.Quote quote.Double) z = false
begins_nothing_in_tag (c.Quote quote.Single) z = false
begins_nothing_in_tag (c.Sign sign.Greater) z = false
begins_nothing_in_tag (c.Sign sign.Slash) z = not (is_greater z)
begins_nothing_in_tag (c.Sign sign.Tilde) z = not (is_open_brace z)
begins_nothing_in_tag (c.Sign sign.Dollar) z = not (is_open_brace z)
begins_nothing_in_tag _ z = true

-- what follows a `<` among children that begins nothing
abbrev pub follows_no_less : Class → Bool
follows_no_less c.Letter = false
follows_no_less (c.Sign sign.Slash) = false
follows_no_less _ = true
