-- What the text of a token stands for, as a list of characters or a number. A text of code has its two quotes here, and so has the value of an attribute.
-- The texts of a source's tokens are UTF-8, and its numbers are at most the greatest; what other bytes stand for is said so that each list of bytes stands for something.
use Rattle.std.specs.Prelude.{ℕ, zero, suc, ◌-◌, ◌==◌, List, [], ◌∷◌, length, take, drop, map, codes, Option, Some, None, option_map, unwrap_or, min, ℤ, pos, if◌then◌else◌}
use Rattle.std.specs.Option.{option_or}
use Rattle.std.specs.Str.{chars, is_utf8}
use Rattle.mt_lexer.specs.declared.character.SourceChar.{SourceChar}
use Rattle.mt_lexer.specs.Character.{Chars, between}
use Rattle.mt_lexer.specs.Escape.{escape}
use Rattle.mt_lexer.specs.Word as word
use Rattle.mt_tree.specs.Limits.{number_limit}

-- the characters that the bytes spell, and none where they aren't UTF-8
unfoldable pub decoded : List ℕ → List ℕ
decoded text = if is_utf8 text then chars text else []

-- a name, a word behind a dot, or the name of a tag or an attribute
abbrev pub name_of : List ℕ → List ℕ
name_of text = decoded text

-- the whole number that the digits spell, or the greatest one where they spell more
unfoldable pub number_of : List ℕ → ℤ
number_of digits = pos (min (word.number_of digits) number_limit)

-- all but the first and the last
abbrev pub inside : List ℕ → List ℕ
inside cs = let rest = drop 1 cs in take (length rest - 1) rest

-- The characters that are read off a text one by one, at most a given number: `next c cs` is the one that c spells with what follows it, and the rest.
abbrev pub spelled_within : ℕ → (ℕ → List ℕ → ℕ × List ℕ) → List ℕ → List ℕ
spelled_within zero next cs = []
spelled_within (suc n) next [] = []
spelled_within (suc n) next (c ∷ cs) = (next c cs).0 ∷ spelled_within n next (next c cs).1

-- all of them, which are no more than the characters of the text
abbrev pub spelled : (ℕ → List ℕ → ℕ × List ℕ) → List ℕ → List ℕ
spelled next cs = spelled_within (length cs) next cs

-- ---- escapes

-- characters for which it doesn't matter where they stand, and their values again
abbrev pub unplaced : List ℕ → Chars
unplaced cs = map (λ c. record { value = c; span = between 0 0 }) cs

abbrev pub values : Chars → List ℕ
values cs = map (λ (c : SourceChar). c.value) cs

-- what the characters behind a backslash spell, and the rest; a backslash that begins no escape is itself
abbrev pub escaped : List ℕ → ℕ × List ℕ
escaped cs = unwrap_or (option_map (λ (r : ℕ × Chars). (r.0, values r.1)) (escape (unplaced cs))) (92, cs)

abbrev pub next_in_text : ℕ → List ℕ → ℕ × List ℕ
next_in_text c cs = if c == 92 then escaped cs else (c, cs)

-- the characters of a text of code, with its escapes read
unfoldable pub text_of : List ℕ → List ℕ
text_of text = spelled next_in_text (inside (decoded text))

-- ---- references

-- what stands behind the `&`, and the character that it names
abbrev pub references : List (List ℕ × ℕ)
references = (codes "amp;", 38) ∷ (codes "lt;", 60) ∷ (codes "gt;", 62) ∷ (codes "quot;", 34) ∷ []

-- what follows this front, where there is one
abbrev pub behind : List ℕ → List ℕ → Option (List ℕ)
behind [] cs = Some cs
behind (x ∷ xs) [] = None
behind (x ∷ xs) (c ∷ cs) = if x == c then behind xs cs else None

-- the character of the first row that stands there, and the rest
abbrev pub named : List (List ℕ × ℕ) → List ℕ → Option (ℕ × List ℕ)
named [] cs = None
named (row ∷ rows) cs = option_or (option_map (λ rest. (row.1, rest)) (behind row.0 cs)) (named rows cs)

-- an `&` that begins no reference is itself
abbrev pub referred : List ℕ → ℕ × List ℕ
referred cs = unwrap_or (named references cs) (38, cs)

abbrev pub next_in_value : ℕ → List ℕ → ℕ × List ℕ
next_in_value c cs = if c == 38 then referred cs else (c, cs)

-- the characters of the quoted value of an attribute, with its references read
unfoldable pub quoted_of : List ℕ → List ℕ
quoted_of text = spelled next_in_value (inside (decoded text))

-- the same of a text between tags, which has no quotes
unfoldable pub child_text_of : List ℕ → List ℕ
child_text_of text = spelled next_in_value (decoded text)
