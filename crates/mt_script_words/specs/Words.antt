-- Words and names, as a lenient reader finds them.
use Rattle.std.specs.Prelude.{ℕ, suc, ◌==◌, ◌||◌, nat_le, if◌then◌else◌, List, [], ◌∷◌, take, drop, Bool, false, Option, Some, None}
use Rattle.std.specs.Char.{is_ascii_alphanumeric}
use Rattle.std.specs.Str.{chars, is_utf8}
use Rattle.mt_tree.specs.Text.{units_of}
use Rattle.mt_syntax.specs.Names.{is_name, starts_name}
use Rattle.mt_syntax.specs.Substitution.{nowhere}
use Rattle.mt_syntax.specs.declared.tree.Mark.{Mark}
use Rattle.mt_json.specs.Reading.{◌>>=◌, Parse}
use Rattle.mt_tree.specs.Limits.{text_limit}

-- a letter, a digit, `_` or a byte of a character beyond ASCII
abbrev pub is_word_byte : ℕ → Bool
is_word_byte b = (nat_le 128 b || is_ascii_alphanumeric b) || (b == 95)

-- the bytes of the longest word at the front
unfoldable pub word_length : List ℕ → ℕ
word_length [] = 0
word_length (b ∷ bytes) = if is_word_byte b then suc (word_length bytes) else 0

abbrev pub word_of : List ℕ → List ℕ
word_of bytes = take (word_length bytes) bytes

abbrev pub after_word : List ℕ → List ℕ
after_word bytes = drop (word_length bytes) bytes

-- whether a text is not too long for code
abbrev pub is_short : List ℕ → Bool
is_short cs = nat_le (units_of cs) text_limit

abbrev pub short : List ℕ → Option (List ℕ)
short cs = if is_short cs then Some cs else None

abbrev pub begins_name : List ℕ → Bool
begins_name [] = false
begins_name (c ∷ cs) = starts_name c

-- the text that bytes are
abbrev pub text_in : List ℕ → Option (List ℕ)
text_in bytes = if is_utf8 bytes then short (chars bytes) else None

-- the name that a word is
unfoldable pub name_of : List ℕ → Option (List ℕ)
name_of word = text_in word >>= λ t. (if is_name t then Some t else None)

abbrev pub unplaced_mark : List ℕ → Mark
unplaced_mark name = record { place = nowhere; name = name }

-- a name, and what follows it
abbrev pub mark_at : Parse Mark
mark_at bytes = name_of (word_of bytes) >>= λ n. Some (unplaced_mark n, after_word bytes)
