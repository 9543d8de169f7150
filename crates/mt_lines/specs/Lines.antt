-- The lines of a text.
use Rattle.std.specs.Prelude.{◌≡◌, ◌<◌, ◌==◌, ℕ, Bool, true, false, List, [], ◌∷◌, length, if◌then◌else◌}

-- a line, and whether a line feed ends it
pub record Line : Type 0 where
  pub bytes : List ℕ
  pub ended : Bool

-- a byte that is no line feed, at the front of the lines behind it
abbrev pub with_byte : ℕ → List Line → List Line
with_byte byte [] = record { bytes = byte ∷ []; ended = false } ∷ []
with_byte byte (line ∷ lines) = record { bytes = byte ∷ line.bytes; ended = line.ended } ∷ lines

-- the lines of a text; the last one may lack its line feed
abbrev pub lines_of : List ℕ → List Line
lines_of [] = []
lines_of (byte ∷ bytes) =
    if byte == 10 then record { bytes = []; ended = true } ∷ lines_of bytes else with_byte byte (lines_of bytes)

-- without a carriage return at the end
abbrev pub without_return : List ℕ → List ℕ
without_return [] = []
without_return (byte ∷ []) = if byte == 13 then [] else byte ∷ []
without_return (byte ∷ next ∷ bytes) = byte ∷ without_return (next ∷ bytes)

-- what is read of a line: a carriage return in front of its line feed is dropped
abbrev pub content : Line → List ℕ
content line = if line.ended then without_return line.bytes else line.bytes

abbrev pub contents : List Line → List (List ℕ)
contents [] = []
contents (line ∷ lines) = content line ∷ contents lines

-- the first line of a text, as it is read, and what follows it
pub record IsFirstLine (text line after : List ℕ) : Type 0 where
  pub lines : contents (lines_of text) ≡ line ∷ contents (lines_of after)
  pub shorter : length after < length text
