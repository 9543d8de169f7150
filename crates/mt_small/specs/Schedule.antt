-- How a schedule is written: a text of lines, most of them commands.
use Rattle.std.specs.Prelude.{◌≡◌, ◌⊎◌, ◌≤◌, ◌+◌, ◌-◌, ◌++◌, ◌==◌, ℕ, zero, suc, Bool, true, false, List, [], ◌∷◌, length, take, slice_get, codes, decimal, encode_utf8_all, All, if◌then◌else◌, Some}
use Rattle.std.specs.Str.{IsUtf8}
use Rattle.mt_small.specs.declared.command.SmallCommand.{SmallCommand}
use Rattle.mt_small.specs.declared.command.SmallCommand.TheVariants.{Load, Serve, Deliver}
use Rattle.mt_small.specs.Name.{is_target}
use Rattle.mt_tree.specs.Limits.{line_limit}

-- a line, and whether a line feed ends it
pub record Line : Type 0 where
  pub bytes : List ℕ
  pub ended : Bool

-- a byte that is no line feed, at the front of the lines behind it
abbrev pub with_byte : ℕ → List Line → List Line
with_byte byte [] = record { bytes = byte ∷ []; ended = false } ∷ []
with_byte byte (line ∷ lines) = record { bytes = byte ∷ line.bytes; ended = line.ended } ∷ lines

-- the lines of a text; the last one may lack its line feed
abbrev pub lines_of : List ℕ → List Line
lines_of [] = []
lines_of (byte ∷ bytes) =
    if byte == 10 then record { bytes = []; ended = true } ∷ lines_of bytes else with_byte byte (lines_of bytes)

-- without a carriage return at the end
abbrev pub without_return : List ℕ → List ℕ
without_return [] = []
without_return (byte ∷ []) = if byte == 13 then [] else byte ∷ []
without_return (byte ∷ next ∷ bytes) = byte ∷ without_return (next ∷ bytes)

-- what is read of a line: a carriage return in front of its line feed is dropped
abbrev pub content : Line → List ℕ
content line = if line.ended then without_return line.bytes else line.bytes

abbrev pub contents : List Line → List (List ℕ)
contents [] = []
contents (line ∷ lines) = content line ∷ contents lines

-- one or more spaces
abbrev pub gap : ℕ → List ℕ
gap zero = 32 ∷ []
gap (suc more) = 32 ∷ gap more

abbrev pub IsClient : ℕ → Type 0
IsClient k = (1 ≤ k) × (k ≤ 64)

abbrev pub IsMessageNumber : ℕ → Type 0
IsMessageNumber m = (1 ≤ m) × (m ≤ 1000000)

-- a client's message, as its number, a dot and the message's number
abbrev pub message_name : ℕ → ℕ → List ℕ
message_name k m = decimal k ++ codes "." ++ decimal m

-- a line that spells a command: its words, parted by one or more spaces, with none before or after
abbrev pub SpellsCommand : List ℕ → SmallCommand → Type 0
SpellsCommand line (Load k target) = (a b : ℕ) × (line ≡ codes "load" ++ gap a ++ decimal k ++ gap b ++ encode_utf8_all target)
    × IsClient k × (is_target (encode_utf8_all target) ≡ true)
SpellsCommand line (Serve k m) = (a : ℕ) × (line ≡ codes "serve" ++ gap a ++ message_name k m) × IsClient k × IsMessageNumber m
SpellsCommand line (Deliver k m) = (a : ℕ) × (line ≡ codes "deliver" ++ gap a ++ message_name k m) × IsClient k × IsMessageNumber m

-- an empty line, or a comment in UTF-8
abbrev pub IsSkipped : List ℕ → Type 0
IsSkipped [] = Unit {0}
IsSkipped (byte ∷ bytes) = (byte ≡ 35) × IsUtf8 (byte ∷ bytes)

abbrev pub IsGoodLine : List ℕ → Type 0
IsGoodLine line = IsSkipped line ⊎ ((command : SmallCommand) × SpellsCommand line command)

-- the commands of these lines, in their order
abbrev pub SpellsCommands : List (List ℕ) → List SmallCommand → Type 0
SpellsCommands [] commands = commands ≡ []
SpellsCommands (line ∷ lines) commands =
    (IsSkipped line × SpellsCommands lines commands)
    ⊎ ((command : SmallCommand) × (rest : List SmallCommand) × (commands ≡ command ∷ rest) × SpellsCommand line command × SpellsCommands lines rest)

-- the text is a schedule of these commands
abbrev pub SpellsSchedule : List ℕ → List SmallCommand → Type 0
SpellsSchedule text commands = (length (lines_of text) ≤ line_limit) × SpellsCommands (contents (lines_of text)) commands

-- the first line that makes the text no schedule, counted from 1: it is no good line, or it is one too many
pub record IsFirstBad (text : List ℕ) (number : ℕ) : Type 0 where
  pub counted : 1 ≤ number
  pub there : number ≤ length (lines_of text)
  pub good : All IsGoodLine (take (number - 1) (contents (lines_of text)))
  pub bad : (line : List ℕ) → slice_get (contents (lines_of text)) (number - 1) ≡ Some line → number ≤ line_limit → IsGoodLine line → ⊥
  pub within : number ≤ line_limit + 1
