-- How a schedule is written: a text of lines, most of them commands.
use Rattle.std.specs.Prelude.{◌≡◌, ◌⊎◌, ◌≤◌, ◌<◌, ◌+◌, ◌-◌, ◌++◌, ◌==◌, ℕ, Bool, false, List, [], ◌∷◌, length, take, drop, slice_get, codes, All, if◌then◌else◌, Some}
use Rattle.std.specs.Str.{bytes_eq}
use Rattle.mt_lines.specs.Lines.{lines_of, contents}
use Rattle.mt_schedule.specs.declared.command.Command.{Command}
use Rattle.mt_schedule.specs.Command.{SpellsCommand, IsSkipped, IsGoodLine}

-- the lines of a text, as they are read
abbrev pub lines : List ℕ → List (List ℕ)
lines text = contents (lines_of text)

-- the first line of a schedule of version 2
abbrev pub heading : List ℕ
heading = codes "schedule 2"

abbrev pub begins_with_heading : List (List ℕ) → Bool
begins_with_heading [] = false
begins_with_heading (line ∷ more) = bytes_eq line heading

-- a schedule has version 2 exactly where its first line is that heading
abbrev pub version_of : List ℕ → ℕ
version_of text = if begins_with_heading (lines text) then 2 else 1

-- how many lines the heading takes
abbrev pub heading_lines : List ℕ → ℕ
heading_lines text = if begins_with_heading (lines text) then 1 else 0

-- the lines behind the heading
abbrev pub body : List ℕ → List (List ℕ)
body text = drop (heading_lines text) (lines text)

-- how many lines a schedule may have, its heading counted
abbrev pub line_limit : ℕ → ℕ
line_limit version = if version == 2 then 100000 else 20000

-- the commands of these lines, in their order
abbrev pub SpellsCommands : ℕ → List (List ℕ) → List Command → Type 0
SpellsCommands version [] commands = commands ≡ []
SpellsCommands version (line ∷ more) commands =
    (IsSkipped line × SpellsCommands version more commands)
    ⊎ ((command : Command) × (rest : List Command) × (commands ≡ command ∷ rest) × SpellsCommand version line command × SpellsCommands version more rest)

-- the text is a schedule of these commands
abbrev pub SpellsSchedule : List ℕ → List Command → Type 0
SpellsSchedule text commands =
    (length (lines text) ≤ line_limit (version_of text)) × SpellsCommands (version_of text) (body text) commands

-- the lines before this one are good, and it is there; lines are counted from 1, and the heading is no bad line
pub record AreGoodBefore (text : List ℕ) (number : ℕ) : Type 0 where
  pub behind : heading_lines text < number
  pub there : number ≤ length (lines text)
  pub good : All (IsGoodLine (version_of text)) (take (number - 1 - heading_lines text) (body text))

-- the first line that is none of a schedule's
pub record IsFirstBad (text : List ℕ) (number : ℕ) : Type 0 where
  pub before : AreGoodBefore text number
  pub within : number ≤ line_limit (version_of text)
  pub bad : (line : List ℕ) → slice_get (body text) (number - 1 - heading_lines text) ≡ Some line → IsGoodLine (version_of text) line → ⊥

-- the line that is one too many, where all lines before it are good
pub record HasTooMany (text : List ℕ) (number : ℕ) : Type 0 where
  pub before : AreGoodBefore text number
  pub first : number ≡ line_limit (version_of text) + 1

-- the first line of a text and what follows it are read: a command goes last, and a line that is skipped changes nothing
abbrev pub IsTaken : ℕ → List ℕ → List Command → List Command → Type 0
IsTaken version line old new =
    (IsSkipped line × (new ≡ old)) ⊎ ((command : Command) × SpellsCommand version line command × (new ≡ old ++ command ∷ []))
