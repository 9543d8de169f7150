-- How the lines of a schedule are read, one after another.
use Rattle.std.specs.Prelude.{◌≡◌, ◌⊎◌, ◌<◌, ◌++◌, ℕ, List, [], ◌∷◌, length}
use Rattle.mt_small.specs.declared.command.SmallCommand.{SmallCommand}
use Rattle.mt_small.specs.Schedule.{lines_of, contents, SpellsCommand, IsSkipped}

-- the first line of a text, as it is read, and what follows it
pub record IsFirstLine (text line after : List ℕ) : Type 0 where
  pub lines : contents (lines_of text) ≡ line ∷ contents (lines_of after)
  pub shorter : length after < length text

-- the commands before and after this line: a command goes last, and a line that is skipped changes nothing
abbrev pub IsTaken : List ℕ → List SmallCommand → List SmallCommand → Type 0
IsTaken line old new =
    (IsSkipped line × (new ≡ old)) ⊎ ((command : SmallCommand) × SpellsCommand line command × (new ≡ old ++ command ∷ []))
