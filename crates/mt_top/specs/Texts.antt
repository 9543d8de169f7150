-- The texts of applications and schedules, and the files that hold them.
use Rattle.std.specs.Prelude.{◌≡◌, ◌≤◌, ◌<◌, ℕ, List, length, Option, Some, IfSome}
use Rattle.std.specs.Str.{chars}
use Rattle.mt_small.specs.declared.application.Small.{Small}
use Rattle.mt_small.specs.declared.command.SmallCommand.{SmallCommand}
use Rattle.mt_small.specs.Application.{IsSmall, Spells}
use Rattle.mt_small.specs.Schedule.{SpellsSchedule}
use Rattle.mt_tree.specs.Limits.{source_limit}

-- the text is a small application
abbrev pub IsSmallText : List ℕ → Type 0
IsSmallText text = (small : Small) × IsSmall small × Spells text small

abbrev pub IsNotSmallText : List ℕ → Type 0
IsNotSmallText text = (small : Small) → IsSmall small → Spells text small → ⊥

abbrev pub IsScheduleText : List ℕ → Type 0
IsScheduleText text = (commands : List SmallCommand) × SpellsSchedule text commands

abbrev pub IsNotScheduleText : List ℕ → Type 0
IsNotScheduleText text = (commands : List SmallCommand) → SpellsSchedule text commands → ⊥

-- the files of a run: what each name holds, and the counts of faults before and after
pub record FilesSeen : Type 0 where
  pub contents : List ℕ → Option (List ℕ)
  pub faults : List ℕ → ℕ
  pub faults_after : List ℕ → ℕ

-- the file of a name was read whole: these are its bytes, where it tells them
abbrev pub IsRead : FilesSeen → List ℕ → List ℕ → Type 0
IsRead files name bytes = IfSome (files.contents (chars name)) (λ told. bytes ≡ told) × (length bytes ≤ source_limit)

-- it has more bytes than a file may have, where it tells them
abbrev pub IsTooLong : FilesSeen → List ℕ → Type 0
IsTooLong files name = IfSome (files.contents (chars name)) (λ told. source_limit < length told)

-- it tells that it holds this text, which is no longer than a file may be
abbrev pub Holds : FilesSeen → List ℕ → List ℕ → Type 0
Holds files name text = (files.contents (chars name) ≡ Some text) × (length text ≤ source_limit)

-- it tells that it holds more
abbrev pub HoldsMore : FilesSeen → List ℕ → Type 0
HoldsMore files name = (text : List ℕ) × (files.contents (chars name) ≡ Some text) × (source_limit < length text)
