-- What a run is to end with, faults and want of memory aside, where the files tell their contents.
use Rattle.std.specs.Prelude.{◌⊎◌, ℕ, List, ⊤}
use Rattle.mt_top.specs.declared.status.Status.{Status}
use Rattle.mt_top.specs.declared.status.Status.TheVariants.{Done, Refused, Usage, BadSchedule, FileFault, SinkFault, WireFault, NoMemory, TooLong, StartFailed}
use Rattle.mt_top.specs.Words.{Asked, check, start, replay, Asks, AsksNothing}
use Rattle.mt_top.specs.Texts.{FilesSeen, Holds, HoldsMore, IsSmallText, IsNotSmallText, IsScheduleText, IsNotScheduleText}
use Rattle.mt_source.specs.Sources.{IsAcceptedText, IsNotAcceptedText}
use Rattle.mt_start.specs.Starts.{StartsAs, started, failed}
use Rattle.mt_top.specs.Meaning.{IsUnstartedText}

-- both files hold texts of which this is true
pub record BothHold (files : FilesSeen) (application_name schedule_name : List ℕ) (P : List ℕ → List ℕ → Type 0) : Type 0 where
  pub application : List ℕ
  pub schedule : List ℕ
  pub application_holds : Holds files application_name application
  pub schedule_holds : Holds files schedule_name schedule
  pub holds : P application schedule

-- one of two files holds too much, the first of which is read first
abbrev pub OneHoldsMore : FilesSeen → List ℕ → List ℕ → Type 0
OneHoldsMore files first second = HoldsMore files first ⊎ ((text : List ℕ) × Holds files first text × HoldsMore files second)

abbrev pub ExpectedOf : FilesSeen → Asked → Status → Type 0
ExpectedOf files (check a) TooLong = HoldsMore files a
ExpectedOf files (check a) Done = (text : List ℕ) × Holds files a text × IsAcceptedText text
ExpectedOf files (check a) Refused = (text : List ℕ) × Holds files a text × IsNotAcceptedText text
ExpectedOf files (check a) status = ⊥
ExpectedOf files (start a) TooLong = HoldsMore files a
ExpectedOf files (start a) Done = (text : List ℕ) × Holds files a text × ((log : List ℕ) × StartsAs text (started log))
ExpectedOf files (start a) StartFailed = (text : List ℕ) × Holds files a text × ((error : List ℕ) × StartsAs text (failed error))
ExpectedOf files (start a) Refused = (text : List ℕ) × Holds files a text × IsUnstartedText text
ExpectedOf files (start a) status = ⊥
ExpectedOf files (replay a s) TooLong = OneHoldsMore files a s
ExpectedOf files (replay a s) Refused = BothHold files a s (λ application schedule. IsNotSmallText application)
ExpectedOf files (replay a s) BadSchedule = BothHold files a s (λ application schedule. IsSmallText application × IsNotScheduleText schedule)
ExpectedOf files (replay a s) Done = BothHold files a s (λ application schedule. IsSmallText application × IsScheduleText schedule)
ExpectedOf files (replay a s) status = ⊥

abbrev pub Expected : FilesSeen → List (List ℕ) → Status → Type 0
Expected files words Usage = AsksNothing words
Expected files words status = (asked : Asked) × Asks words asked × ExpectedOf files asked status

-- a status that tells of a fault of the outside, or of want of memory
abbrev pub IsFault : Status → Type 0
IsFault FileFault = ⊤
IsFault SinkFault = ⊤
IsFault WireFault = ⊤
IsFault NoMemory = ⊤
IsFault status = ⊥
