-- The words of a command, as the program is given them.
use Rattle.std.specs.Prelude.{◌≡◌, ℕ, true, List, [], ◌∷◌, codes}
use Rattle.mt_top.specs.declared.words.Command.{Command}
use Rattle.mt_top.specs.declared.words.Command.TheVariants.{Check, Start, Replay}
use Rattle.mt_top.specs.FileName.{is_file_name}

-- what words may ask for, with the names of the files
pub data Asked : Type 0 where
  check : List ℕ → Asked
  start : List ℕ → Asked
  replay : List ℕ → List ℕ → Asked

abbrev pub Asks : List (List ℕ) → Asked → Type 0
Asks words (check application) = (words ≡ codes "check" ∷ application ∷ []) × (is_file_name application ≡ true)
Asks words (start application) = (words ≡ codes "start" ∷ application ∷ []) × (is_file_name application ≡ true)
Asks words (replay application schedule) =
    (words ≡ codes "replay" ∷ application ∷ schedule ∷ []) × (is_file_name application ≡ true) × (is_file_name schedule ≡ true)

abbrev pub AsksNothing : List (List ℕ) → Type 0
AsksNothing words = (asked : Asked) → Asks words asked → ⊥

abbrev pub AsksForNoReplay : List (List ℕ) → Type 0
AsksForNoReplay words = (application schedule : List ℕ) → Asks words (replay application schedule) → ⊥

-- what a command asks for
abbrev pub asked_by : Command → Asked
asked_by (Check application) = check application.now
asked_by (Start application) = start application.now
asked_by (Replay application schedule) = replay application.now schedule.now
