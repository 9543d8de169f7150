-- The levels of the trees that are still to come, those of the next tree first.
use Rattle.std.specs.Prelude.{ℕ, ◌≡◌, List, [], ◌∷◌, ◌++◌, Option, None, Some, replicate, reverse}
use Rattle.mt_parser.specs.declared.levels.Run.{Run}

abbrev pub flattened : List Run → List ℕ
flattened [] = []
flattened (run ∷ runs) = run.level ∷ replicate run.more run.level ++ flattened runs

-- the last run comes next
unfoldable pub levels_of : List Run → List ℕ
levels_of runs = flattened (reverse runs)

-- the level of the next tree, which is the top one where none is given
abbrev pub first_level : ℕ → List ℕ → ℕ
first_level top [] = top
first_level top (l ∷ ls) = l

abbrev pub later_levels : List ℕ → List ℕ
later_levels [] = []
later_levels (l ∷ ls) = ls

-- the run was taken from the front of the levels, or there was none
abbrev pub IsPopped : Option Run → List ℕ → List ℕ → Type 0
IsPopped None before after = (before ≡ []) × (after ≡ [])
IsPopped (Some run) before after = before ≡ run.level ∷ replicate run.more run.level ++ after
