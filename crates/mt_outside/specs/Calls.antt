-- How a form in memory counts its calls.
use Rattle.std.specs.Prelude.{◌+◌, ◌-◌, ◌^◌, ℕ, List, min, Contains}

-- one more, by a count that stops at its last value
abbrev pub next_count : ℕ → ℕ
next_count n = min (n + 1) (2 ^ 64 - 1)

-- how many calls were made, and the numbers, from 1, of those that are to fail
pub record Plan : Type 0 where
  pub made : ℕ
  pub failing : List ℕ

-- no call was made yet
abbrev pub fresh_plan : List ℕ → Plan
fresh_plan failing = record { made = 0; failing = failing }

-- one more call was made
abbrev pub next_plan : Plan → Plan
next_plan p = record { made = next_count p.made; failing = p.failing }

-- the next call is to fail
abbrev pub FailsNext : Plan → Type 0
FailsNext p = Contains p.failing (next_count p.made)
