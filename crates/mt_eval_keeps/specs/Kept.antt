-- What a whole job keeps, over a host with tests of what is its own.
use Rattle.std.specs.Prelude.{ℕ, ◌<◌, ◌≤◌, ◌^◌, Bool, List, IsTrue}
use Rattle.mt_eval_keeps.specs.Code.{CodeFits, BodyFits}
use Rattle.mt_eval_keeps.specs.Growth.{Owning, Thing, Fits, Good, Grew}
use Rattle.mt_eval_keeps.specs.Growth as thing
use Rattle.mt_eval_keeps.specs.Hosts.{KeepsAll}
use Rattle.mt_eval_meaning.specs.Host.{Meaning}
use Rattle.mt_eval_meaning.specs.Runs.{Ran, gives, leaves}
use Rattle.mt_eval_meaning.specs.declared.exit.Exit.{Exit}
use Rattle.mt_eval_meaning.specs.declared.exit.Exit.TheVariants as exit
use Rattle.mt_eval_meaning.specs.declared.state.State.{State}
use Rattle.mt_eval_meaning.specs.declared.function.Function.{Function}
use Rattle.mt_eval_meaning.specs.declared.function.Unit.{Unit as Unit'}
use Rattle.mt_value.specs.declared.value.Value.{Value}

pub record Tests (H : Type 0) : Type 0 where
  -- what is the host's own; of the host itself, whether it is sound
  pub own : H → Thing → Bool
  -- the addresses that it keeps, of functions
  pub addresses : H → List ℕ
  -- the elements that code may make: a tag, the names of attributes, and how many children
  pub element : List ℕ → List (List ℕ) → ℕ → Bool
  -- the tildes of the code, each with the number of its dollars
  pub tilde : ℕ → ℕ → Bool
  -- the numbers that functions of the code have
  pub function : ℕ → Bool

module _ {H : Type 0} (tests : Tests H) where
  abbrev pub has : H → Thing → Type 0
  has h thing.itself = IsTrue (tests.own h thing.itself) × ((id n : ℕ) → IsTrue (tests.tilde id n) → IsTrue (tests.own h (thing.tilde id n)))
  has h x = IsTrue (tests.own h x)

  abbrev pub owns : Owning H
  owns = record { has = has; addresses = tests.addresses; function = λ n. IsTrue (tests.function n) }

  abbrev pub allowed : List ℕ → List (List ℕ) → ℕ → Type 0
  allowed tag names children = IsTrue (tests.element tag names children)

  abbrev pub tildes : ℕ → ℕ → Type 0
  tildes id n = IsTrue (tests.tilde id n)

  -- functions that may run over the host; no array and no object passes `most` items or properties
  pub record Fit (most : ℕ) (host : Meaning H) (functions : List Function) : Type 0 where
    pub small : most < 2 ^ 53
    pub keeps : KeepsAll owns most allowed host
    pub code : CodeFits allowed tildes owns.function functions

  abbrev pub UnitFits : Unit' → Type 0
  UnitFits u = BodyFits allowed tildes owns.function u.body

  abbrev pub IsFit : State × H → Value → Type 0
  IsFit = Fits owns

  abbrev pub ExitFits : Exit → State × H → Type 0
  ExitFits (exit.Throw v) t = IsFit t v
  ExitFits _ t = Unit {0}

  module _ (most : ℕ) where
    -- lawful, with room for the steps that are left
    abbrev pub IsLawful : State × H → Type 0
    IsLawful s = Good owns most s.0.budget s

    -- the second is lawful too and grew of the first
    pub record Kept (s t : State × H) : Type 0 where
      pub lawful : IsLawful t
      pub grew : Grew owns s t
      pub budget : t.0.budget ≤ s.0.budget

    abbrev pub RunKept : State × H → Ran (State × H) Value → Type 0
    RunKept s (gives v t) = Kept s t × IsFit t v
    RunKept s (leaves e t) = Kept s t × ExitFits e t
