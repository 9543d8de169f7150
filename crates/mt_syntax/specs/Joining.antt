-- What is made of the places that are broken in the parts of a program: the list of all of them, or the first of them alone. A
-- definition that says which places are broken can be given for both at once.
use Rattle.std.specs.Prelude.{List, [], ◌∷◌, ◌++◌, Option, None, Some}
use Rattle.mt_syntax.specs.declared.broken.Broken.{Broken}
use Rattle.mt_syntax.specs.First.{earlier_of}

pub record Joining (X : Type 0) : Type 0 where
  -- where nothing is broken
  pub none : X
  pub join : X → X → X
  -- where one place is broken
  pub one : Broken → X

abbrev pub all : Joining (List Broken)
all = record { none = []; join = λ xs ys. xs ++ ys; one = λ b. b ∷ [] }

abbrev pub first : Joining (Option Broken)
first = record { none = None; join = earlier_of; one = Some }
