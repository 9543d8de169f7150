-- The first of the broken places of a program, and what it tells where there is none.
use Rattle.std.proofs.Common.{◌≡◌, List, ◌++◌, Option, None, sym, ap, ◌∙◌}
use Rattle.mt_syntax.specs.First.{earlier_of, first_of}
use Rattle.mt_syntax.specs.declared.broken.Broken.{Broken}
use Rattle.mt_syntax.proofs.Order.{first_of_lists, none}
use Rattle.mt_syntax.specs.declared.program.Program.{Program}
use Rattle.mt_stage.specs.Accepted.{IsAccepted, broken_places}
use Rattle.mt_syntax.specs.ProgramLimits.{IsWithinLimits}

pub first_of_three : (xs ys zs : List Broken) → first_of (xs ++ (ys ++ zs)) ≡ earlier_of (first_of xs) (earlier_of (first_of ys) (first_of zs))
first_of_three xs ys zs = first_of_lists xs (ys ++ zs) ∙ ap (earlier_of (first_of xs)) (first_of_lists ys zs)

pub accepted : (p : Program) (found : Option Broken) → IsWithinLimits p → found ≡ first_of (broken_places p) → found ≡ None → IsAccepted p
accepted p found within is no_place = record { within = within; unbroken = none (broken_places p) (sym is ∙ no_place) }
