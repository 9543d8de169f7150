-- Which programs are accepted, and where others are refused.
use Rattle.std.specs.Prelude.{◌≡◌, ◌++◌, List, [], Some, Contains, ⊤}
use Rattle.mt_tree.specs.declared.place.Place.{Place}
use Rattle.mt_syntax.specs.First.{first_of}
use Rattle.mt_syntax.specs.declared.broken.Broken.{Broken}
use Rattle.mt_syntax.specs.declared.rule.Rule.{Rule}
use Rattle.mt_syntax.specs.ProgramLimits.{IsWithinLimits}
use Rattle.mt_syntax.specs.declared.program.Program.{Program}
use Rattle.mt_stage_placement.specs.Placement.{misplaced}
use Rattle.mt_stage_declared.specs.Twice.{declared_twice}
use Rattle.mt_stage_scopes.specs.Misused.{misused_names}
use Rattle.mt_stage.specs.declared.refusal.StageRefusal.{StageRefusal}
use Rattle.mt_stage.specs.declared.refusal.StageRefusal.TheVariants as refusal

-- all places at which a program breaks a rule, each with the rule
abbrev pub broken_places : Program → List Broken
broken_places p = misplaced p ++ (declared_twice p ++ misused_names p)

-- the program breaks the rule at the place
abbrev pub Breaks : Program → Rule → Place → Type 0
Breaks p r place = Contains (broken_places p) (record { place = place; rule = r })

pub record IsAccepted (p : Program) : Type 0 where
  pub within : IsWithinLimits p
  pub unbroken : broken_places p ≡ []

-- a refusal names the first broken place
abbrev pub Refuses : StageRefusal → Program → Type 0
Refuses (refusal.Broken r place) p = first_of (broken_places p) ≡ Some (record { place = place; rule = r })
Refuses refusal.NoMemory p = ⊤
