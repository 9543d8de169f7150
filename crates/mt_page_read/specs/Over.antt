-- Readers that no byte more leads to a page.
use Rattle.std.specs.Prelude.{◌≡◌, ℕ, List, []}
use Rattle.mt_page_read.specs.declared.tree.Frame.{Frame}
use Rattle.mt_page_read.specs.declared.tree.Stage.{Stage}
use Rattle.mt_page_read.specs.declared.tree.Stage.TheVariants as stage
use Rattle.mt_page_read.specs.declared.machine.Machine.{Machine}

-- the bytes are refused, or stand behind the root
abbrev pub Over : Stage → List Frame → List ℕ → Type 0
Over stage.Refused fs held = fs ≡ []
Over (stage.Done page) fs held = (fs ≡ []) × (held ≡ [] → ⊥)
Over _ fs held = ⊥

abbrev pub IsOver : Machine → Type 0
IsOver r = Over r.tree.stage r.tree.frames r.held
