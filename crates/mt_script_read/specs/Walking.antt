-- A walk over a tree in text order, which gathers the values and stops where the tree is too deep.
use Rattle.std.specs.Prelude.{ℕ, ◌-◌, ◌==◌, if◌then◌else◌, List, [], ◌∷◌, ◌++◌, Option, Some, None}
use Rattle.mt_tree.specs.declared.data.Data.{Data}
use Rattle.mt_syntax.specs.Fold.{Every, ExprKindLayer, Steps}
use Rattle.mt_syntax.specs.Gathering.{all_of, gathering}
use Rattle.mt_syntax.specs.declared.tree.ExprKind.TheOpen.{ExprKind-F}
use Rattle.mt_json.specs.Reading.{◌>>=◌}

-- With the levels that are left, and the values that were met before: these and those of the part, unless it is too deep.
abbrev pub Walk : Type 0
Walk = ℕ → List Data → Option (List Data)

abbrev pub nothing_met : Walk
nothing_met levels met = Some met

abbrev pub then_walk : Walk → Walk → Walk
then_walk f g levels met = f levels met >>= g levels

-- one level down
abbrev pub below : Walk → Walk
below f levels met = if levels == 0 then None else f (levels - 1) met

abbrev pub walk_kind : ExprKindLayer (Every Walk) → Walk
walk_kind (ExprKind-F.Val d) = λ levels met. Some (met ++ d ∷ [])
walk_kind layer = (gathering nothing_met then_walk).expr_kind layer

abbrev pub walking : Steps (Every Walk)
walking = record (gathering nothing_met then_walk) { expr_kind = walk_kind; expr = λ e. below e.kind; stmt = λ s. below s.kind }

abbrev pub all_walks : List Walk → Walk
all_walks = all_of nothing_met then_walk
