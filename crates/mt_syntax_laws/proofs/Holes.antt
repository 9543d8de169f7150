-- The holes of a body: its dollars, and the values that stand where dollars did.
use Rattle.std.specs.Prelude.{ℕ, List, [], ◌∷◌, map, Option, None, Some, option_to_list, slice_get, Bool, true, false}
use Rattle.mt_tree.specs.declared.data.Data.{Data}
use Rattle.mt_syntax.specs.Data.{is_data}
use Rattle.mt_syntax.specs.Fold.{Every, ExprKindLayer, Steps, on_stmt}
use Rattle.mt_syntax.specs.Numbering.{in_order, listing}
use Rattle.mt_syntax.specs.declared.tree.Stmt.{Stmt}
use Rattle.mt_syntax.specs.declared.tree.ExprKind.TheOpen.{ExprKind-F}

pub data Hole : Type 0 where
  open_hole : ℕ → Hole
  filled_hole : Data → Hole

abbrev pub holes_of_kind : ExprKindLayer (Every (List Hole)) → List Hole
holes_of_kind (ExprKind-F.ExprKind::Dollar at) = Hole.open_hole at ∷ []
holes_of_kind (ExprKind-F.Val d) = Hole.filled_hole d ∷ []
holes_of_kind layer = (listing Hole).expr_kind layer

abbrev pub listing_holes : Steps (Every (List Hole))
listing_holes = record (listing Hole) { expr_kind = holes_of_kind }

-- in text order
abbrev pub holes_of : List Stmt → List Hole
holes_of body = in_order (map (on_stmt listing_holes) body)

abbrev pub is_open : Hole → Bool
is_open (Hole.open_hole at) = true
is_open (Hole.filled_hole d) = false

abbrev pub number_in : Hole → List ℕ
number_in (Hole.open_hole at) = at ∷ []
number_in (Hole.filled_hole d) = []

abbrev pub is_optional_data : Option Data → Bool
is_optional_data None = false
is_optional_data (Some d) = is_data d

-- what stands in the hole once it is filled
module _ (values : List Data) where
  abbrev pub value_in : Hole → List Data
  value_in (Hole.open_hole at) = option_to_list (slice_get values at)
  value_in (Hole.filled_hole d) = d ∷ []

  abbrev pub is_data_in : Hole → Bool
  is_data_in (Hole.open_hole at) = is_optional_data (slice_get values at)
  is_data_in (Hole.filled_hole d) = is_data d
