-- What a place of the store has.
use Rattle.std.specs.Prelude.{Bool, true, false, Option, Some}
use Rattle.mt_value.specs.declared.cell.Cell.{Cell}
use Rattle.mt_value.specs.declared.cell.Cell.TheVariants as cell

-- the cell is a variable that is declared
abbrev pub is_declared : Option Cell → Bool
is_declared (Some (cell.Variable (Some v))) = true
is_declared _ = false

abbrev pub is_variable : Option Cell → Bool
is_variable (Some (cell.Variable content)) = true
is_variable _ = false
