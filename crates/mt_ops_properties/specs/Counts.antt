-- How many items or properties a cell may hold.
use Rattle.std.specs.Prelude.{◌<◌, ◌^◌, length}
use Rattle.mt_value.specs.declared.cell.Cell.{Cell}
use Rattle.mt_value.specs.declared.cell.Cell.TheVariants as cell

-- an array and an object hold at most 2^53 - 1
abbrev pub HoldsFew : Cell → Type 0
HoldsFew (cell.Arr items) = length items < 2 ^ 53
HoldsFew (cell.Obj properties) = length properties < 2 ^ 53
HoldsFew _ = Unit {0}
