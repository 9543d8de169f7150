-- What an operation leaves of a lawful store.
use Rattle.std.specs.Prelude.{List, Result, Ok, Err}
use Rattle.mt_ops.specs.declared.error.ErrorKind.{ErrorKind}
use Rattle.mt_ops.specs.declared.outcome.Outcome.{Outcome}
use Rattle.mt_ops.specs.declared.outcome.Outcome.TheVariants as outcome
use Rattle.mt_value.specs.Lawful.{Keeps, Lawful, LawfulValue}
use Rattle.mt_value.specs.declared.cell.Cell.{Cell}
use Rattle.mt_value.specs.declared.value.Value.{Value}

-- the value that an operation gives or throws
abbrev pub value_of : Outcome → Value
value_of (outcome.Value v) = v
value_of (outcome.Throw v) = v

-- the new store is lawful with that value, and all that was lawful in the old one is so in the new
pub record StaysLawful (old new : List Cell) (outcome : Outcome) : Type 0 where
  pub store : Lawful new
  pub value : LawfulValue new (value_of outcome)
  pub keeps : Keeps old new

-- a value that an operation is to give is lawful
abbrev pub LawfulAnswer : List Cell → Result Value ErrorKind → Type 0
LawfulAnswer store (Ok v) = LawfulValue store v
LawfulAnswer store (Err e) = Unit {0}
