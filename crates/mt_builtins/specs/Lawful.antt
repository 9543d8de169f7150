-- What a call leaves of a lawful store.
use Rattle.std.specs.Prelude.{List}
use Rattle.mt_eval_meaning.specs.declared.exit.Done.{Done}
use Rattle.mt_eval_meaning.specs.declared.exit.Done.TheVariants as done
use Rattle.mt_value.specs.Lawful.{Keeps, Lawful, LawfulValue}
use Rattle.mt_value.specs.declared.cell.Cell.{Cell}

-- the value that is given or thrown, where there is one, is lawful
abbrev pub LawfulDone : List Cell → Done → Type 0
LawfulDone store (done.Value v) = LawfulValue store v
LawfulDone store (done.Throw v) = LawfulValue store v
LawfulDone store (done.Stop w) = Unit {0}

-- the new store is lawful with that value, and all that was lawful in the old one is so in the new
pub record LeavesLawful (old new : List Cell) (done : Done) : Type 0 where
  pub store : Lawful new
  pub value : LawfulDone new done
  pub keeps : Keeps old new
