-- What is built on a lawful store, and what a call answers there.
use Rattle.std.specs.Prelude.{List}
use Rattle.mt_eval_meaning.specs.declared.exit.Done.{Done}
use Rattle.mt_eval_meaning.specs.declared.exit.Done.TheVariants as done
use Rattle.mt_value.specs.Lawful.{Keeps, Lawful, LawfulValue}
use Rattle.mt_value.specs.declared.cell.Cell.{Cell}

-- each cell is still there and of its kind, the store is lawful, and so is what was built, by its own measure
pub record Stays {A : Type 0} (L : List Cell → A → Type 0) (store : List Cell) (built : A × List Cell) : Type 0 where
  pub keeps : Keeps store built.1
  pub lawful : Lawful built.1
  pub value : L built.1 built.0

-- the value that is given or thrown, where there is one, is lawful
abbrev pub LawfulDone : List Cell → Done → Type 0
LawfulDone store (done.Value v) = LawfulValue store v
LawfulDone store (done.Throw v) = LawfulValue store v
LawfulDone store (done.Stop w) = Unit {0}
