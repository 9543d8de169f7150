-- What a whole job keeps, with what it leaves apart.
use Rattle.std.specs.Prelude.{ℕ, List}
use Rattle.mt_eval.specs.Jobs.{state}
use Rattle.mt_eval_keeps.specs.Kept.{Tests, IsFit, Kept}
use Rattle.mt_eval_meaning.specs.declared.exit.Done.{Done}
use Rattle.mt_eval_meaning.specs.declared.exit.Done.TheVariants as done
use Rattle.mt_eval_meaning.specs.declared.state.State.{State}
use Rattle.mt_value.specs.Globals.{Variables}
use Rattle.mt_value.specs.declared.cell.Cell.{Cell}
use Rattle.mt_value.specs.declared.value.Value.{Value}

module _ {H : Type 0} (tests : Tests H) where
  -- the value that is given or thrown is lawful
  abbrev pub DoneFits : Done → State × H → Type 0
  DoneFits (done.Value v) t = IsFit tests t v
  DoneFits (done.Throw v) t = IsFit tests t v
  DoneFits (done.Stop w) t = Unit {0}

  -- the state that is left is lawful and grew of the first, and the value that is given or thrown is lawful in it
  abbrev pub EndsKept : ℕ → State × H → Done → List Cell → Variables → H → ℕ → Type 0
  EndsKept most s ending store globals host left = Kept tests most s (state store globals left, host) × DoneFits ending (state store globals left, host)
