-- What a call that changes a value leaves.
use Rattle.std.specs.Prelude.{◌≡◌, Result, Ok, Err}
use Rattle.mt_ops.specs.declared.error.ErrorKind.{ErrorKind}
use Rattle.mt_ops.specs.declared.outcome.Refusal.{Refusal}
use Rattle.mt_ops.specs.declared.outcome.Refusal.TheVariants as refusal

-- the value that is meant, or the old one at the error that is meant; nothing is said where memory ran out
abbrev pub Leaves : {A : Type 0} → Result A ErrorKind → Result (Unit {0}) Refusal → A → A → Type 0
Leaves meant (Ok done) old new = meant ≡ Ok new
Leaves meant (Err (refusal.Error e)) old new = (meant ≡ Err e) × (new ≡ old)
Leaves meant (Err refusal.NoMemory) old new = Unit {0}
