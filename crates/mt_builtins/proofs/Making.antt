-- Steps that are taken before the work.
use Rattle.std.proofs.Common.{◌≡◌, ℕ, ◌-◌, nat_le, Bool, true, false, List, refl, sym, ap, ◌∙◌, subst}
use Rattle.std.specs.Prelude.{Result, Ok, Err, IfOk, if◌then◌else◌}
use Rattle.mt_builtins.specs.Making.{ended, ended_for}
use Rattle.mt_builtins.specs.declared.made.Made.{Made}
use Rattle.mt_eval_meaning.specs.declared.exit.Done.{Done}
use Rattle.mt_ops.specs.declared.error.ErrorKind.{ErrorKind}
use Rattle.mt_tree.specs.declared.fault.NoMemory.{NoMemory}
use Rattle.mt_value.specs.declared.cell.Cell.{Cell}

pub paid : (result : Result Done NoMemory) (r : Result Made ErrorKind) (old new : List Cell) (steps budget left : ℕ)
    → nat_le steps budget ≡ true → left ≡ (if nat_le steps budget then budget - steps else budget)
    → IfOk result (λ done. (done, new) ≡ ended r old) → IfOk result (λ done. (done, new, left) ≡ ended_for steps r old budget)
paid (Ok done) r old new steps budget left enough is e =
    let rest : left ≡ budget - steps = rw enough at is in
    rw (enough, rest) (ap (λ p. (p.0, p.1, budget - steps)) e)
paid (Err f) r old new steps budget left enough is e = tt
