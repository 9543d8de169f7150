-- The machine over bytes, piece by piece.
use Rattle.std.proofs.Common.{◌≡◌, ℕ, List, [], ◌∷◌, ◌++◌, refl}
use Rattle.mt_page_read.specs.declared.machine.Machine.{Machine}
use Rattle.mt_page_read.specs.Machine.{step, run}

pub run-append : (xs ys : List ℕ) (r : Machine) → run (xs ++ ys) r ≡ run ys (run xs r)
run-append [] ys r = refl
run-append (x ∷ xs) ys r = run-append xs ys (step x r)
