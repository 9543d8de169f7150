-- A cell that is taken out of a store and put back.
use Rattle.std.proofs.Common.{◌≡◌, ℕ, zero, suc, List, [], ◌∷◌, Some, refl, ap}
use Rattle.std.specs.Prelude.{slice_get, slice_set}
use Rattle.std.proofs.lemmas.List.{set-set}
use Rattle.mt_value.specs.declared.cell.Cell.{Cell}

pub put_twice : (store : List Cell) (at : ℕ) (a b : Cell) → slice_set (slice_set store at a) at b ≡ slice_set store at b
put_twice store at a b = set-set store at a b

pub put_same : (store : List Cell) (at : ℕ) (c : Cell) → slice_get store at ≡ Some c → slice_set store at c ≡ store
put_same [] at c is = refl
put_same (d ∷ store) zero c is = ap (λ x. x ∷ store) (cc)
put_same (d ∷ store) (suc at) c is = ap (λ xs. d ∷ xs) (put_same store at c is)
