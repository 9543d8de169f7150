-- Lists that differ in one place alone.
use Rattle.std.specs.Prelude.{◌≡◌, ℕ, suc, List, drop, take}
use Rattle.mt_tree.specs.declared.data.Data.{Data}

-- but for what stands in the place i, the lists are the same
pub record DifferAt (i : ℕ) (ds es : List Data) : Type 0 where
  pub before : take i ds ≡ take i es
  pub behind : drop (suc i) ds ≡ drop (suc i) es
