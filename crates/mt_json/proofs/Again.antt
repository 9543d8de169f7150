-- What a text begins with.
use Rattle.std.proofs.Common.{◌≡◌, ℕ, List, ◌∷◌}

-- a byte and what comes behind it
pub record Begins (bytes : List ℕ) (P : ℕ → Type 0) : Type 0 where
  pub head : ℕ
  pub tail : List ℕ
  pub whole : bytes ≡ head ∷ tail
  pub is : P head
