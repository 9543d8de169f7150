-- How deep, how many and how large data are, each told up to the largest number of 64 bits.
use Rattle.std.specs.Prelude.{◌≡◌, ℕ, min}
use Rattle.mt_json.specs.declared.extent.Extent.{Extent}

abbrev pub capped : ℕ → ℕ
capped n = min n 18446744073709551615

pub record HasExtent (e : Extent) (depth nodes bytes : ℕ) : Type 0 where
  pub depth-is : e.depth ≡ capped depth
  pub nodes-is : e.nodes ≡ capped nodes
  pub bytes-is : e.bytes ≡ capped bytes
