-- What a read of a file gives.
use Rattle.std.specs.Prelude.{◌≡◌, ◌<◌, ◌≤◌, ◌&&◌, ◌||◌, ℕ, Bool, List, length, take, drop, Option, Result, Err, IfOk, IfSome}
use Rattle.std.specs.Option.{is_none}
use Rattle.std.specs.Str.{bytes_eq}
use Rattle.mt_outside.specs.Cause.{Rose}
use Rattle.mt_outside.specs.declared.reading.ReadFault.{ReadFault}
use Rattle.mt_outside.specs.declared.reading.ReadFault.TheVariants as read_fault

-- n bytes at the front of into are those of the content from a place on: some, where there are any and there is room
pub record ReadsPart (content : List ℕ) (at n : ℕ) (into : List ℕ) : Type 0 where
  pub bytes : take n into ≡ take n (drop at content)
  pub within : n ≤ length (drop at content)
  pub some : 0 < length into → 0 < length (drop at content) → 0 < n

-- where the content is told
abbrev pub ReadsFrom : {E : Type 0} → Option (List ℕ) → ℕ → Result ℕ E → List ℕ → Type 0
ReadsFrom content at result into = IfOk result (λ n. IfSome content (λ told. ReadsPart told at n into))

-- what may end the reading of a whole file
pub record ReadCause {T : Type 0} (before now : ℕ) (result : Result T ReadFault) : Type 0 where
  pub later : before ≤ now
  pub failed : result ≡ Err read_fault.Failed → Rose before now

-- two names have one count in a form in memory: they are the same, or both are missing
abbrev pub shares_count : (List ℕ → Option (List ℕ)) → List ℕ → List ℕ → Bool
shares_count contents a b = bytes_eq a b || (is_none (contents a) && is_none (contents b))
