-- What a fault owes: the count of the object that was called has risen, or stands at the end of its type.
use Rattle.std.specs.Prelude.{◌≡◌, ◌≢◌, ◌≤◌, ℕ, Result, Err, OnOk, OnErr}
use Rattle.mt_outside.specs.Calls.{next_count}
use Rattle.mt_outside.specs.declared.fault.Failed.{Failed}
use Rattle.mt_outside.specs.declared.fault.SendFault.{SendFault}
use Rattle.mt_outside.specs.declared.fault.SendFault.TheVariants as send_fault

-- the count rose, or stands at its last value
abbrev pub Rose : ℕ → ℕ → Type 0
Rose before now = next_count before ≤ now

-- no count falls, and a failure comes only where it rose
pub record HasCause {T : Type 0} (before now : ℕ) (result : Result T Failed) : Type 0 where
  pub later : before ≤ now
  pub failed : OnErr result (Rose before now)

-- the same where a form in memory may also want room
pub record SendCause {T : Type 0} (before now : ℕ) (result : Result T SendFault) : Type 0 where
  pub later : before ≤ now
  pub failed : result ≡ Err send_fault.Failed → Rose before now

-- a form in memory: the count goes up by one exactly at a failure
pub record HasCount {T : Type 0} (before now : ℕ) (result : Result T Failed) : Type 0 where
  pub raised : OnErr result (now ≡ next_count before)
  pub otherwise : OnOk result (now ≡ before)

-- the same where a form in memory may also want room
pub record SendCount {T : Type 0} (before now : ℕ) (result : Result T SendFault) : Type 0 where
  pub raised : result ≡ Err send_fault.Failed → now ≡ next_count before
  pub otherwise : result ≢ Err send_fault.Failed → now ≡ before
