-- What may end a command, and a run.
use Rattle.std.specs.Prelude.{◌≡◌, ◌≤◌, ℕ, Result, Err}
use Rattle.mt_outside.specs.Cause.{Rose}
use Rattle.mt_session.specs.declared.exchange.StepFault.{StepFault}
use Rattle.mt_session.specs.declared.exchange.StepFault.TheVariants as step_fault
use Rattle.mt_session.specs.declared.play.PlayFault.{PlayFault}
use Rattle.mt_session.specs.declared.play.PlayFault.TheVariants as play_fault

-- the wire's count never falls, and a fault of the wire comes only where it rose
pub record StepCause {T : Type 0} (before now : ℕ) (result : Result T StepFault) : Type 0 where
  pub later : before ≤ now
  pub failed : result ≡ Err step_fault.WireFault → Rose before now

-- the same of the wire and of the sink
pub record PlayCause {T : Type 0} (wire_before wire_now sink_before sink_now : ℕ) (result : Result T PlayFault) : Type 0 where
  pub wire_later : wire_before ≤ wire_now
  pub sink_later : sink_before ≤ sink_now
  pub wire : result ≡ Err play_fault.WireFault → Rose wire_before wire_now
  pub sink : result ≡ Err play_fault.SinkFault → Rose sink_before sink_now
