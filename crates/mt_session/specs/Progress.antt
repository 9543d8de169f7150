-- How far the run of a schedule has come.
use Rattle.std.specs.Prelude.{◌≡◌, ◌++◌, ℕ, true, List, [], Option}
use Rattle.std.specs.Io.KnownBytes.{append_known}
use Rattle.mt_outside.specs.declared.wire.Slot.{Slot}
use Rattle.mt_outside.specs.Message.{Message, given_of, sends_of}
use Rattle.mt_small.specs.declared.application.Small.{Small}
use Rattle.mt_small.specs.declared.command.SmallCommand.{SmallCommand}
use Rattle.mt_session.specs.declared.party.Party.{Party}
use Rattle.mt_session.specs.Parties.{is_acted}
use Rattle.mt_session.specs.Sides.{lines_from, parties_from, sends_from}
use Rattle.mt_session.specs.WireFits.{WireFits, ActedAreTaken}

-- a table that has the bytes given of each message on which a side has acted
abbrev pub AgreesOnActed : List Party → List Message → (Slot → List ℕ) → Type 0
AgreesOnActed parties messages given = (slot : Slot) → is_acted parties slot ≡ true → given slot ≡ given_of slot messages

-- for each table that agrees so far, what was done with what the rest will do is what all commands do
pub record Progress (small : Small) (all rest : List SmallCommand) (parties : List Party) (held_before held_now : Option (List ℕ)) (messages : List Message) : Type 0 where
  pub written : List ℕ
  pub held : held_now ≡ append_known held_before written
  pub lines : (given : Slot → List ℕ) → AgreesOnActed parties messages given
      → written ++ lines_from small rest parties given ≡ lines_from small all [] given
  pub sends : (given : Slot → List ℕ) → AgreesOnActed parties messages given
      → sends_of messages ++ sends_from small rest parties given ≡ sends_from small all [] given
  pub parties_then : (given : Slot → List ℕ) → AgreesOnActed parties messages given
      → parties_from small rest parties given ≡ parties_from small all [] given
  pub fits : WireFits parties messages
  pub taken : ActedAreTaken parties messages
