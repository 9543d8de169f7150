-- How a run over bytes and a run of the machine correspond: the same clients, and each message sent stands as its bytes in the one
-- and as it was meant in the other.
use Rattle.std.specs.Prelude.{◌≡◌, ℕ, Bool, true, false, List, [], ◌∷◌, is_some, if◌then◌else◌, Some}
use Rattle.mt_outside.specs.declared.wire.Slot.{Slot}
use Rattle.mt_outside.specs.Message.{is_slot}
use Rattle.mt_small.specs.declared.application.Small.{Small}
use Rattle.mt_small.specs.declared.command.SmallCommand.{SmallCommand}
use Rattle.mt_small.specs.Readable.{IsReadable}
use Rattle.mt_small.specs.Wire.{Message, request, answer}
use Rattle.mt_session.specs.declared.party.Party.{Party}
use Rattle.mt_session.specs.Machine.{Machine, machine_step, message_at}
use Rattle.mt_session.specs.Parties.{is_sent}
use Rattle.mt_session.specs.Sides.{wired}

-- the machine after a list of commands
abbrev pub machine_after : Small → List SmallCommand → Machine → Machine
machine_after small [] machine = machine
machine_after small (command ∷ commands) machine = machine_after small commands (machine_step small command machine)

-- a reply, or else a request, that its reader takes for what it is
abbrev pub IsReadableAs : Bool → Message → Type 0
IsReadableAs false (request target) = IsReadable (request target)
IsReadableAs false (answer reply) = ⊥
IsReadableAs true (request target) = ⊥
IsReadableAs true (answer reply) = IsReadable (answer reply)

-- these clients and the bytes that were sent, to a state of the machine
pub record Corresponds (machine : Machine) (parties : List Party) (sends : List (Slot × List ℕ)) : Type 0 where
  pub clients : machine.parties ≡ parties
  pub bytes : wired machine.messages ≡ sends
  pub sent : (slot : Slot) → is_some (message_at slot machine.messages) ≡ is_sent parties slot
  pub readable : (slot : Slot) (message : Message) → message_at slot machine.messages ≡ Some message → IsReadableAs slot.reply message

-- the bytes sent of a slot, and none where it was not sent
abbrev pub bytes_at : Slot → List (Slot × List ℕ) → List ℕ
bytes_at slot [] = []
bytes_at slot (send ∷ sends) = if is_slot slot send.0 then send.1 else bytes_at slot sends
