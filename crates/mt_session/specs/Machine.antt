-- The machine that all tiers run on: messages pass from one to another as they were meant, and nothing is written or read between.
use Rattle.std.specs.Prelude.{◌++◌, ℕ, List, [], ◌∷◌, length, encode_utf8_all, Option, None, Some, if◌then◌else◌}
use Rattle.mt_outside.specs.declared.wire.Slot.{Slot}
use Rattle.mt_outside.specs.Message.{is_slot}
use Rattle.mt_small.specs.declared.application.Small.{Small}
use Rattle.mt_small.specs.declared.command.SmallCommand.{SmallCommand}
use Rattle.mt_small.specs.declared.message.Asked.{Asked}
use Rattle.mt_small.specs.declared.message.Reply.{Reply}
use Rattle.mt_small.specs.Wire.{Message, request, answer}
use Rattle.mt_small.specs.Reading.{understood}
use Rattle.mt_session.specs.declared.party.Party.{Party}
use Rattle.mt_session.specs.Step.{Readings, Outcome, step}
use Rattle.mt_session.specs.Transcript.{end_line}

-- the clients by number with where each message stands, and each message itself
pub record Machine : Type 0 where
  pub parties : List Party
  pub messages : List (Slot × Message)

abbrev pub message_at : Slot → List (Slot × Message) → Option Message
message_at slot [] = None
message_at slot (send ∷ sends) = if is_slot slot send.0 then Some send.1 else message_at slot sends

-- how the server takes a message
abbrev pub asked_by : Small → Option Message → Asked
asked_by small None = understood small None
asked_by small (Some (request target)) = understood small (Some (encode_utf8_all target))
asked_by small (Some (answer reply)) = understood small None

-- how a client takes it
abbrev pub replied_by : Option Message → Option Reply
replied_by None = None
replied_by (Some (request target)) = None
replied_by (Some (answer reply)) = Some reply

abbrev pub understandings : Small → List (Slot × Message) → Readings
understandings small messages = record { asked = λ slot. asked_by small (message_at slot messages); replied = λ slot. replied_by (message_at slot messages) }

-- one command
abbrev pub machine_outcome : Small → SmallCommand → Machine → Outcome
machine_outcome small command machine = step small command machine.parties (understandings small machine.messages)

abbrev pub machine_step : Small → SmallCommand → Machine → Machine
machine_step small command machine = record {
  parties = (machine_outcome small command machine).parties;
  messages = machine.messages ++ (machine_outcome small command machine).sends;
}

-- the lines of a list of commands, from this state on
abbrev pub machine_lines : Small → List SmallCommand → Machine → List ℕ
machine_lines small [] machine = []
machine_lines small (command ∷ commands) machine =
    (machine_outcome small command machine).lines ++ machine_lines small commands (machine_step small command machine)

abbrev pub at_start : Machine
at_start = record { parties = []; messages = [] }

-- the transcript of a schedule
abbrev pub machine_transcript : Small → List SmallCommand → List ℕ
machine_transcript small commands = machine_lines small commands at_start ++ end_line (length commands)
