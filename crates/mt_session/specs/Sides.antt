-- What server and clients do for a list of commands, where each knows of a message only the bytes that it was given.
use Rattle.std.specs.Prelude.{◌++◌, ℕ, List, [], ◌∷◌, length}
use Rattle.mt_outside.specs.declared.wire.Slot.{Slot}
use Rattle.mt_small.specs.declared.application.Small.{Small}
use Rattle.mt_small.specs.declared.command.SmallCommand.{SmallCommand}
use Rattle.mt_small.specs.Wire.{Message, wire}
use Rattle.mt_small.specs.Reading.{reads_request, reads_reply}
use Rattle.mt_session.specs.declared.party.Party.{Party}
use Rattle.mt_session.specs.Step.{Readings, Outcome, step}
use Rattle.mt_session.specs.Transcript.{end_line}

-- what each side understands of the bytes given of each message
abbrev pub readings : Small → (Slot → List ℕ) → Readings
readings small given = record { asked = λ slot. reads_request small (given slot); replied = λ slot. reads_reply (given slot) }

-- one command
abbrev pub side_step : Small → SmallCommand → List Party → (Slot → List ℕ) → Outcome
side_step small command parties given = step small command parties (readings small given)

-- the lines of a list of commands, from these parties on
abbrev pub lines_from : Small → List SmallCommand → List Party → (Slot → List ℕ) → List ℕ
lines_from small [] parties given = []
lines_from small (command ∷ commands) parties given =
    (side_step small command parties given).lines ++ lines_from small commands (side_step small command parties given).parties given

-- the parties after them
abbrev pub parties_from : Small → List SmallCommand → List Party → (Slot → List ℕ) → List Party
parties_from small [] parties given = parties
parties_from small (command ∷ commands) parties given = parties_from small commands (side_step small command parties given).parties given

-- what they send, as bytes
abbrev pub wired : List (Slot × Message) → List (Slot × List ℕ)
wired [] = []
wired (send ∷ sends) = (send.0, wire send.1) ∷ wired sends

abbrev pub sends_from : Small → List SmallCommand → List Party → (Slot → List ℕ) → List (Slot × List ℕ)
sends_from small [] parties given = []
sends_from small (command ∷ commands) parties given =
    wired (side_step small command parties given).sends ++ sends_from small commands (side_step small command parties given).parties given

-- the transcript of a schedule, for the bytes given of each message
abbrev pub transcript : Small → List SmallCommand → (Slot → List ℕ) → List ℕ
transcript small commands given = lines_from small commands [] given ++ end_line (length commands)
