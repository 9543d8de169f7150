-- What one command does, by what the server and the clients understand of the messages given to them.
use Rattle.std.specs.Prelude.{◌+◌, ◌++◌, ℕ, Bool, true, false, List, [], ◌∷◌, Option, None, Some}
use Rattle.mt_outside.specs.declared.wire.Slot.{Slot}
use Rattle.mt_small.specs.declared.application.Small.{Small}
use Rattle.mt_small.specs.declared.command.SmallCommand.{SmallCommand}
use Rattle.mt_small.specs.declared.command.SmallCommand.TheVariants.{Load, Serve, Deliver}
use Rattle.mt_small.specs.declared.message.Asked.{Asked}
use Rattle.mt_small.specs.declared.message.Reply.{Reply}
use Rattle.mt_small.specs.Wire.{Message, request, answer, wire}
use Rattle.mt_small.specs.Reading.{server_job}
use Rattle.mt_session.specs.declared.party.Party.{Party}
use Rattle.mt_session.specs.declared.party.Standing.{Standing}
use Rattle.mt_session.specs.declared.party.Standing.TheVariants as standing
use Rattle.mt_session.specs.Parties.{standing_of, has_party, message_count, page_count, with_request, with_standing}
use Rattle.mt_session.specs.Transcript.{echo, entry, reply_lines, pages_in, skip_line}

abbrev pub slot_of : ℕ → ℕ → Bool → Slot
slot_of client message reply = record { client = client; message = message; reply = reply }

-- what the server understands of each request, and a client of each reply
pub record Readings : Type 0 where
  pub asked : Slot → Asked
  pub replied : Slot → Option Reply

-- the parties after a command, the lines that it writes, and the messages that it sends
pub record Outcome : Type 0 where
  pub parties : List Party
  pub lines : List ℕ
  pub sends : List (Slot × Message)

-- a command that finds nothing to act on
abbrev pub skipped : ℕ → SmallCommand → List Party → Outcome
skipped k command parties = record { parties = parties; lines = echo command ++ skip_line (has_party k parties); sends = [] }

-- a client asks: its next message is a request
abbrev pub load_step : ℕ → List ℕ → List Party → Outcome
load_step k target parties =
    let m = message_count k parties + 1 in
    record {
      parties = with_request k parties;
      lines = echo (Load k target) ++ entry k m false (wire (request target));
      sends = (slot_of k m false, request target) ∷ [];
    }

-- the server answers a request that it has not answered yet
abbrev pub serve_step : Small → ℕ → ℕ → Option Standing → List Party → Asked → Outcome
serve_step small k m (Some standing.Asked) parties asked = record {
  parties = with_standing k m standing.Answered 0 parties;
  lines = echo (Serve k m) ++ entry k m true (wire (answer (server_job small asked)));
  sends = (slot_of k m true, answer (server_job small asked)) ∷ [];
}
serve_step small k m (Some standing.Answered) parties asked = skipped k (Serve k m) parties
serve_step small k m (Some standing.Over) parties asked = skipped k (Serve k m) parties
serve_step small k m None parties asked = skipped k (Serve k m) parties

-- a client takes the reply to a message that it has not taken yet
abbrev pub deliver_step : ℕ → ℕ → Option Standing → List Party → Option Reply → Outcome
deliver_step k m (Some standing.Answered) parties reply = record {
  parties = with_standing k m standing.Over (pages_in reply) parties;
  lines = echo (Deliver k m) ++ reply_lines (page_count k parties) reply;
  sends = [];
}
deliver_step k m (Some standing.Asked) parties reply = skipped k (Deliver k m) parties
deliver_step k m (Some standing.Over) parties reply = skipped k (Deliver k m) parties
deliver_step k m None parties reply = skipped k (Deliver k m) parties

abbrev pub step : Small → SmallCommand → List Party → Readings → Outcome
step small (Load k target) parties readings = load_step k target parties
step small (Serve k m) parties readings = serve_step small k m (standing_of k m parties) parties (readings.asked (slot_of k m false))
step small (Deliver k m) parties readings = deliver_step k m (standing_of k m parties) parties (readings.replied (slot_of k m true))
