-- What a command that was carried out owes over a wire that tells its lists, and what one that was not.
use Rattle.std.specs.Prelude.{◌≡◌, ◌++◌, ℕ, true, false, List, Option}
use Rattle.std.specs.Io.KnownBytes.{append_known}
use Rattle.mt_outside.specs.declared.wire.Slot.{Slot}
use Rattle.mt_outside.specs.Message.{Message, sends_of}
use Rattle.mt_outside.specs.Sink.{GrewByPrefix}
use Rattle.mt_small.specs.declared.application.Small.{Small}
use Rattle.mt_small.specs.declared.command.SmallCommand.{SmallCommand}
use Rattle.mt_session.specs.declared.party.Party.{Party}
use Rattle.mt_session.specs.Parties.{is_acted}
use Rattle.mt_session.specs.Sides.{side_step, wired}
use Rattle.mt_session.specs.WireFits.{WireFits, IsTaken, KeepsGiven, table}

-- these stand at the front of a list
pub record IsFront {X : Type 0} (front whole : List X) : Type 0 where
  pub rest : List X
  pub joined : whole ≡ front ++ rest

-- the message on which a side acts in a command was taken as far as one is taken
abbrev pub NewlyActedAreTaken : List Party → List Party → List Message → Type 0
NewlyActedAreTaken old_parties new_parties messages =
    (slot : Slot) → is_acted old_parties slot ≡ false → is_acted new_parties slot ≡ true → IsTaken slot messages

-- one command of the sides, for the bytes that were given
pub record CommandDone (small : Small) (command : SmallCommand) (old_parties new_parties : List Party) (old_lines new_lines : List ℕ) (old new : List Message) : Type 0 where
  pub parties : new_parties ≡ (side_step small command old_parties (table new)).parties
  pub lines : new_lines ≡ old_lines ++ (side_step small command old_parties (table new)).lines
  pub sends : sends_of new ≡ sends_of old ++ wired (side_step small command old_parties (table new)).sends
  pub fits : WireFits new_parties new
  pub kept : KeepsGiven old_parties old new
  pub taken : NewlyActedAreTaken old_parties new_parties new

-- one that was given up: nothing was sent
pub record CommandFailed (parties : List Party) (old new : List Message) : Type 0 where
  pub sends : sends_of new ≡ sends_of old
  pub kept : KeepsGiven parties old new

-- one whose lines went to a sink
pub record CommandWritten (small : Small) (command : SmallCommand) (old_parties new_parties : List Party) (old_held new_held : Option (List ℕ)) (old new : List Message) : Type 0 where
  pub parties : new_parties ≡ (side_step small command old_parties (table new)).parties
  pub held : new_held ≡ append_known old_held (side_step small command old_parties (table new)).lines
  pub sends : sends_of new ≡ sends_of old ++ wired (side_step small command old_parties (table new)).sends
  pub fits : WireFits new_parties new
  pub kept : KeepsGiven old_parties old new
  pub taken : NewlyActedAreTaken old_parties new_parties new

-- one whose lines went to a sink in part, if at all
pub record CommandInterrupted (small : Small) (command : SmallCommand) (parties : List Party) (old_held new_held : Option (List ℕ)) (old new : List Message) : Type 0 where
  pub sent : List (Slot × List ℕ)
  pub sends : sends_of new ≡ sends_of old ++ sent
  pub within : IsFront sent (wired (side_step small command parties (table new)).sends)
  pub grew : GrewByPrefix old_held new_held (side_step small command parties (table new)).lines
  pub kept : KeepsGiven parties old new
