-- What a wire that tells its lists and the clients of a run have in common.
use Rattle.std.specs.Prelude.{◌≡◌, ℕ, true, false, List, [], length, Option, None, Some, ⊤}
use Rattle.mt_outside.specs.declared.wire.Slot.{Slot}
use Rattle.mt_outside.specs.Message.{Message, was_sent, given_of, ended_of}
use Rattle.mt_session.specs.declared.party.Party.{Party}
use Rattle.mt_session.specs.Parties.{is_sent, is_acted}

-- the most bytes that are taken of a message
abbrev pub take_limit : ℕ
take_limit = 65537

-- the bytes given of each message
abbrev pub table : List Message → Slot → List ℕ
table messages slot = given_of slot messages

-- the messages sent are those of the clients, and nothing was given of one on which no side has acted
pub record WireFits (parties : List Party) (messages : List Message) : Type 0 where
  pub sent : (slot : Slot) → was_sent slot messages ≡ is_sent parties slot
  pub fresh : (slot : Slot) → is_acted parties slot ≡ false → given_of slot messages ≡ []

-- a message was taken to its end, or as far as is taken
abbrev pub IsTaken : Slot → List Message → Type 0
IsTaken slot messages = ended_of slot messages ≡ false → length (given_of slot messages) ≡ take_limit

-- so was each on which a side has acted
abbrev pub ActedAreTaken : List Party → List Message → Type 0
ActedAreTaken parties messages = (slot : Slot) → is_acted parties slot ≡ true → IsTaken slot messages

-- nothing more was given of a message on which a side had acted
pub record KeepsGiven (parties : List Party) (old new : List Message) : Type 0 where
  pub given : (slot : Slot) → is_acted parties slot ≡ true → given_of slot new ≡ given_of slot old
  pub ended : (slot : Slot) → is_acted parties slot ≡ true → ended_of slot new ≡ ended_of slot old

-- a fact about what a wire tells before and after, which it does at both or at neither
abbrev pub IfBothTell : Option (List Message) → Option (List Message) → (List Message → List Message → Type 0) → Type 0
IfBothTell None None P = ⊤
IfBothTell None (Some new) P = ⊥
IfBothTell (Some old) None P = ⊥
IfBothTell (Some old) (Some new) P = P old new
