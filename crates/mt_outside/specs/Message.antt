-- What a wire that tells its lists tells: each message sent, in order, with what was given of it.
use Rattle.std.specs.Prelude.{◌≡◌, ◌==◌, ◌&&◌, ◌||◌, ◌++◌, ℕ, Bool, true, false, not, List, [], ◌∷◌, length, if◌then◌else◌, Option, None, Some, ⊤}
use Rattle.std.specs.Option.{option_map}
use Rattle.mt_outside.specs.declared.wire.Slot.{Slot}
use Rattle.mt_outside.specs.Sink.{IsPrefix}

pub record Message : Type 0 where
  pub slot : Slot
  pub sent : List ℕ
  pub given : List ℕ
  pub ended : Bool

abbrev pub same_bool : Bool → Bool → Bool
same_bool true b = b
same_bool false b = not b

abbrev pub is_slot : Slot → Slot → Bool
is_slot a b = (a.client == b.client) && ((a.message == b.message) && same_bool a.reply b.reply)

-- a message that was just sent, last in the list
abbrev pub with_send : Slot → List ℕ → List Message → List Message
with_send slot bytes ms = ms ++ record { slot = slot; sent = bytes; given = []; ended = false } ∷ []

abbrev pub given_more : List ℕ → Bool → Message → Message
given_more bytes ended m = record { slot = m.slot; sent = m.sent; given = m.given ++ bytes; ended = m.ended || ended }

-- these bytes of a slot were given, and maybe its end
abbrev pub with_given : Slot → List ℕ → Bool → List Message → List Message
with_given slot bytes ended [] = []
with_given slot bytes ended (m ∷ ms) =
    if is_slot slot m.slot then given_more bytes ended m ∷ ms else m ∷ with_given slot bytes ended ms

abbrev pub was_sent : Slot → List Message → Bool
was_sent slot [] = false
was_sent slot (m ∷ ms) = is_slot slot m.slot || was_sent slot ms

-- the bytes sent into a slot
abbrev pub sent_of : Slot → List Message → List ℕ
sent_of slot [] = []
sent_of slot (m ∷ ms) = if is_slot slot m.slot then m.sent else sent_of slot ms

-- the bytes given of a slot so far
abbrev pub given_of : Slot → List Message → List ℕ
given_of slot [] = []
given_of slot (m ∷ ms) = if is_slot slot m.slot then m.given else given_of slot ms

-- whether the end of a slot was given
abbrev pub ended_of : Slot → List Message → Bool
ended_of slot [] = false
ended_of slot (m ∷ ms) = if is_slot slot m.slot then m.ended else ended_of slot ms

-- what was sent, in order
abbrev pub sends_of : List Message → List (Slot × List ℕ)
sends_of [] = []
sends_of (m ∷ ms) = (m.slot, m.sent) ∷ sends_of ms

-- no byte into a buffer with room
abbrev pub is_end : ℕ → List ℕ → Bool
is_end n into = (n == 0) && not (length into == 0)

-- the lists after begin: a wire that tells them and is not begun with loopback goes on
abbrev pub Begins : Bool → Option (List Message) → Option (List Message) → Type 0
Begins loopback None new = new ≡ None
Begins false (Some ms) new = new ≡ Some ms
Begins true (Some ms) new = ⊤

-- some bytes of a slot were given, and nothing else changed
pub record TookSome (slot : Slot) (old new : Option (List Message)) : Type 0 where
  pub bytes : List ℕ
  pub ended : Bool
  pub took : new ≡ option_map (with_given slot bytes ended) old

-- what was given is a prefix of these bytes, and all of them where the end was given
pub record Gives (whole given : List ℕ) (ended : Bool) : Type 0 where
  pub begins : IsPrefix given whole
  pub ends : ended ≡ true → given ≡ whole

-- each message gives what arrives of the bytes that were sent
abbrev pub GivesAll : (Slot → List ℕ → List ℕ) → List Message → Type 0
GivesAll arriving [] = ⊤
GivesAll arriving (m ∷ ms) = Gives (arriving m.slot m.sent) m.given m.ended × GivesAll arriving ms

-- faithful on every slot: each message gives the bytes that were sent
abbrev pub IsFaithful : List Message → Type 0
IsFaithful ms = GivesAll (λ slot sent. sent) ms

-- faithful on one slot: what was given is a prefix of what was sent, and all of it where the slot's end was given
abbrev pub IsFaithfulOn : Slot → List Message → Type 0
IsFaithfulOn slot ms = Gives (sent_of slot ms) (given_of slot ms) (ended_of slot ms)
