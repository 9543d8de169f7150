-- What a wire in memory tells of the messages that it stores.
use Rattle.std.specs.Prelude.{◌&&◌, ℕ, suc, Bool, true, not, List, [], ◌∷◌, take, if◌then◌else◌}
use Rattle.std.specs.List.{list_any}
use Rattle.mt_outside.specs.declared.wire.Slot.{Slot}
use Rattle.mt_outside.specs.declared.stored_message.StoredMessage.{StoredMessage}
use Rattle.mt_outside.specs.Message.{Message, is_slot}

abbrev pub message_of : StoredMessage → Message
message_of k = record { slot = k.slot; sent = k.sent.items; given = take k.at k.gives.items; ended = k.ended }

abbrev pub messages_of : List StoredMessage → List Message
messages_of [] = []
messages_of (k ∷ ks) = message_of k ∷ messages_of ks

abbrev pub slots_of : List StoredMessage → List Slot
slots_of [] = []
slots_of (k ∷ ks) = k.slot ∷ slots_of ks

-- no slot stands twice
abbrev pub are_distinct : List Slot → Bool
are_distinct [] = true
are_distinct (s ∷ ss) = not (list_any (is_slot s) ss) && are_distinct ss

-- the place of the first message of a slot, or their number where there is none
abbrev pub place_in : Slot → List StoredMessage → ℕ
place_in slot [] = 0
place_in slot (k ∷ ks) = if is_slot slot k.slot then 0 else suc (place_in slot ks)

-- the bytes that each message is to give
abbrev pub to_give : List StoredMessage → List (List ℕ)
to_give [] = []
to_give (k ∷ ks) = k.gives.items ∷ to_give ks

-- what arrives of the bytes that were sent
abbrev pub arrivals : (Slot → List ℕ → List ℕ) → List StoredMessage → List (List ℕ)
arrivals arriving [] = []
arrivals arriving (k ∷ ks) = arriving k.slot k.sent.items ∷ arrivals arriving ks
