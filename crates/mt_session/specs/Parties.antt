-- The clients of a run, and where each of their messages stands.
use Rattle.std.specs.Prelude.{◌==◌, ◌+◌, ◌++◌, ℕ, zero, suc, Bool, true, false, List, [], ◌∷◌, length, slice_get, slice_set, Option, None, Some, if◌then◌else◌}
use Rattle.std.specs.Option.{option_and_then, is_some}
use Rattle.mt_outside.specs.declared.wire.Slot.{Slot}
use Rattle.mt_session.specs.declared.party.Party.{Party}
use Rattle.mt_session.specs.declared.party.Standing.{Standing}
use Rattle.mt_session.specs.declared.party.Standing.TheVariants.{Asked, Answered, Over}
use Rattle.mt_session.specs.First.{first_where, change_first}

abbrev pub has_number : ℕ → Party → Bool
has_number n party = party.number == n

abbrev pub party_of : ℕ → List Party → Option Party
party_of n parties = first_where (has_number n) parties

abbrev pub has_party : ℕ → List Party → Bool
has_party n parties = is_some (party_of n parties)

-- where a party's message stands; its messages are numbered from 1
abbrev pub standing_in : ℕ → List Standing → Option Standing
standing_in zero standings = None
standing_in (suc before) standings = slice_get standings before

abbrev pub standing_of : ℕ → ℕ → List Party → Option Standing
standing_of n m parties = option_and_then (λ party. standing_in m party.standings) (party_of n parties)

abbrev pub messages_by : Option Party → ℕ
messages_by None = 0
messages_by (Some party) = length party.standings

-- how many messages a party has
abbrev pub message_count : ℕ → List Party → ℕ
message_count n parties = messages_by (party_of n parties)

abbrev pub pages_by : Option Party → ℕ
pages_by None = 0
pages_by (Some party) = party.pages

-- how many pages a party has read
abbrev pub page_count : ℕ → List Party → ℕ
page_count n parties = pages_by (party_of n parties)

abbrev pub with_message : Party → Party
with_message party = record { number = party.number; pages = party.pages; standings = party.standings ++ Asked ∷ [] }

-- one more message of a party, which may be its first
abbrev pub with_request : ℕ → List Party → List Party
with_request n parties =
    if has_party n parties then change_first (has_number n) with_message parties
    else parties ++ record { number = n; pages = 0; standings = Asked ∷ [] } ∷ []

abbrev pub set_standing : ℕ → Standing → List Standing → List Standing
set_standing zero standing standings = standings
set_standing (suc before) standing standings = slice_set standings before standing

abbrev pub moved : ℕ → Standing → ℕ → Party → Party
moved m standing more party = record { number = party.number; pages = party.pages + more; standings = set_standing m standing party.standings }

-- a message stands elsewhere now, and the party has read so many more pages
abbrev pub with_standing : ℕ → ℕ → Standing → ℕ → List Party → List Party
with_standing n m standing more = change_first (has_number n) (moved m standing more)

-- whether a request, or a reply, of a message that stands so was sent
abbrev pub sent_by : Bool → Option Standing → Bool
sent_by reply None = false
sent_by false (Some standing) = true
sent_by true (Some Asked) = false
sent_by true (Some Answered) = true
sent_by true (Some Over) = true

-- whether a side has acted on it
abbrev pub acted_by : Bool → Option Standing → Bool
acted_by reply None = false
acted_by reply (Some Asked) = false
acted_by false (Some Answered) = true
acted_by true (Some Answered) = false
acted_by reply (Some Over) = true

abbrev pub is_sent : List Party → Slot → Bool
is_sent parties slot = sent_by slot.reply (standing_of slot.client slot.message parties)

abbrev pub is_acted : List Party → Slot → Bool
is_acted parties slot = acted_by slot.reply (standing_of slot.client slot.message parties)
