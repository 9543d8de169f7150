-- From which byte on a request is decided, and how. A head longer than 65,536 bytes is never read: the first 65,536 bytes
-- decide that no head is among them, whether or not one could follow.
use Rattle.std.specs.Prelude.{◌≡◌, ◌≤◌, ◌<◌, ℕ, List, [], length, take, nat_lt, Option, Some, None, if◌then◌else◌}
use Rattle.httparse.specs.Grammar.{RequestHead, ReadsRequest, print_request}
use Rattle.mt_http_types.specs.declared.feed.Feed.{Feed}
use Rattle.mt_http_types.specs.declared.feed.Feed.TheVariants.{More, Decided}
use Rattle.mt_http_head.specs.Points.{decision, head_of}
use Rattle.mt_http_head.specs.declared.decision.Decision.{Decision}
use Rattle.mt_http_head.specs.declared.decision.Decision.TheVariants as decided
use Rattle.mt_http_stream.specs.declared.settled.Settled.{Settled}
use Rattle.mt_http_stream.specs.declared.settled.Settled.TheVariants.{Refused, Load, Post}

-- the most bytes of a head
abbrev pub head_limit : ℕ
head_limit = 65536

-- a head, and the bytes behind it
abbrev pub Found : Type 0
Found = Option (RequestHead × List ℕ)

-- a whole head of at most 65,536 bytes stands at the front, with these bytes behind it; or none does
abbrev pub IsFound : List ℕ → Found → Type 0
IsFound bytes None = (head : RequestHead) (rest : List ℕ) → ReadsRequest bytes head rest → head_limit < length (print_request head)
IsFound bytes (Some found) = ReadsRequest bytes found.0 found.1 × (length (print_request found.0) ≤ head_limit)

-- what such a head and the bytes behind it have decided
abbrev pub settled_behind : Decision → List ℕ → Option Settled
settled_behind (decided.Refused status) rest = Some (Refused status)
settled_behind (decided.Load service text) rest = Some (Load service text)
settled_behind (decided.Post service size) rest = if nat_lt (length rest) size then None else Some (Post service (take size rest))

-- what so many bytes have decided in which this is found
abbrev pub settled_by : List (List ℕ) → ℕ → Found → Option Settled
settled_by services size None = if nat_lt size head_limit then None else Some (Refused 431)
settled_by services size (Some found) = settled_behind (decision services (head_of found.0)) found.1

-- the bytes have decided this, or nothing yet
abbrev pub Settles : List (List ℕ) → List ℕ → Option Settled → Type 0
Settles services bytes settled = (found : Found) × IsFound bytes found × (settled_by services (length bytes) found ≡ settled)

-- whether the bytes have decided
abbrev pub Tells : List (List ℕ) → List ℕ → Feed → Type 0
Tells services bytes More = Settles services bytes None
Tells services bytes Decided = (settled : Settled) × Settles services bytes (Some settled)

-- the bytes themselves are no head
abbrev pub IsNoHead : List ℕ → Type 0
IsNoHead bytes = (head : RequestHead) → ReadsRequest bytes head [] → ⊥

-- the bytes are a head, of at most 65,536 bytes, that decides so
abbrev pub Begins : List (List ℕ) → List ℕ → Decision → Type 0
Begins services bytes made =
    (head : RequestHead) × ReadsRequest bytes head [] × (length (print_request head) ≤ head_limit) × (made ≡ decision services (head_of head))
