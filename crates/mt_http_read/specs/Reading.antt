-- What the bytes of a connection ask a server for, for every list of bytes: the first point of a list that holds refuses them, and
-- where none holds they load or call a service.
use Rattle.std.specs.Prelude.{ℕ, ◌&&◌, not, nat_lt, Bool, if◌then◌else◌, List, [], ◌∷◌, ◌++◌, length, take, Option, Some, None}
use Rattle.std.specs.Option.{is_none, unwrap_or}
use Rattle.mt_json.specs.DataAt.{arguments_at}
use Rattle.mt_http_types.specs.declared.feed.Feed.{Feed}
use Rattle.mt_http_types.specs.declared.feed.Feed.TheVariants.{More, Decided}
use Rattle.mt_http_types.specs.declared.request.Asked.{Asked}
use Rattle.mt_http_types.specs.declared.request.Asked.TheVariants.{Refused, Load, Post}
use Rattle.mt_http_types.specs.declared.request.Call.{Call}
use Rattle.mt_http_head.specs.Points.{Head, Point, head_of, head_points, is_get, refusal, sizes}
use Rattle.mt_http_head.specs.Fields.{size_in}
use Rattle.mt_http_head.specs.Targets.{arguments_in, path_of, query_of, service_at}
use Rattle.mt_http_stream.specs.Settling.{Found, head_limit, settled_by}
use Rattle.mt_http_stream.specs.declared.settled.Settled.{Settled}
use Rattle.mt_http_read.specs.Heads.{head_in}

-- ---- points

-- which bytes are to be the text of the arguments: of a load those that its query gives, and of a call its body
abbrev pub text_behind : Head → List ℕ → List ℕ
text_behind head rest = if is_get head then unwrap_or (arguments_in (query_of head.target)) [] else take (size_in (sizes head)) rest

-- whether the bytes end before the body does
abbrev pub ends_in_body : Head → List ℕ → Bool
ends_in_body head rest = not (is_get head) && nat_lt (length rest) (size_in (sizes head))

-- of a request whose head doesn't refuse it
abbrev pub late_points : Head → List ℕ → List Point
late_points head rest = (ends_in_body head rest, 400) ∷ (is_none (arguments_at (text_behind head rest)), 400) ∷ []

-- the points of a request with this head, and these bytes behind it, in their order
abbrev pub points : List (List ℕ) → Head → List ℕ → List Point
points services head rest = head_points services head ++ late_points head rest

-- ---- what is asked for where no point holds

abbrev pub call_in : List (List ℕ) → Head → List ℕ → Call
call_in services head rest = record {
  service = unwrap_or (service_at services (path_of head.target)) [];
  arguments = unwrap_or (arguments_at (text_behind head rest)) [];
}

abbrev pub asked_in : List (List ℕ) → Head → List ℕ → Asked
asked_in services head rest = if is_get head then Load (call_in services head rest) else Post (call_in services head rest)

abbrev pub unless : Option ℕ → Asked → Asked
unless None asked = asked
unless (Some status) asked = Refused status

-- ---- every list of bytes

-- of so many bytes in which this head is found; without one, the status tells whether one could still come
abbrev pub read_with : List (List ℕ) → ℕ → Found → Asked
read_with services size None = if nat_lt size head_limit then Refused 400 else Refused 431
read_with services size (Some found) = unless (refusal (points services (head_of found.0) found.1)) (asked_in services (head_of found.0) found.1)

-- what a server that has these services takes the bytes for
abbrev pub reads_request : List (List ℕ) → List ℕ → Asked
reads_request services bytes = read_with services (length bytes) (head_in bytes)

-- what the bytes have decided, if they have
abbrev pub settled_in : List (List ℕ) → List ℕ → Option Settled
settled_in services bytes = settled_by services (length bytes) (head_in bytes)

-- whether more bytes may matter
abbrev pub feed_by : Option Settled → Feed
feed_by None = More
feed_by (Some settled) = Decided
