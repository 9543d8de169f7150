-- What the text of a request that a client writes has decided, before the text of the arguments is read.
use Rattle.std.specs.Prelude.{ℕ, Bool, List, length, nat_lt, Option, None, Some, if◌then◌else◌}
use Rattle.mt_http_request.specs.RequestText.{post_head}
use Rattle.mt_http_request.specs.Targets.{service_path}
use Rattle.mt_http_head.specs.Targets.{arguments_in, path_of, query_of, service_at}
use Rattle.mt_http_stream.specs.Settling.{head_limit}
use Rattle.mt_http_stream.specs.declared.settled.Settled.{Settled}
use Rattle.mt_http_stream.specs.declared.settled.Settled.TheVariants.{Refused, Load, Post}

-- a load of this service, whose arguments are to have this text: 404 without a service, and then 400 without a text
abbrev pub load_of : Option (List ℕ) → Option (List ℕ) → Settled
load_of None text = Refused 404
load_of (Some service) None = Refused 400
load_of (Some service) (Some text) = Load service text

-- a load of the target that these bytes spell, by a server that has these services
abbrev pub load_by : List (List ℕ) → List ℕ → Settled
load_by services target = load_of (service_at services (path_of target)) (arguments_in (query_of target))

-- a call of this service, whose arguments have this text: 404 without a service
abbrev pub post_of : Option (List ℕ) → List ℕ → Settled
post_of None text = Refused 404
post_of (Some service) text = Post service text

-- the same where the head may be too long: 431
abbrev pub post_by : Bool → Option (List ℕ) → List ℕ → Settled
post_by long service text = if long then Refused 431 else post_of service text

-- a call of the service of this name, whose arguments have this text, by a server that has these services
abbrev pub call_by : List (List ℕ) → List ℕ → List ℕ → Settled
call_by services service text =
    post_by (nat_lt head_limit (length (post_head service (length text)))) (service_at services (service_path service)) text
