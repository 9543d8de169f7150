-- What a server takes a request for that a client sends, by the request itself: the target of a load, or the service and the
-- arguments of a call.
use Rattle.std.specs.Prelude.{ℕ, Bool, List, length, nat_lt, encode_utf8_all, Option, None, Some, option_and_then, if◌then◌else◌}
use Rattle.std.specs.List.{find}
use Rattle.mt_tree.specs.declared.data.Data.{Data}
use Rattle.mt_syntax.specs.DataLimits.{AreWithinLimits}
use Rattle.mt_syntax.specs.DataText.{arguments_text}
use Rattle.mt_json.specs.DataAt.{arguments_at}
use Rattle.mt_http_types.specs.Target.{IsTarget}
use Rattle.mt_http_types.specs.declared.request.Asked.{Asked}
use Rattle.mt_http_types.specs.declared.request.Asked.TheVariants as asked
use Rattle.mt_http_types.specs.declared.request.Call.{Call}
use Rattle.mt_http_types.specs.declared.request.Request.{Request}
use Rattle.mt_http_types.specs.declared.request.Request.TheVariants.{Load, Post}
use Rattle.mt_http_request.specs.RequestText.{IsCall, post_head}
use Rattle.mt_http_head.specs.Targets.{arguments_in, has_name, path_of, query_of, service_at}
use Rattle.mt_http_stream.specs.Settling.{head_limit}

-- ---- loads

-- the arguments that the query of the target gives
abbrev pub arguments_by : List ℕ → Option (List Data)
arguments_by target = option_and_then arguments_at (arguments_in (query_of target))

-- a load of this service with these arguments: 404 without a service, and then 400 without arguments
abbrev pub load_of : Option (List ℕ) → Option (List Data) → Asked
load_of None arguments = asked.Refused 404
load_of (Some service) None = asked.Refused 400
load_of (Some service) (Some arguments) = asked.Load (record { service = service; arguments = arguments })

-- a load of the target that these bytes spell
abbrev pub load_by : List (List ℕ) → List ℕ → Asked
load_by services target = load_of (service_at services (path_of target)) (arguments_by target)

-- ---- calls

-- the service of this name
abbrev pub service_of : List (List ℕ) → List ℕ → Option (List ℕ)
service_of services name = find (has_name (encode_utf8_all name)) services

-- whether the head of the call's text is longer than a server reads
abbrev pub is_long : Call → Bool
is_long call = nat_lt head_limit (length (post_head call.service (length (arguments_text call.arguments))))

-- a call of this service: 404 without one
abbrev pub post_of : Option (List ℕ) → List Data → Asked
post_of None arguments = asked.Refused 404
post_of (Some service) arguments = asked.Post (record { service = service; arguments = arguments })

-- ---- requests

-- what a server that has these services takes the request for
abbrev pub understood : List (List ℕ) → Request → Asked
understood services (Load target) = load_by services (encode_utf8_all target.0)
understood services (Post call) = if is_long call then asked.Refused 431 else post_of (service_of services call.service) call.arguments

-- a request as a client sends it: a load of a target, or a call whose arguments are within the limits of data
abbrev pub IsSent : Request → Type 0
IsSent (Load target) = IsTarget target
IsSent (Post call) = IsCall call × AreWithinLimits call.arguments
