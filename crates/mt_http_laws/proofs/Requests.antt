-- The text of each request is read as what the request is understood as.
use Rattle.std.proofs.Common.{◌≡◌, ℕ, Bool, true, false, cond, List, ◌++◌, encode_utf8_all, Option, Some, None, option_and_then, refl, sym, ap, ◌∙◌}
use Rattle.std.specs.Str.{all_scalars}
use Rattle.mt_tree.specs.declared.data.Data.{Data}
use Rattle.mt_syntax.specs.DataLimits.{AreWithinLimits}
use Rattle.mt_syntax.specs.DataText.{arguments_text}
use Rattle.mt_json.specs.DataAt.{arguments_at}
use Rattle.mt_json.proofs.DataAt.{arguments_at_text}
use Rattle.mt_http_types.specs.declared.request.Asked.TheVariants as asked
use Rattle.mt_http_types.specs.declared.request.Call.{Call}
use Rattle.mt_http_types.specs.declared.request.Request.{Request}
use Rattle.mt_http_types.specs.declared.request.Request.TheVariants.{Load, Post}
use Rattle.mt_http_types.specs.declared.target.Target.{Target}
use Rattle.mt_http_request.specs.RequestText.{request_text}
use Rattle.mt_http_request.specs.Targets.{call_target, service_path}
use Rattle.mt_http_head.specs.Targets.{arguments_in, path_of, query_of, service_at}
use Rattle.mt_http_stream.specs.Settling.{Settles}
use Rattle.mt_http_stream.specs.declared.settled.Settled.{Settled}
use Rattle.mt_http_stream.proofs.Steps.{settled_more}
use Rattle.mt_http_read.specs.Asking.{asked_by, load_with}
use Rattle.mt_http_read.specs.Reading.{reads_request}
use Rattle.mt_http_read.proofs.Once.{read_by}
use Rattle.mt_http_laws.specs.Decided as decided
use Rattle.mt_http_laws.specs.Understood.{IsSent, is_long, load_by, load_of, post_of, service_of, understood}
use Rattle.mt_http_laws.proofs.Frames.{frame_asks, service_found}
use Rattle.mt_http_laws.proofs.Loads.{load_settles}
use Rattle.mt_http_laws.proofs.Posts.{call_settles}

-- ---- loads

load_same : (service : List ℕ) (found : Option (List Data)) → load_with service found ≡ load_of (Some service) found
load_same service None = refl
load_same service (Some ds) = refl

load_again : (found text : Option (List ℕ)) → asked_by (decided.load_of found text) ≡ load_of found (option_and_then arguments_at text)
load_again None text = refl
load_again (Some service) None = refl
load_again (Some service) (Some text) = load_same service (arguments_at text)

pub target_again : (services : List (List ℕ)) (target : List ℕ) → asked_by (decided.load_by services target) ≡ load_by services target
target_again services target = load_again (service_at services (path_of target)) (arguments_in (query_of target))

-- ---- calls

post_same : (found : Option (List ℕ)) (text : List ℕ) (ds : List Data) → arguments_at text ≡ Some ds → asked_by (decided.post_of found text) ≡ post_of found ds
post_same None text ds is = refl
post_same (Some service) text ds is = rw is refl

post_again : (long : Bool) (found : Option (List ℕ)) (text : List ℕ) (ds : List Data) → arguments_at text ≡ Some ds
    → asked_by (decided.post_by long found text) ≡ cond long (asked.Refused 431) (post_of found ds)
post_again true found text ds is = refl
post_again false found text ds is = post_same found text ds is

call_again : (services : List (List ℕ)) (call : Call) → all_scalars call.service ≡ true → AreWithinLimits call.arguments
    → asked_by (decided.call_by services call.service (arguments_text call.arguments)) ≡ understood services (Post call)
call_again services call scalars within =
    post_again (is_long call) (service_at services (service_path call.service)) (arguments_text call.arguments) call.arguments (arguments_at_text call.arguments within)
    ∙ ap (λ (o : Option (List ℕ)). cond (is_long call) (asked.Refused 431) (post_of o call.arguments)) (service_found services call.service scalars)

-- ---- requests

-- what the text of the request has decided
abbrev pub made_of : List (List ℕ) → Request → Settled
made_of services (Load target) = decided.load_by services (encode_utf8_all target.0)
made_of services (Post call) = decided.call_by services call.service (arguments_text call.arguments)

pub settles_so : (services : List (List ℕ)) (m : Request) → IsSent m → Settles services (request_text m) (Some (made_of services m))
settles_so services (Load target) is = load_settles services (encode_utf8_all target.0) is
settles_so services (Post call) is = call_settles services call.service (arguments_text call.arguments) is.0.size

made_again : (services : List (List ℕ)) (m : Request) → IsSent m → asked_by (made_of services m) ≡ understood services m
made_again services (Load target) is = target_again services (encode_utf8_all target.0)
made_again services (Post call) is = call_again services call is.0.service is.1

pub read_so : (services : List (List ℕ)) (m : Request) → IsSent m → reads_request services (request_text m) ≡ understood services m
read_so services m is = read_by services (request_text m) (Some (made_of services m)) (settles_so services m is) ∙ made_again services m is

pub read_more : (services : List (List ℕ)) (m : Request) (more : List ℕ) → IsSent m → reads_request services (request_text m ++ more) ≡ understood services m
read_more services m more is =
    read_by services (request_text m ++ more) (Some (made_of services m)) (settled_more services (request_text m) more (made_of services m) (settles_so services m is))
    ∙ made_again services m is

-- ---- frames

pub frame_calls : (services : List (List ℕ)) (target : Target) (service : List ℕ) (arguments : List Data) → all_scalars service ≡ true → AreWithinLimits arguments
    → encode_utf8_all target.0 ≡ call_target service arguments → understood services (Load target) ≡ load_of (service_of services service) (Some arguments)
frame_calls services target service arguments scalars within is =
    ap (load_by services) is
    ∙ sym (target_again services (call_target service arguments))
    ∙ ap asked_by (frame_asks services service arguments within.data)
    ∙ load_again (service_at services (service_path service)) (Some (arguments_text arguments))
    ∙ ap (load_of (service_at services (service_path service))) (arguments_at_text arguments within)
    ∙ ap (λ (o : Option (List ℕ)). load_of o (Some arguments)) (service_found services service scalars)
