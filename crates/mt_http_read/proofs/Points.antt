-- The points of the list decide what the stream settles and the text of the arguments gives.
use Rattle.std.proofs.Common.{◌≡◌, ℕ, Bool, true, false, cond, not, ◌&&◌, nat_lt, List, [], ◌∷◌, ◌++◌, length, take, Option, Some, None, refl, sym, ap, ◌∙◌}
use Rattle.std.specs.Option.{is_none, unwrap_or}
use Rattle.mt_tree.specs.declared.data.Data.{Data}
use Rattle.mt_json.specs.DataAt.{arguments_at}
use Rattle.mt_http_types.specs.declared.request.Asked.{Asked}
use Rattle.mt_http_types.specs.declared.request.Asked.TheVariants.{Refused, Load, Post}
use Rattle.mt_http_types.specs.declared.request.Call.{Call}
use Rattle.mt_http_head.specs.Fields.{size_in}
use Rattle.mt_http_head.specs.Points as points
use Rattle.mt_http_head.specs.Points.{Head, Point, decision, head_of, head_points, is_get, refusal, sizes}
use Rattle.mt_http_head.specs.Targets.{arguments_in, path_of, query_of, service_at}
use Rattle.mt_http_head.specs.declared.decision.Decision.TheVariants as decided
use Rattle.mt_http_head.proofs.Deciding.{refusal_behind, refusal_in_front}
use Rattle.mt_http_stream.specs.Settling.{Found, head_limit, settled_behind, settled_by}
use Rattle.mt_http_stream.specs.declared.settled.Settled.TheVariants as settled
use Rattle.mt_http_read.specs.Asking.{asked_of, load_with, post_with}
use Rattle.mt_http_read.specs.Reading.{asked_in, late_points, read_with, unless}

-- ---- behind a head that refuses nothing

-- what is read where the text of the arguments gives this
abbrev by_text : (List Data → Asked) → Option (List Data) → Asked
by_text made found = unless (refusal ((is_none found, 400) ∷ [])) (made (unwrap_or found []))

load_by_text : (service : List ℕ) (found : Option (List Data)) → by_text (λ ds. Load (record { service = service; arguments = ds })) found ≡ load_with service found
load_by_text service None = refl
load_by_text service (Some ds) = refl

post_by_text : (service : List ℕ) (found : Option (List Data)) → by_text (λ ds. Post (record { service = service; arguments = ds })) found ≡ post_with service found
post_by_text service None = refl
post_by_text service (Some ds) = refl

-- by the method, the text that the query gives, and the size of the body
abbrev read_at : Bool → List ℕ → List ℕ → ℕ → List ℕ → Asked
read_at gets service query size rest =
    let text = cond gets query (take size rest) in
    let call : Call = record { service = service; arguments = unwrap_or (arguments_at text) [] } in
    unless (refusal ((not gets && nat_lt (length rest) size, 400) ∷ (is_none (arguments_at text), 400) ∷ [])) (cond gets (Load call) (Post call))

abbrev settled_at : Bool → List ℕ → List ℕ → ℕ → List ℕ → Asked
settled_at gets service query size rest = asked_of (settled_behind (cond gets (decided.Load service query) (decided.Post service size)) rest)

abbrev read_cut : Bool → List ℕ → ℕ → List ℕ → Asked
read_cut short service size rest =
    let found = arguments_at (take size rest) in
    unless (refusal ((short, 400) ∷ (is_none found, 400) ∷ [])) (Post (record { service = service; arguments = unwrap_or found [] }))

post_at : (short : Bool) (service : List ℕ) (size : ℕ) (rest : List ℕ) → read_cut short service size rest ≡ asked_of (cond short None (Some (settled.Post service (take size rest))))
post_at true service size rest = refl
post_at false service size rest = post_by_text service (arguments_at (take size rest))

same_at : (gets : Bool) (service query : List ℕ) (size : ℕ) (rest : List ℕ) → read_at gets service query size rest ≡ settled_at gets service query size rest
same_at true service query size rest = load_by_text service (arguments_at query)
same_at false service query size rest = post_at (nat_lt (length rest) size) service size rest

-- ---- behind each head

same_behind : (services : List (List ℕ)) (head : Head) (rest : List ℕ) (status : Option ℕ) → refusal (head_points services head) ≡ status
    → unless (refusal (head_points services head ++ late_points head rest)) (asked_in services head rest) ≡ asked_of (settled_behind (decision services head) rest)
same_behind services head rest (Some status) is =
    ap (λ (o : Option ℕ). unless o (asked_in services head rest)) (refusal_in_front (head_points services head) (late_points head rest) status is)
    ∙ sym (ap (λ (o : Option ℕ). asked_of (settled_behind (points.unless o (points.asked_by services head)) rest)) is)
same_behind services head rest None is =
    ap (λ (o : Option ℕ). unless o (asked_in services head rest)) (refusal_behind (head_points services head) (late_points head rest) is)
    ∙ same_at (is_get head) (unwrap_or (service_at services (path_of head.target)) []) (unwrap_or (arguments_in (query_of head.target)) []) (size_in (sizes head)) rest
    ∙ sym (ap (λ (o : Option ℕ). asked_of (settled_behind (points.unless o (points.asked_by services head)) rest)) is)

same_without : (more : Bool) → cond more (Refused 400) (Refused 431) ≡ asked_of (cond more None (Some (settled.Refused 431)))
same_without true = refl
same_without false = refl

pub same_reading : (services : List (List ℕ)) (size : ℕ) (found : Found) → read_with services size found ≡ asked_of (settled_by services size found)
same_reading services size None = same_without (nat_lt size head_limit)
same_reading services size (Some found) = same_behind services (head_of found.0) found.1 (refusal (head_points services (head_of found.0))) refl
