-- How the head of a request is decided: by the first point of a list that holds.
use Rattle.std.specs.Prelude.{◌==◌, ◌&&◌, ◌||◌, not, ℕ, Bool, List, [], ◌∷◌, ◌++◌, length, codes, map, nat_lt, Option, Some, None, if◌then◌else◌}
use Rattle.std.specs.Option.{is_none, is_some, unwrap_or}
use Rattle.std.specs.Str.{bytes_eq}
use Rattle.httparse.specs.Grammar.{RequestHead}
use Rattle.httparse.specs.Spans.{name_and_value}
use Rattle.mt_http_head.specs.Fields.{Pair, values_of, are_one_size, size_in}
use Rattle.mt_http_head.specs.Targets.{path_of, query_of, begins_with_slash, service_at, arguments_in}
use Rattle.mt_http_head.specs.declared.decision.Decision.{Decision}
use Rattle.mt_http_head.specs.declared.decision.Decision.TheVariants.{Refused, Load, Post}

-- what matters of a head
pub record Head : Type 0 where
  pub method : List ℕ
  pub target : List ℕ
  pub minor : ℕ
  pub fields : List Pair

abbrev pub head_of : RequestHead → Head
head_of head = record { method = head.method; target = head.target; minor = head.minor; fields = map name_and_value head.fields }

abbrev pub is_get : Head → Bool
is_get head = bytes_eq head.method (codes "GET")

abbrev pub is_post : Head → Bool
is_post head = bytes_eq head.method (codes "POST")

abbrev pub hosts : Head → List (List ℕ)
hosts head = values_of (codes "host") head.fields

abbrev pub codings : Head → List (List ℕ)
codings head = values_of (codes "transfer-encoding") head.fields

abbrev pub sizes : Head → List (List ℕ)
sizes head = values_of (codes "content-length") head.fields

-- ---- points

-- whether the point holds, and the status with which the request is then refused
abbrev pub Point : Type 0
Point = Bool × ℕ

-- the status of the first point that holds
abbrev pub refusal : List Point → Option ℕ
refusal [] = None
refusal (point ∷ points) = if point.0 then Some point.1 else refusal points

-- of each request
abbrev pub early_points : Head → List Point
early_points head =
    (nat_lt 64 (length head.fields), 431)
    ∷ ((head.minor == 1) && not (length (hosts head) == 1), 400)
    ∷ (nat_lt 0 (length (codings head)), 501)
    ∷ (not (is_get head || is_post head), 405)
    ∷ (not (begins_with_slash head.target), 400)
    ∷ []

-- of each request, whose target has this path
abbrev pub service_points : List (List ℕ) → List ℕ → List Point
service_points services path = (is_none (service_at services path), 404) ∷ []

-- of a load: the query is neither absent, nor empty, nor `a=` and a text
abbrev pub load_points : Option (List ℕ) → List Point
load_points query = (is_none (arguments_in query), 400) ∷ []

-- of a call: there is a query, or there isn't one size of the body that is small enough
abbrev pub post_points : Option (List ℕ) → List (List ℕ) → List Point
post_points query sizes =
    (is_some query, 400)
    ∷ (length sizes == 0, 411)
    ∷ (not (are_one_size sizes), 400)
    ∷ (nat_lt 4194304 (size_in sizes), 413)
    ∷ []

abbrev pub method_points : Head → List Point
method_points head =
    if is_get head then load_points (query_of head.target) else post_points (query_of head.target) (sizes head)

-- the points by which a head decides by itself, in their order
abbrev pub head_points : List (List ℕ) → Head → List Point
head_points services head = early_points head ++ (service_points services (path_of head.target) ++ method_points head)

-- ---- what is asked for where no point holds

-- a load of this service, with this query
abbrev pub load_of : List ℕ → Option (List ℕ) → Decision
load_of service query = Load service (unwrap_or (arguments_in query) [])

-- a call of this service, with a body of this size
abbrev pub post_of : List ℕ → List (List ℕ) → Decision
post_of service sizes = Post service (size_in sizes)

abbrev pub method_of : List ℕ → Head → Decision
method_of service head = if is_get head then load_of service (query_of head.target) else post_of service (sizes head)

abbrev pub asked_by : List (List ℕ) → Head → Decision
asked_by services head = method_of (unwrap_or (service_at services (path_of head.target)) []) head

abbrev pub unless : Option ℕ → Decision → Decision
unless None asked = asked
unless (Some status) asked = Refused status

-- what the head decides
abbrev pub decision : List (List ℕ) → Head → Decision
decision services head = unless (refusal (head_points services head)) (asked_by services head)
