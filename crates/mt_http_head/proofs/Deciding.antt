-- What the points of a list decide together, and what is known of a head that was parsed.
use Rattle.std.proofs.Common.{◌≡◌, ℕ, ◌+◌, ◌<◌, ◌≤◌, Bool, true, false, List, [], ◌∷◌, ◌++◌, length, take, drop, map, Option, Some, None, Result, Err, All, cond, refl, sym, ap, ◌∙◌, subst, arith}
use Rattle.std.proofs.lemmas.List.{length-append}
use Rattle.std.proofs.lemmas.List.Elements.{All-weaker}
use Rattle.std.specs.List.{flat_map}
use Rattle.std.specs.Option.{is_none, unwrap_or}
use Rattle.httparse.specs.declared.Error.{Error}
use Rattle.httparse.specs.declared.Error.TheVariants.{TooManyHeaders}
use Rattle.httparse.specs.declared.Status.{Status}
use Rattle.httparse.specs.declared.spans.HeaderSpan.{HeaderSpan}
use Rattle.httparse.specs.declared.spans.RequestSpans.{RequestSpans}
use Rattle.httparse.specs.Grammar.{RequestHead, Field, print_blank, print_version, print_field, print_request, print_section, print_end, NeverHasRequest}
use Rattle.httparse.specs.Outcome.{OnInvalid, OnTooManyHeaders}
use Rattle.httparse.specs.Spans.{IsHeaderWithin, IsRequestAt, IsRequestOf, RequestExceeds, span_bytes, header_bytes}
use Rattle.httparse.proofs.GrammarLemmas.{print_request-append}
use Rattle.mt_http_head.specs.declared.decision.Decision.{Decision}
use Rattle.mt_http_head.specs.declared.decision.Decision.TheVariants.{Refused}
use Rattle.mt_http_head.specs.declared.decision.HeadStatus.TheVariants.{Complete}
use Rattle.mt_http_head.specs.declared.parts.Parts.{Parts}
use Rattle.mt_http_head.specs.Parsed.{IsDecided, seen}
use Rattle.mt_http_head.specs.Points.{Head, Point, asked_by, decision, early_points, head_of, is_get, load_of, load_points, method_of, method_points}
use Rattle.mt_http_head.specs.Points.{post_of, post_points, refusal, service_points, sizes, unless}
use Rattle.mt_http_head.specs.Targets.{path_of, query_of, service_at}

step_behind : (p : Point) (xs ys : List Point) (holds : Bool) → cond holds (Some p.1) (refusal xs) ≡ None → (refusal xs ≡ None → refusal (xs ++ ys) ≡ refusal ys)
    → cond holds (Some p.1) (refusal (xs ++ ys)) ≡ refusal ys
step_behind p xs ys true none rest = absurd (let no : Some p.1 ≡ None = none in cc)
step_behind p xs ys false none rest = rest none

-- the list goes on where none of its front holds
pub refusal_behind : (xs ys : List Point) → refusal xs ≡ None → refusal (xs ++ ys) ≡ refusal ys
refusal_behind [] ys none = refl
refusal_behind (p ∷ xs) ys none = step_behind p xs ys p.0 none (λ rest. refusal_behind xs ys rest)

step_front : (p : Point) (xs ys : List Point) (status : ℕ) (holds : Bool) → cond holds (Some p.1) (refusal xs) ≡ Some status
    → (refusal xs ≡ Some status → refusal (xs ++ ys) ≡ Some status) → cond holds (Some p.1) (refusal (xs ++ ys)) ≡ Some status
step_front p xs ys status true some rest = some
step_front p xs ys status false some rest = rest some

-- the front decides where one of it holds
pub refusal_in_front : (xs ys : List Point) (status : ℕ) → refusal xs ≡ Some status → refusal (xs ++ ys) ≡ Some status
refusal_in_front [] ys status some = absurd (let no : None ≡ Some status = some in cc)
refusal_in_front (p ∷ xs) ys status some = step_front p xs ys status p.0 some (λ rest. refusal_in_front xs ys status rest)

-- ---- each field takes a byte or more

fields_take : (fields : List Field) → length fields ≤ length (flat_map print_field fields)
fields_take [] = omega arith
fields_take (f ∷ fields) =
    let rest = fields_take fields in
    let whole : length (flat_map print_field (f ∷ fields)) ≡ length (print_field f) + length (flat_map print_field fields) =
    length-append (print_field f) (flat_map print_field fields) in
    let front : length (print_field f) ≡ length (f.name ++ 58 ∷ f.raw) + length (print_end f.end) = length-append (f.name ++ 58 ∷ f.raw) (print_end f.end) in
    let named : length (f.name ++ 58 ∷ f.raw) ≡ length f.name + length (58 ∷ f.raw) = length-append f.name (58 ∷ f.raw) in
    omega (arith, rest, whole, front, named)

-- a head has more bytes than fields
pub fields_fit : (head : RequestHead) → length head.fields < length (print_request head)
fields_fit head =
    let section = print_section head.fields head.last ++ [] in
    let ended = print_end head.line_end ++ section in
    let version = print_version head.minor ++ ended in
    let target = head.target ++ 32 ∷ version in
    let method = head.method ++ 32 ∷ target in
    let whole : length (print_request head ++ []) ≡ length (print_blank head.blank ++ method) = ap length (print_request-append head []) in
    let none : length (print_request head ++ []) ≡ length (print_request head) + 0 = length-append (print_request head) [] in
    let a : length (print_blank head.blank ++ method) ≡ length (print_blank head.blank) + length method = length-append (print_blank head.blank) method in
    let b : length method ≡ length head.method + length (32 ∷ target) = length-append head.method (32 ∷ target) in
    let c : length target ≡ length head.target + length (32 ∷ version) = length-append head.target (32 ∷ version) in
    let d : length version ≡ length (print_version head.minor) + length ended = length-append (print_version head.minor) ended in
    let e : length ended ≡ length (print_end head.line_end) + length section = length-append (print_end head.line_end) section in
    let f : length section ≡ length (print_section head.fields head.last) + 0 = length-append (print_section head.fields head.last) [] in
    let g : length (print_section head.fields head.last) ≡ length (flat_map print_field head.fields) + length (print_end head.last) =
    length-append (flat_map print_field head.fields) (print_end head.last) in
    let h = fields_take head.fields in
    omega (arith, whole, none, a, b, c, d, e, f, g, h)

never_exceeds : (bytes : List ℕ) → RequestExceeds (length bytes) bytes → ⊥
never_exceeds bytes exceeds =
    let front = exceeds.0 in
    let head = exceeds.3 in
    let sizes : length bytes ≡ length (front ++ exceeds.1) = ap length exceeds.2 in
    let parts : length (front ++ exceeds.1) ≡ length front + length exceeds.1 = length-append front exceeds.1 in
    let ended : length (front ++ 10 ∷ []) ≡ length (print_request head ++ []) = ap length exceeds.4.1 in
    let a : length (front ++ 10 ∷ []) ≡ length front + 1 = length-append front (10 ∷ []) in
    let b : length (print_request head ++ []) ≡ length (print_request head) + 0 = length-append (print_request head) [] in
    let fields = fields_fit head in
    let over : length bytes < length head.fields = exceeds.5 in
    omega (arith, sizes, parts, ended, a, b, fields, over)

pub invalid : (bytes : List ℕ) (room : ℕ) (r : Result (Status RequestSpans) Error) (e : Error) → r ≡ Err e → room ≡ length bytes
    → OnInvalid r (NeverHasRequest bytes) → OnTooManyHeaders r (RequestExceeds room bytes) → NeverHasRequest bytes
invalid bytes room r e is same never exceeds =
    subst (λ (x : Result (Status RequestSpans) Error). OnInvalid x (NeverHasRequest bytes)) is never
    (λ (many : e ≡ TooManyHeaders). never_exceeds bytes (subst (λ (n : ℕ). RequestExceeds n bytes) same (exceeds (is ∙ ap Err many))))

-- ---- a head that was parsed

pub within_more : (n m : ℕ) (spans : List HeaderSpan) → n ≤ m → All (IsHeaderWithin n) spans → All (IsHeaderWithin m) spans
within_more n m spans le within = All-weaker (IsHeaderWithin n) (IsHeaderWithin m) wider spans within
  where
    wider : (span : HeaderSpan) → IsHeaderWithin n span → IsHeaderWithin m span
    wider span fits =
        let name = fits.0.1 in
        let value = fits.1.1 in
        ((fits.0.0, omega (arith, le, name)), (fits.1.0, omega (arith, le, value)))

-- what matters of a head, by its spans
abbrev pub parsed_head : List ℕ → List HeaderSpan → RequestSpans → List ℕ → List ℕ → Head
parsed_head bytes spans r method target =
    record { method = method; target = target; minor = r.version; fields = map (header_bytes bytes) (take r.headers spans) }

pub seen_is : (bytes : List ℕ) (spans : List HeaderSpan) (r : RequestSpans) (method target : List ℕ) → method ≡ span_bytes bytes r.method → target ≡ span_bytes bytes r.path
    → (head : RequestHead) → IsRequestAt bytes spans r head → parsed_head bytes spans r method target ≡ head_of head
seen_is bytes spans r method target is_method is_target head at =
    let m = is_method ∙ at.method in
    let t = is_target ∙ at.path in
    λ i. record { method = m i; target = t i; minor = at.version i; fields = at.fields i }

pub decided : (services : List (List ℕ)) (bytes : List ℕ) (spans : List HeaderSpan) (r : RequestSpans) (parts : Parts) (made : Decision)
    → IsRequestOf bytes spans r → ((head : RequestHead) → IsRequestAt bytes spans r head → seen parts ≡ head_of head) → made ≡ decision services (seen parts)
    → IsDecided services bytes (Complete made)
decided services bytes spans r parts made found is said =
    (found.0, drop r.len bytes, found.1.reads, said ∙ ap (decision services) (is found.0 found.1))

-- ---- what is decided at each point

pub early : (services : List (List ℕ)) (head : Head) (status : ℕ) → refusal (early_points head) ≡ Some status → Refused status ≡ decision services head
early services head status some =
    let rest = service_points services (path_of head.target) ++ method_points head in
    sym (ap (λ (o : Option ℕ). unless o (asked_by services head)) (refusal_in_front (early_points head) rest status some))

passed : (services : List (List ℕ)) (head : Head) → refusal (early_points head) ≡ None
    → decision services head ≡ unless (refusal (service_points services (path_of head.target) ++ method_points head)) (asked_by services head)
passed services head none =
    let rest = service_points services (path_of head.target) ++ method_points head in
    ap (λ (o : Option ℕ). unless o (asked_by services head)) (refusal_behind (early_points head) rest none)

abbrev at_service : Option (List ℕ) → Head → Decision
at_service found head = unless (refusal ((is_none found, 404) ∷ method_points head)) (method_of (unwrap_or found []) head)

pub no_service : (services : List (List ℕ)) (head : Head) → refusal (early_points head) ≡ None → service_at services (path_of head.target) ≡ None
    → Refused 404 ≡ decision services head
no_service services head none missing = sym (passed services head none ∙ ap (λ (o : Option (List ℕ)). at_service o head) missing)

abbrev by_method : Bool → List ℕ → Head → Decision
by_method gets service head =
    let query = query_of head.target in
    unless (refusal (cond gets (load_points query) (post_points query (sizes head)))) (cond gets (load_of service query) (post_of service (sizes head)))

pub of_service : (services : List (List ℕ)) (head : Head) (service : List ℕ) (gets : Bool) → refusal (early_points head) ≡ None
    → service_at services (path_of head.target) ≡ Some service → is_get head ≡ gets → decision services head ≡ by_method gets service head
of_service services head service gets none found method =
    passed services head none ∙ ap (λ (o : Option (List ℕ)). at_service o head) found ∙ ap (λ (b : Bool). by_method b service head) method

pub is_load : (services : List (List ℕ)) (head : Head) (service : List ℕ) (query : Option (List ℕ)) (made : Decision) → refusal (early_points head) ≡ None
    → service_at services (path_of head.target) ≡ Some service → is_get head ≡ true → query ≡ query_of head.target
    → made ≡ unless (refusal (load_points query)) (load_of service query) → made ≡ decision services head
is_load services head service query made none found method same said =
    said ∙ ap (λ (q : Option (List ℕ)). unless (refusal (load_points q)) (load_of service q)) same ∙ sym (of_service services head service true none found method)

pub is_post_of : (services : List (List ℕ)) (head : Head) (service : List ℕ) (query : Option (List ℕ)) (made : Decision) → refusal (early_points head) ≡ None
    → service_at services (path_of head.target) ≡ Some service → is_get head ≡ false → query ≡ query_of head.target
    → made ≡ unless (refusal (post_points query (sizes head))) (post_of service (sizes head)) → made ≡ decision services head
is_post_of services head service query made none found method same said =
    said ∙ ap (λ (q : Option (List ℕ)). unless (refusal (post_points q (sizes head))) (post_of service (sizes head))) same
    ∙ sym (of_service services head service false none found method)
