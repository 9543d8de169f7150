-- The text of a load is a head of the grammar, and decides what the target asks for.
use Rattle.std.proofs.Common.{◌≡◌, ◌≤◌, ◌<◌, ◌+◌, ℕ, Bool, true, false, not, ◌||◌, ◌&&◌, ◌==◌, nat_le, nat_lt, List, [], ◌∷◌, ◌++◌, length, codes, Option, Some, None, refl, sym, ap, ◌∙◌, subst, arith}
use Rattle.std.proofs.lemmas.Bool.{agree_below, agree_below_at, and_parts, and_from, eqb-true}
use Rattle.std.proofs.lemmas.Bool.Decides.{nat_tests}
use Rattle.std.proofs.lemmas.List.{length-append}
use Rattle.std.proofs.lemmas.List.Elements.{All-cons, All-nil}
use Rattle.std.proofs.lemmas.List.Sums.{AllPass-from_list_all}
use Rattle.std.specs.List.{list_all}
use Rattle.std.specs.Option.{is_none, unwrap_or}
use Rattle.httparse.specs.Grammar.{AllPass, Field, IsField, IsRequestHead, RequestHead, crlf, is_token, is_token_byte, is_uri_byte, is_value_byte, print_request, trim_ows}
use Rattle.httparse.proofs.GrammarLemmas.{print_request-append}
use Rattle.mt_http_types.specs.Target.{is_target, is_target_byte}
use Rattle.mt_http_types.proofs.Runs.{all_weaker}
use Rattle.mt_http_types.proofs.Targets.{utf8}
use Rattle.mt_http_request.specs.RequestText.{load_end, load_text}
use Rattle.mt_http_head.specs.Points.{decision, early_points, head_of, refusal, unless}
use Rattle.mt_http_head.specs.Targets.{arguments_in, path_of, query_of, service_at}
use Rattle.mt_http_head.specs.declared.decision.Decision.{Decision}
use Rattle.mt_http_head.specs.declared.decision.Decision.TheVariants as decided
use Rattle.mt_http_head.proofs.Deciding.{no_service, of_service}
use Rattle.mt_http_stream.specs.Settling.{Settles, head_limit, settled_behind}
use Rattle.mt_http_laws.specs.Decided.{load_by, load_of}

-- ---- fields

pub is_field : (f : Field) → is_token f.name ≡ true → list_all is_value_byte f.raw ≡ true → IsField f
is_field f name raw =
    let both = and_parts (nat_lt 0 (length f.name)) (list_all is_token_byte f.name) name in
    let some : 0 < length f.name = grind (arith, nat_tests, both.0) in
    record { name = (some, AllPass-from_list_all is_token_byte f.name both.1); raw = AllPass-from_list_all is_value_byte f.raw raw }

abbrev pub host : Field
host = record { name = codes "Host"; raw = codes " localhost"; end = crlf }

abbrev pub closing : Field
closing = record { name = codes "Connection"; raw = codes " close"; end = crlf }

pub host_is : IsField host
unfolding is_token_byte
host_is = is_field host refl refl

pub closing_is : IsField closing
unfolding is_token_byte
closing_is = is_field closing refl refl

-- ---- the head of a load

abbrev load_head : List ℕ → RequestHead
load_head target = record { blank = []; method = codes "GET"; target = target; minor = 1; line_end = crlf; fields = host ∷ closing ∷ []; last = crlf }

prints_load : (target : List ℕ) → print_request (load_head target) ++ [] ≡ load_text target
unfolding load_end
prints_load target = print_request-append (load_head target) []

uri_below : agree_below (λ b. not (is_target_byte b) || is_uri_byte b) (λ b. true) 128 ≡ true
uri_below = refl

below : (b : ℕ) → is_target_byte b ≡ true → b < 128
below b e = grind (arith, nat_tests)

uri_byte : (b : ℕ) → is_target_byte b ≡ true → is_uri_byte b ≡ true
uri_byte b e =
    let test : (not (is_target_byte b) || is_uri_byte b) ≡ true = agree_below_at (λ b. not (is_target_byte b) || is_uri_byte b) (λ b. true) 128 b uri_below (below b e) in
    subst (λ (x : Bool). (not x || is_uri_byte b) ≡ true) e test

slash_first : (b : ℕ) (bs : List ℕ) → is_target (b ∷ bs) ≡ true → b ≡ 47
slash_first b bs e = eqb-true b 47 (and_parts (b == 47) (nat_le (length bs) 8191 && list_all is_target_byte bs) e).0

few_behind : (b : ℕ) (bs : List ℕ) → is_target (b ∷ bs) ≡ true → (length bs ≤ 8191) × (list_all is_target_byte bs ≡ true)
few_behind b bs e =
    let rest = and_parts (nat_le (length bs) 8191) (list_all is_target_byte bs) (and_parts (b == 47) (nat_le (length bs) 8191 && list_all is_target_byte bs) e).1 in
    let few : length bs ≤ 8191 = grind (arith, nat_tests, rest.0) in
    (few, rest.1)

target_is : (target : List ℕ) → is_target target ≡ true → (0 < length target) × AllPass is_uri_byte target
target_is [] e = absurd (let no : false ≡ true = e in cc)
target_is (b ∷ bs) e =
    let slash : is_target_byte b ≡ true = ap is_target_byte (slash_first b bs e) in
    let all : list_all is_target_byte (b ∷ bs) ≡ true = and_from (is_target_byte b) (list_all is_target_byte bs) slash (few_behind b bs e).1 in
    (omega arith, AllPass-from_list_all is_uri_byte (b ∷ bs) (all_weaker is_target_byte is_uri_byte uri_byte (b ∷ bs) all))

target_size : (target : List ℕ) → is_target target ≡ true → length target ≤ 8192
target_size [] e = omega arith
target_size (b ∷ bs) e = let few = (few_behind b bs e).0 in omega (arith, few)

load_is : (target : List ℕ) → is_target target ≡ true → IsRequestHead (load_head target)
unfolding is_token_byte
load_is target e = record {
  method = (omega arith, AllPass-from_list_all is_token_byte (codes "GET") refl);
  target = target_is target e;
  target_text = utf8 target e;
  minor = omega arith;
  fields = All-cons IsField host (closing ∷ []) host_is (All-cons IsField closing [] closing_is (All-nil IsField));
}

load_short : (target : List ℕ) → is_target target ≡ true → length (print_request (load_head target)) ≤ head_limit
unfolding load_end
load_short target e =
    let whole : length (print_request (load_head target) ++ []) ≡ length (codes "GET " ++ (target ++ load_end)) = ap length (prints_load target) in
    let none : length (print_request (load_head target) ++ []) ≡ length (print_request (load_head target)) + 0 = length-append (print_request (load_head target)) [] in
    let front : length (codes "GET " ++ (target ++ load_end)) ≡ 4 + length (target ++ load_end) = length-append (codes "GET ") (target ++ load_end) in
    let back : length (target ++ load_end) ≡ length target + length load_end = length-append target load_end in
    let size = target_size target e in
    omega (arith, whole, none, front, back, size)

-- ---- what it decides

early_slash : (bs : List ℕ) → refusal (early_points (head_of (load_head (47 ∷ bs)))) ≡ None
unfolding trim_ows
early_slash bs = refl

load_early : (target : List ℕ) → is_target target ≡ true → refusal (early_points (head_of (load_head target))) ≡ None
load_early [] e = absurd (let no : false ≡ true = e in cc)
load_early (b ∷ bs) e =
    subst (λ (x : ℕ). refusal (early_points (head_of (load_head (x ∷ bs)))) ≡ None) (sym (slash_first b bs e)) (early_slash bs)

load_decides : (services : List (List ℕ)) (target : List ℕ) → is_target target ≡ true → (service text : Option (List ℕ)) → service_at services (path_of target) ≡ service
    → arguments_in (query_of target) ≡ text → settled_behind (decision services (head_of (load_head target))) [] ≡ Some (load_of service text)
load_decides services target e None text found is =
    ap (λ (d : Decision). settled_behind d []) (sym (no_service services (head_of (load_head target)) (load_early target e) found))
load_decides services target e (Some service) None found is =
    let made = of_service services (head_of (load_head target)) service true (load_early target e) found refl in
    ap (λ (d : Decision). settled_behind d []) (made ∙ ap (λ (t : Option (List ℕ)). unless (refusal ((is_none t, 400) ∷ [])) (decided.Load service (unwrap_or t []))) is)
load_decides services target e (Some service) (Some text) found is =
    let made = of_service services (head_of (load_head target)) service true (load_early target e) found refl in
    ap (λ (d : Decision). settled_behind d []) (made ∙ ap (λ (t : Option (List ℕ)). unless (refusal ((is_none t, 400) ∷ [])) (decided.Load service (unwrap_or t []))) is)

pub load_settles : (services : List (List ℕ)) (target : List ℕ) → is_target target ≡ true → Settles services (load_text target) (Some (load_by services target))
load_settles services target e = (
  Some (load_head target, []),
  ((load_is target e, sym (prints_load target)), load_short target e),
  load_decides services target e (service_at services (path_of target)) (arguments_in (query_of target)) refl refl,
)
