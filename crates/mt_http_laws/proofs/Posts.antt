-- The text of a call is a head of the grammar and a body, and decides what is called.
use Rattle.std.proofs.Common.{◌≡◌, ◌≤◌, ◌<◌, ◌+◌, ◌^◌, ℕ, Bool, true, false, not, ◌||◌, ◌&&◌, ◌==◌, nat_le, nat_lt, List, []}
use Rattle.std.proofs.Common.{◌∷◌, ◌++◌, length, reverse, codes, decimal, encode_utf8_all, Option, Some, None, refl, sym, ap, ◌∙◌, subst, arith, append_assoc}
use Rattle.std.proofs.lemmas.Bool.{agree_below, agree_below_at, and_parts, and_from, cond-false}
use Rattle.std.proofs.lemmas.Bool.Decides.{nat_tests}
use Rattle.std.proofs.lemmas.Fmt.{decimal_is_IsNumeral, decimal_nonempty, length-decimal-le}
use Rattle.std.proofs.lemmas.List.{append-nil, length-append, take_all}
use Rattle.std.proofs.lemmas.List.Elements.{All-cons, All-nil}
use Rattle.std.proofs.lemmas.List.Sums.{AllPass-from_list_all, list_all-from_AllPass}
use Rattle.std.proofs.lemmas.Str.{IsUtf8-from_ascii}
use Rattle.std.proofs.lemmas.Str.Ascii.{IsAscii-cons, IsAscii-nil}
use Rattle.std.specs.Char.{is_ascii_digit}
use Rattle.std.specs.List.{list_all}
use Rattle.std.specs.Str.{IsAscii}
use Rattle.std.specs.Str.Parse.{digits_value}
use Rattle.httparse.specs.Grammar.{Field, IsField, IsRequestHead, ReadsRequest, RequestHead, crlf, is_ows, is_token_byte, is_uri_byte, is_value_byte, print_field, print_request, skip_ows, trim_ows}
use Rattle.httparse.proofs.GrammarLemmas.{print_request-append, request_unique}
use Rattle.httparse.proofs.TrimLemmas.{AllPass-reverse, trim_ows_space}
use Rattle.mt_tree.specs.Tables.{is_digit}
use Rattle.mt_http_types.proofs.Runs.{all_weaker, decimal_digits}
use Rattle.mt_http_request.specs.Escapes.{escaped}
use Rattle.mt_http_request.specs.Targets.{service_path}
use Rattle.mt_http_request.specs.RequestText.{post_end, post_head, post_middle}
use Rattle.mt_http_request.proofs.Escaping.{escaped_bytes, is_escaped_byte}
use Rattle.mt_http_head.specs.Fields.{is_size}
use Rattle.mt_http_head.specs.Points.{decision, early_points, head_of, post_points, refusal, sizes, unless}
use Rattle.mt_http_head.specs.Points as points
use Rattle.mt_http_head.specs.Targets.{path_of, query_of, service_at}
use Rattle.mt_http_head.specs.declared.decision.Decision.{Decision}
use Rattle.mt_http_head.specs.declared.decision.Decision.TheVariants as decided
use Rattle.mt_http_head.proofs.Deciding.{no_service, of_service}
use Rattle.mt_http_stream.specs.Settling.{IsFound, Settles, head_limit, settled_behind}
use Rattle.mt_http_stream.specs.declared.settled.Settled.TheVariants as settled
use Rattle.mt_http_laws.specs.Decided.{post_by, post_of}
use Rattle.mt_http_laws.proofs.Loads.{closing, closing_is, host, host_is, is_field}

-- ---- the head of a call

abbrev typed : Field
typed = record { name = codes "Content-Type"; raw = codes " application/json"; end = crlf }

abbrev sized : ℕ → Field
sized n = record { name = codes "Content-Length"; raw = 32 ∷ decimal n; end = crlf }

abbrev call_head : List ℕ → ℕ → RequestHead
call_head path n =
    record { blank = []; method = codes "POST"; target = path; minor = 1; line_end = crlf; fields = host ∷ typed ∷ sized n ∷ closing ∷ []; last = crlf }

behind_size : (digits : List ℕ) → (((digits ++ 13 ∷ 10 ∷ []) ++ (print_field closing ++ [])) ++ 13 ∷ 10 ∷ []) ++ [] ≡ digits ++ post_end
unfolding post_end
behind_size digits =
    append-nil (((digits ++ 13 ∷ 10 ∷ []) ++ (print_field closing ++ [])) ++ 13 ∷ 10 ∷ [])
    ∙ append_assoc (digits ++ 13 ∷ 10 ∷ []) (print_field closing ++ []) (13 ∷ 10 ∷ [])
    ∙ append_assoc digits (13 ∷ 10 ∷ []) ((print_field closing ++ []) ++ 13 ∷ 10 ∷ [])

prints_with_nil : (service : List ℕ) (n : ℕ) → print_request (call_head (service_path service) n) ++ [] ≡ post_head service n
unfolding post_middle
prints_with_nil service n =
    print_request-append (call_head (service_path service) n) []
    ∙ ap (λ (l : List ℕ). codes "POST " ++ (service_path service ++ (post_middle ++ l))) (behind_size (decimal n))

prints_call : (service : List ℕ) (n : ℕ) → print_request (call_head (service_path service) n) ≡ post_head service n
prints_call service n = sym (append-nil (print_request (call_head (service_path service) n))) ∙ prints_with_nil service n

-- ---- bytes of a path

abbrev pub is_path_byte : ℕ → Bool
is_path_byte b = is_escaped_byte b || b == 47

pub path_bytes : (service : List ℕ) → list_all is_path_byte (service_path service) ≡ true
path_bytes service =
    all_weaker is_escaped_byte is_path_byte (λ b e. subst (λ (x : Bool). (x || b == 47) ≡ true) (sym e) refl)
    (escaped (encode_utf8_all service)) (escaped_bytes (encode_utf8_all service))

path_low : (b : ℕ) → is_path_byte b ≡ true → b < 128
path_low b e = grind (arith, nat_tests)

byte_is : (p q : ℕ → Bool) → agree_below (λ b. not (p b) || q b) (λ b. true) 128 ≡ true → (b : ℕ) → b < 128 → p b ≡ true → q b ≡ true
byte_is p q table b low e = subst (λ (x : Bool). (not x || q b) ≡ true) e (agree_below_at (λ b. not (p b) || q b) (λ b. true) 128 b table low)

uri_table : agree_below (λ b. not (is_path_byte b) || is_uri_byte b) (λ b. true) 128 ≡ true
uri_table = refl

plain_table : agree_below (λ b. not (is_path_byte b) || not (b == 63)) (λ b. true) 128 ≡ true
plain_table = refl

all_low : (bs : List ℕ) → list_all is_path_byte bs ≡ true → IsAscii bs
all_low [] e = IsAscii-nil
all_low (b ∷ bs) e = let both = and_parts (is_path_byte b) (list_all is_path_byte bs) e in IsAscii-cons b bs (path_low b both.0) (all_low bs both.1)

not_is : (x : Bool) → not x ≡ true → x ≡ false
not_is true e = absurd (let no : false ≡ true = e in cc)
not_is false e = refl

pub no_question_mark : (b : ℕ) → is_path_byte b ≡ true → (b == 63) ≡ false
no_question_mark b e = not_is (b == 63) (byte_is is_path_byte (λ b. not (b == 63)) plain_table b (path_low b e) e)

pub no_query : (bs : List ℕ) → list_all is_path_byte bs ≡ true → (path_of bs ≡ bs) × (query_of bs ≡ None)
no_query [] e = (refl, refl)
no_query (b ∷ bs) e =
    let both = and_parts (is_path_byte b) (list_all is_path_byte bs) e in
    let plain = no_question_mark b both.0 in
    let rest = no_query bs both.1 in
    (cond-false _ _ _ plain ∙ ap (λ (l : List ℕ). b ∷ l) rest.0, cond-false _ _ _ plain ∙ rest.1)

-- ---- the length

digit_low : (b : ℕ) → is_digit b ≡ true → b < 128
digit_low b e = grind (arith, nat_tests)

value_table : agree_below (λ b. not (is_digit b) || is_value_byte b) (λ b. true) 128 ≡ true
value_table = refl

ascii_table : agree_below (λ b. not (is_digit b) || is_ascii_digit b) (λ b. true) 128 ≡ true
ascii_table = refl

dense_table : agree_below (λ b. not (is_digit b) || not (is_ows b)) (λ b. true) 128 ≡ true
dense_table = refl

none_skipped : (ds : List ℕ) → list_all is_digit ds ≡ true → skip_ows ds ≡ ds
none_skipped [] e = refl
none_skipped (d ∷ ds) e =
    let digit = (and_parts (is_digit d) (list_all is_digit ds) e).0 in
    cond-false _ _ _ (not_is (is_ows d) (byte_is is_digit (λ b. not (is_ows b)) dense_table d (digit_low d digit) digit))

length_told : (n : ℕ) → n < 2 ^ 64 → trim_ows (32 ∷ decimal n) ≡ decimal n
length_told n small =
    let digits = decimal_digits n small in
    let back = list_all-from_AllPass is_digit (reverse (decimal n)) (AllPass-reverse is_digit (decimal n) (AllPass-from_list_all is_digit (decimal n) digits)) in
    trim_ows_space (decimal n) (none_skipped (decimal n) digits) (none_skipped (reverse (decimal n)) back)

length_is_size : (n : ℕ) → n ≤ 4194304 → is_size (decimal n) ≡ true
length_is_size n small =
    let some : 0 < length (decimal n) = decimal_nonempty n (omega (arith, small)) in
    let few : length (decimal n) ≤ 10 = length-decimal-le 10 n (omega arith) (omega (arith, small)) (omega (arith, small)) in
    let filled : nat_lt 0 (length (decimal n)) ≡ true = grind (arith, nat_tests, some) in
    let short : nat_le (length (decimal n)) 10 ≡ true = grind (arith, nat_tests, few) in
    let digits : list_all is_ascii_digit (decimal n) ≡ true =
    all_weaker is_digit is_ascii_digit (λ b e. byte_is is_digit is_ascii_digit ascii_table b (digit_low b e) e) (decimal n) (decimal_digits n (omega (arith, small))) in
    and_from (nat_lt 0 (length (decimal n))) (nat_le (length (decimal n)) 10 && list_all is_ascii_digit (decimal n)) filled
    (and_from (nat_le (length (decimal n)) 10) (list_all is_ascii_digit (decimal n)) short digits)

-- ---- the head is one of the grammar

typed_is : IsField typed
unfolding is_token_byte
typed_is = is_field typed refl refl

sized_is : (n : ℕ) → n < 2 ^ 64 → IsField (sized n)
unfolding is_token_byte
sized_is n small =
    is_field (sized n) refl (all_weaker is_digit is_value_byte (λ b e. byte_is is_digit is_value_byte value_table b (digit_low b e) e) (decimal n) (decimal_digits n small))

call_is : (service : List ℕ) (n : ℕ) → n < 2 ^ 64 → IsRequestHead (call_head (service_path service) n)
unfolding is_token_byte
call_is service n small = record {
  method = (omega arith, AllPass-from_list_all is_token_byte (codes "POST") refl);
  target = (
    omega arith,
    AllPass-from_list_all is_uri_byte (service_path service)
        (all_weaker is_path_byte is_uri_byte (λ b e. byte_is is_path_byte is_uri_byte uri_table b (path_low b e) e) (service_path service) (path_bytes service)),
  );
  target_text = IsUtf8-from_ascii (service_path service) (all_low (service_path service) (path_bytes service));
  minor = omega arith;
  fields = All-cons IsField host (typed ∷ sized n ∷ closing ∷ []) host_is
      (All-cons IsField typed (sized n ∷ closing ∷ []) typed_is
      (All-cons IsField (sized n) (closing ∷ []) (sized_is n small) (All-cons IsField closing [] closing_is (All-nil IsField))));
}

call_reads : (service : List ℕ) (n : ℕ) (text : List ℕ) → n < 2 ^ 64 → ReadsRequest (post_head service n ++ text) (call_head (service_path service) n) text
call_reads service n text small = (call_is service n small, ap (λ (l : List ℕ). l ++ text) (sym (prints_call service n)))

-- ---- what it decides

call_early : (service : List ℕ) (n : ℕ) → refusal (early_points (head_of (call_head (service_path service) n))) ≡ None
call_early service n = refl

by_size : (service value : List ℕ) (query : Option (List ℕ)) (n : ℕ) → query ≡ None → is_size value ≡ true → digits_value 10 value ≡ n → nat_lt 4194304 n ≡ false
    → unless (refusal (post_points query (value ∷ []))) (points.post_of service (value ∷ [])) ≡ decided.Post service n
by_size service value query n none is told small =
    ap (λ (q : Option (List ℕ)). unless (refusal (post_points q (value ∷ []))) (points.post_of service (value ∷ []))) none
    ∙ ap (λ (x : Bool). unless (refusal ((not x, 400) ∷ (nat_lt 4194304 (digits_value 10 value), 413) ∷ [])) (decided.Post service (digits_value 10 value))) is
    ∙ ap (λ (m : ℕ). unless (refusal ((nat_lt 4194304 m, 413) ∷ [])) (decided.Post service m)) told
    ∙ ap (λ (x : Bool). unless (refusal ((x, 413) ∷ [])) (decided.Post service n)) small

-- with its service, where there is one
abbrev at_service : Option (List ℕ) → ℕ → Decision
at_service None n = decided.Refused 404
at_service (Some service) n = decided.Post service n

call_decides : (services : List (List ℕ)) (service : List ℕ) (n : ℕ) → n ≤ 4194304 → (found : Option (List ℕ)) → service_at services (service_path service) ≡ found
    → decision services (head_of (call_head (service_path service) n)) ≡ at_service found n
call_decides services service n small None found =
    sym (no_service services (head_of (call_head (service_path service) n)) (call_early service n) (ap (service_at services) (no_query (service_path service) (path_bytes service)).0 ∙ found))
call_decides services service n small (Some known) found =
    let head = head_of (call_head (service_path service) n) in
    let parts = no_query (service_path service) (path_bytes service) in
    let value = trim_ows (32 ∷ decimal n) in
    let told : value ≡ decimal n = length_told n (omega (arith, small)) in
    let is : is_size value ≡ true = ap is_size told ∙ length_is_size n small in
    let worth : digits_value 10 value ≡ n = ap (digits_value 10) told ∙ (decimal_is_IsNumeral n (omega (arith, small))).1 in
    let fits : nat_lt 4194304 n ≡ false = grind (arith, nat_tests, small) in
    of_service services head known false (call_early service n) (ap (service_at services) parts.0 ∙ found) refl
    ∙ by_size known value (query_of (service_path service)) n parts.1 is worth fits

behind_text : (found : Option (List ℕ)) (text : List ℕ) → settled_behind (at_service found (length text)) text ≡ Some (post_of found text)
behind_text None text = refl
behind_text (Some service) text =
    let whole : nat_lt (length text) (length text) ≡ false = grind (arith, nat_tests) in
    cond-false _ _ _ whole ∙ ap (λ (l : List ℕ). Some (settled.Post service l)) (take_all (length text) text (omega arith))

short_settles : (services : List (List ℕ)) (service text : List ℕ) → length text ≤ 4194304 → length (post_head service (length text)) ≤ head_limit
    → Settles services (post_head service (length text) ++ text) (Some (post_of (service_at services (service_path service)) text))
short_settles services service text small short = (
  Some (call_head (service_path service) (length text), text),
  (call_reads service (length text) text (omega (arith, small)), subst (λ (l : List ℕ). length l ≤ head_limit) (sym (prints_call service (length text))) short),
  ap (λ (d : Decision). settled_behind d text) (call_decides services service (length text) small (service_at services (service_path service)) refl)
      ∙ behind_text (service_at services (service_path service)) text,
)

none_found : (service text : List ℕ) → length text ≤ 4194304 → head_limit < length (post_head service (length text)) → IsFound (post_head service (length text) ++ text) None
none_found service text small long head rest is =
    let written = call_head (service_path service) (length text) in
    let same = request_unique (post_head service (length text) ++ text) head written rest text is (call_reads service (length text) text (omega (arith, small))) in
    let size : length (print_request head) ≡ length (post_head service (length text)) =
    ap (λ (h : RequestHead). length (print_request h)) same.0 ∙ ap length (prints_call service (length text)) in
    omega (arith, size, long)

long_settles : (services : List (List ℕ)) (service text : List ℕ) → length text ≤ 4194304 → head_limit < length (post_head service (length text))
    → Settles services (post_head service (length text) ++ text) (Some (settled.Refused 431))
long_settles services service text small long =
    let sizes : length (post_head service (length text) ++ text) ≡ length (post_head service (length text)) + length text = length-append (post_head service (length text)) text in
    let full : nat_lt (length (post_head service (length text) ++ text)) head_limit ≡ false = grind (arith, nat_tests, sizes, long) in
    (None, none_found service text small long, cond-false _ _ _ full)

by_head : (services : List (List ℕ)) (service text : List ℕ) (long : Bool) → length text ≤ 4194304 → nat_lt head_limit (length (post_head service (length text))) ≡ long
    → Settles services (post_head service (length text) ++ text) (Some (post_by long (service_at services (service_path service)) text))
by_head services service text true small is = long_settles services service text small (grind (arith, nat_tests, is))
by_head services service text false small is = short_settles services service text small (grind (arith, nat_tests, is))

pub call_settles : (services : List (List ℕ)) (service text : List ℕ) → length text ≤ 4194304
    → Settles services (post_head service (length text) ++ text) (Some (post_by (nat_lt head_limit (length (post_head service (length text)))) (service_at services (service_path service)) text))
call_settles services service text small = by_head services service text (nat_lt head_limit (length (post_head service (length text)))) small refl
