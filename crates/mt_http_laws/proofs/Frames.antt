-- What frames ask for: their targets name a service and its arguments.
use Rattle.std.proofs.Common.{◌≡◌, ℕ, true, List, [], ◌∷◌, ◌++◌, encode_utf8_all, All, Option, Some, refl, ap, ◌∙◌, subst, rules}
use Rattle.std.proofs.lemmas.Bool.{and_parts, cond-false}
use Rattle.std.proofs.lemmas.List.{append-nil}
use Rattle.std.proofs.lemmas.Str.{encodes-chars, scalars-chars}
use Rattle.std.specs.List.{find, list_all}
use Rattle.std.specs.Str.{IsUtf8, all_scalars, chars}
use Rattle.percent_encoding.proofs.PercentLemmas.{IsByte}
use Rattle.mt_tree.specs.declared.data.Data.{Data, the_lemmas}
use Rattle.mt_tree.specs.declared.data.Data as made
use Rattle.mt_syntax.specs.Data.{is_data}
use Rattle.mt_syntax.specs.DataText.{arguments_text, data_text}
use Rattle.mt_syntax_laws.proofs.Utf8.{data_utf8}
use Rattle.mt_json.proofs.DataLevels.{data_of_items}
use Rattle.mt_http_request.specs.Escapes.{escaped}
use Rattle.mt_http_request.specs.Targets.{call_target, service_path}
use Rattle.mt_http_request.proofs.Escaping.{read_again}
use Rattle.mt_http_request.proofs.Requests.{small_bytes}
use Rattle.mt_http_head.specs.Targets.{arguments_in, has_name, path_of, query_of, service_at}
use Rattle.mt_http_laws.specs.Decided.{load_by, load_of}
use Rattle.mt_http_laws.proofs.Posts.{is_path_byte, no_query, no_question_mark, path_bytes}

pub service_found : (services : List (List ℕ)) (service : List ℕ) → all_scalars service ≡ true
    → service_at services (service_path service) ≡ find (has_name (encode_utf8_all service)) services
service_found services service scalars =
    ap (λ (name : List ℕ). find (has_name name) services) (read_again (encode_utf8_all service) (small_bytes service scalars))

-- ---- the text of arguments

bytes_of_utf8 : (bs : List ℕ) → IsUtf8 bs → All IsByte bs
bytes_of_utf8 bs utf8 = subst (All IsByte) (encodes-chars bs utf8) (small_bytes (chars bs) (scalars-chars bs utf8))

text_of_array : (ds : List Data) → data_text (made.Arr ds) ≡ arguments_text ds
text_of_array ds = search (rules, the_lemmas)

arguments_are_bytes : (ds : List Data) → list_all is_data ds ≡ true → All IsByte (arguments_text ds)
arguments_are_bytes ds all = bytes_of_utf8 (arguments_text ds) (subst IsUtf8 (text_of_array ds) (data_utf8 (made.Arr ds) (data_of_items ds ∙ all)))

-- ---- the target

with_query : (bs more : List ℕ) → list_all is_path_byte bs ≡ true → (path_of (bs ++ 63 ∷ more) ≡ bs) × (query_of (bs ++ 63 ∷ more) ≡ Some more)
with_query [] more e = (refl, refl)
with_query (b ∷ bs) more e =
    let both = and_parts (is_path_byte b) (list_all is_path_byte bs) e in
    let plain = no_question_mark b both.0 in
    let rest = with_query bs more both.1 in
    (cond-false _ _ _ plain ∙ ap (λ (l : List ℕ). b ∷ l) rest.0, cond-false _ _ _ plain ∙ rest.1)

pub frame_asks : (services : List (List ℕ)) (service : List ℕ) (arguments : List Data) → list_all is_data arguments ≡ true
    → load_by services (call_target service arguments) ≡ load_of (service_at services (service_path service)) (Some (arguments_text arguments))
frame_asks services service [] all =
    let path = service_path service in
    let parts = no_query path (path_bytes service) in
    ap (load_by services) (append-nil path)
    ∙ ap (λ (p : List ℕ). load_of (service_at services p) (arguments_in (query_of path))) parts.0
    ∙ ap (λ (q : Option (List ℕ)). load_of (service_at services path) (arguments_in q)) parts.1
frame_asks services service (d ∷ ds) all =
    let path = service_path service in
    let text = arguments_text (d ∷ ds) in
    let target = path ++ 63 ∷ 97 ∷ 61 ∷ escaped text in
    let parts = with_query path (97 ∷ 61 ∷ escaped text) (path_bytes service) in
    ap (λ (p : List ℕ). load_of (service_at services p) (arguments_in (query_of target))) parts.0
    ∙ ap (λ (q : Option (List ℕ)). load_of (service_at services path) (arguments_in q)) parts.1
    ∙ ap (λ (t : List ℕ). load_of (service_at services path) (Some t)) (read_again text (arguments_are_bytes (d ∷ ds) all))
