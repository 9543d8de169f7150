-- The head that is found is the head of the grammar.
use Rattle.std.proofs.Common.{◌≡◌, ◌≤◌, ◌<◌, ◌-◌, ℕ, Bool, true, false, not, ◌&&◌, nat_le, nat_lt, List, [], ◌∷◌, ◌++◌, length, map, take, drop, get_or, Some, None, All}
use Rattle.std.proofs.Common.{refl, sym, ap, ◌∙◌, subst, arith, append_assoc, ⊎_elim, inl, inr}
use Rattle.std.proofs.lemmas.Bool.{and_parts, and_from, cases_Bool, cases_lt, cond-true, cond-false, leb-true, le-leb}
use Rattle.std.proofs.lemmas.Bool.Decides.{nat_tests}
use Rattle.std.proofs.lemmas.List.{take-append-drop, take_at}
use Rattle.std.proofs.lemmas.List.Elements.{All-cons, All-head, All-nil, All-tail}
use Rattle.std.proofs.lemmas.List.Sums.{AllPass-from_list_all, list_all-from_AllPass}
use Rattle.std.proofs.lemmas.Slice.Eq.{bytes_eq-Decides}
use Rattle.std.proofs.lemmas.Str.{IsUtf8-from_is_utf8, is_utf8-from_IsUtf8}
use Rattle.std.specs.List.{flat_map, list_all}
use Rattle.std.specs.Str.{bytes_eq, is_utf8}
use Rattle.httparse.specs.Grammar.{Field, IsField, IsRequestHead, LineEnd, ReadsRequest, RequestHead, is_token, is_token_byte, is_uri_byte, is_value_byte}
use Rattle.httparse.specs.Grammar.{print_blank, print_end, print_field, print_request, print_section, print_version}
use Rattle.httparse.proofs.GrammarLemmas.{print_request-append}
use Rattle.mt_http_stream.specs.Settling.{Found, IsFound, head_limit}
use Rattle.mt_http_stream.proofs.Heads.{found_once}
use Rattle.mt_http_read.specs.Heads.{after, before, behind, end_of, field_of, first_of, has_text, head_after, head_by, head_in, head_with, is_empty, is_field, is_head}
use Rattle.mt_http_read.specs.Heads.{lines_of, stands_in, taken_apart}
use Rattle.mt_http_read.proofs.Parting.{after_stop, all_empty, before_stop, behind_stops, blank_lines, end_is_empty, end_shown, ends_again, field_line, field_lines}
use Rattle.mt_http_read.proofs.Parting.{fields_again, fields_have_text, front_stops, in_line}
use Rattle.mt_http_read.proofs.Parting.{line_has_text, line_shown, minor_again, return_of, returns_of, shown, start_in_line, target_no_space, text_shown, token_no_space}

-- ---- the tests

field_passes : (f : Field) → IsField f → is_field f ≡ true
field_passes f is =
    let some : nat_lt 0 (length f.name) ≡ true = grind (arith, nat_tests, is.name.0) in
    and_from (is_token f.name) (list_all is_value_byte f.raw)
    (and_from (nat_lt 0 (length f.name)) (list_all is_token_byte f.name) some (list_all-from_AllPass is_token_byte f.name is.name.1))
    (list_all-from_AllPass is_value_byte f.raw is.raw)

fields_pass : (fields : List Field) → All IsField fields → list_all is_field fields ≡ true
fields_pass [] all = refl
fields_pass (f ∷ fields) all =
    and_from (is_field f) (list_all is_field fields) (field_passes f (All-head IsField f fields all)) (fields_pass fields (All-tail IsField f fields all))

field_by : (f : Field) → is_field f ≡ true → IsField f
field_by f passes =
    let both = and_parts (is_token f.name) (list_all is_value_byte f.raw) passes in
    let name = and_parts (nat_lt 0 (length f.name)) (list_all is_token_byte f.name) both.0 in
    let some : 0 < length f.name = grind (arith, nat_tests, name.0) in
    record { name = (some, AllPass-from_list_all is_token_byte f.name name.1); raw = AllPass-from_list_all is_value_byte f.raw both.1 }

fields_by : (fields : List Field) → list_all is_field fields ≡ true → All IsField fields
fields_by [] passes = All-nil IsField
fields_by (f ∷ fields) passes =
    let both = and_parts (is_field f) (list_all is_field fields) passes in
    All-cons IsField f fields (field_by f both.0) (fields_by fields both.1)

head_passes : (head : RequestHead) → IsRequestHead head → is_head head ≡ true
head_passes head is =
    let method : nat_lt 0 (length head.method) ≡ true = grind (arith, nat_tests, is.method.0) in
    let target : nat_lt 0 (length head.target) ≡ true = grind (arith, nat_tests, is.target.0) in
    and_from (is_token head.method) _
    (and_from (nat_lt 0 (length head.method)) (list_all is_token_byte head.method) method (list_all-from_AllPass is_token_byte head.method is.method.1))
    (and_from (nat_lt 0 (length head.target) && list_all is_uri_byte head.target) _
    (and_from (nat_lt 0 (length head.target)) (list_all is_uri_byte head.target) target (list_all-from_AllPass is_uri_byte head.target is.target.1))
    (and_from (is_utf8 head.target) _ (is_utf8-from_IsUtf8 head.target is.target_text)
    (and_from (nat_le head.minor 1) (list_all is_field head.fields) (le-leb head.minor 1 is.minor) (fields_pass head.fields is.fields))))

head_by_tests : (head : RequestHead) → is_head head ≡ true → IsRequestHead head
head_by_tests head passes =
    let a = and_parts (is_token head.method) _ passes in
    let b = and_parts (nat_lt 0 (length head.target) && list_all is_uri_byte head.target) _ a.1 in
    let c = and_parts (is_utf8 head.target) _ b.1 in
    let d = and_parts (nat_le head.minor 1) (list_all is_field head.fields) c.1 in
    let token = and_parts (nat_lt 0 (length head.method)) (list_all is_token_byte head.method) a.0 in
    let uri = and_parts (nat_lt 0 (length head.target)) (list_all is_uri_byte head.target) b.0 in
    let method : 0 < length head.method = grind (arith, nat_tests, token.0) in
    let target : 0 < length head.target = grind (arith, nat_tests, uri.0) in
    record {
      method = (method, AllPass-from_list_all is_token_byte head.method token.1);
      target = (target, AllPass-from_list_all is_uri_byte head.target uri.1);
      target_text = IsUtf8-from_is_utf8 head.target c.0;
      minor = leb-true head.minor 1 d.0;
      fields = fields_by head.fields d.1;
    }

-- ---- a head is taken apart into its parts

abbrev start_of : RequestHead → List ℕ
start_of head = head.method ++ 32 ∷ (head.target ++ 32 ∷ print_version head.minor)

abbrev lines_behind : RequestHead → List ℕ → List (List ℕ)
lines_behind head rest = map field_line head.fields ++ return_of head.last ∷ lines_of rest

regroup : (a b c d e f : List ℕ) → a ++ (b ++ 32 ∷ (c ++ 32 ∷ (d ++ (e ++ f)))) ≡ a ++ ((b ++ 32 ∷ (c ++ 32 ∷ d)) ++ (e ++ f))
regroup a b c d e f = simp (append_assoc, cons_append)
  where
    cons_append : (x : ℕ) (a b : List ℕ) → (x ∷ a) ++ b ≡ x ∷ (a ++ b)
    cons_append x a b = refl

lines_in : (head : RequestHead) (rest : List ℕ) → is_head head ≡ true
    → lines_of (print_request head ++ rest) ≡ returns_of head.blank ++ shown (start_of head) head.line_end ∷ lines_behind head rest
lines_in head rest passes =
    let a = and_parts (is_token head.method) _ passes in
    let b = and_parts (nat_lt 0 (length head.target) && list_all is_uri_byte head.target) _ a.1 in
    let d = and_parts (nat_le head.minor 1) (list_all is_field head.fields) (and_parts (is_utf8 head.target) _ b.1).1 in
    let token = (and_parts (nat_lt 0 (length head.method)) (list_all is_token_byte head.method) a.0).1 in
    let uri = (and_parts (nat_lt 0 (length head.target)) (list_all is_uri_byte head.target) b.0).1 in
    let section = print_section head.fields head.last ++ rest in
    ap lines_of (print_request-append head rest ∙ regroup (print_blank head.blank) head.method head.target (print_version head.minor) (print_end head.line_end) section)
    ∙ blank_lines head.blank (start_of head ++ (print_end head.line_end ++ section))
    ∙ ap (λ (l : List (List ℕ)). returns_of head.blank ++ l)
    (line_shown (start_of head) head.line_end section (start_in_line head.method head.target head.minor token uri (leb-true head.minor 1 d.0))
    ∙ ap (λ (l : List (List ℕ)). shown (start_of head) head.line_end ∷ l)
    (ap lines_of (append_assoc (flat_map print_field head.fields) (print_end head.last) rest)
    ∙ field_lines head.fields (print_end head.last ++ rest) d.1
    ∙ ap (λ (l : List (List ℕ)). map field_line head.fields ++ l) (line_shown [] head.last rest refl)))

parts_again : (head : RequestHead) (more : List (List ℕ)) → is_head head ≡ true
    → head_by head.blank (start_of head) head.line_end (map field_line head.fields ++ return_of head.last ∷ more) ≡ head
parts_again head more passes =
    let a = and_parts (is_token head.method) _ passes in
    let b = and_parts (nat_lt 0 (length head.target) && list_all is_uri_byte head.target) _ a.1 in
    let d = and_parts (nat_le head.minor 1) (list_all is_field head.fields) (and_parts (is_utf8 head.target) _ b.1).1 in
    let token = (and_parts (nat_lt 0 (length head.method)) (list_all is_token_byte head.method) a.0).1 in
    let uri = (and_parts (nat_lt 0 (length head.target)) (list_all is_uri_byte head.target) b.0).1 in
    let version = print_version head.minor in
    let method = before_stop 32 head.method (head.target ++ 32 ∷ version) (token_no_space head.method token) in
    let more_start = after_stop 32 head.method (head.target ++ 32 ∷ version) (token_no_space head.method token) in
    let target = ap (before 32) more_start ∙ before_stop 32 head.target version (target_no_space head.target uri) in
    let last_word = ap (after 32) more_start ∙ after_stop 32 head.target version (target_no_space head.target uri) in
    let minor = ap (λ (l : List ℕ). get_or l 7 0 - 48) last_word ∙ minor_again head.minor in
    let texts = fields_have_text head.fields d.1 in
    let fields = ap (map field_of) (front_stops has_text (map field_line head.fields) (return_of head.last) more texts (end_is_empty head.last)) ∙ fields_again head.fields d.1 in
    let last = ap (λ (l : List (List ℕ)). end_of (first_of l)) (behind_stops has_text (map field_line head.fields) (return_of head.last) more texts (end_is_empty head.last))
    ∙ end_shown [] head.last refl in
    λ i. record {
      blank = head.blank;
      method = method i;
      target = target i;
      minor = minor i;
      line_end = head.line_end;
      fields = fields i;
      last = last i;
    }

start_has_text : (head : RequestHead) → is_head head ≡ true → (list_all in_line (start_of head) ≡ true) × (is_empty (shown (start_of head) head.line_end) ≡ false)
start_has_text head passes =
    let a = and_parts (is_token head.method) _ passes in
    let b = and_parts (nat_lt 0 (length head.target) && list_all is_uri_byte head.target) _ a.1 in
    let d = and_parts (nat_le head.minor 1) (list_all is_field head.fields) (and_parts (is_utf8 head.target) _ b.1).1 in
    let token = and_parts (nat_lt 0 (length head.method)) (list_all is_token_byte head.method) a.0 in
    let uri = (and_parts (nat_lt 0 (length head.target)) (list_all is_uri_byte head.target) b.0).1 in
    let some : 0 < length head.method = grind (arith, nat_tests, token.0) in
    let inside = start_in_line head.method head.target head.minor token.1 uri (leb-true head.minor 1 d.0) in
    let text = line_has_text head.method (32 ∷ (head.target ++ 32 ∷ print_version head.minor)) head.line_end some inside in
    (inside, not_true (is_empty (shown (start_of head) head.line_end)) text)
  where
    not_true : (b : Bool) → not b ≡ true → b ≡ false
    not_true true e = absurd (let no : false ≡ true = e in cc)
    not_true false e = refl

taken_again : (head : RequestHead) (rest : List ℕ) → is_head head ≡ true → taken_apart (print_request head ++ rest) ≡ head
unfolding taken_apart
taken_again head rest passes =
    let start = start_has_text head passes in
    let line = shown (start_of head) head.line_end in
    let more = lines_behind head rest in
    ap head_with (lines_in head rest passes)
    ∙ ap (λ (l : List (List ℕ)). head_after (map end_of l) (behind is_empty (returns_of head.blank ++ line ∷ more)))
    (front_stops is_empty (returns_of head.blank) line more (all_empty head.blank) start.1)
    ∙ ap (λ (l : List LineEnd). head_after l (behind is_empty (returns_of head.blank ++ line ∷ more))) (ends_again head.blank)
    ∙ ap (head_after head.blank) (behind_stops is_empty (returns_of head.blank) line more (all_empty head.blank) start.1)
    ∙ ap (λ (l : List ℕ). head_by head.blank l (end_of line) more) (text_shown (start_of head) head.line_end start.0)
    ∙ ap (λ (e : LineEnd). head_by head.blank (start_of head) e more) (end_shown (start_of head) head.line_end start.0)
    ∙ parts_again head (lines_of rest) passes

-- ---- the head that is found

stands_by : (bytes : List ℕ) (head : RequestHead) (rest : List ℕ) → ReadsRequest bytes head rest → length (print_request head) ≤ head_limit → stands_in bytes head ≡ true
stands_by bytes head rest reads short =
    let size = length (print_request head) in
    let same : take size bytes ≡ print_request head = ap (take size) reads.1 ∙ take_at (print_request head) rest size refl in
    and_from (is_head head) _ (head_passes head reads.0)
    (and_from (nat_le size head_limit) _ (le-leb size head_limit short) ((bytes_eq-Decides (take size bytes) (print_request head)).1 same))

reads_by : (bytes : List ℕ) (head : RequestHead) → stands_in bytes head ≡ true → IsFound bytes (Some (head, drop (length (print_request head)) bytes))
reads_by bytes head stands =
    let size = length (print_request head) in
    let a = and_parts (is_head head) _ stands in
    let b = and_parts (nat_le size head_limit) (bytes_eq (take size bytes) (print_request head)) a.1 in
    let same = (bytes_eq-Decides (take size bytes) (print_request head)).0 b.1 in
    ((head_by_tests head a.0, sym (take-append-drop size bytes) ∙ ap (λ (l : List ℕ). l ++ drop size bytes) same), leb-true size head_limit b.0)

-- none stands there where the parts aren't one
none_by : (bytes : List ℕ) → stands_in bytes (taken_apart bytes) ≡ false → IsFound bytes None
none_by bytes fails head rest reads =
    elim (cases_lt head_limit (length (print_request head))) [
      | inl long ↦ long
      | inr short ↦
          let same : taken_apart bytes ≡ head = ap taken_apart reads.1 ∙ taken_again head rest (head_passes head reads.0) in
          let stands = ap (stands_in bytes) same ∙ stands_by bytes head rest reads short in
          absurd (let no : true ≡ false = sym stands ∙ fails in cc)
    ]

pub found : (bytes : List ℕ) → IsFound bytes (head_in bytes)
unfolding head_in
found bytes =
    ⊎_elim
    (λ (e : stands_in bytes (taken_apart bytes) ≡ true). subst (IsFound bytes) (sym (cond-true _ _ _ e)) (reads_by bytes (taken_apart bytes) e))
    (λ (e : stands_in bytes (taken_apart bytes) ≡ false). subst (IsFound bytes) (sym (cond-false _ _ _ e)) (none_by bytes e))
    (cases_Bool (stands_in bytes (taken_apart bytes)))

pub found_is : (bytes : List ℕ) (head : Found) → IsFound bytes head → head_in bytes ≡ head
found_is bytes head is = found_once bytes (head_in bytes) head (found bytes) is
