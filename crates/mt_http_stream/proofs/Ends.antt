-- A head ends in an empty line.
use Rattle.std.proofs.Common.{◌≡◌, ◌-◌, ℕ, true, false, nat_eq, List, [], ◌∷◌, ◌++◌, length, drop, refl, sym, ap, ◌∙◌, arith, append_assoc}
use Rattle.std.proofs.lemmas.List.{append-nil, length-append, drop_at}
use Rattle.std.specs.Cmp.Lexicographic.{pointwise}
use Rattle.std.specs.List.{ends_with, flat_map}
use Rattle.httparse.specs.Grammar.{LineEnd, lf, crlf, print_end, print_blank, print_version, Field, print_field, print_section, RequestHead, ReadsRequest}
use Rattle.httparse.proofs.GrammarLemmas.{print_request-append}
use Rattle.mt_http_stream.specs.Settling.{IsNoHead}

-- the last line that ends before the empty one
last_end : (fields : List Field) (front : List ℕ) (end : LineEnd) (more : List ℕ)
    → (before : List ℕ) × (last : LineEnd) × (front ++ (print_end end ++ (flat_map print_field fields ++ more)) ≡ before ++ (print_end last ++ more))
last_end [] front end more = (front, end, refl)
last_end (f ∷ fields) front end more =
    let body = f.name ++ 58 ∷ f.raw in
    let next = last_end fields (front ++ (print_end end ++ body)) f.end more in
    let later = flat_map print_field fields in
    let moved : front ++ (print_end end ++ ((print_field f ++ later) ++ more)) ≡ (front ++ (print_end end ++ body)) ++ (print_end f.end ++ (later ++ more)) =
    regroup front (print_end end) body (print_end f.end) later more in
    (next.0, next.1, moved ∙ next.2)
  where
    regroup : (a b c d e g : List ℕ) → a ++ (b ++ (((c ++ d) ++ e) ++ g)) ≡ (a ++ (b ++ c)) ++ (d ++ (e ++ g))
    regroup a b c d e g = simp append_assoc

-- where its bytes end
head_end : (bytes : List ℕ) (head : RequestHead) → ReadsRequest bytes head []
    → (before : List ℕ) × (last : LineEnd) × (bytes ≡ before ++ (print_end last ++ print_end head.last))
head_end bytes head is =
    let front = print_blank head.blank ++ (head.method ++ 32 ∷ (head.target ++ 32 ∷ print_version head.minor)) in
    let section = flat_map print_field head.fields ++ print_end head.last in
    let ends = last_end head.fields front head.line_end (print_end head.last) in
    let plain : print_section head.fields head.last ++ [] ≡ section = append-nil section in
    let whole = is.1 ∙ print_request-append head [] in
    let same = whole ∙ ap (λ (l : List ℕ). print_blank head.blank ++ (head.method ++ 32 ∷ (head.target ++ 32 ∷ (print_version head.minor ++ (print_end head.line_end ++ l))))) plain
    ∙ regroup (print_blank head.blank) head.method head.target (print_version head.minor) (print_end head.line_end ++ section) in
    (ends.0, ends.1, same ∙ ends.2)
  where
    cons_append : (x : ℕ) (a b : List ℕ) → (x ∷ a) ++ b ≡ x ∷ (a ++ b)
    cons_append x a b = refl

    regroup : (a b c d e : List ℕ) → a ++ (b ++ 32 ∷ (c ++ 32 ∷ (d ++ e))) ≡ (a ++ (b ++ 32 ∷ (c ++ 32 ∷ d))) ++ e
    regroup a b c d e = simp (append_assoc, cons_append)

abbrev short_end : List ℕ
short_end = 10 ∷ 10 ∷ []

abbrev long_end : List ℕ
long_end = 10 ∷ 13 ∷ 10 ∷ []

ends_short : (front : List ℕ) → ends_with nat_eq (front ++ short_end) short_end ≡ true
ends_short front =
    let whole = length-append front short_end in
    let size : length (front ++ short_end) - 2 ≡ length front = omega (arith, whole) in
    ap (λ (n : ℕ). pointwise nat_eq short_end (drop n (front ++ short_end))) size ∙ ap (pointwise nat_eq short_end) (drop_at front short_end (length front) refl)

ends_long : (front : List ℕ) → ends_with nat_eq (front ++ long_end) long_end ≡ true
ends_long front =
    let whole = length-append front long_end in
    let size : length (front ++ long_end) - 3 ≡ length front = omega (arith, whole) in
    ap (λ (n : ℕ). pointwise nat_eq long_end (drop n (front ++ long_end))) size ∙ ap (pointwise nat_eq long_end) (drop_at front long_end (length front) refl)

-- one of the two ends
ends_so : (before : List ℕ) (last end : LineEnd) → ends_with nat_eq (before ++ (print_end last ++ print_end end)) short_end ≡ false
    → ends_with nat_eq (before ++ (print_end last ++ print_end end)) long_end ≡ false → ⊥
ends_so before lf lf short long = let e : true ≡ false = sym (ends_short before) ∙ short in absurd cc
ends_so before lf crlf short long = let e : true ≡ false = sym (ends_long before) ∙ long in absurd cc
ends_so before crlf lf short long =
    let same : before ++ (13 ∷ short_end) ≡ (before ++ 13 ∷ []) ++ short_end = sym (append_assoc before (13 ∷ []) short_end) in
    let e : true ≡ false = sym (ends_short (before ++ 13 ∷ [])) ∙ ap (λ (l : List ℕ). ends_with nat_eq l short_end) (sym same) ∙ short in
    absurd cc
ends_so before crlf crlf short long =
    let same : before ++ (13 ∷ long_end) ≡ (before ++ 13 ∷ []) ++ long_end = sym (append_assoc before (13 ∷ []) long_end) in
    let e : true ≡ false = sym (ends_long (before ++ 13 ∷ [])) ∙ ap (λ (l : List ℕ). ends_with nat_eq l long_end) (sym same) ∙ long in
    absurd cc

pub no_head_otherwise : (bytes : List ℕ) → ends_with nat_eq bytes (10 ∷ 10 ∷ []) ≡ false → ends_with nat_eq bytes (10 ∷ 13 ∷ 10 ∷ []) ≡ false → IsNoHead bytes
no_head_otherwise bytes short long head is =
    let ends = head_end bytes head is in
    ends_so ends.0 ends.1 head.last
    (ap (λ (l : List ℕ). ends_with nat_eq l short_end) (sym ends.2) ∙ short)
    (ap (λ (l : List ℕ). ends_with nat_eq l long_end) (sym ends.2) ∙ long)
