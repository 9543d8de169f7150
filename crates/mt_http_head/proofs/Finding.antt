-- Turns of loops that find a thing in a list.
use Rattle.std.proofs.Common.{◌≡◌, ◌≢◌, ℕ, ◌+◌, ◌<◌, ◌≤◌, ◌==◌, Bool, true, false, List, [], ◌∷◌, ◌++◌, length, get_or, take, drop, map, Some, None, cond, refl, sym, ap, ◌∙◌, arith, append_assoc}
use Rattle.std.proofs.lemmas.Bool.{cond-true, cond-false}
use Rattle.std.proofs.lemmas.Bool.Decides.{nat_tests}
use Rattle.std.proofs.lemmas.List.{append-nil, drop_all, drop_more, take_all, take_more, map-append, length-append}
use Rattle.std.specs.Borrow.{Bor}
use Rattle.std.specs.List.{find}
use Rattle.httparse.specs.declared.spans.HeaderSpan.{HeaderSpan}
use Rattle.httparse.specs.Spans.{header_bytes}
use Rattle.mt_http_head.specs.declared.fields.Values.{Values}
use Rattle.mt_http_head.specs.declared.fields.Values.TheVariants.{Nothing, One, Several}
use Rattle.mt_http_head.specs.Fields.{Pair, is_named, value_if, values_of, are_one_size}
use Rattle.mt_http_head.specs.Parsed.{AreValues}
use Rattle.mt_http_head.specs.Targets.{path_of, query_of}

-- ---- the values of a name

one_more : (name : List ℕ) (fields : List Pair) (first : Pair) (more : List (List ℕ)) (all : List (List ℕ)) (named : Bool) → all ≡ values_of name fields ++ more
    → cond named (first.1 ∷ all) all ≡ cond named (first.1 ∷ values_of name fields) (values_of name fields) ++ more
one_more name fields first more all true is = ap (λ (l : List (List ℕ)). first.1 ∷ l) is
one_more name fields first more all false is = is

alone : (value : List ℕ) (named : Bool) → cond named (value ∷ []) [] ≡ value_if named value
alone value true = refl
alone value false = refl

values_of_last : (name : List ℕ) (fields : List Pair) (field : Pair) → values_of name (fields ++ field ∷ []) ≡ values_of name fields ++ value_if (is_named name field) field.1
values_of_last name [] field = alone field.1 (is_named name field)
values_of_last name (first ∷ fields) field =
    one_more name fields first (value_if (is_named name field) field.1) (values_of name (fields ++ field ∷ [])) (is_named name first) (values_of_last name fields field)

pub values_more : (bytes name : List ℕ) (spans : List HeaderSpan) (i : ℕ) (d : HeaderSpan) → i < length spans
    → values_of name (map (header_bytes bytes) (take (i + 1) spans))
    ≡ values_of name (map (header_bytes bytes) (take i spans)) ++ value_if (is_named name (header_bytes bytes (get_or spans i d))) (header_bytes bytes (get_or spans i d)).1
values_more bytes name spans i d inside =
    ap (λ (l : List HeaderSpan). values_of name (map (header_bytes bytes) l)) (take_more spans i d inside)
    ∙ ap (values_of name) (map-append (header_bytes bytes) (take i spans) (get_or spans i d ∷ []))
    ∙ values_of_last name (map (header_bytes bytes) (take i spans)) (header_bytes bytes (get_or spans i d))

pub with_none : (self : Values) (values : List (List ℕ)) (value : List ℕ) → AreValues self values → AreValues self (values ++ value_if false value)
with_none self values value are = rw (append-nil values) are

pub with_first : (values : List (List ℕ)) (value : Bor (List ℕ)) → AreValues Nothing values → AreValues (One value) (values ++ value_if true value.now)
with_first values value are = rw are refl

pub with_second : (first : Bor (List ℕ)) (values : List (List ℕ)) (value : List ℕ) → AreValues (One first) values → AreValues Several (values ++ value_if true value)
with_second first values value are = rw are (omega arith)

pub with_more : (values : List (List ℕ)) (value : List ℕ) → AreValues Several values → AreValues Several (values ++ value_if true value)
with_more values value are = omega (arith, are, length-append values (value ∷ []))

pub several_are_no_size : (values : List (List ℕ)) → 2 ≤ length values → are_one_size values ≡ false
several_are_no_size [] many = absurd (omega arith)
several_are_no_size (a ∷ []) many = absurd (omega arith)
several_are_no_size (a ∷ b ∷ values) many = refl

-- ---- the first that passes a test

pub find_next : {X : Type 0} (test : X → Bool) (xs : List X) (i : ℕ) (d : X) → i < length xs → test (get_or xs i d) ≡ false → find test (drop (i + 1) xs) ≡ find test (drop i xs)
find_next test xs i d inside other = sym (ap (find test) (drop_more xs i d inside) ∙ cond-false _ _ _ other)

pub find_here : {X : Type 0} (test : X → Bool) (xs : List X) (i : ℕ) (d : X) → i < length xs → test (get_or xs i d) ≡ true → find test (drop i xs) ≡ Some (get_or xs i d)
find_here test xs i d inside found = ap (find test) (drop_more xs i d inside) ∙ cond-true _ _ _ found

pub find_none : {X : Type 0} (test : X → Bool) (xs : List X) (i : ℕ) → length xs ≤ i → find test (drop i xs) ≡ None
find_none test xs i whole = ap (find test) (drop_all i xs whole)

-- ---- the parts of a target

abbrev pub SplitsAt : List ℕ → ℕ → Type 0
SplitsAt target at = (path_of target ≡ take at target ++ path_of (drop at target)) × (query_of target ≡ query_of (drop at target))

other_byte : (b : ℕ) → b ≢ 63 → (b == 63) ≡ false
other_byte b other = grind (arith, nat_tests)

pub split_next : (target : List ℕ) (at : ℕ) → at < length target → get_or target at 0 ≢ 63 → SplitsAt target at → SplitsAt target (at + 1)
split_next target at inside other splits =
    let b = get_or target at 0 in
    let rest = drop (at + 1) target in
    let cut : drop at target ≡ b ∷ rest = drop_more target at 0 inside in
    let plain = other_byte b other in (
      splits.0 ∙ ap (λ (l : List ℕ). take at target ++ path_of l) cut
          ∙ ap (λ (l : List ℕ). take at target ++ l) (cond-false _ _ _ plain)
          ∙ sym (append_assoc (take at target) (b ∷ []) (path_of rest))
          ∙ ap (λ (l : List ℕ). l ++ path_of rest) (sym (take_more target at 0 inside)),
      splits.1 ∙ ap query_of cut ∙ cond-false _ _ _ plain,
    )

pub split_here : (target : List ℕ) (at : ℕ) → at < length target → get_or target at 0 ≡ 63 → SplitsAt target at
    → (path_of target ≡ take at target) × (query_of target ≡ Some (drop (at + 1) target))
split_here target at inside mark splits =
    let rest = drop (at + 1) target in
    let cut : drop at target ≡ 63 ∷ rest = drop_more target at 0 inside ∙ ap (λ (b : ℕ). b ∷ rest) mark in (
      splits.0 ∙ ap (λ (l : List ℕ). take at target ++ path_of l) cut ∙ append-nil (take at target),
      splits.1 ∙ ap query_of cut,
    )

pub split_none : (target : List ℕ) (at : ℕ) → length target ≤ at → SplitsAt target at → (path_of target ≡ target) × (query_of target ≡ None)
split_none target at whole splits =
    let over = drop_all at target whole in (
      splits.0 ∙ ap (λ (l : List ℕ). take at target ++ path_of l) over ∙ append-nil (take at target) ∙ take_all at target whole,
      splits.1 ∙ ap query_of over,
    )
