-- A set of the names so far, and one name more.
use Rattle.std.proofs.Common.{◌≡◌, ℕ, ◌+◌, ◌<◌, Bool, true, false, ◌&&◌, ◌||◌, not, cond, List, [], ◌∷◌, ◌++◌, map, length, get_or, take, refl, sym, ap, ◌∙◌, Bor}
use Rattle.std.specs.List.{list_any}
use Rattle.std.specs.Str.{all_scalars, bytes_eq, chars, encode_utf8_all}
use Rattle.std.specs.Ordering.{is_eq, nat_cmp}
use Rattle.std.specs.Cmp.Lexicographic.{slice_cmp}
use Rattle.std.proofs.lemmas.Bool.Decides.{same_from_decides}
use Rattle.std.proofs.lemmas.List.{take_more, map_push}
use Rattle.std.proofs.lemmas.List.Folds.{list_any-append}
use Rattle.std.proofs.lemmas.Map.Text.{is_eq-slice_cmp}
use Rattle.std.proofs.lemmas.Slice.Eq.{bytes_eq-Decides}
use Rattle.std.proofs.lemmas.Str.{chars-encodes}
use Rattle.mt_tree.specs.declared.data.Entry.{Entry}
use Rattle.mt_syntax.specs.Data.{are_distinct}
use Rattle.mt_json.specs.Names.{name_of}

-- whether a key is this one
abbrev pub has : List (Bor (List ℕ)) → Bor (List ℕ) → Bool
has keys q = list_any (λ k. is_eq (slice_cmp nat_cmp q.now k.now)) keys

-- the set holds the bytes of just these names
abbrev pub Holds : List (Bor (List ℕ)) → List (List ℕ) → Type 0
Holds keys names = (q : Bor (List ℕ)) (cs : List ℕ) → all_scalars cs ≡ true → q.now ≡ encode_utf8_all cs → has keys q ≡ list_any (bytes_eq cs) names

-- texts are equal where their bytes are
same_bytes : (a b : List ℕ) → all_scalars a ≡ true → all_scalars b ≡ true → bytes_eq (encode_utf8_all a) (encode_utf8_all b) ≡ bytes_eq b a
same_bytes a b scalar_a scalar_b =
    let equal = bytes_eq-Decides (encode_utf8_all a) (encode_utf8_all b) in
    same_from_decides _ _ (λ e. sym (chars-encodes b scalar_b) ∙ ap chars (sym (equal.0 e)) ∙ chars-encodes a scalar_a, λ e. equal.1 (ap encode_utf8_all (sym e))) (bytes_eq-Decides b a)

either_way : (a b : List ℕ) → bytes_eq a b ≡ bytes_eq b a
either_way a b = let equal = bytes_eq-Decides a b in same_from_decides _ _ (λ e. sym (equal.0 e), λ e. equal.1 (sym e)) (bytes_eq-Decides b a)

last : (one before : Bool) → cond one true before ≡ (before || (one || false))
last true true = refl
last true false = refl
last false true = refl
last false false = refl

-- the set, and then with one name more
pub holds_next : (names : List (List ℕ)) (name : List ℕ) (old new : List (Bor (List ℕ))) (key : Bor (List ℕ)) → all_scalars name ≡ true → key.now ≡ encode_utf8_all name
    → Holds old names → ((q : Bor (List ℕ)) → has new q ≡ cond (is_eq (slice_cmp nat_cmp key.now q.now)) true (has old q)) → Holds new (names ++ name ∷ [])
holds_next names name old new key scalar is so_far updated q cs ok spelled =
    let one : is_eq (slice_cmp nat_cmp key.now q.now) ≡ bytes_eq cs name = is_eq-slice_cmp key.now q.now ∙ (λ i. bytes_eq (is i) (spelled i)) ∙ same_bytes name cs scalar ok in
    updated q ∙ (λ i. cond (one i) true (so_far q cs ok spelled i)) ∙ last (bytes_eq cs name) (list_any (bytes_eq cs) names) ∙ sym (list_any-append (bytes_eq cs) names (name ∷ []))

-- ---- whether the names are distinct, and then with one name more

regroup : (among one distinct again : Bool) → (not (among || (one || false)) && (distinct && not again)) ≡ ((not among && distinct) && not (one || again))
regroup true one distinct again = refl
regroup false true true again = refl
regroup false true false again = refl
regroup false false distinct again = refl

distinct_last : (names : List (List ℕ)) (name : List ℕ) → are_distinct (names ++ name ∷ []) ≡ (are_distinct names && not (list_any (bytes_eq name) names))
distinct_last [] name = refl
distinct_last (m ∷ names) name =
    (λ i. not (list_any-append (bytes_eq m) names (name ∷ []) i) && distinct_last names name i)
    ∙ regroup (list_any (bytes_eq m) names) (bytes_eq m name) (are_distinct names) (list_any (bytes_eq name) names)
    ∙ ap (λ b. (not (list_any (bytes_eq m) names) && are_distinct names) && not (b || list_any (bytes_eq name) names)) (either_way m name)

names_next : (es : List Entry) (i : ℕ) (e : Entry) → e ≡ get_or es i e → i < length es → map name_of (take (i + 1) es) ≡ map name_of (take i es) ++ e.name ∷ []
names_next es i e is lt = ap (map name_of) (take_more es i e lt) ∙ map_push name_of (take i es) (get_or es i e) ∙ ap (λ (x : Entry). map name_of (take i es) ++ x.name ∷ []) (sym is)

-- a turn of the loop
pub distinct_next : (es : List Entry) (i : ℕ) (e : Entry) (distinct added : Bool) (old new : List (Bor (List ℕ))) (key : Bor (List ℕ)) → e ≡ get_or es i e → i < length es
    → all_scalars e.name ≡ true → key.now ≡ encode_utf8_all e.name → (distinct ≡ are_distinct (map name_of (take i es))) × Holds old (map name_of (take i es))
    → added ≡ not (has old key) → ((q : Bor (List ℕ)) → has new q ≡ cond (is_eq (slice_cmp nat_cmp key.now q.now)) true (has old q))
    → ((distinct && added) ≡ are_distinct (map name_of (take (i + 1) es))) × Holds new (map name_of (take (i + 1) es))
distinct_next es i e distinct added old new key is lt scalar spelled so_far tells updated =
    let names : List (List ℕ) = map name_of (take i es) in
    let more : map name_of (take (i + 1) es) ≡ names ++ e.name ∷ [] = names_next es i e is lt in
    rw more (
      (λ j. so_far.0 j && tells j) ∙ ap (λ b. are_distinct names && not b) (so_far.1 key e.name scalar spelled) ∙ sym (distinct_last names e.name),
      holds_next names e.name old new key scalar spelled so_far.1 updated,
    )
