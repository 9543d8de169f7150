-- The first place of one text in another.
use Rattle.std.proofs.Common.{◌≡◌, ◌↔◌, ℕ, suc, ◌+◌, ◌<◌, ◌≤◌, ◌==◌, Bool, true, false, List, [], ◌∷◌, ◌++◌, length, take, drop, None, Some, refl, sym, ap, ◌∙◌, arith, ⊎_elim}
use Rattle.std.specs.Str.{IsUtf8, chars}
use Rattle.std.specs.Str.Pattern.{HasTextAt, LacksTextAt}
use Rattle.std.proofs.lemmas.Bool.{cases_lt}
use Rattle.std.proofs.lemmas.Bool.Decides.{nat_tests}
use Rattle.std.proofs.lemmas.List.{take-append-drop, drop_at, length-append, length-take-le}
use Rattle.std.proofs.lemmas.Str.{encodes-chars, encodes-append, chars-append, length-le-encodes}
use lib.Utf8.{encodes}
use Rattle.mt_tree.specs.Text.{units_of}
use Rattle.mt_tree.proofs.Cuts.{units_of-append}
use Rattle.mt_tree.specs.Units.{begins_with, find, StandsAt, FindIsFirst}

some_is : {A : Type 0} (x y : A) → Some x ≡ Some y → x ≡ y
some_is x y e = cc

-- ---- one text at the front of another

begins : (s back : List ℕ) → begins_with s (s ++ back) ≡ true
begins [] back = refl
begins (c ∷ s) back = let same : (c == c) ≡ true = grind (arith, nat_tests) in rw same (begins s back)

rest_of : (s cs : List ℕ) → begins_with s cs ≡ true → (back : List ℕ) × (cs ≡ s ++ back)
rest_of [] cs e = (cs, refl)
rest_of (c ∷ s) [] e = absurd (cc)
rest_of (c ∷ s) (d ∷ cs) e = by (c == d) refl (rest_of s cs)
  where
    by : (b : Bool) → (c == d) ≡ b → (begins_with s cs ≡ true → (back : List ℕ) × (cs ≡ s ++ back)) → (back : List ℕ) × ((d ∷ cs) ≡ (c ∷ s) ++ back)
    by true t more =
        let same : c ≡ d = grind (arith, nat_tests, t) in
        let found = more (rw t at e) in
        (found.0, ap (λ x. x ∷ cs) (sym same) ∙ ap (λ r. c ∷ r) found.1)
    by false f more = absurd (let wrong : false ≡ true = rw f at e in cc)

-- of two fronts of one text, the shorter begins the longer
further : (a b x y : List ℕ) → a ++ x ≡ b ++ y → length a ≤ length b → (more : List ℕ) × (b ≡ a ++ more)
further [] b x y e h = (b, refl)
further (c ∷ a) [] x y e h = absurd (omega arith)
further (c ∷ a) (d ∷ b) x y e h =
    let first : c ≡ d = cc in
    let rest : a ++ x ≡ b ++ y = cc in
    let found = further a b x y rest (omega arith) in
    (found.0, ap (λ z. z ∷ b) (sym first) ∙ ap (λ r. c ∷ r) found.1)

-- ---- the search

data Found (s cs : List ℕ) : Type 0 where
  nowhere : find s cs ≡ None → ((front back : List ℕ) → cs ≡ front ++ (s ++ back) → ⊥) → Found s cs
  first : (front back : List ℕ) → cs ≡ front ++ (s ++ back) → find s cs ≡ Some (units_of front) → ((f b : List ℕ) → cs ≡ f ++ (s ++ b) → length front ≤ length f) → Found s cs

not_here : (s cs back : List ℕ) → begins_with s cs ≡ false → cs ≡ s ++ back → ⊥
not_here s cs back f e = let wrong : false ≡ true = sym f ∙ ap (begins_with s) e ∙ begins s back in cc

later : (s : List ℕ) (c : ℕ) (cs : List ℕ) → begins_with s (c ∷ cs) ≡ false → Found s cs → Found s (c ∷ cs)
later s c cs f (nowhere none lacks) = nowhere (rw (f, none) refl) by
  where
    by : (front back : List ℕ) → (c ∷ cs) ≡ front ++ (s ++ back) → ⊥
    by [] back e = not_here s (c ∷ cs) back f e
    by (d ∷ front) back e = lacks front back (cc)
later s c cs f (first front back is at least) = first (c ∷ front) back (ap (λ r. c ∷ r) is) (rw (f, at) refl) by
  where
    by : (g b : List ℕ) → (c ∷ cs) ≡ g ++ (s ++ b) → suc (length front) ≤ length g
    by [] b e = absurd (not_here s (c ∷ cs) b f e)
    by (d ∷ g) b e = let more = least g b (cc) in omega arith

search_in : (s cs : List ℕ) → Found s cs
search_in s [] = by (begins_with s []) refl
  where
    by : (b : Bool) → begins_with s [] ≡ b → Found s []
    by true t = let found = rest_of s [] t in first [] found.0 found.1 (rw t refl) (λ f b e. omega arith)
    by false f = nowhere (rw f refl) at
      where
        at : (front back : List ℕ) → [] ≡ front ++ (s ++ back) → ⊥
        at [] back e = not_here s [] back f e
        at (d ∷ front) back e = cc
search_in s (c ∷ cs) = by (begins_with s (c ∷ cs)) refl (search_in s cs)
  where
    by : (b : Bool) → begins_with s (c ∷ cs) ≡ b → Found s cs → Found s (c ∷ cs)
    by true t more = let found = rest_of s (c ∷ cs) t in first [] found.0 found.1 (rw t refl) (λ f b e. omega arith)
    by false f more = later s c cs f more

-- ---- what the search is

fewer : (front f x y : List ℕ) → front ++ x ≡ f ++ y → length front ≤ length f → units_of front ≤ units_of f
fewer front f x y e h =
    let found = further front f x y e h in
    let longer = ap units_of found.1 ∙ units_of-append front found.0 in
    omega (arith, longer)

pub find_is_first : FindIsFirst
find_is_first s cs n = by (search_in s cs)
  where
    by : Found s cs → (find s cs ≡ Some n) ↔ (StandsAt s cs n × ((m : ℕ) → StandsAt s cs m → n ≤ m))
    by (nowhere none lacks) = (
      λ e. absurd (let wrong : None ≡ Some n = sym none ∙ e in cc),
      λ h. absurd (lacks h.0.0 h.0.1 h.0.2),
    )
    by (first front back is at least) = (
      λ e.
          let same : units_of front ≡ n = some_is (units_of front) n (sym at ∙ e) in
          ((front, back, is, same), λ m h. let order = fewer front h.0 (s ++ back) (s ++ h.1) (sym is ∙ h.2) (least h.0 h.1 h.2) in omega (arith, h.3)),
      λ h.
          let there = h.0 in
          let order = fewer front there.0 (s ++ back) (s ++ there.1) (sym is ∙ there.2) (least there.0 there.1 there.2) in
          let other = h.1 (units_of front) (front, back, is, refl) in
          let same : units_of front ≡ n = omega (arith, there.3) in
          at ∙ ap Some same,
    )

-- ---- the same by the bytes of both

module _ (sought text : List ℕ) (u : IsUtf8 sought) (v : IsUtf8 text) where
  whole : (front back : List ℕ) → chars text ≡ front ++ (chars sought ++ back) → text ≡ encodes front ++ (sought ++ encodes back)
  whole front back is =
      sym (encodes-chars text v) ∙ ap encodes is ∙ encodes-append front (chars sought ++ back)
      ∙ ap (λ r. encodes front ++ r) (encodes-append (chars sought) back ∙ ap (λ s. s ++ encodes back) (encodes-chars sought u))

  -- where the characters stand, there the bytes do
  bytes_stand : (front back : List ℕ) → chars text ≡ front ++ (chars sought ++ back) → drop (length (encodes front)) text ≡ sought ++ encodes back
  bytes_stand front back is =
      ap (drop (length (encodes front))) (whole front back is) ∙ drop_at (encodes front) (sought ++ encodes back) (length (encodes front)) refl

  within : (front back : List ℕ) → chars text ≡ front ++ (chars sought ++ back) → length (encodes front) ≤ length text
  within front back is =
      let parts = ap length (whole front back is) ∙ length-append (encodes front) (sought ++ encodes back) in
      omega (arith, parts)

  pub stands_nowhere : ((i : ℕ) → i ≤ length text → LacksTextAt sought text i) → None ≡ find (chars sought) (chars text)
  stands_nowhere lacks = by (search_in (chars sought) (chars text))
    where
      by : Found (chars sought) (chars text) → None ≡ find (chars sought) (chars text)
      by (nowhere none f) = sym none
      by (first front back is at least) = absurd (lacks (length (encodes front)) (within front back is) (encodes back) (bytes_stand front back is))

  pub stands_first : (i j : ℕ) → ((k : ℕ) → k < i → LacksTextAt sought text k) → HasTextAt sought text i j → i ≤ length text → IsUtf8 (take i text) → Some (units_of (chars (take i text))) ≡ find (chars sought) (chars text)
  stands_first i j lacks has h w = by (search_in (chars sought) (chars text))
    where
      here : chars text ≡ chars (take i text) ++ (chars sought ++ chars (drop j text))
      here =
          ap chars (sym (take-append-drop i text)) ∙ chars-append (take i text) (drop i text) w
          ∙ ap (λ r. chars (take i text) ++ r) (ap chars has.split ∙ chars-append sought (drop j text) u)

      no_units : (cs : List ℕ) → length cs ≤ 0 → units_of cs ≡ 0
      no_units [] e = refl
      no_units (c ∷ cs) e = absurd (omega arith)

      not_before : (front back : List ℕ) → chars text ≡ front ++ (chars sought ++ back) → i ≤ length (encodes front)
      not_before front back is =
          ⊎_elim (λ earlier. absurd (lacks (length (encodes front)) earlier (encodes back) (bytes_stand front back is))) (λ later. later)
          (cases_lt (length (encodes front)) i)

      by : Found (chars sought) (chars text) → Some (units_of (chars (take i text))) ≡ find (chars sought) (chars text)
      by (nowhere none f) = absurd (f (chars (take i text)) (chars (drop j text)) here)
      by (first front back is at least) =
          let found = further front (chars (take i text)) (chars sought ++ back) (chars sought ++ chars (drop j text)) (sym is ∙ here) (least (chars (take i text)) (chars (drop j text)) here) in
          let bytes : length (encodes front) + length (encodes found.0) ≡ i =
          sym (length-append (encodes front) (encodes found.0)) ∙ ap length (sym (encodes-append front found.0) ∙ ap encodes (sym found.1) ∙ encodes-chars (take i text) w) ∙ length-take-le i text h in
          let none = no_units found.0 (omega (arith, bytes, not_before front back is, length-le-encodes found.0)) in
          let units = ap units_of found.1 ∙ units_of-append front found.0 in
          let same : units_of (chars (take i text)) ≡ units_of front = omega (arith, units, none) in
          ap Some same ∙ sym at
