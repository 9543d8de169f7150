-- A set of names that holds those that stand before an attribute, and what one attribute more adds.
use Rattle.std.proofs.Common.{◌≡◌, ℕ, zero, suc, ◌+◌, ◌<◌, Bool, true, false, not, ◌||◌, cond, List, [], ◌∷◌, ◌++◌, map, Option, length, get_or, take, refl, sym, ap, ◌∙◌, arith, add-one, Bor}
use Rattle.std.specs.List.{list_any}
use Rattle.std.specs.Str.{bytes_eq, encode_utf8_all}
use Rattle.std.proofs.lemmas.List.{append_assoc, append-nil, map-append}
use Rattle.std.proofs.lemmas.List.Folds.{list_any-append}
use Rattle.mt_tree.specs.Tables.{is_among}
use Rattle.mt_syntax.specs.First.{earlier_of}
use Rattle.mt_syntax.specs.Joining.{first}
use Rattle.mt_syntax.specs.declared.broken.Broken.{Broken}
use Rattle.mt_syntax.specs.declared.rule.Rule.TheVariants as rule
use Rattle.mt_syntax.proofs.Order.{grouping, none_last}
use Rattle.mt_syntax.specs.declared.tree.Mark.{Mark}
use Rattle.mt_stage_placement.specs.Forms.{Part, broken_if, names_of, repeated_behind}

abbrev pub spelled : List Mark → List (List ℕ)
spelled = map (λ m. encode_utf8_all m.name)

-- the set holds just the names of the marks
abbrev pub IsSame : List (Bor (List ℕ)) → List Mark → Type 0
IsSame keys marks = (q : Bor (List ℕ)) → list_any (λ k. bytes_eq q.now k.now) keys ≡ is_among (spelled marks) q.now

abbrev here : List (List ℕ) → Mark → Option Broken
here names m = broken_if first (is_among names (encode_utf8_all m.name)) rule.S12 m.place

one_more : (names : List (List ℕ)) (ms : List Mark) (m : Mark)
    → repeated_behind first names (ms ++ m ∷ []) ≡ earlier_of (repeated_behind first names ms) (here (names ++ spelled ms) m)
one_more names [] m = none_last (here names m) ∙ ap (λ ns. here ns m) (sym (append-nil names))
one_more names (x ∷ ms) m =
    ap (earlier_of (here names x)) (one_more (names ++ encode_utf8_all x.name ∷ []) ms m)
    ∙ grouping (here names x) (repeated_behind first (names ++ encode_utf8_all x.name ∷ []) ms) (here ((names ++ encode_utf8_all x.name ∷ []) ++ spelled ms) m)
    ∙ ap (λ ns. earlier_of (repeated_behind first names (x ∷ ms)) (here ns m)) (append_assoc names (encode_utf8_all x.name ∷ []) (spelled ms))

module _ {T : Type 0} where
  taken : (xs : List T) (i : ℕ) (x : T) → x ≡ get_or xs i x → i < length xs → take (suc i) xs ≡ take i xs ++ x ∷ []
  taken [] i x is within = absurd (omega (arith, within))
  taken (y ∷ xs) zero x is within = ap (λ z. z ∷ []) (sym is)
  taken (y ∷ xs) (suc i) x is within = ap (λ zs. y ∷ zs) (taken xs i x is (omega (arith, within)))

module _ {T : Type 0} (f : T → Part (Option Broken)) where
  abbrev names : List T → List Mark
  names xs = names_of first (map f xs)

  names_taken : (xs : List T) (i : ℕ) (x : T) → x ≡ get_or xs i x → i < length xs → names (take (i + 1) xs) ≡ names (take i xs) ++ (f x).name ∷ []
  names_taken xs i x is within =
      rw add-one (ap names (taken xs i x is within) ∙ ap (names_of first) (map-append f (take i xs) (x ∷ [])) ∙ map-append (λ a. a.name) (map f (take i xs)) (f x ∷ []))

  -- what was found so far, and then at one item more
  pub found_next : (xs : List T) (i : ℕ) (x : T) (found : Option Broken) (again : Bool) → x ≡ get_or xs i x → i < length xs
      → found ≡ repeated_behind first [] (names (take i xs)) → again ≡ is_among (spelled (names (take i xs))) (encode_utf8_all (f x).name.name)
      → earlier_of found (broken_if first again rule.S12 (f x).name.place) ≡ repeated_behind first [] (names (take (i + 1) xs))
  found_next xs i x found again is within so_far tells =
      (λ j. earlier_of (so_far j) (broken_if first (tells j) rule.S12 (f x).name.place))
      ∙ sym (one_more [] (names (take i xs)) (f x).name) ∙ ap (repeated_behind first []) (sym (names_taken xs i x is within))

  or_last : (v q : List ℕ) (b : Bool) → cond (bytes_eq v q) true b ≡ (b || list_any (λ known. bytes_eq known q) (v ∷ []))
  or_last v q b = by (bytes_eq v q) b refl
    where
      by : (a b : Bool) → bytes_eq v q ≡ a → cond a true b ≡ (b || list_any (λ known. bytes_eq known q) (v ∷ []))
      by true true is = refl
      by true false is = rw is refl
      by false true is = refl
      by false false is = rw is refl

  -- the set, and then with the name of one item more
  pub set_next : (xs : List T) (i : ℕ) (x : T) (old new : List (Bor (List ℕ))) (value : List ℕ) → x ≡ get_or xs i x → i < length xs
      → IsSame old (names (take i xs)) → value ≡ encode_utf8_all (f x).name.name
      → ((q : Bor (List ℕ)) → list_any (λ k. bytes_eq q.now k.now) new ≡ cond (bytes_eq value q.now) true (list_any (λ k. bytes_eq q.now k.now) old))
      → IsSame new (names (take (i + 1) xs))
  set_next xs i x old new value is within same value_is updated q =
      let ns = names (take i xs) in
      updated q ∙ (λ j. cond (bytes_eq (value_is j) q.now) true (same q j)) ∙ or_last (encode_utf8_all (f x).name.name) q.now (is_among (spelled ns) q.now)
      ∙ sym (list_any-append (λ known. bytes_eq known q.now) (spelled ns) (encode_utf8_all (f x).name.name ∷ []))
      ∙ ap (λ l. is_among l q.now) (sym (map-append (λ m. encode_utf8_all m.name) ns ((f x).name ∷ [])))
      ∙ ap (λ ms. is_among (spelled ms) q.now) (sym (names_taken xs i x is within))

pub not_not : (test : List ℕ → Bool) (keys : List (Bor (List ℕ))) (q : Bor (List ℕ)) → list_any (λ k. bytes_eq q.now k.now) keys ≡ test q.now
    → not (not (list_any (λ k. bytes_eq q.now k.now) keys)) ≡ test q.now
not_not test keys q same = by (list_any (λ k. bytes_eq q.now k.now) keys) ∙ same
  where
    by : (b : Bool) → not (not b) ≡ b
    by true = refl
    by false = refl
