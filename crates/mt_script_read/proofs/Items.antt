-- Lists are read up to the byte that closes them.
use Rattle.std.proofs.Common.{◌≡◌, ℕ, zero, suc, ◌<◌, ◌≤◌, Bool, true, false, eqb, List, [], ◌∷◌, ◌++◌, map, length, Some, None, refl, sym, ap, subst, ◌∙◌, append_assoc, arith}
use Rattle.std.specs.List.{flat_map}
use Rattle.std.proofs.lemmas.Bool.Decides.{Decides-eqb}
use Rattle.std.proofs.lemmas.List.{length-append}
use Rattle.mt_syntax.specs.DataText.{comma_if, separated, separated_after}
use Rattle.mt_json.specs.Reading.{Parse, many}
use Rattle.mt_json.proofs.Again.{Begins}
use Rattle.mt_script_tree.specs.Lists.{item_step, list_by}
use Rattle.mt_script_read.proofs.Ends.{closes}

-- a byte that neither closes the list nor is a comma
abbrev pub IsInside : ℕ → ℕ → Type 0
IsInside close b = (eqb b close ≡ false) × (eqb b 44 ≡ false)

same_bytes : (b : ℕ) → eqb b b ≡ true
same_bytes b = (Decides-eqb b b).1 refl

module _ {A : Type 0} (text : A → List ℕ) (close : ℕ) (item : Parse A) where
  -- the item a is read from its text, where the expression in it can end
  pub record IsItem (a : A) : Type 0 where
    pub begins : Begins (text a) (IsInside close)
    pub reads : (more : List ℕ) → closes more ≡ true → item (text a ++ more) ≡ Some (a, more)

  abbrev pub AreItems : List A → Type 0
  AreItems [] = Unit {0}
  AreItems (a ∷ all) = IsItem a × AreItems all

  list_ends : (rest : List ℕ) → item_step close item (close ∷ rest) ≡ Some (None, rest)
  list_ends rest = rw (same_bytes close) refl

  module _ (comma : eqb 44 close ≡ false) (end : (rest : List ℕ) → closes (close ∷ rest) ≡ true) where
    one_item : (a : A) (later : Bool) (more : List ℕ) → IsItem a → closes more ≡ true → item_step close item (comma_if later ++ (text a ++ more)) ≡ Some (Some a, more)
    one_item a true more is h = rw (comma, is.reads more h) refl
    one_item a false more is h =
        let b = is.begins in
        let here : item (b.head ∷ (b.tail ++ more)) ≡ Some (a, more) = ap (λ s. item (s ++ more)) (sym b.whole) ∙ is.reads more h in
        ap (λ s. item_step close item (s ++ more)) b.whole ∙ rw (b.is.0, b.is.1, here) refl

    after_item : (ts : List (List ℕ)) (rest : List ℕ) → closes (separated_after true ts ++ close ∷ rest) ≡ true
    after_item [] rest = end rest
    after_item (t ∷ ts) rest = refl

    regroup : (later : Bool) (t s rest : List ℕ) → (comma_if later ++ (t ++ s)) ++ close ∷ rest ≡ comma_if later ++ (t ++ (s ++ close ∷ rest))
    regroup later t s rest = append_assoc (comma_if later) (t ++ s) (close ∷ rest) ∙ ap (λ x. comma_if later ++ x) (append_assoc t s (close ∷ rest))

    items_read : (later : Bool) (all : List A) (count : ℕ) (rest : List ℕ) → AreItems all → length all < count
        → many (item_step close item) count (separated_after later (map text all) ++ close ∷ rest) ≡ Some (all, rest)
    unfolding many
    items_read later all zero rest is lt = absurd (omega arith)
    items_read later [] (suc k) rest is lt = rw (list_ends rest) refl
    items_read later (a ∷ all) (suc k) rest is lt =
        let more : List ℕ = separated_after true (map text all) ++ close ∷ rest in
        let one : item_step close item (comma_if later ++ (text a ++ more)) ≡ Some (Some a, more) = one_item a later more is.0 (after_item (map text all) rest) in
        let others : many (item_step close item) k more ≡ Some (all, rest) = items_read true all k rest is.1 (omega arith) in
        ap (many (item_step close item) (suc k)) (regroup later (text a) (separated_after true (map text all)) rest) ∙ rw (one, others) refl

    enough : (later : Bool) (all : List A) → AreItems all → length all ≤ length (separated_after later (map text all))
    enough later [] is = omega arith
    enough later (a ∷ all) is =
        omega (arith, enough true all is.1, ap length is.0.begins.whole, length-append (comma_if later) (text a ++ separated_after true (map text all)), length-append (text a) (separated_after true (map text all)))

    -- with commas between them
    pub list_read : (all : List A) (rest : List ℕ) → AreItems all → list_by close item (separated (map text all) ++ close ∷ rest) ≡ Some (all, rest)
    list_read all rest is =
        items_read false all (length (separated (map text all) ++ close ∷ rest)) rest is (omega (arith, enough false all is, length-append (separated (map text all)) (close ∷ rest)))

-- ---- one directly behind the other

module _ {A : Type 0} (text : A → List ℕ) (close : ℕ) (item : Parse A) (Follows : List ℕ → Type 0) where
  -- the item a is read from its text, before what may follow an item, and may follow one itself
  pub record IsNext (a : A) : Type 0 where
    pub begins : Begins (text a) (IsInside close)
    pub reads : (more : List ℕ) → Follows more → item (text a ++ more) ≡ Some (a, more)
    pub follows : (more : List ℕ) → Follows (text a ++ more)

  abbrev pub AreNext : List A → Type 0
  AreNext [] = Unit {0}
  AreNext (a ∷ all) = IsNext a × AreNext all

  pub next_follows : (all : List A) (more : List ℕ) → AreNext all → Follows more → Follows (flat_map text all ++ more)
  next_follows [] more is h = h
  next_follows (a ∷ all) more is h = subst Follows (sym (append_assoc (text a) (flat_map text all) more)) (is.0.follows (flat_map text all ++ more))

  pub one_next : (a : A) (more : List ℕ) → IsNext a → Follows more → item_step close item (text a ++ more) ≡ Some (Some a, more)
  one_next a more is h =
      let b = is.begins in
      let here : item (b.head ∷ (b.tail ++ more)) ≡ Some (a, more) = ap (λ s. item (s ++ more)) (sym b.whole) ∙ is.reads more h in
      ap (λ s. item_step close item (s ++ more)) b.whole ∙ rw (b.is.0, b.is.1, here) refl

  nexts_read : (all : List A) (count : ℕ) (rest : List ℕ) → AreNext all → Follows (close ∷ rest) → length all < count → many (item_step close item) count (flat_map text all ++ close ∷ rest) ≡ Some (all, rest)
  unfolding many
  nexts_read all zero rest is h lt = absurd (omega arith)
  nexts_read [] (suc k) rest is h lt = rw (list_ends text close item rest) refl
  nexts_read (a ∷ all) (suc k) rest is h lt =
      let more : List ℕ = flat_map text all ++ close ∷ rest in
      let one : item_step close item (text a ++ more) ≡ Some (Some a, more) = one_next a more is.0 (next_follows all (close ∷ rest) is.1 h) in
      let others : many (item_step close item) k more ≡ Some (all, rest) = nexts_read all k rest is.1 h (omega arith) in
      ap (many (item_step close item) (suc k)) (append_assoc (text a) (flat_map text all) (close ∷ rest)) ∙ rw (one, others) refl

  pub enough_bytes : (all : List A) → AreNext all → length all ≤ length (flat_map text all)
  enough_bytes [] is = omega arith
  enough_bytes (a ∷ all) is = omega (arith, enough_bytes all is.1, ap length is.0.begins.whole, length-append (text a) (flat_map text all))

  pub nexts_by_length : (all : List A) (rest : List ℕ) → AreNext all → Follows (close ∷ rest) → list_by close item (flat_map text all ++ close ∷ rest) ≡ Some (all, rest)
  nexts_by_length all rest is h =
      nexts_read all (length (flat_map text all ++ close ∷ rest)) rest is h (omega (arith, enough_bytes all is, length-append (flat_map text all) (close ∷ rest)))
