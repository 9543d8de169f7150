-- The units of joined texts, with one item more.
use Rattle.std.proofs.Common.{◌≡◌, ℕ, ◌+◌, ◌<◌, ◌≤◌, List, [], ◌∷◌, ◌++◌, length, get_or, take, append_assoc, refl, sym, ap, ◌∙◌, arith}
use Rattle.std.specs.List.{flat_map}
use Rattle.std.proofs.lemmas.List.{flat_map_more, take_more, take_all}
use Rattle.mt_ops_methods.specs.Costs.{counted}
use Rattle.mt_ops_methods.specs.Joining.{shown, joined}
use Rattle.mt_tree.specs.Text.{units_of}
use Rattle.mt_tree.proofs.Cuts.{units_of-append}
use Rattle.mt_value.specs.declared.value.Value.{Value}

module _ (separator : List ℕ) where
  abbrev pub rest_shown : List Value → List ℕ
  rest_shown items = flat_map (λ v. separator ++ shown v) items

  pub item_more : (items : List Value) (i : ℕ) (v : Value) → i < length items → v ≡ get_or items i v → rest_shown (take (i + 1) items) ≡ rest_shown (take i items) ++ (separator ++ shown v)
  item_more items i v h is =
      ap rest_shown (take_more items i v h) ∙ sym (flat_map_more (λ v. separator ++ shown v) [] (take i items) (get_or items i v))
      ∙ ap (λ w. rest_shown (take i items) ++ (separator ++ shown w)) (sym is)

  pub units_more : (start : ℕ) (items : List Value) (i : ℕ) (v : Value) → i < length items → v ≡ get_or items i v
      → counted (start + units_of (rest_shown (take (i + 1) items))) ≡ counted (counted (counted (start + units_of (rest_shown (take i items))) + units_of separator) + units_of (shown v))
  units_more start items i v h is =
      let before = rest_shown (take i items) in
      let whole : units_of (rest_shown (take (i + 1) items)) ≡ units_of before + (units_of separator + units_of (shown v)) =
      ap units_of (item_more items i v h is) ∙ units_of-append before (separator ++ shown v) ∙ ap (λ n. units_of before + n) (units_of-append separator (shown v)) in
      rw whole (omega arith)

  pub text_more : (start : List ℕ) (items : List Value) (i : ℕ) (v : Value) → i < length items → v ≡ get_or items i v
      → ((start ++ rest_shown (take i items)) ++ separator) ++ shown v ≡ start ++ rest_shown (take (i + 1) items)
  text_more start items i v h is = rw (item_more items i v h is) (simp append_assoc)

  pub all_shown : (first : Value) (rest items : List Value) (i : ℕ) → items ≡ first ∷ rest → length rest ≤ i → shown first ++ rest_shown (take i rest) ≡ joined separator items
  all_shown first rest items i is h = ap (λ r. shown first ++ rest_shown r) (take_all i rest h) ∙ ap (joined separator) (sym is)

  pub all_units : (first : Value) (rest items : List Value) (i units : ℕ) → items ≡ first ∷ rest → length rest ≤ i → units ≡ units_of (shown first)
      → counted (units + units_of (rest_shown (take i rest))) ≡ counted (units_of (joined separator items))
  all_units first rest items i units is h e =
      let whole = ap units_of (sym (all_shown first rest items i is h)) ∙ units_of-append (shown first) (rest_shown (take i rest)) in
      rw (e, whole) refl

  pub none_shown : (items : List Value) → length items ≡ 0 → [] ≡ joined separator items
  none_shown [] e = refl
  none_shown (v ∷ items) e = absurd (omega arith)
