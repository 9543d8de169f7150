-- Children in normal form nest as deep as the children that were given.
use Rattle.std.proofs.Common.{◌≡◌, ℕ, suc, ◌≤◌, max, false, nat_lt, List, [], ◌∷◌, ◌++◌, Option, None, Some, map, refl, sym, ap, ◌∙◌, arith}
use Rattle.std.proofs.lemmas.Bool.{ltb-false, or_parts}
use Rattle.mt_html.proofs.Before.{a_text, normal-cons, normal-nil, Text-from_text_of}
use Rattle.mt_html.proofs.Levels.{nesting-Element, nesting-Text}
use Rattle.mt_html.specs.Nesting.{greatest, nesting}
use Rattle.mt_html.specs.Normal.{element_of, joined, normal, text_of, with_node, with_text}
use Rattle.mt_html.specs.Refusals.{any_text, is_long, is_too_large}
use Rattle.mt_tree.specs.Limits.{nesting_limit}
use Rattle.mt_tree.specs.declared.html.Attribute.{Attribute}
use Rattle.mt_tree.specs.declared.html.Html.{Html}

zero_max : (n : ℕ) → max 0 n ≡ n
zero_max n = omega arith

module _ (C : Type 0) where
  abbrev deepest : List (Html C) → ℕ
  deepest items = greatest (map nesting items)

  text_first : (text : List ℕ) (items : List (Html C)) → deepest (a_text C text ∷ items) ≡ deepest items
  text_first text items = ap (λ n. max n (deepest items)) (nesting-Text C text) ∙ zero_max (deepest items)

  text_again : (text : List ℕ) (h : Html C) (items : List (Html C)) → text_of h ≡ Some text → deepest items ≡ deepest (h ∷ items)
  text_again text h items is = sym (text_first text items) ∙ ap (λ (x : Html C). deepest (x ∷ items)) (sym (Text-from_text_of C h text is))

  joined_deepest : (c : ℕ) (cs : List ℕ) (h : Html C) (own : Option (List ℕ)) (rest : List (Html C)) → text_of h ≡ own → deepest (joined (c ∷ cs) h own rest) ≡ deepest (h ∷ rest)
  joined_deepest c cs h None rest is = text_first (c ∷ cs) (h ∷ rest)
  joined_deepest c cs h (Some text) rest is = text_first ((c ∷ cs) ++ text) rest ∙ text_again text h rest is

  with_text_deepest : (text : List ℕ) (items : List (Html C)) → deepest (with_text text items) ≡ deepest items
  with_text_deepest [] items = refl
  with_text_deepest (c ∷ cs) [] = text_first (c ∷ cs) []
  with_text_deepest (c ∷ cs) (h ∷ rest) = joined_deepest c cs h (text_of h) rest refl

  with_node_deepest : (h : Html C) (own : Option (List ℕ)) (items : List (Html C)) → text_of h ≡ own → deepest (with_node h own items) ≡ deepest (h ∷ items)
  with_node_deepest h None items is = refl
  with_node_deepest h (Some text) items is = with_text_deepest text items ∙ text_again text h items is

  pub normal_deepest : (items : List (Html C)) → deepest (normal items) ≡ deepest items
  normal_deepest [] = ap deepest (normal-nil C)
  normal_deepest (h ∷ rest) =
      ap deepest (normal-cons C h rest) ∙ with_node_deepest h (text_of h) (normal rest) refl ∙ ap (λ n. max (nesting h) n) (normal_deepest rest)

pub small_nests : {C : Type 0} (tag : List ℕ) (attributes : List (Attribute C)) (children : List (Html C)) → is_too_large children ≡ false → nesting (element_of tag attributes children) ≤ nesting_limit
unfolding is_too_large
small_nests {C = C} tag attributes children h =
    let shallow = or_parts (nat_lt nesting_limit (suc (greatest (map nesting children)))) (any_text is_long (normal children)) h in
    omega (arith, nesting-Element C tag attributes (normal children), normal_deepest C children, ltb-false nesting_limit (suc (greatest (map nesting children))) shallow.0)
