-- The nesting of several trees.
use Rattle.std.proofs.Common.{◌≡◌, ℕ, suc, ◌-◌, ◌<◌, max, true, false, nat_lt, List, ◌∷◌, map, sym, ◌∙◌, ⊎_elim, arith, rules}
use Rattle.std.proofs.lemmas.Bool.{cases_lt, le-ltb, lt-ltb, ltb-false, ltb-true}
use Rattle.mt_html.specs.Nesting.{greatest, nesting}
use Rattle.mt_tree.specs.declared.html.Attribute.{Attribute}
use Rattle.mt_tree.specs.declared.html.Html.{Html, the_lemmas}
use Rattle.mt_tree.specs.declared.html.Html.TheVariants as html

-- ---- one tree more

pub deep_here : (levels n : ℕ) (ns : List ℕ) → nat_lt levels n ≡ true → nat_lt levels (greatest (n ∷ ns)) ≡ true
deep_here levels n ns e = lt-ltb levels (max n (greatest ns)) (omega (arith, ltb-true levels n e))

pub deep_next : (levels n : ℕ) (ns : List ℕ) → nat_lt levels n ≡ false → nat_lt levels (greatest (n ∷ ns)) ≡ nat_lt levels (greatest ns)
deep_next levels n ns e =
    ⊎_elim
    (λ h. lt-ltb levels (max n (greatest ns)) (omega (arith, h)) ∙ sym (lt-ltb levels (greatest ns) h))
    (λ h. le-ltb levels (max n (greatest ns)) (omega (arith, h, ltb-false levels n e)) ∙ sym (le-ltb levels (greatest ns) h))
    (cases_lt levels (greatest ns))

pub deep_none : (levels : ℕ) → nat_lt levels 0 ≡ false
deep_none levels = le-ltb levels 0 (omega arith)

-- ---- an element around them

pub deeper_at_none : (n : ℕ) → nat_lt 0 (suc n) ≡ true
deeper_at_none n = lt-ltb 0 (suc n) (omega arith)

pub deeper_below : (levels n : ℕ) → 0 < levels → nat_lt (levels - 1) n ≡ nat_lt levels (suc n)
deeper_below levels n h =
    ⊎_elim
    (λ l. lt-ltb (levels - 1) n (omega (arith, l)) ∙ sym (lt-ltb levels (suc n) l))
    (λ l. le-ltb (levels - 1) n (omega (arith, l)) ∙ sym (le-ltb levels (suc n) l))
    (cases_lt levels (suc n))

module _ (C : Type 0) where
  pub nesting-Element : (tag : List ℕ) (attributes : List (Attribute C)) (children : List (Html C))
      → nesting {C = C} (html.Element (record { tag = tag; attributes = attributes; children = children })) ≡ suc (greatest (map nesting children))
  unfolding nesting
  nesting-Element tag attributes children = search (rules, the_lemmas)

  pub nesting-Text : (text : List ℕ) → nesting {C = C} (html.Text text) ≡ 0
  unfolding nesting
  nesting-Text text = search (rules, the_lemmas)
