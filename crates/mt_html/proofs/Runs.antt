-- Runs of texts, by their units.
use Rattle.std.proofs.Common.{◌≡◌, ℕ, ◌<◌, ◌≤◌, Bool, true, false, ◌||◌, List, [], ◌∷◌, ◌++◌, Option, None, Some, refl, sym, ap, ◌∙◌, arith}
use Rattle.std.proofs.lemmas.Bool.{le-ltb, lt-ltb, ltb-true}
use Rattle.std.proofs.lemmas.List.Folds.{list_any-append}
use Rattle.mt_html.proofs.Characters.{units_joined}
use Rattle.mt_html.proofs.Before.{normal-cons, normal-nil, text_of-Text, with_text-node, with_text-twice}
use Rattle.mt_html.specs.Normal.{joined, normal, text_of, with_node, with_text}
use Rattle.mt_html.specs.Refusals.{any_text, is_long, text_passes, units_with}
use Rattle.mt_tree.specs.Limits.{text_limit}
use Rattle.mt_tree.specs.Text.{units_of}
use Rattle.mt_tree.specs.declared.html.Html.{Html}
use Rattle.mt_tree.specs.declared.html.Html.TheVariants as html

long_append : (a b : List ℕ) → is_long a ≡ true → is_long (a ++ b) ≡ true
long_append a b e = lt-ltb text_limit (units_of (a ++ b)) (omega (arith, units_joined a b, ltb-true text_limit (units_of a) e))

-- the units that were counted, and the texts of which they were
pub record Run {C : Type 0} (children rest : List (Html C)) (units : ℕ) : Type 0 where
  pub texts : List ℕ
  pub units-are : units_of texts ≡ units
  pub small : units ≤ text_limit
  pub same : any_text is_long (with_text texts (normal rest)) ≡ any_text is_long (normal children)

module _ (C : Type 0) where
  one : (text : List ℕ) (rest : List (Html C)) (b : Bool) → is_long text ≡ b → any_text is_long (html.Text text ∷ rest) ≡ (b || any_text is_long rest)
  one text rest b e = ap (λ own. text_passes is_long own || any_text is_long rest) (text_of-Text C text) ∙ ap (λ (z : Bool). z || any_text is_long rest) e

  long_joined : (c : ℕ) (cs : List ℕ) (h : Html C) (own : Option (List ℕ)) (rest : List (Html C)) → is_long (c ∷ cs) ≡ true → any_text is_long (joined (c ∷ cs) h own rest) ≡ true
  long_joined c cs h None rest e = one (c ∷ cs) (h ∷ rest) true e
  long_joined c cs h (Some text) rest e = one ((c ∷ cs) ++ text) rest true (long_append (c ∷ cs) text e)

  -- a long text is in one that is joined
  long_first : (text : List ℕ) (items : List (Html C)) → is_long text ≡ true → any_text is_long (with_text text items) ≡ true
  long_first [] items e = absurd (cc)
  long_first (c ∷ cs) [] e = one (c ∷ cs) [] true e
  long_first (c ∷ cs) (h ∷ rest) e = long_joined c cs h (text_of h) rest e

  short_alone : (text : List ℕ) → units_of text ≤ text_limit → any_text is_long (with_text {C = C} text []) ≡ false
  short_alone [] h = refl
  short_alone (c ∷ cs) h = one (c ∷ cs) [] false (le-ltb text_limit (units_of (c ∷ cs)) h)

  short_ended : (text : List ℕ) (h : Html C) (rest : List (Html C)) → text_of h ≡ None → units_of text ≤ text_limit
      → any_text is_long (with_text text (h ∷ rest)) ≡ any_text is_long rest
  short_ended text h rest e small =
      ap (any_text is_long) (with_text-node C text h rest e)
      ∙ list_any-append (λ x. text_passes is_long (text_of x)) (with_text text []) (h ∷ rest)
      ∙ ap (λ (b : Bool). b || any_text is_long (h ∷ rest)) (short_alone text small)
      ∙ ap (λ own. text_passes is_long own || any_text is_long rest) e

  -- ---- a child more

  with_child : (rest : List (Html C)) (h : Html C) (own : Option (List ℕ)) → text_of h ≡ own → normal (h ∷ rest) ≡ with_node h own (normal rest)
  with_child rest h own is = normal-cons C h rest ∙ ap (λ own. with_node h own (normal rest)) is

  pub run_first : (children : List (Html C)) → Run children children 0
  run_first children = record { texts = []; units-are = refl; small = omega arith; same = refl }

  next_of : (children rest : List (Html C)) (h : Html C) (own : Option (List ℕ)) (n m : ℕ) → text_of h ≡ own → Run children (h ∷ rest) n → m ≡ units_with n own → m ≤ text_limit → Run children rest m
  next_of children rest h None n m is r e small = record {
    texts = [];
    units-are = sym e;
    small = small;
    same =
        sym (short_ended r.texts h (normal rest) is (omega (arith, r.units-are, r.small)))
        ∙ ap (λ xs. any_text is_long (with_text r.texts xs)) (sym (with_child rest h None is)) ∙ r.same;
  }
  next_of children rest h (Some text) n m is r e small = record {
    texts = r.texts ++ text;
    units-are = omega (arith, units_joined r.texts text, r.units-are, r.small, e, small);
    small = small;
    same =
        ap (any_text is_long) (sym (with_text-twice C r.texts text (normal rest)) ∙ ap (λ xs. with_text r.texts xs) (sym (with_child rest h (Some text) is)))
        ∙ r.same;
  }

  long_of : (children rest : List (Html C)) (h : Html C) (own : Option (List ℕ)) (n m : ℕ) → text_of h ≡ own → Run children (h ∷ rest) n → m ≡ units_with n own → text_limit < m → any_text is_long (normal children) ≡ true
  long_of children rest h None n m is r e large = absurd (omega (arith, e, large))
  long_of children rest h (Some text) n m is r e large =
      sym r.same
      ∙ ap (λ xs. any_text is_long (with_text r.texts xs)) (with_child rest h (Some text) is)
      ∙ ap (any_text is_long) (with_text-twice C r.texts text (normal rest))
      ∙ long_first (r.texts ++ text) (normal rest) (lt-ltb text_limit (units_of (r.texts ++ text)) (omega (arith, units_joined r.texts text, r.units-are, e, large)))

  pub run_next : (children rest : List (Html C)) (h : Html C) (n m : ℕ) → Run children (h ∷ rest) n → m ≡ units_with n (text_of h) → m ≤ text_limit → Run children rest m
  run_next children rest h n m = next_of children rest h (text_of h) n m refl

  pub run_long : (children rest : List (Html C)) (h : Html C) (n m : ℕ) → Run children (h ∷ rest) n → m ≡ units_with n (text_of h) → text_limit < m → any_text is_long (normal children) ≡ true
  run_long children rest h n m = long_of children rest h (text_of h) n m refl

  pub run_over : (children : List (Html C)) (n : ℕ) → Run children [] n → any_text is_long (normal children) ≡ false
  run_over children n r = sym r.same ∙ ap (λ xs. any_text is_long (with_text r.texts xs)) (normal-nil C) ∙ short_alone r.texts (omega (arith, r.units-are, r.small))
