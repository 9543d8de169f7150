-- A text before children in normal form.
use Rattle.std.proofs.Common.{◌≡◌, ℕ, List, [], ◌∷◌, ◌++◌, Option, None, Some, refl, sym, ap, ◌∙◌, append_assoc}
use Rattle.std.proofs.lemmas.List.{append-nil}
use denote.Hole.Carrier.{out, roll}
use Rattle.mt_html.specs.Normal.{joined, normal, text_of, text_of_node, with_node, with_text}
use Rattle.mt_tree.specs.declared.html.Element.{Element}
use Rattle.mt_tree.specs.declared.html.Html.{Html, out-Html, roll-Html, roll-out-Html}
use Rattle.mt_tree.specs.declared.html.Html.TheOpen.{Html-F}
use Rattle.mt_tree.specs.declared.html.Html.TheVariants as html

module _ (C : Type 0) where
  abbrev pub a_text : List ℕ → Html C
  a_text text = html.Text text

  pub text_of-Text : (text : List ℕ) → text_of (a_text text) ≡ Some text
  unfolding out-Html out
  text_of-Text text = refl

  is_text : (y : Html-F C (Html C) (Element C)) (text : List ℕ) → text_of_node y ≡ Some text → roll-Html C y ≡ a_text text
  unfolding roll-Html roll
  is_text (Html-F.Text own) text e = ap a_text (cc)
  is_text (Html-F.Element x) text e = absurd (cc)
  is_text (Html-F.Script code) text e = absurd (cc)

  pub Text-from_text_of : (h : Html C) (text : List ℕ) → text_of h ≡ Some text → h ≡ a_text text
  Text-from_text_of h text e = sym (roll-out-Html C h) ∙ is_text (out-Html C h) text e

  -- ---- a text before a text

  twice_before : (a : ℕ) (more : List ℕ) (b : ℕ) (bs : List ℕ) (h : Html C) (rest : List (Html C)) (own : Option (List ℕ))
      → with_text (a ∷ more) (joined (b ∷ bs) h own rest) ≡ joined ((a ∷ more) ++ b ∷ bs) h own rest
  twice_before a more b bs h rest None = ap (λ own. joined (a ∷ more) (a_text (b ∷ bs)) own (h ∷ rest)) (text_of-Text (b ∷ bs))
  twice_before a more b bs h rest (Some text) =
      ap (λ own. joined (a ∷ more) (a_text ((b ∷ bs) ++ text)) own rest) (text_of-Text ((b ∷ bs) ++ text))
      ∙ ap (λ (t : List ℕ). a_text t ∷ rest) (sym (append_assoc (a ∷ more) (b ∷ bs) text))

  pub with_text-twice : (s t : List ℕ) (items : List (Html C)) → with_text s (with_text t items) ≡ with_text (s ++ t) items
  with_text-twice [] t items = refl
  with_text-twice (a ∷ more) [] items = ap (λ s. with_text s items) (sym (append-nil (a ∷ more)))
  with_text-twice (a ∷ more) (b ∷ bs) [] = ap (λ own. joined (a ∷ more) (a_text (b ∷ bs)) own []) (text_of-Text (b ∷ bs))
  with_text-twice (a ∷ more) (b ∷ bs) (h ∷ rest) = twice_before a more b bs h rest (text_of h)

  -- ---- a text before a node that is none

  pub with_text-node : (text : List ℕ) (h : Html C) (rest : List (Html C)) → text_of h ≡ None → with_text text (h ∷ rest) ≡ with_text text [] ++ h ∷ rest
  with_text-node [] h rest e = refl
  with_text-node (c ∷ cs) h rest e = ap (λ own. joined (c ∷ cs) h own rest) e

  pub alone : (text : List ℕ) → (text ≡ [] → ⊥) → with_text text [] ≡ a_text text ∷ []
  alone [] more = absurd (more refl)
  alone (c ∷ cs) more = refl

  -- ---- a child more

  -- a text is gathered
  pub gathered : (made rest : List (Html C)) (before after text : List ℕ) (h : Html C) → Some text ≡ text_of h → after ≡ before ++ text
      → made ++ with_text after rest ≡ made ++ with_text before (with_node h (text_of h) rest)
  gathered made rest before after text h is more =
      ap (λ t. made ++ with_text t rest) more ∙ ap (λ xs. made ++ xs) (sym (with_text-twice before text rest) ∙ ap (λ own. with_text before (with_node h own rest)) is)

  -- a node that is no text ends what was gathered
  pub ended : (made ended_by new rest : List (Html C)) (before after : List ℕ) (h : Html C) → None ≡ text_of h → after ≡ []
      → ended_by ≡ made ++ with_text before [] → new ≡ ended_by ++ h ∷ []
      → new ++ with_text after rest ≡ made ++ with_text before (with_node h (text_of h) rest)
  ended made ended_by new rest before after h is none first last =
      ap (λ t. new ++ with_text t rest) none ∙ ap (λ xs. xs ++ rest) (last ∙ ap (λ xs. xs ++ h ∷ []) first)
      ∙ append_assoc (made ++ with_text before []) (h ∷ []) rest ∙ append_assoc made (with_text before []) (h ∷ rest)
      ∙ ap (λ xs. made ++ xs) (sym (with_text-node before h rest (sym is)) ∙ ap (λ own. with_text before (with_node h own rest)) is)

  pub normal-cons : (h : Html C) (rest : List (Html C)) → normal (h ∷ rest) ≡ with_node h (text_of h) (normal rest)
  unfolding normal
  normal-cons h rest = refl

  pub normal-nil : normal {C = C} [] ≡ []
  unfolding normal
  normal-nil = refl
