-- Children in normal form: texts that stand beside each other are one text, and no text is empty.
use Rattle.std.specs.Prelude.{◌≡◌, ℕ, List, [], ◌∷◌, ◌++◌, Option, None, Some}
use Rattle.mt_tree.specs.declared.html.Attribute.{Attribute}
use Rattle.mt_tree.specs.declared.html.Element.{Element}
use Rattle.mt_tree.specs.declared.html.Html.{Html, out-Html}
use Rattle.mt_tree.specs.declared.html.Html.TheOpen.{Html-F}
use Rattle.mt_tree.specs.declared.html.Html.TheVariants as html

module _ {C : Type 0} where
  abbrev pub text_of_node : Html-F C (Html C) (Element C) → Option (List ℕ)
  text_of_node (Html-F.Text text) = Some text
  text_of_node (Html-F.Element e) = None
  text_of_node (Html-F.Script code) = None

  -- the text that a node is
  abbrev pub text_of : Html C → Option (List ℕ)
  text_of h = text_of_node (out-Html C h)

  -- a text before a node, which is this text or none
  abbrev pub joined : List ℕ → Html C → Option (List ℕ) → List (Html C) → List (Html C)
  joined text h None rest = html.Text text ∷ h ∷ rest
  joined text h (Some next) rest = html.Text (text ++ next) ∷ rest

  -- a text before a list in normal form
  abbrev pub with_text : List ℕ → List (Html C) → List (Html C)
  with_text [] items = items
  with_text (c ∷ cs) [] = html.Text (c ∷ cs) ∷ []
  with_text (c ∷ cs) (h ∷ rest) = joined (c ∷ cs) h (text_of h) rest

  -- a node, which is this text or none, before a list in normal form
  abbrev pub with_node : Html C → Option (List ℕ) → List (Html C) → List (Html C)
  with_node h None items = h ∷ items
  with_node h (Some text) items = with_text text items

  unfoldable pub normal : List (Html C) → List (Html C)
  normal [] = []
  normal (h ∷ rest) = with_node h (text_of h) (normal rest)

  -- the element with these children in normal form
  abbrev pub element_of : List ℕ → List (Attribute C) → List (Html C) → Html C
  element_of tag attributes children = html.Element (record { tag = tag; attributes = attributes; children = normal children })

  -- no text is empty, and none stands beside a text
  pub record IsNormal (items : List (Html C)) : Type 0 where
    pub none_empty : (before rest : List (Html C)) → items ≡ before ++ html.Text [] ∷ rest → ⊥
    pub none_beside : (before rest : List (Html C)) (a b : List ℕ) → items ≡ before ++ html.Text a ∷ html.Text b ∷ rest → ⊥
