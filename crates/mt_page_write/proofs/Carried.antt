-- The text of a tree with its closures is that of the tree of their codes.
use Rattle.std.proofs.Common.{◌≡◌, ℕ, false, if◌then◌else◌, List, [], ◌∷◌, ◌++◌, codes, map, refl, sym, ap, ap₂, ◌∙◌, subst, append_assoc, rules}
use denote.Hole.Carrier.{roll}
use Rattle.std.specs.List.{flat_map}
use Rattle.std.specs.Prelude.{encode_utf8_all}
use Rattle.mt_tree.specs.Tables.{is_void_tag}
use Rattle.mt_tree.specs.declared.closure.Closure.{Closure}
use Rattle.mt_tree.specs.declared.html.Attribute.{Attribute}
use Rattle.mt_tree.specs.declared.html.Html.{Html, roll-Html, map-Html, the_lemmas}
use Rattle.mt_tree.specs.declared.html.Html.TheVariants as html
use Rattle.mt_tree.specs.declared.html.Element.{Element}
use Rattle.mt_tree.specs.declared.html.Html.TheOpen.{Html-F}
use Rattle.mt_tree.specs.declared.html.Html.TheFolds.{ind-Html}
use Rattle.mt_syntax.specs.PageText.{attribute_text, closing_text, html_text}
use Rattle.mt_syntax.specs.Pages.{attribute_with, code_of, page_of}
use Rattle.mt_syntax.specs.declared.program.Code.{Code}
use Rattle.mt_syntax.specs.declared.program.Tilde.{Tilde}
use Rattle.mt_page_write.proofs.Lengths.{flat_map_map}
use Rattle.mt_page_write.specs.Written.{attribute_written, closing_written, html_written, opening_written, script_written, text_written}

-- ---- what the folds make of one node

abbrev node : (C : Type 0) → List ℕ → List (Attribute C) → List (Html C) → Html C
node C tag attributes children = html.Element (record { tag = tag; attributes = attributes; children = children })

module _ (tag : List ℕ) (attributes : List (Attribute Code)) (children : List (Html Code)) where
  text_node : html_text (node Code tag attributes children)
      ≡ codes "<" ++ (encode_utf8_all tag ++ (flat_map attribute_text attributes ++ (codes ">" ++ (if is_void_tag (encode_utf8_all tag) then [] else flat_map (λ text. text) (map html_text children) ++ closing_text tag))))
  text_node = search (rules, the_lemmas)

module _ (tildes : List Tilde) (tag : List ℕ) (attributes : List (Attribute Closure)) (children : List (Html Closure)) where
  page_node : page_of tildes (node Closure tag attributes children) ≡ node Code tag (map (attribute_with (code_of tildes)) attributes) (map (page_of tildes) children)
  page_node = search (rules, the_lemmas)

  written_node : html_written tildes (node Closure tag attributes children)
      ≡ opening_written tildes tag attributes ++ (if is_void_tag (encode_utf8_all tag) then [] else flat_map (λ text. text) (map (html_written tildes) children) ++ closing_written tag)
  written_node = search (rules, the_lemmas)

module _ (tildes : List Tilde) (node_of : Html Closure) (element : Element Closure) where
  pub children_written : node_of ≡ html.Element element → is_void_tag (encode_utf8_all element.tag) ≡ false
      → html_written tildes node_of ≡ opening_written tildes element.tag element.attributes ++ (flat_map (html_written tildes) element.children ++ closing_written element.tag)
  children_written is test = ap (html_written tildes) is ∙ written_node tildes element.tag element.attributes element.children ∙ rw (test, flat_map_map (html_written tildes) element.children) refl

module _ (tildes : List Tilde) (text : List ℕ) where
  words : html_text (page_of tildes (html.Text text)) ≡ html_written tildes (html.Text text)
  unfolding text_written
  words = search (rules, the_lemmas)

module _ (tildes : List Tilde) (closure : Closure) where
  script : html_text (page_of tildes (html.Script closure)) ≡ html_written tildes (html.Script closure)
  unfolding script_written
  script = search (rules, the_lemmas)

-- ---- every tree

module _ (tildes : List Tilde) where
  abbrev IsSame : Html Closure → Type 0
  IsSame h = html_text (page_of tildes h) ≡ html_written tildes h

  abbrev IsSameElement : Element Closure → Type 0
  IsSameElement e = IsSame (html.Element e)

  abbrev Known : Type 0
  Known = (h : Html Closure) × IsSame h

  abbrev KnownElement : Type 0
  KnownElement = (e : Element Closure) × IsSameElement e

  abbrev bare : List Known → List (Html Closure)
  bare ks = map (λ k. k.0) ks

  same_attributes : (attributes : List (Attribute Closure)) → flat_map attribute_text (map (attribute_with (code_of tildes)) attributes) ≡ flat_map (attribute_written tildes) attributes
  same_attributes [] = refl
  same_attributes (a ∷ more) = ap (λ text. attribute_written tildes a ++ text) (same_attributes more)

  same_children : (ks : List Known) → flat_map (λ (text : List ℕ). text) (map html_text (map (page_of tildes) (bare ks))) ≡ flat_map (λ (text : List ℕ). text) (map (html_written tildes) (bare ks))
  same_children [] = refl
  same_children (k ∷ ks) = ap₂ (λ (x y : List ℕ). x ++ y) k.1 (same_children ks)

  cut : (opening tag attributes behind : List ℕ) → opening ≡ codes "<" ++ (tag ++ (attributes ++ codes ">")) → codes "<" ++ (tag ++ (attributes ++ (codes ">" ++ behind))) ≡ opening ++ behind
  cut opening tag attributes behind is = rw is (simp append_assoc)

  behind_tag : (tag : List ℕ) (ks : List Known)
      → (if is_void_tag (encode_utf8_all tag) then [] else flat_map (λ (text : List ℕ). text) (map html_text (map (page_of tildes) (bare ks))) ++ closing_text tag)
      ≡ (if is_void_tag (encode_utf8_all tag) then [] else flat_map (λ (text : List ℕ). text) (map (html_written tildes) (bare ks)) ++ closing_written tag)
  unfolding closing_written
  behind_tag tag ks = ap (λ (inside : List ℕ). if is_void_tag (encode_utf8_all tag) then [] else inside ++ closing_text tag) (same_children ks)

  opening_is : (tag : List ℕ) (attributes : List (Attribute Closure)) → opening_written tildes tag attributes ≡ codes "<" ++ (encode_utf8_all tag ++ (flat_map attribute_text (map (attribute_with (code_of tildes)) attributes) ++ codes ">"))
  unfolding opening_written
  opening_is tag attributes = ap (λ (text : List ℕ). codes "<" ++ (encode_utf8_all tag ++ (text ++ codes ">"))) (sym (same_attributes attributes))

  same_node : (tag : List ℕ) (attributes : List (Attribute Closure)) (ks : List Known) → IsSame (node Closure tag attributes (bare ks))
  same_node tag attributes ks =
      let codes_in = map (attribute_with (code_of tildes)) attributes in
      let pages = map (page_of tildes) (bare ks) in
      ap html_text (page_node tildes tag attributes (bare ks)) ∙ text_node tag codes_in pages
      ∙ cut (opening_written tildes tag attributes) (encode_utf8_all tag) (flat_map attribute_text codes_in) _ (opening_is tag attributes)
      ∙ ap (λ (text : List ℕ). opening_written tildes tag attributes ++ text) (behind_tag tag ks)
      ∙ sym (written_node tildes tag attributes (bare ks))

  by_layer : (y : Html-F Closure Known KnownElement) → IsSame (roll-Html Closure (map-Html Closure Known KnownElement (Html Closure) (Element Closure) (λ k. k.0) (λ k. k.0) y))
  unfolding roll-Html roll
  by_layer (Html-F.Element k) = k.1
  by_layer (Html-F.Text text) = words tildes text
  by_layer (Html-F.Script closure) = script tildes closure

  pub text_of_codes : (h : Html Closure) → html_text (page_of tildes h) ≡ html_written tildes h
  text_of_codes = ind-Html Closure IsSame IsSameElement (λ x y is. subst (λ z. IsSame (roll-Html Closure z)) is (by_layer y))
      (λ x y is. subst (λ z. IsSameElement (record { tag = z.tag; attributes = z.attributes; children = z.children })) is (same_node y.tag y.attributes y.children))
