-- The text of a tree in which each closure stands for its code, without making the tree of codes.
use Rattle.std.specs.Prelude.{ℕ, if◌then◌else◌, List, [], ◌++◌, codes, flat_map, encode_utf8_all}
use Rattle.mt_tree.specs.Tables.{is_void_tag}
use Rattle.mt_tree.specs.declared.closure.Closure.{Closure}
use Rattle.mt_tree.specs.declared.html.Attribute.{Attribute}
use Rattle.mt_tree.specs.declared.html.Html.{Html, fold-Html}
use Rattle.mt_tree.specs.declared.html.Html.TheOpen.{Html-F, Element-F}
use Rattle.mt_syntax.specs.CodeText.{code_text}
use Rattle.mt_syntax.specs.PageText.{attribute_text, closing_text, escaped}
use Rattle.mt_syntax.specs.Pages.{attribute_with, code_of}
use Rattle.mt_syntax.specs.declared.program.Tilde.{Tilde}

unfoldable pub closing_written : List ℕ → List ℕ
closing_written tag = closing_text tag

unfoldable pub text_written : List ℕ → List ℕ
text_written text = escaped (encode_utf8_all text)

module _ (tildes : List Tilde) where
  abbrev pub attribute_written : Attribute Closure → List ℕ
  attribute_written a = attribute_text (attribute_with (code_of tildes) a)

  unfoldable pub opening_written : List ℕ → List (Attribute Closure) → List ℕ
  opening_written tag attributes = codes "<" ++ (encode_utf8_all tag ++ (flat_map attribute_written attributes ++ codes ">"))

  unfoldable pub script_written : Closure → List ℕ
  script_written closure = codes "<script>" ++ (code_text (code_of tildes closure).body ++ codes "</script>")

  abbrev pub element_step_written : Element-F Closure (List ℕ) (List ℕ) → List ℕ
  element_step_written e = opening_written e.tag e.attributes ++ (if is_void_tag (encode_utf8_all e.tag) then [] else flat_map (λ text. text) e.children ++ closing_written e.tag)

  abbrev pub html_step_written : Html-F Closure (List ℕ) (List ℕ) → List ℕ
  html_step_written (Html-F.Element text) = text
  html_step_written (Html-F.Text text) = text_written text
  html_step_written (Html-F.Script closure) = script_written closure

  abbrev pub html_written : Html Closure → List ℕ
  html_written = fold-Html Closure (List ℕ) (List ℕ) html_step_written element_step_written
