-- The text of a page, in bytes of UTF-8.
use Rattle.std.specs.Prelude.{ℕ, if◌then◌else◌, ◌==◌, List, [], ◌∷◌, ◌++◌, codes, flat_map, encode_utf8_all}
use Rattle.mt_tree.specs.Tables.{is_void_tag}
use Rattle.mt_tree.specs.declared.html.Attribute.{Attribute}
use Rattle.mt_tree.specs.declared.html.AttributeValue.{AttributeValue}
use Rattle.mt_tree.specs.declared.html.AttributeValue.TheVariants.{Plain, Handler}
use Rattle.mt_tree.specs.declared.html.Html.{Html, fold-Html}
use Rattle.mt_tree.specs.declared.html.Element.{Element, fold-Element}
use Rattle.mt_tree.specs.declared.html.Html.TheOpen.{Html-F, Element-F}
use Rattle.mt_syntax.specs.CodeText.{code_text}
use Rattle.mt_syntax.specs.declared.program.Code.{Code}

-- `&`, `<`, `>`, `"` and a carriage return stand as character references
abbrev pub escape_byte : ℕ → List ℕ
escape_byte b =
    if b == 38 then codes "&amp;" else
    if b == 60 then codes "&lt;" else
    if b == 62 then codes "&gt;" else
    if b == 34 then codes "&quot;" else
    if b == 13 then codes "&#13;" else b ∷ []

unfoldable pub escaped : List ℕ → List ℕ
escaped = flat_map escape_byte

-- a text, or the text of a handler's code
abbrev pub value_text : AttributeValue Code → List ℕ
value_text (Plain text) = encode_utf8_all text
value_text (Handler code) = code_text code.body

-- a space, the name, and the value in quotes
abbrev pub attribute_text : Attribute Code → List ℕ
attribute_text a = 32 ∷ (encode_utf8_all a.name ++ (codes "=\"" ++ (escaped (value_text a.value) ++ codes "\"")))

abbrev pub closing_text : List ℕ → List ℕ
closing_text tag = codes "</" ++ (encode_utf8_all tag ++ codes ">")

-- an element of a void tag has neither children nor a closing tag
abbrev pub element_step : Element-F Code (List ℕ) (List ℕ) → List ℕ
element_step e =
    codes "<" ++ (encode_utf8_all e.tag ++ (flat_map attribute_text e.attributes ++ (codes ">"
    ++ (if is_void_tag (encode_utf8_all e.tag) then [] else flat_map (λ text. text) e.children ++ closing_text e.tag))))

-- the code of a script isn't escaped
abbrev pub html_step : Html-F Code (List ℕ) (List ℕ) → List ℕ
html_step (Html-F.Element text) = text
html_step (Html-F.Text text) = escaped (encode_utf8_all text)
html_step (Html-F.Script code) = codes "<script>" ++ (code_text code.body ++ codes "</script>")

abbrev pub html_text : Html Code → List ℕ
html_text = fold-Html Code (List ℕ) (List ℕ) html_step element_step

abbrev pub element_text : Element Code → List ℕ
element_text = fold-Element Code (List ℕ) (List ℕ) html_step element_step

abbrev pub page_text : Html Code → List ℕ
page_text root = codes "<!DOCTYPE html>" ++ html_text root
