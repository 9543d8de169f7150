-- The tokens of a page, each without the `>` that ends it, and the whole text of a page or a fragment.
use Rattle.std.specs.Prelude.{ℕ, Bool, true, false, List, ◌∷◌, ◌++◌, codes, flat_map, encode_utf8_all}
use Rattle.mt_tree.specs.declared.html.Attribute.{Attribute}
use Rattle.mt_tree.specs.declared.html.Html.{Html}
use Rattle.mt_syntax.specs.CodeText.{code_text}
use Rattle.mt_syntax.specs.PageText.{attribute_text, html_text, page_text}
use Rattle.mt_syntax.specs.declared.program.Code.{Code}

-- a text, by its characters
abbrev pub Chars : Type 0
Chars = List ℕ

abbrev pub Page : Type 0
Page = Html Code

unfoldable pub opening : Chars → List (Attribute Code) → List ℕ
opening tag attributes = 60 ∷ (encode_utf8_all tag ++ flat_map attribute_text attributes)

abbrev pub closing : Chars → List ℕ
closing tag = 60 ∷ 47 ∷ encode_utf8_all tag

-- a script with its tags
unfoldable pub script : Code → List ℕ
script code = codes "<script>" ++ code_text code.body ++ codes "</script"

unfoldable pub doctype : List ℕ
doctype = codes "<!DOCTYPE html"

-- the text of a page, or of a fragment
abbrev pub text_of : Bool → Page → List ℕ
text_of true root = page_text root
text_of false root = html_text root
