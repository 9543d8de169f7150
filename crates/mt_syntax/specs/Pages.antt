-- The page that a client gets: an HTML tree whose closures are replaced by their code.
use Rattle.std.specs.Prelude.{List, [], map, Option, None, Some, slice_get}
use Rattle.mt_tree.specs.declared.closure.Closure.{Closure}
use Rattle.mt_tree.specs.declared.html.Attribute.{Attribute}
use Rattle.mt_tree.specs.declared.html.AttributeValue.{AttributeValue}
use Rattle.mt_tree.specs.declared.html.AttributeValue.TheVariants.{Plain, Handler}
use Rattle.mt_tree.specs.declared.html.Html.{Html, fold-Html, roll-Html}
use Rattle.mt_tree.specs.declared.html.Element.{Element, roll-Element}
use Rattle.mt_tree.specs.declared.html.Html.TheOpen.{Html-F, Element-F}
use Rattle.mt_syntax.specs.Substitution.{subst}
use Rattle.mt_syntax.specs.declared.program.Code.{Code}
use Rattle.mt_syntax.specs.declared.program.Tilde.{Tilde}
use Rattle.mt_syntax.specs.declared.tree.Stmt.{Stmt}

-- the same tree with other code
module _ {C D : Type 0} (f : C → D) where
  abbrev pub value_with : AttributeValue C → AttributeValue D
  value_with (Plain text) = Plain text
  value_with (Handler code) = Handler (f code)

  abbrev pub attribute_with : Attribute C → Attribute D
  attribute_with a = record { name = a.name; value = value_with a.value }

  abbrev pub html_step_with : Html-F C (Html D) (Element D) → Html D
  html_step_with (Html-F.Element e) = roll-Html D (Html-F.Element e)
  html_step_with (Html-F.Text text) = roll-Html D (Html-F.Text text)
  html_step_with (Html-F.Script code) = roll-Html D (Html-F.Script (f code))

  abbrev pub element_step_with : Element-F C (Html D) (Element D) → Element D
  element_step_with e = roll-Element D (record { tag = e.tag; attributes = map attribute_with e.attributes; children = e.children })

  abbrev pub html_with : Html C → Html D
  html_with = fold-Html C (Html D) (Element D) html_step_with element_step_with

-- no program lacks a tilde that its closures name; where one did, it would have no code
abbrev pub body_of : Option Tilde → List Stmt
body_of None = []
body_of (Some t) = t.body

abbrev pub code_of : List Tilde → Closure → Code
code_of tildes c = record { body = subst c.values (body_of (slice_get tildes c.tilde)) }

abbrev pub page_of : List Tilde → Html Closure → Html Code
page_of tildes = html_with (code_of tildes)
