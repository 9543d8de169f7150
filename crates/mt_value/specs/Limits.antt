-- How large texts and data may be.
use Rattle.std.specs.Prelude.{ℕ, ◌^◌, Bool, ◌&&◌, nat_le, List, map}
use Rattle.std.specs.List.{list_all}
use Rattle.mt_tree.specs.Text.{units_of}
use Rattle.mt_tree.specs.declared.closure.Closure.{Closure}
use Rattle.mt_tree.specs.declared.data.Data.{Data}
use Rattle.mt_tree.specs.declared.data.Data.TheOpen.{Data-F, Entry-F}
use Rattle.mt_tree.specs.declared.data.Data.TheFolds.{fold-Data}
use Rattle.mt_tree.specs.declared.html.Attribute.{Attribute}
use Rattle.mt_tree.specs.declared.html.AttributeValue.{AttributeValue}
use Rattle.mt_tree.specs.declared.html.AttributeValue.TheVariants.{Plain, Handler}
use Rattle.mt_tree.specs.declared.html.Html.{Html, fold-Html}
use Rattle.mt_tree.specs.declared.html.Html.TheOpen.{Html-F, Element-F}
use Rattle.mt_syntax.specs.Data.{Named, data_step as step_of_data}

-- a text has at most 1,048,576 units
abbrev pub text_fits : List ℕ → Bool
text_fits text = nat_le (units_of text) (2 ^ 20)

abbrev all_true : List Bool → Bool
all_true = list_all (λ b. b)

-- ---- data: as data of the language are, but for the texts, each of which has so many units

abbrev data_step : Data-F Bool Named → Bool
data_step (Data-F.Text text) = text_fits text
data_step (Data-F.Svc name) = text_fits name
data_step layer = step_of_data layer

abbrev entry_step : Entry-F Bool Named → Named
entry_step e = (e.name, text_fits e.name && e.value)

-- numbers, texts and names are as they must be, at every depth
unfoldable pub data_fits : Data → Bool
data_fits = fold-Data Bool Named data_step entry_step

unfoldable pub closure_fits : Closure → Bool
closure_fits c = all_true (map data_fits c.values)

-- ---- HTML trees

abbrev attribute_fits : Attribute Closure → Bool
attribute_fits a = by a.value
  where
    by : AttributeValue Closure → Bool
    by (Plain text) = text_fits a.name && text_fits text
    by (Handler c) = text_fits a.name && closure_fits c

abbrev html_step : Html-F Closure Bool Bool → Bool
html_step (Html-F.Element fits) = fits
html_step (Html-F.Text text) = text_fits text
html_step (Html-F.Script c) = closure_fits c

abbrev element_step : Element-F Closure Bool Bool → Bool
element_step e = text_fits e.tag && all_true (map attribute_fits e.attributes) && all_true e.children

-- the texts are as they must be, and so are the values of the client code
unfoldable pub html_fits : Html Closure → Bool
html_fits = fold-Html Closure Bool Bool html_step element_step
