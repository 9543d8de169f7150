-- Which trees are pages within the limits, and which are fragments within them.
use Rattle.std.specs.Prelude.{ℕ, suc, ◌≡◌, ◌≤◌, Bool, true, false, not, ◌&&◌, ◌||◌, max, List, [], ◌∷◌, length, encode_utf8_all}
use Rattle.std.specs.List.{list_all}
use Rattle.std.specs.Str.{all_scalars, bytes_eq}
use Rattle.mt_tree.specs.Limits.{body_limit, nesting_limit}
use Rattle.mt_tree.specs.Tables.{is_attribute, is_handler, is_tag, is_void_tag}
use Rattle.mt_tree.specs.declared.html.Attribute.{Attribute}
use Rattle.mt_tree.specs.declared.html.AttributeValue.{AttributeValue}
use Rattle.mt_tree.specs.declared.html.AttributeValue.TheVariants.{Plain, Handler}
use Rattle.mt_tree.specs.declared.html.Html.{fold-Html}
use Rattle.mt_tree.specs.declared.html.Html.TheOpen.{Html-F, Element-F}
use Rattle.mt_html.specs.Refusals.{has_nul, is_long}
use Rattle.mt_syntax.specs.declared.program.Code.{Code}
use Rattle.mt_page_tokens.specs.Codes.{is_code}
use Rattle.mt_page_tokens.specs.Tokens.{Chars, Page, text_of}

-- a text or a value: of Unicode scalar values, without U+0000, and of at most 1,048,576 units of UTF-16
unfoldable pub is_text : Chars → Bool
is_text text = all_scalars text && (not (has_nul text) && not (is_long text))

-- code where the name is a handler's, and else a text
abbrev pub value_fits : Bool → AttributeValue Code → Bool
value_fits true (Handler code) = is_code code
value_fits false (Plain text) = is_text text
value_fits _ _ = false

abbrev pub attribute_fits : Attribute Code → Bool
attribute_fits a = all_scalars a.name && is_attribute (encode_utf8_all a.name) && value_fits (is_handler (encode_utf8_all a.name)) a.value

abbrev pub has_name : Chars → List (Attribute Code) → Bool
has_name name [] = false
has_name name (a ∷ rest) = bytes_eq (encode_utf8_all name) (encode_utf8_all a.name) || has_name name rest

-- no two have one name
abbrev pub are_distinct : List (Attribute Code) → Bool
are_distinct [] = true
are_distinct (a ∷ rest) = not (has_name a.name rest) && are_distinct rest

-- an element may begin so
unfoldable pub opens : Chars → List (Attribute Code) → Bool
opens tag attributes = (all_scalars tag && is_tag (encode_utf8_all tag)) && (list_all attribute_fits attributes && are_distinct attributes)

abbrev pub is_empty : {A : Type 0} → List A → Bool
is_empty [] = true
is_empty (x ∷ xs) = false

-- of a node: it is a text; it is within the limits
abbrev pub Look : Type 0
Look = Bool × Bool

-- each is within the limits, and no text stands beside a text, also not first where a text stands before
abbrev pub in_order : Bool → List Look → Bool
in_order after_text [] = true
in_order after_text (x ∷ xs) = x.1 && not (after_text && x.0) && in_order x.0 xs

abbrev pub look_element : Element-F Code Look Look → Look
look_element e = (false, opens e.tag e.attributes && (not (is_void_tag (encode_utf8_all e.tag)) || is_empty e.children) && in_order false e.children)

abbrev pub look_html : Html-F Code Look Look → Look
look_html (Html-F.Element e) = e
look_html (Html-F.Text text) = (true, is_text text && not (is_empty text))
look_html (Html-F.Script code) = (false, is_code code)

abbrev pub look : Page → Look
look = fold-Html Code Look Look look_html look_element

abbrev pub greatest : List ℕ → ℕ
greatest [] = 0
greatest (n ∷ ns) = max n (greatest ns)

abbrev pub nesting_element : Element-F Code ℕ ℕ → ℕ
nesting_element e = suc (greatest e.children)

abbrev pub nesting_html : Html-F Code ℕ ℕ → ℕ
nesting_html (Html-F.Element n) = n
nesting_html (Html-F.Text text) = 0
nesting_html (Html-F.Script code) = 0

-- how deep elements nest
abbrev pub nesting : Page → ℕ
nesting = fold-Html Code ℕ ℕ nesting_html nesting_element

abbrev pub root_element : Element-F Code Bool Bool → Bool
root_element e = true

abbrev pub root_html : Html-F Code Bool Bool → Bool
root_html (Html-F.Element e) = true
root_html (Html-F.Text text) = false
root_html (Html-F.Script code) = false

-- it is an element
abbrev pub is_element : Page → Bool
is_element = fold-Html Code Bool Bool root_html root_element

-- within the limits, but for the length of the text
pub record IsTree (root : Page) : Type 0 where
  pub element : is_element root ≡ true
  pub fits : (look root).1 ≡ true
  pub nests : nesting root ≤ nesting_limit

-- a page within the limits, or a fragment
pub record IsPage (whole : Bool) (root : Page) : Type 0 where
  pub tree : IsTree root
  pub short : length (text_of whole root) ≤ body_limit
