-- Which elements are refused.
use Rattle.std.specs.Prelude.{ℕ, ◌+◌, ◌-◌, ◌^◌, min, ◌==◌, ◌||◌, nat_lt, Bool, false, List, map, Option, None, Some}
use Rattle.std.specs.List.{list_any}
use Rattle.mt_html.specs.Nesting.{level_above, nesting}
use Rattle.mt_html.specs.Normal.{normal, text_of}
use Rattle.mt_tree.specs.Limits.{nesting_limit, text_limit}
use Rattle.mt_tree.specs.Text.{units_of}
use Rattle.mt_tree.specs.declared.html.Attribute.{Attribute}
use Rattle.mt_tree.specs.declared.html.AttributeValue.{AttributeValue}
use Rattle.mt_tree.specs.declared.html.AttributeValue.TheVariants.{Plain, Handler}
use Rattle.mt_tree.specs.declared.html.Html.{Html}

-- a text of more than 1,048,576 units of UTF-16
abbrev pub is_long : List ℕ → Bool
is_long text = nat_lt text_limit (units_of text)

abbrev pub has_nul : List ℕ → Bool
has_nul text = list_any (λ c. c == 0) text

-- the test of the text, where there is one
abbrev pub text_passes : (List ℕ → Bool) → Option (List ℕ) → Bool
text_passes test None = false
text_passes test (Some text) = test text

-- The units of a run of texts, where so many were counted and a node stands behind them that is this text or none. A count stays at the last
-- value of its type.
abbrev pub units_with : ℕ → Option (List ℕ) → ℕ
units_with units None = 0
units_with units (Some text) = min (units + units_of text) (2 ^ 64 - 1)

module _ {C : Type 0} where
  abbrev pub any_text : (List ℕ → Bool) → List (Html C) → Bool
  any_text test = list_any (λ h. text_passes test (text_of h))

  abbrev pub value_has_nul : AttributeValue C → Bool
  value_has_nul (Plain text) = has_nul text
  value_has_nul (Handler code) = false

  -- an element of these children would nest deeper than 60, or a joined text is too long
  unfoldable pub is_too_large : List (Html C) → Bool
  is_too_large children = nat_lt nesting_limit (level_above (map nesting children)) || any_text is_long (normal children)

  -- a plain attribute or a text among the children holds U+0000
  unfoldable pub holds_nul : List (Attribute C) → List (Html C) → Bool
  holds_nul attributes children = list_any (λ a. value_has_nul a.value) attributes || any_text has_nul children
