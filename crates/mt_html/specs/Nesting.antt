-- How deep the elements of a tree nest.
use Rattle.std.specs.Prelude.{ℕ, suc, max, List, [], ◌∷◌}
use Rattle.mt_tree.specs.declared.html.Html.{Html, fold-Html}
use Rattle.mt_tree.specs.declared.html.Html.TheOpen.{Html-F, Element-F}

abbrev pub greatest : List ℕ → ℕ
greatest [] = 0
greatest (n ∷ ns) = max n (greatest ns)

-- one more than the deepest of the children, where an element without children has 1
abbrev pub level_above : List ℕ → ℕ
level_above children = suc (greatest children)

module _ {C : Type 0} where
  abbrev pub nesting_of_element : Element-F C ℕ ℕ → ℕ
  nesting_of_element e = level_above e.children

  -- texts and scripts are no elements
  abbrev pub nesting_of_node : Html-F C ℕ ℕ → ℕ
  nesting_of_node (Html-F.Element n) = n
  nesting_of_node (Html-F.Text text) = 0
  nesting_of_node (Html-F.Script code) = 0

  unfoldable pub nesting : Html C → ℕ
  nesting = fold-Html C ℕ ℕ nesting_of_node nesting_of_element
