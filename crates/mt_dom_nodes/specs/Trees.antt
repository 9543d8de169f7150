-- A list of nested trees: it is empty, or it has a first tree, of a number, a content and the list of the trees below it,
-- and the list of the trees after it. Of a DOM the first tree is the page, and the others are detached.
use Rattle.std.specs.Prelude.{◌≡◌, ◌≤◌, ℕ, ◌+◌, ◌<◌, ◌==◌, Bool, true, false, Option, None, Some, List, [], ◌∷◌, if◌then◌else◌, nat_lt}
use Rattle.mt_dom_nodes.specs.declared.content.Content.{Content}

pub data Trees : Type 0 where
  none : Trees
  tree : (number : ℕ) (content : Content) (below : Trees) (after : Trees) → Trees

-- the number of the first tree
abbrev pub head : Trees → Option ℕ
head none = None
head (tree n x b a) = Some n

-- how often a number stands in the trees, at any depth
abbrev pub count : ℕ → Trees → ℕ
count n none = 0
count n (tree m x b a) = (if m == n then 1 else 0) + count n b + count n a

abbrev pub has : ℕ → Trees → Bool
has n t = nat_lt 0 (count n t)

-- how many trees there are, at any depth
abbrev pub size : Trees → ℕ
size none = 0
size (tree m x b a) = 1 + size b + size a

-- the numbers are those from 1 to the number of trees, each once, and the page has 1
pub record Numbered (t : Trees) : Type 0 where
  pub once : (n : ℕ) → count n t ≤ 1
  pub inside : (n : ℕ) → 0 < n → n ≤ size t → count n t ≡ 1
  pub known : (n : ℕ) → 0 < count n t → (0 < n) × (n ≤ size t)
  pub page : head t ≡ Some 1

-- a number that a node has
abbrev pub IsNode : ℕ → Trees → Type 0
IsNode n t = (0 < n) × (n ≤ size t)

-- one list after another
abbrev pub joined : Trees → Trees → Trees
joined none s = s
joined (tree m x b a) s = tree m x b (joined a s)

-- the trees without the one of a number
abbrev pub without : ℕ → Trees → Trees
without c none = none
without c (tree m x b a) = if m == c then without c a else tree m x (without c b) (without c a)

-- the tree of a number, alone
abbrev pub found : ℕ → Trees → Trees
found c none = none
found c (tree m x b a) = if m == c then tree m x b none else (if has c b then found c b else found c a)

-- a list of trees put last below the tree of a number
abbrev pub with_last : ℕ → Trees → Trees → Trees
with_last p s none = none
with_last p s (tree m x b a) = tree m x (if m == p then joined (with_last p s b) s else with_last p s b) (with_last p s a)

-- a tree put second, after the page
abbrev pub put_second : Trees → Trees → Trees
put_second s none = s
put_second s (tree m x b a) = tree m x b (joined s a)

-- the tree of a number made a detached one
abbrev pub detached : ℕ → Trees → Trees
detached c t = put_second (found c t) (without c t)

-- the tree of a number taken from where it stands, and put last below another
abbrev pub moved : ℕ → ℕ → Trees → Trees
moved p c t = with_last p (found c t) (without c t)

-- a new detached tree without children
abbrev pub created : Content → Trees → Trees
created x t = put_second (tree (1 + size t) x none none) t

-- another content
abbrev pub with_content : ℕ → (Content → Content) → Trees → Trees
with_content n f none = none
with_content n f (tree m x b a) = tree m (if m == n then f x else x) (with_content n f b) (with_content n f a)

-- the numbers from a tree up to its root, on top of those above
abbrev pub trail : List ℕ → ℕ → Trees → List ℕ
trail up n none = []
trail up n (tree m x b a) = if m == n then n ∷ up else (if has n b then trail (m ∷ up) n b else trail up n a)

abbrev pub path : ℕ → Trees → List ℕ
path = trail []

-- whether a number is one of a list
abbrev pub is_in : ℕ → List ℕ → Bool
is_in c [] = false
is_in c (k ∷ ks) = if k == c then true else is_in c ks

-- whether a tree is another or above it
abbrev pub is_above : ℕ → ℕ → Trees → Bool
is_above c n t = is_in c (path n t)

-- the parent of the tree of a number
abbrev pub parent_in : Option ℕ → ℕ → Trees → Option ℕ
parent_in p n none = None
parent_in p n (tree m x b a) = if m == n then p else (if has n b then parent_in (Some m) n b else parent_in p n a)

abbrev pub parent_of : ℕ → Trees → Option ℕ
parent_of = parent_in None

-- the trees below that of a number, and those after it in its list
abbrev pub under : ℕ → Trees → Trees
under n none = none
under n (tree m x b a) = if m == n then b else (if has n b then under n b else under n a)

abbrev pub later : ℕ → Trees → Trees
later n none = none
later n (tree m x b a) = if m == n then a else (if has n b then later n b else later n a)

-- what the tree of a number is
abbrev pub content_of : ℕ → Trees → Option Content
content_of n none = None
content_of n (tree m x b a) = if m == n then Some x else (if has n b then content_of n b else content_of n a)
