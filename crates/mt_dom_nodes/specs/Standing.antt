-- How a vector of nodes holds trees: each node is at the place before its number, and has the numbers of its neighbours.
use Rattle.std.specs.Prelude.{◌≡◌, ℕ, zero, suc, ◌==◌, Option, None, Some, List, length, if◌then◌else◌, slice_get}
use Rattle.mt_dom_nodes.specs.declared.node.Node.{Node}
use Rattle.mt_dom_nodes.specs.Trees.{Trees, none, tree, head, size, Numbered}

-- the node of a number
abbrev pub node_at : List Node → ℕ → Option Node
node_at nodes zero = None
node_at nodes (suc place) = slice_get nodes place

-- the number of the last tree after one
abbrev pub last_from : Option ℕ → Trees → Option ℕ
last_from v none = v
last_from v (tree m x b a) = last_from (Some m) a

-- the nodes hold the trees, whose parent is p, after the tree v
abbrev pub Stands : (ℕ → Option Node) → Option ℕ → Option ℕ → Trees → Type 0
Stands look p v none = Unit {0}
Stands look p v (tree n x b a) =
    (look n ≡ Some (record { parent = p; previous = v; next = head a; first = head b; last = last_from None b; content = x }))
    × Stands look (Some n) None b × Stands look p (Some n) a

abbrev pub opened : ℕ → Option Node → (Option ℕ → Trees) → Trees
opened n None more = none
opened n (Some d) more = tree n d.content (more d.first) (more d.next)

-- the trees from a link on, as far as a number of links leads
abbrev pub chain : ℕ → (ℕ → Option Node) → Option ℕ → Trees
chain zero look link = none
chain (suc k) look None = none
chain (suc k) look (Some n) = opened n (look n) (chain k look)

-- the trees that a vector of nodes holds: the page, from the first node, and then the detached ones
abbrev pub trees_of : List Node → Trees
trees_of nodes = chain (length nodes) (node_at nodes) (Some 1)

-- each node of the vector stands in its trees
pub record Kept (nodes : List Node) : Type 0 where
  pub stands : Stands (node_at nodes) None None (trees_of nodes)
  pub numbered : Numbered (trees_of nodes)
  pub sized : size (trees_of nodes) ≡ length nodes

abbrev pub parent_link : Option Node → Option ℕ
parent_link None = None
parent_link (Some d) = d.parent

abbrev pub previous_link : Option Node → Option ℕ
previous_link None = None
previous_link (Some d) = d.previous

abbrev pub next_link : Option Node → Option ℕ
next_link None = None
next_link (Some d) = d.next

abbrev pub first_link : Option Node → Option ℕ
first_link None = None
first_link (Some d) = d.first

abbrev pub last_link : Option Node → Option ℕ
last_link None = None
last_link (Some d) = d.last

-- a node with other links
abbrev pub with_next : Option ℕ → Option Node → Option Node
with_next link None = None
with_next link (Some d) = Some (record d { next = link })

abbrev pub with_previous : Option ℕ → Option Node → Option Node
with_previous link None = None
with_previous link (Some d) = Some (record d { previous = link })

abbrev pub with_first : Option ℕ → Option Node → Option Node
with_first link None = None
with_first link (Some d) = Some (record d { first = link })

abbrev pub with_last_link : Option ℕ → Option Node → Option Node
with_last_link link None = None
with_last_link link (Some d) = Some (record d { last = link })

abbrev pub with_place : Option ℕ → Option ℕ → Option ℕ → Option Node → Option Node
with_place parent previous next None = None
with_place parent previous next (Some d) = Some (record d { parent = parent; previous = previous; next = next })

-- the nodes, of which one is changed
abbrev pub changed : ℕ → (Option Node → Option Node) → (ℕ → Option Node) → ℕ → Option Node
changed n f look m = if m == n then f (look m) else look m

-- the nodes once what comes before a place, or the parent where nothing does, leads to another node
abbrev pub followed : Option ℕ → Option ℕ → Option ℕ → (ℕ → Option Node) → ℕ → Option Node
followed parent (Some v) link look = changed v (with_next link) look
followed (Some q) None link look = changed q (with_first link) look
followed None None link look = look

-- and once what comes after a place, or the parent where nothing does, leads back to another node
abbrev pub preceded : Option ℕ → Option ℕ → Option ℕ → (ℕ → Option Node) → ℕ → Option Node
preceded parent (Some w) link look = changed w (with_previous link) look
preceded (Some q) None link look = changed q (with_last_link link) look
preceded None None link look = look
