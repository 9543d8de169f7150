-- What the links of a node say of its place in the trees.
use Rattle.std.proofs.Common.{◌≡◌, ℕ, List, Option, None, Some, sym, ap, ◌∙◌, subst}
use Rattle.mt_dom_nodes.specs.declared.content.Content.{Content}
use Rattle.mt_dom_nodes.specs.declared.node.Node.{Node}
use Rattle.mt_dom_nodes.specs.Trees.{Trees, head, under, later, parent_of, content_of, IsNode}
use Rattle.mt_dom_nodes.specs.Standing.{node_at, trees_of, Kept, parent_link, first_link, next_link}
use Rattle.mt_dom_nodes.proofs.Standing.{Spot, spot}
use Rattle.mt_dom_nodes.proofs.Results.{is-in}

abbrev content_link : Option Node → Option Content
content_link None = None
content_link (Some d) = Some d.content

pub record Seen (t : Trees) (n : ℕ) (d : Node) : Type 0 where
  pub parent : d.parent ≡ parent_of n t
  pub first : d.first ≡ head (under n t)
  pub next : d.next ≡ head (later n t)
  pub content : content_of n t ≡ Some d.content

here : (nodes : List Node) → Kept nodes → (n : ℕ) → IsNode n (trees_of nodes) → (d : Node) → node_at nodes n ≡ Some d → Seen (trees_of nodes) n d
here nodes kept n h d e = at (spot (node_at nodes) n None None (trees_of nodes) kept.stands (is-in nodes kept n h)) where
  at : Spot (node_at nodes) None None (trees_of nodes) n → Seen (trees_of nodes) n d
  at g = record {
    parent = sym (ap parent_link e) ∙ ap parent_link g.node ∙ sym g.parent_is;
    first = sym (ap first_link e) ∙ ap first_link g.node ∙ ap head (sym g.under_is);
    next = sym (ap next_link e) ∙ ap next_link g.node ∙ ap head (sym g.later_is);
    content = g.content_is ∙ sym (ap content_link g.node) ∙ ap content_link e;
  }

pub seen : (nodes : List Node) → Kept nodes → (t : Trees) → trees_of nodes ≡ t → (xs : List Node) → xs ≡ nodes → (n : ℕ) → IsNode n t → (d : Node) → node_at xs n ≡ Some d → Seen t n d
seen nodes kept t is xs same n h d e = subst (λ s. Seen s n d) is (here nodes kept n (subst (IsNode n) (sym is) h) d (ap (λ l. node_at l n) (sym same) ∙ e))
