-- The pass from the last node back, node by node.
use Rattle.std.proofs.Common.{◌≡◌, ℕ, ◌+◌, ◌<◌, ◌≤◌, List, [], ◌∷◌, ◌++◌, Option, length, get_or, take, reverse, replicate, add-one, arith, refl, sym, ap, ◌∙◌}
use Rattle.std.proofs.Math.Seq.{take-suc}
use Rattle.std.proofs.lemmas.List.{append-nil, length-map, take_all, reverse-append}
use Rattle.std.proofs.Math.ListN.{get_or-map}
use Rattle.mt_tree.specs.declared.place.Place.{Place}
use Rattle.mt_parser_marks.specs.declared.node.Node.{Node as CodeNode}
use Rattle.mt_parser_marks.specs.NodeViews.{node_of, nodes_of}
use Rattle.mt_grammar.specs.Nodes.{Node, Nodes}
use Rattle.mt_grammar.specs.Depth.{scan, inside, below, counted_place, found_at}
use Rattle.mt_parser.specs.Levels.{first_level, later_levels}

one_node : (top : ℕ) (x : Node) (rest : Nodes) (levels : List ℕ) (found : Option Place) →
    scan top (x ∷ rest) levels found ≡ scan top rest (replicate (inside x) (below (counted_place x) (first_level top levels)) ++ later_levels levels) (found_at (counted_place x) (first_level top levels) found)
one_node top x rest [] found = ap (λ ls. scan top rest ls (found_at (counted_place x) top found)) (sym (append-nil (replicate (inside x) (below (counted_place x) top))))
one_node top x rest (l ∷ levels) found = refl

last_of_taken : (xs : Nodes) (i : ℕ) (d : Node) → i < length xs → reverse (take (i + 1) xs) ≡ get_or xs i d ∷ reverse (take i xs)
last_of_taken xs i d h = ap (λ j. reverse (take j xs)) (add-one i) ∙ ap reverse (take-suc xs i d h) ∙ reverse-append (take i xs) (get_or xs i d ∷ [])

length-nodes_of : (ns : List CodeNode) → length (nodes_of ns) ≡ length ns
unfolding nodes_of
length-nodes_of ns = length-map ns node_of

node_at : (ns : List CodeNode) (i : ℕ) (d : CodeNode) → get_or (nodes_of ns) i (node_of d) ≡ node_of (get_or ns i d)
unfolding nodes_of
node_at ns i d = get_or-map node_of ns i d

-- the nodes that are left, the last one first
abbrev pub left_nodes : List CodeNode → ℕ → Nodes
left_nodes ns i = reverse (take i (nodes_of ns))

next_node : (ns : List CodeNode) (i : ℕ) (d : CodeNode) → i < length ns → left_nodes ns (i + 1) ≡ node_of (get_or ns i d) ∷ left_nodes ns i
next_node ns i d h = last_of_taken (nodes_of ns) i (node_of d) (rw (length-nodes_of ns) h) ∙ ap (λ x. x ∷ left_nodes ns i) (node_at ns i d)

-- one node less is left
pub stepped : (top : ℕ) (ns : List CodeNode) (n i : ℕ) (d : CodeNode) (levels : List ℕ) (found whole : Option Place) → i + 1 ≡ n → n ≤ length ns → scan top (left_nodes ns n) levels found ≡ whole →
    scan top (left_nodes ns i) (replicate (inside (node_of (get_or ns i d))) (below (counted_place (node_of (get_or ns i d))) (first_level top levels)) ++ later_levels levels) (found_at (counted_place (node_of (get_or ns i d))) (first_level top levels) found) ≡ whole
stepped top ns n i d levels found whole e h before =
    sym (one_node top (node_of (get_or ns i d)) (left_nodes ns i) levels found) ∙ ap (λ xs. scan top xs levels found) (sym (next_node ns i d (omega (arith, e, h))))
    ∙ ap (λ m. scan top (left_nodes ns m) levels found) e ∙ before

pub all_left : (ns : List CodeNode) → left_nodes ns (length ns) ≡ reverse (nodes_of ns)
all_left ns = ap reverse (take_all (length ns) (nodes_of ns) (omega (arith, length-nodes_of ns)))
