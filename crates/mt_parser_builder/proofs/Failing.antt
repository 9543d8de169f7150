-- Where a node finds too few trees, nothing grows.
use Rattle.std.proofs.Common.{◌≡◌, ℕ, ◌+◌, ◌<◌, length, map, drop, get_or, List, [], ◌∷◌, Option, None, Some, Err, refl, sym, ap, ◌∙◌}
use Rattle.std.proofs.lemmas.List.{at_drop_more}
use Rattle.mt_parser_marks.specs.declared.node.Node.{Node as CodeNode}
use Rattle.mt_parser_marks.specs.NodeViews.{node_of}
use Rattle.mt_grammar.specs.Nodes.{Node, Nodes}
use Rattle.mt_parser_builder.specs.declared.fault.Fault.{Fault}
use Rattle.mt_parser_builder.specs.declared.fault.Fault.TheVariants as fault
use Rattle.mt_parser_builder.specs.declared.parse_tree.ParseTree.{ParseTree}
use Rattle.mt_parser_builder.specs.Answer.{Changes, GivesList}
use Rattle.mt_parser_builder.specs.Growing.{grown_by, grown_on}

pub none_grown : (nodes : Nodes) → grown_on nodes None ≡ None
none_grown [] = refl
none_grown (x ∷ nodes) = none_grown nodes

pub failed : (e : Fault) (x : Node) (nodes : Nodes) (trees more : List ParseTree) (total : Option (List ParseTree)) → Changes (Err e) more (grown_by x trees) → grown_on nodes (grown_by x trees) ≡ total → GivesList (Err e) total
failed fault.NoMemory x nodes trees more total h so_far = tt
failed fault.Malformed x nodes trees more total h so_far = sym so_far ∙ ap (grown_on nodes) h ∙ none_grown nodes

-- the same at a place of the list that a loop goes over
pub failed_at : (e : Fault) (nodes : List CodeNode) (i : ℕ) (d : CodeNode) (trees more : List ParseTree) (total : Option (List ParseTree)) → i < length nodes
    → Changes (Err e) more (grown_by (node_of (get_or nodes i d)) trees) → total ≡ grown_on (map node_of (drop i nodes)) (Some trees) → GivesList (Err e) total
failed_at e nodes i d trees more total lt h is =
    failed e (node_of (get_or nodes i d)) (map node_of (drop (i + 1) nodes)) trees more total h
    (sym (is ∙ at_drop_more (λ (ns : List CodeNode). grown_on (map node_of ns) (Some trees)) nodes i d lt))
