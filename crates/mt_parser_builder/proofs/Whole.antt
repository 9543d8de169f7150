-- From the nodes of a spelled tree to its program.
use Rattle.std.proofs.Common.{◌≡◌, ℕ, zero, suc, ◌+◌, ◌-◌, ◌<◌, List, [], ◌∷◌, ◌++◌, length, map, take, drop, Option, Some, None, option_and_then, Result, Ok, Err, refl, sym, ap, subst, ◌∙◌, arith, length-append, append_assoc, nat_lt, false}
use Rattle.std.proofs.lemmas.List.{append-nil, take-append-le, take_all, drop-append-le, drop_all, map-append}
use Rattle.std.proofs.lemmas.Bool.{le-ltb}
use Rattle.mt_grammar.specs.Tree.{Stmts, no_stmts, stmts_and, stmts_count}
use Rattle.mt_grammar.specs.Nodes.{Node, Nodes, stmts_nodes}
use Rattle.mt_grammar.specs.ParseTree.{ParseTree as Spelled, parse_tree, ParseTrees, no_trees, trees_and, expr_tree, stmt_tree, stmts_trees}
use Rattle.mt_grammar.specs.Depth.{inside}
use Rattle.mt_parser_builder.specs.declared.parse_tree.ParseTree.{ParseTree}
use Rattle.mt_parser_builder.specs.declared.parse_tree.ParseTree.TheFolds.{fold-roll-ParseTree}
use Rattle.mt_parser_builder.specs.declared.tier.Tier.TheVariants as tier
use Rattle.mt_parser_builder.specs.declared.value.Value.TheVariants as value
use Rattle.mt_syntax.specs.declared.program.Program.{Program}
use Rattle.mt_parser_builder.specs.declared.fault.Fault.{Fault}
use Rattle.mt_parser_builder.specs.declared.fault.Fault.TheVariants as fault
use Rattle.mt_parser_builder.specs.Answer.{Gives}
use Rattle.mt_parser_builder.specs.Making.{Making, node_made}
use Rattle.mt_parser_builder.specs.ParseTrees.{layer_made, made_by}
use Rattle.mt_parser_builder.specs.Growing.{part_of, tree, grown_by, grown_on}
use Rattle.mt_parser_builder.specs.Building.{program_made}
use Rattle.mt_parser_builder.specs.Program.{program_of, nothing_found, stmts_of}
use Rattle.mt_parser_marks.specs.declared.node.Node.{Node as CodeNode}
use Rattle.mt_parser_marks.specs.NodeViews.{node_of, nodes_of}
use Rattle.mt_parser_builder.proofs.Grown.{take_trees, grow, grew_on, grew, program_grew}
use Rattle.mt_parser_builder.proofs.Made.{stmts_make, stmts_back, stmts_counted}
use Rattle.mt_parser_builder.proofs.Numbers.{checked, checkeds, weights, bound, trees_numbered}

-- ---- the trees of the code

abbrev mutual
  code_tree : Spelled → ParseTree
  code_tree (parse_tree x rs) = tree (part_of x) (code_trees rs)

  code_trees : ParseTrees → List ParseTree
  code_trees no_trees = []
  code_trees (trees_and rs r) = code_trees rs ++ code_tree r ∷ []

mutual
  tree_same : (r : Spelled) → made_by (code_tree r) ≡ checked r
  tree_same (parse_tree x rs) = fold-roll-ParseTree Making layer_made (record { part = part_of x; children = code_trees rs }) ∙ ap (node_made (part_of x)) (trees_same rs)

  trees_same : (rs : ParseTrees) → map made_by (code_trees rs) ≡ checkeds rs
  trees_same no_trees = refl
  trees_same (trees_and rs r) = map-append made_by (code_trees rs) (code_tree r ∷ []) ∙ ap (λ z. z ++ made_by (code_tree r) ∷ []) (trees_same rs) ∙ ap (λ z. checkeds rs ++ z ∷ []) (tree_same r)

-- ---- growing

and_then_of : {X Y : Type 0} (o : Option X) (f : X → Option Y) (y : Y) → option_and_then f o ≡ Some y → (x : X) × (o ≡ Some x) × (f x ≡ Some y)
and_then_of None f y e = absurd cc
and_then_of (Some x) f y e = (x, refl, e)

abbrev Split : ℕ → ParseTrees → ParseTrees → ParseTrees → Type 0
Split i rs f b = (code_trees rs ≡ code_trees f ++ code_trees b) × (length (code_trees b) ≡ i) × (weights rs ≡ weights f + weights b)

abbrev front_in : Option (ParseTrees × ParseTrees) → ParseTrees
front_in None = no_trees
front_in (Some q) = q.0

abbrev back_in : Option (ParseTrees × ParseTrees) → ParseTrees
back_in None = no_trees
back_in (Some q) = q.1

taken_split : (i : ℕ) (rs f b : ParseTrees) → take_trees i rs ≡ Some (f, b) → Split i rs f b
taken_split zero rs f b e =
    subst (λ z. Split 0 rs z b) (ap front_in e) (subst (λ z. Split 0 rs rs z) (ap back_in e) (sym (append-nil (code_trees rs)), refl, omega arith))
taken_split (suc i) no_trees f b e = absurd cc
taken_split (suc i) (trees_and rs r) f b e =
    let came = and_then_of {Y = ParseTrees × ParseTrees} (take_trees i rs) (λ q. Some (q.0, trees_and q.1 r)) (f, b) e in
    let q = came.0 in
    let h = taken_split i rs q.0 q.1 came.1 in
    let long = length-append (code_trees q.1) (code_tree r ∷ []) in
    subst (λ z. Split (suc i) (trees_and rs r) z b) (ap front_in came.2) (subst (λ z. Split (suc i) (trees_and rs r) q.0 z) (ap back_in came.2)
    (ap (λ z. z ++ code_tree r ∷ []) h.0 ∙ append_assoc (code_trees q.0) (code_trees q.1) (code_tree r ∷ []), omega (arith, long, h.1), omega (arith, h.2)))

split_grown : (x : Node) (front back : List ParseTree) → length back ≡ inside x → grown_by x (front ++ back) ≡ Some (front ++ tree (part_of x) back ∷ [])
split_grown x front back e =
    let long = length-append front back in
    let enough : nat_lt (length (front ++ back)) (inside x) ≡ false = le-ltb (length (front ++ back)) (inside x) (omega (arith, long, e)) in
    let kept : length (front ++ back) - inside x ≡ length front = omega (arith, long, e) in
    let first : take (length front) (front ++ back) ≡ front = take-append-le (length front) front back (omega arith) ∙ take_all (length front) front (omega arith) in
    let last : drop (length front) (front ++ back) ≡ back = drop-append-le (length front) front back (omega arith) ∙ ap (λ z. z ++ back) (drop_all (length front) front (omega arith)) in
    rw (enough, kept, first, last) refl

abbrev tree_in : Option ParseTrees → ParseTrees
tree_in None = no_trees
tree_in (Some rs) = rs

grown_same : (x : Node) (rs ws : ParseTrees) → grow x rs ≡ Some ws → (grown_by x (code_trees rs) ≡ Some (code_trees ws)) × (weights ws ≡ weights rs + 1)
grown_same x rs ws e =
    let came = and_then_of {Y = ParseTrees} (take_trees (inside x) rs) (λ q. Some (trees_and q.0 (parse_tree x q.1))) ws e in
    let q = came.0 in
    let h = taken_split (inside x) rs q.0 q.1 came.1 in
    let is : trees_and q.0 (parse_tree x q.1) ≡ ws = ap tree_in came.2 in
    subst (λ z. (grown_by x (code_trees rs) ≡ Some (code_trees z)) × (weights z ≡ weights rs + 1)) is
    (ap (grown_by x) h.0 ∙ split_grown x (code_trees q.0) (code_trees q.1) h.1, omega (arith, h.2))

none_grew : (nodes : Nodes) → grew_on nodes None ≡ None
none_grew [] = refl
none_grew (x ∷ nodes) = none_grew nodes

next_grown : (nodes : Nodes) (x : Node) (rs ws : ParseTrees) (o : Option ParseTrees)
    → ((ts : ParseTrees) → grew_on nodes (Some ts) ≡ Some ws → (grown_on nodes (Some (code_trees ts)) ≡ Some (code_trees ws)) × (weights ws ≡ weights ts + length nodes))
    → grow x rs ≡ o → grew_on nodes o ≡ Some ws → (grown_on nodes (grown_by x (code_trees rs)) ≡ Some (code_trees ws)) × (weights ws ≡ weights rs + suc (length nodes))
next_grown nodes x rs ws None rest h e = let nothing = none_grew nodes in absurd cc
next_grown nodes x rs ws (Some ts) rest h e =
    let one = grown_same x rs ts h in let more = rest ts e in
    (ap (grown_on nodes) one.0 ∙ more.0, omega (arith, one.1, more.1))

all_grown : (nodes : Nodes) (rs ws : ParseTrees) → grew_on nodes (Some rs) ≡ Some ws → (grown_on nodes (Some (code_trees rs)) ≡ Some (code_trees ws)) × (weights ws ≡ weights rs + length nodes)
all_grown [] rs ws e = subst (λ z. (Some (code_trees rs) ≡ Some (code_trees z)) × (weights z ≡ weights rs + 0)) (ap tree_in e) (refl, omega arith)
all_grown (x ∷ nodes) rs ws e = next_grown nodes x rs ws (grow x rs) (λ ts. all_grown nodes ts ws) refl e

-- ---- the program

stmts_long : (ss : Stmts) → length (code_trees (stmts_trees ss no_trees)) ≡ stmts_count ss
unfolding expr_tree
stmts_long no_stmts = refl
stmts_long (stmts_and ss s) = length-append (code_trees (stmts_trees ss no_trees)) (code_tree (stmt_tree s) ∷ []) ∙ ap (λ z. z + 1) (stmts_long ss)

pub whole : (ss : Stmts) → length (stmts_nodes ss []) < bound → program_made (stmts_nodes ss []) ≡ Some (program_of ss)
unfolding grew
whole ss few =
    let trees = stmts_trees ss no_trees in
    let grew_all = all_grown (stmts_nodes ss []) no_trees trees (program_grew ss) in
    let free = stmts_make ss no_trees tier.Server nothing_found [] nothing_found refl in
    let made = stmts_of tier.Server ss nothing_found in
    let near = trees_numbered trees tier.Server nothing_found (map value.Stmt made.0) made.1 free (record { tildes = omega (arith, grew_all.1); dollars = omega (arith, grew_all.1) }) in
    let count : length (code_trees trees) ≡ length made.0 = stmts_long ss ∙ sym (stmts_counted ss tier.Server nothing_found) in
    rw (grew_all.0, trees_same trees, near.0, count, stmts_back made.0) refl

-- each node of the tree is one of its trees
pub nodes_weigh : (ss : Stmts) → weights (stmts_trees ss no_trees) ≡ length (stmts_nodes ss [])
unfolding grew
nodes_weigh ss = let h = (all_grown (stmts_nodes ss []) no_trees (stmts_trees ss no_trees) (program_grew ss)).1 in omega arith

mapped_length : (nodes : List CodeNode) → length (map node_of nodes) ≡ length nodes
mapped_length [] = refl
mapped_length (x ∷ nodes) = ap suc (mapped_length nodes)

-- the same of the nodes of the code
pub built : (nodes : List CodeNode) (ss : Stmts) → length nodes < bound → nodes_of nodes ≡ stmts_nodes ss [] → program_made (map node_of nodes) ≡ Some (program_of ss)
unfolding nodes_of
built nodes ss few is =
    let long = mapped_length nodes in
    ap program_made is ∙ whole ss (subst (λ z. length z < bound) is (omega arith))

refuted : (r : Result Program Fault) (e : Fault) (given : Option Program) (p : Program) → r ≡ Err e → e ≡ fault.Malformed → Gives r given → given ≡ Some p → ⊥
refuted (Ok x) e given p is so h g = absurd cc
refuted (Err fault.Malformed) e given p is so h g = absurd cc
refuted (Err fault.NoMemory) e given p is so h g = absurd cc

-- the nodes of a program are not malformed
pub never_malformed : (nodes : List CodeNode) (few : length nodes < bound) (tree : (ss : Stmts) × (nodes_of nodes ≡ stmts_nodes ss [])) (r : Result Program Fault) (e : Fault)
    → r ≡ Err e → e ≡ fault.Malformed → Gives r (program_made (map node_of nodes)) → ⊥
never_malformed nodes few tree r e is so h = refuted r e (program_made (map node_of nodes)) (program_of tree.0) is so h (built nodes tree.0 few tree.1)
