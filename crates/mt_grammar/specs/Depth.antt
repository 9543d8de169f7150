-- How deep the nodes of a tree stand. Statements and expressions count, other nodes do not. A level is counted down: at level 1 stands the
-- first statement or expression of a path that is too deep, and all below it are at level 0.
use Rattle.std.specs.Prelude.{ℕ, ◌+◌, ◌-◌, ◌==◌, if◌then◌else◌, Option, Some, None, List, [], ◌∷◌, ◌++◌, replicate}
use Rattle.mt_tree.specs.declared.place.Place.{Place}
use Rattle.mt_grammar.specs.declared.terminal.Heading.{Heading}
use Rattle.mt_grammar.specs.declared.terminal.Heading.TheVariants as heading
use Rattle.mt_grammar.specs.Tree.{Stmts}
use Rattle.mt_grammar.specs.Nodes.{Node, Nodes}
use Rattle.mt_grammar.specs.Nodes as n
use Rattle.mt_grammar.specs.ParseTree.{ParseTree, parse_tree, ParseTrees, no_trees, trees_and, stmts_trees}

-- the place of a statement or an expression
abbrev pub counted_place : Node → Option Place
counted_place (n.Name m) = Some m.place
counted_place (n.Number m) = Some m.place
counted_place (n.Text m) = Some m.place
counted_place (n.Property m) = Some m.place
counted_place (n.Constant p c) = Some p
counted_place (n.Array p i) = Some p
counted_place (n.Object p i) = Some p
counted_place (n.Function p h m i) = Some p
counted_place (n.Unary p u) = Some p
counted_place (n.Step p d) = Some p
counted_place (n.Operation p o) = Some p
counted_place (n.Condition p) = Some p
counted_place (n.Assign p o) = Some p
counted_place (n.Index p) = Some p
counted_place (n.Call p i) = Some p
counted_place (n.Tilde p i) = Some p
counted_place (n.Dollar p) = Some p
counted_place (n.Element p a c) = Some p
counted_place (n.Expression p) = Some p
counted_place (n.Var p d i) = Some p
counted_place (n.Declare p h m i) = Some p
counted_place (n.If p) = Some p
counted_place (n.IfElse p) = Some p
counted_place (n.While p) = Some p
counted_place (n.For p) = Some p
counted_place (n.Return p) = Some p
counted_place (n.Jump p j) = Some p
counted_place (n.Throw p) = Some p
counted_place (n.Try p) = Some p
counted_place (n.Block p i) = Some p
counted_place (n.Empty p) = Some p
counted_place _ = None

-- the level of what stands in a node
abbrev pub below : Option Place → ℕ → ℕ
below None l = l
below (Some p) l = l - 1

-- the place of a node at level 1, else what was found elsewhere
abbrev pub found_at : Option Place → ℕ → Option Place → Option Place
found_at None l other = other
found_at (Some p) l other = if l == 1 then Some p else other

abbrev pub or_else : Option Place → Option Place → Option Place
or_else None later = later
or_else (Some p) later = Some p

-- the first place at level 1, in the order of the text
abbrev mutual
  pub first_at : ParseTree → ℕ → Option Place
  first_at (parse_tree x rs) l = found_at (counted_place x) l (firsts_at rs (below (counted_place x) l))

  pub firsts_at : ParseTrees → ℕ → Option Place
  firsts_at no_trees l = None
  firsts_at (trees_and rs r) l = or_else (firsts_at rs l) (first_at r l)

-- where the first node of a program stands that is deeper than the limit
abbrev pub too_deep_at : ℕ → Stmts → Option Place
too_deep_at limit ss = firsts_at (stmts_trees ss no_trees) (limit + 1)

-- ---- the same over the nodes, from the last one back

abbrev pub titles : Heading → ℕ
titles heading.Expression = 0
titles _ = 1

-- how many nodes stand directly in a node
abbrev pub inside : Node → ℕ
inside (n.Array p i) = i
inside (n.Object p i) = i + i
inside (n.Function p h m i) = titles h + m + i
inside (n.Unary p u) = 1
inside (n.Step p d) = 1
inside (n.Operation p o) = 2
inside (n.Condition p) = 3
inside (n.Assign p o) = 2
inside (n.Index p) = 2
inside (n.Call p i) = i + 1
inside (n.Tilde p i) = i
inside (n.Dollar p) = 1
inside (n.Element p a c) = a + c + 1
inside (n.AttributeQuoted v) = 1
inside n.AttributeTilde = 2
inside n.AttributeDollar = 2
inside n.ChildDirect = 1
inside n.ChildDollar = 1
inside n.DeclValue = 2
inside n.Present = 1
inside n.StartOptional = 1
inside (n.StartVars i) = i
inside (n.Expression p) = 1
inside (n.Var p d i) = i
inside (n.Declare p h m i) = titles h + m + i
inside (n.If p) = 2
inside (n.IfElse p) = 3
inside (n.While p) = 2
inside (n.For p) = 4
inside (n.Return p) = 1
inside (n.Throw p) = 1
inside (n.Try p) = 3
inside (n.Block p i) = i
inside _ = 0

-- with the levels of the trees that are still to come, and what was found so far; a level that is not given is the top one
abbrev pub scan : ℕ → Nodes → List ℕ → Option Place → Option Place
scan top [] levels found = found
scan top (x ∷ nodes) [] found = scan top nodes (replicate (inside x) (below (counted_place x) top)) (found_at (counted_place x) top found)
scan top (x ∷ nodes) (l ∷ levels) found = scan top nodes (replicate (inside x) (below (counted_place x) l) ++ levels) (found_at (counted_place x) l found)
