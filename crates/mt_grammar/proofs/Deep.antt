-- The scan over the nodes finds the first one that is too deep.
use Rattle.std.proofs.Common.{◌≡◌, ℕ, zero, suc, ◌+◌, ◌-◌, Bool, true, false, cond, nat_eq, List, [], ◌∷◌, ◌++◌, reverse, replicate, Option, Some, None, refl, sym, ap, ◌∙◌, arith, add-one, append_assoc}
use Rattle.std.proofs.lemmas.List.{reverse-append, append-nil}
use Rattle.std.proofs.lemmas.Bool.{eqb-true}
use Rattle.mt_tree.specs.declared.place.Place.{Place}
use Rattle.mt_grammar.specs.Tree.{Title, a_service, a_declaration, a_named_expression, an_expression, heading_of, Key, plain, quoted, Names, no_names, names_and, names_count, Expr, name, number, text, property, constant, array, object, function, unary, step, operation, condition, assign, index, call, tilde, dollar, element, Exprs, no_exprs, exprs_and, exprs_count, Props, no_props, props_and, props_count, Attribute, attribute_plain, attribute_quoted, attribute_tilde, attribute_dollar, Attributes, no_attributes, attributes_and, attributes_count, Child, child_text, child_direct, child_dollar, Children, no_children, children_and, children_count, Decl, decl_only, decl_as, Decls, no_decls, decls_and, decls_count, Optional, absent, present, Start, start_optional, start_vars, Stmt, expression, var, declare, if_only, if_else, while, for, return, jump, throw, try, block, empty, Stmts, no_stmts, stmts_and, stmts_count}
use Rattle.mt_grammar.specs.Nodes.{Node, Nodes, names_nodes, title_nodes, key_node, expr_nodes, exprs_nodes, props_nodes, attribute_nodes, attributes_nodes, child_nodes, children_nodes, decl_nodes, decls_nodes, optional_nodes, start_nodes, stmt_nodes, stmts_nodes}
use Rattle.mt_grammar.specs.Nodes as n
use Rattle.mt_grammar.specs.ParseTree.{ParseTree, parse_tree, ParseTrees, no_trees, trees_and, trees_count, title_trees, names_trees, key_tree, expr_tree, attribute_tree, child_tree, decl_tree, optional_tree, start_tree, stmt_tree, exprs_trees, attributes_trees, children_trees, decls_trees, stmts_trees, props_trees}
use Rattle.mt_grammar.specs.Depth.{counted_place, below, found_at, or_else, first_at, firsts_at, too_deep_at, titles, inside, scan}

-- ---- the nodes of a parse tree are those of the tree

abbrev mutual
  tree_nodes : ParseTree → Nodes → Nodes
  tree_nodes (parse_tree x rs) out = trees_nodes rs out ++ x ∷ []

  trees_nodes : ParseTrees → Nodes → Nodes
  trees_nodes no_trees out = out
  trees_nodes (trees_and rs r) out = tree_nodes r (trees_nodes rs out)

title_same : (h : Title) (rs : ParseTrees) (out : Nodes) → trees_nodes (title_trees h rs) out ≡ title_nodes h (trees_nodes rs out)
title_same (a_service m) rs out = refl
title_same (a_declaration m) rs out = refl
title_same (a_named_expression m) rs out = refl
title_same an_expression rs out = refl

names_same : (ns : Names) (rs : ParseTrees) (out : Nodes) → trees_nodes (names_trees ns rs) out ≡ names_nodes ns (trees_nodes rs out)
names_same no_names rs out = refl
names_same (names_and ns m) rs out = ap (λ z. z ++ n.Word m ∷ []) (names_same ns rs out)

key_same : (k : Key) (out : Nodes) → tree_nodes (key_tree k) out ≡ out ++ key_node k ∷ []
key_same (plain m) out = refl
key_same (quoted m) out = refl

mutual
  unfolding expr_nodes expr_tree

  expr_same : (z : Expr) (out : Nodes) → tree_nodes (expr_tree z) out ≡ expr_nodes z out
  expr_same (name m) out = refl
  expr_same (number m) out = refl
  expr_same (text m) out = refl
  expr_same (property m) out = refl
  expr_same (constant p c) out = refl
  expr_same (array p es) out = ap (λ z. z ++ n.Array p (exprs_count es) ∷ []) (exprs_same es no_trees out)
  expr_same (object p ps) out = ap (λ z. z ++ n.Object p (props_count ps) ∷ []) (props_same ps no_trees out)
  expr_same (function p h ns ss) out = ap (λ z. z ++ n.Function p (heading_of h) (names_count ns) (stmts_count ss) ∷ []) (stmts_same ss (names_trees ns (title_trees h no_trees)) out ∙ ap (stmts_nodes ss) (names_same ns (title_trees h no_trees) out ∙ ap (names_nodes ns) (title_same h no_trees out)))
  expr_same (unary p u a) out = ap (λ z. z ++ n.Unary p u ∷ []) (expr_same a out)
  expr_same (step p d a) out = ap (λ z. z ++ n.Step p d ∷ []) (expr_same a out)
  expr_same (operation p o a b) out = ap (λ z. z ++ n.Operation p o ∷ []) (ap (tree_nodes (expr_tree b)) (expr_same a out) ∙ expr_same b (expr_nodes a out))
  expr_same (condition p a b d) out = ap (λ z. z ++ n.Condition p ∷ []) (ap (tree_nodes (expr_tree d)) (ap (tree_nodes (expr_tree b)) (expr_same a out) ∙ expr_same b (expr_nodes a out)) ∙ expr_same d (expr_nodes b (expr_nodes a out)))
  expr_same (assign p o a e) out = ap (λ z. z ++ n.Assign p o ∷ []) (ap (tree_nodes (expr_tree e)) (expr_same a out) ∙ expr_same e (expr_nodes a out))
  expr_same (index p a i) out = ap (λ z. z ++ n.Index p ∷ []) (ap (tree_nodes (expr_tree i)) (expr_same a out) ∙ expr_same i (expr_nodes a out))
  expr_same (call p a es) out = ap (λ z. z ++ n.Call p (exprs_count es) ∷ []) (exprs_same es (trees_and no_trees (expr_tree a)) out ∙ ap (exprs_nodes es) (expr_same a out))
  expr_same (tilde p ss) out = ap (λ z. z ++ n.Tilde p (stmts_count ss) ∷ []) (stmts_same ss no_trees out)
  expr_same (dollar p e) out = ap (λ z. z ++ n.Dollar p ∷ []) (expr_same e out)
  expr_same (element m ats cs) out = ap (λ z. z ++ n.Element m.place (attributes_count ats) (children_count cs) ∷ []) (children_same cs (attributes_trees ats (trees_and no_trees (parse_tree (n.Word m) no_trees))) out ∙ ap (children_nodes cs) (attributes_same ats (trees_and no_trees (parse_tree (n.Word m) no_trees)) out))

  attribute_same : (z : Attribute) (out : Nodes) → tree_nodes (attribute_tree z) out ≡ attribute_nodes z out
  attribute_same (attribute_plain m) out = refl
  attribute_same (attribute_quoted m v) out = refl
  attribute_same (attribute_tilde m e) out = ap (λ z. z ++ n.AttributeTilde ∷ []) (expr_same e (out ++ n.AttributeName m ∷ []))
  attribute_same (attribute_dollar m e) out = ap (λ z. z ++ n.AttributeDollar ∷ []) (expr_same e (out ++ n.AttributeName m ∷ []))

  child_same : (z : Child) (out : Nodes) → tree_nodes (child_tree z) out ≡ child_nodes z out
  child_same (child_text m) out = refl
  child_same (child_direct e) out = ap (λ z. z ++ n.ChildDirect ∷ []) (expr_same e out)
  child_same (child_dollar e) out = ap (λ z. z ++ n.ChildDollar ∷ []) (expr_same e out)

  decl_same : (z : Decl) (out : Nodes) → tree_nodes (decl_tree z) out ≡ decl_nodes z out
  decl_same (decl_only m) out = refl
  decl_same (decl_as m e) out = ap (λ z. z ++ n.DeclValue ∷ []) (expr_same e (out ++ n.DeclName m ∷ []))

  optional_same : (z : Optional) (out : Nodes) → tree_nodes (optional_tree z) out ≡ optional_nodes z out
  optional_same absent out = refl
  optional_same (present e) out = ap (λ z. z ++ n.Present ∷ []) (expr_same e out)

  start_same : (z : Start) (out : Nodes) → tree_nodes (start_tree z) out ≡ start_nodes z out
  start_same (start_optional o) out = ap (λ z. z ++ n.StartOptional ∷ []) (optional_same o out)
  start_same (start_vars ds) out = ap (λ z. z ++ n.StartVars (decls_count ds) ∷ []) (decls_same ds no_trees out)

  stmt_same : (z : Stmt) (out : Nodes) → tree_nodes (stmt_tree z) out ≡ stmt_nodes z out
  stmt_same (expression p e) out = ap (λ z. z ++ n.Expression p ∷ []) (expr_same e out)
  stmt_same (var p d ds) out = ap (λ z. z ++ n.Var p d (decls_count ds) ∷ []) (decls_same ds no_trees out)
  stmt_same (declare p h ns ss) out = ap (λ z. z ++ n.Declare p (heading_of h) (names_count ns) (stmts_count ss) ∷ []) (stmts_same ss (names_trees ns (title_trees h no_trees)) out ∙ ap (stmts_nodes ss) (names_same ns (title_trees h no_trees) out ∙ ap (names_nodes ns) (title_same h no_trees out)))
  stmt_same (if_only p e s) out = ap (λ z. z ++ n.If p ∷ []) (ap (tree_nodes (stmt_tree s)) (expr_same e out) ∙ stmt_same s (expr_nodes e out))
  stmt_same (if_else p e s d) out = ap (λ z. z ++ n.IfElse p ∷ []) (ap (tree_nodes (stmt_tree d)) (ap (tree_nodes (stmt_tree s)) (expr_same e out) ∙ stmt_same s (expr_nodes e out)) ∙ stmt_same d (stmt_nodes s (expr_nodes e out)))
  stmt_same (while p e s) out = ap (λ z. z ++ n.While p ∷ []) (ap (tree_nodes (stmt_tree s)) (expr_same e out) ∙ stmt_same s (expr_nodes e out))
  stmt_same (for p a b c s) out = ap (λ z. z ++ n.For p ∷ []) (ap (tree_nodes (stmt_tree s)) (ap (tree_nodes (optional_tree c)) (ap (tree_nodes (optional_tree b)) (start_same a out) ∙ optional_same b (start_nodes a out)) ∙ optional_same c (optional_nodes b (start_nodes a out))) ∙ stmt_same s (optional_nodes c (optional_nodes b (start_nodes a out))))
  stmt_same (return p o) out = ap (λ z. z ++ n.Return p ∷ []) (optional_same o out)
  stmt_same (jump p j) out = refl
  stmt_same (throw p e) out = ap (λ z. z ++ n.Throw p ∷ []) (expr_same e out)
  stmt_same (try p s m d) out = ap (λ z. z ++ n.Try p ∷ []) (ap (tree_nodes (stmt_tree d)) (ap (λ z. z ++ n.Word m ∷ []) (stmt_same s out)) ∙ stmt_same d ((stmt_nodes s out) ++ n.Word m ∷ []))
  stmt_same (block p ss) out = ap (λ z. z ++ n.Block p (stmts_count ss) ∷ []) (stmts_same ss no_trees out)
  stmt_same (empty p) out = refl

  exprs_same : (es : Exprs) (rs : ParseTrees) (out : Nodes) → trees_nodes (exprs_trees es rs) out ≡ exprs_nodes es (trees_nodes rs out)
  exprs_same no_exprs rs out = refl
  exprs_same (exprs_and es e) rs out = ap (tree_nodes (expr_tree e)) (exprs_same es rs out) ∙ expr_same e (exprs_nodes es (trees_nodes rs out))

  attributes_same : (ats : Attributes) (rs : ParseTrees) (out : Nodes) → trees_nodes (attributes_trees ats rs) out ≡ attributes_nodes ats (trees_nodes rs out)
  attributes_same no_attributes rs out = refl
  attributes_same (attributes_and ats a) rs out = ap (tree_nodes (attribute_tree a)) (attributes_same ats rs out) ∙ attribute_same a (attributes_nodes ats (trees_nodes rs out))

  children_same : (cs : Children) (rs : ParseTrees) (out : Nodes) → trees_nodes (children_trees cs rs) out ≡ children_nodes cs (trees_nodes rs out)
  children_same no_children rs out = refl
  children_same (children_and cs c) rs out = ap (tree_nodes (child_tree c)) (children_same cs rs out) ∙ child_same c (children_nodes cs (trees_nodes rs out))

  decls_same : (ds : Decls) (rs : ParseTrees) (out : Nodes) → trees_nodes (decls_trees ds rs) out ≡ decls_nodes ds (trees_nodes rs out)
  decls_same no_decls rs out = refl
  decls_same (decls_and ds d) rs out = ap (tree_nodes (decl_tree d)) (decls_same ds rs out) ∙ decl_same d (decls_nodes ds (trees_nodes rs out))

  stmts_same : (ss : Stmts) (rs : ParseTrees) (out : Nodes) → trees_nodes (stmts_trees ss rs) out ≡ stmts_nodes ss (trees_nodes rs out)
  stmts_same no_stmts rs out = refl
  stmts_same (stmts_and ss s) rs out = ap (tree_nodes (stmt_tree s)) (stmts_same ss rs out) ∙ stmt_same s (stmts_nodes ss (trees_nodes rs out))

  props_same : (ps : Props) (rs : ParseTrees) (out : Nodes) → trees_nodes (props_trees ps rs) out ≡ props_nodes ps (trees_nodes rs out)
  props_same no_props rs out = refl
  props_same (props_and ps k e) rs out =
      let o = props_nodes ps (trees_nodes rs out) in
      ap (λ z. tree_nodes (expr_tree e) (tree_nodes (key_tree k) z)) (props_same ps rs out) ∙ ap (tree_nodes (expr_tree e)) (key_same k o) ∙ expr_same e (o ++ key_node k ∷ [])

-- ---- each node says how many trees stand in it

abbrev mutual
  Counted : ParseTree → Type 0
  Counted (parse_tree x rs) = (inside x ≡ trees_count rs) × AllCounted rs

  AllCounted : ParseTrees → Type 0
  AllCounted no_trees = Unit {0}
  AllCounted (trees_and rs r) = AllCounted rs × Counted r

title_size : (h : Title) (rs : ParseTrees) → trees_count (title_trees h rs) ≡ trees_count rs + titles (heading_of h)
title_size (a_service m) rs = refl
title_size (a_declaration m) rs = refl
title_size (a_named_expression m) rs = refl
title_size an_expression rs = omega arith

names_size : (ns : Names) (rs : ParseTrees) → trees_count (names_trees ns rs) ≡ trees_count rs + names_count ns
names_size no_names rs = omega arith
names_size (names_and ns m) rs = let h = names_size ns rs in omega arith

title_counted : (h : Title) (rs : ParseTrees) → AllCounted rs → AllCounted (title_trees h rs)
title_counted (a_service m) rs a = (a, (refl, tt))
title_counted (a_declaration m) rs a = (a, (refl, tt))
title_counted (a_named_expression m) rs a = (a, (refl, tt))
title_counted an_expression rs a = a

names_counted : (ns : Names) (rs : ParseTrees) → AllCounted rs → AllCounted (names_trees ns rs)
names_counted no_names rs a = a
names_counted (names_and ns m) rs a = (names_counted ns rs a, (refl, tt))

key_counted : (k : Key) → Counted (key_tree k)
key_counted (plain m) = (refl, tt)
key_counted (quoted m) = (refl, tt)

exprs_size : (es : Exprs) (rs : ParseTrees) → trees_count (exprs_trees es rs) ≡ trees_count rs + exprs_count es
unfolding expr_tree
exprs_size no_exprs rs = omega arith
exprs_size (exprs_and es e) rs = let h = exprs_size es rs in omega arith

attributes_size : (ats : Attributes) (rs : ParseTrees) → trees_count (attributes_trees ats rs) ≡ trees_count rs + attributes_count ats
unfolding expr_tree
attributes_size no_attributes rs = omega arith
attributes_size (attributes_and ats a) rs = let h = attributes_size ats rs in omega arith

children_size : (cs : Children) (rs : ParseTrees) → trees_count (children_trees cs rs) ≡ trees_count rs + children_count cs
unfolding expr_tree
children_size no_children rs = omega arith
children_size (children_and cs c) rs = let h = children_size cs rs in omega arith

decls_size : (ds : Decls) (rs : ParseTrees) → trees_count (decls_trees ds rs) ≡ trees_count rs + decls_count ds
unfolding expr_tree
decls_size no_decls rs = omega arith
decls_size (decls_and ds d) rs = let h = decls_size ds rs in omega arith

stmts_size : (ss : Stmts) (rs : ParseTrees) → trees_count (stmts_trees ss rs) ≡ trees_count rs + stmts_count ss
unfolding expr_tree
stmts_size no_stmts rs = omega arith
stmts_size (stmts_and ss s) rs = let h = stmts_size ss rs in omega arith

props_size : (ps : Props) (rs : ParseTrees) → trees_count (props_trees ps rs) ≡ trees_count rs + (props_count ps + props_count ps)
unfolding expr_tree
props_size no_props rs = omega arith
props_size (props_and ps k e) rs = let h = props_size ps rs in omega arith

mutual
  unfolding expr_tree

  expr_counted : (z : Expr) → Counted (expr_tree z)
  expr_counted (name m) = (refl, tt)
  expr_counted (number m) = (refl, tt)
  expr_counted (text m) = (refl, tt)
  expr_counted (property m) = (refl, tt)
  expr_counted (constant p c) = (refl, tt)
  expr_counted (array p es) = let h0 = exprs_size es no_trees in (omega arith, exprs_counted es no_trees tt)
  expr_counted (object p ps) = let h0 = props_size ps no_trees in (omega arith, props_counted ps no_trees tt)
  expr_counted (function p h ns ss) = let h0 = title_size h no_trees in let h1 = names_size ns (title_trees h no_trees) in let h2 = stmts_size ss (names_trees ns (title_trees h no_trees)) in (omega arith, stmts_counted ss (names_trees ns (title_trees h no_trees)) (names_counted ns (title_trees h no_trees) (title_counted h no_trees tt)))
  expr_counted (unary p u a) = (refl, (tt, expr_counted a))
  expr_counted (step p d a) = (refl, (tt, expr_counted a))
  expr_counted (operation p o a b) = (refl, ((tt, expr_counted a), expr_counted b))
  expr_counted (condition p a b d) = (refl, (((tt, expr_counted a), expr_counted b), expr_counted d))
  expr_counted (assign p o a e) = (refl, ((tt, expr_counted a), expr_counted e))
  expr_counted (index p a i) = (refl, ((tt, expr_counted a), expr_counted i))
  expr_counted (call p a es) = let h0 = exprs_size es (trees_and no_trees (expr_tree a)) in (omega arith, exprs_counted es (trees_and no_trees (expr_tree a)) ((tt, expr_counted a)))
  expr_counted (tilde p ss) = let h0 = stmts_size ss no_trees in (omega arith, stmts_counted ss no_trees tt)
  expr_counted (dollar p e) = (refl, (tt, expr_counted e))
  expr_counted (element m ats cs) = let h0 = attributes_size ats (trees_and no_trees (parse_tree (n.Word m) no_trees)) in let h1 = children_size cs (attributes_trees ats (trees_and no_trees (parse_tree (n.Word m) no_trees))) in (omega arith, children_counted cs (attributes_trees ats (trees_and no_trees (parse_tree (n.Word m) no_trees))) (attributes_counted ats (trees_and no_trees (parse_tree (n.Word m) no_trees)) ((tt, (refl, tt)))))

  attribute_counted : (z : Attribute) → Counted (attribute_tree z)
  attribute_counted (attribute_plain m) = (refl, tt)
  attribute_counted (attribute_quoted m v) = (refl, (tt, (refl, tt)))
  attribute_counted (attribute_tilde m e) = (refl, ((tt, (refl, tt)), expr_counted e))
  attribute_counted (attribute_dollar m e) = (refl, ((tt, (refl, tt)), expr_counted e))

  child_counted : (z : Child) → Counted (child_tree z)
  child_counted (child_text m) = (refl, tt)
  child_counted (child_direct e) = (refl, (tt, expr_counted e))
  child_counted (child_dollar e) = (refl, (tt, expr_counted e))

  decl_counted : (z : Decl) → Counted (decl_tree z)
  decl_counted (decl_only m) = (refl, tt)
  decl_counted (decl_as m e) = (refl, ((tt, (refl, tt)), expr_counted e))

  optional_counted : (z : Optional) → Counted (optional_tree z)
  optional_counted absent = (refl, tt)
  optional_counted (present e) = (refl, (tt, expr_counted e))

  start_counted : (z : Start) → Counted (start_tree z)
  start_counted (start_optional o) = (refl, (tt, optional_counted o))
  start_counted (start_vars ds) = let h0 = decls_size ds no_trees in (omega arith, decls_counted ds no_trees tt)

  stmt_counted : (z : Stmt) → Counted (stmt_tree z)
  stmt_counted (expression p e) = (refl, (tt, expr_counted e))
  stmt_counted (var p d ds) = let h0 = decls_size ds no_trees in (omega arith, decls_counted ds no_trees tt)
  stmt_counted (declare p h ns ss) = let h0 = title_size h no_trees in let h1 = names_size ns (title_trees h no_trees) in let h2 = stmts_size ss (names_trees ns (title_trees h no_trees)) in (omega arith, stmts_counted ss (names_trees ns (title_trees h no_trees)) (names_counted ns (title_trees h no_trees) (title_counted h no_trees tt)))
  stmt_counted (if_only p e s) = (refl, ((tt, expr_counted e), stmt_counted s))
  stmt_counted (if_else p e s d) = (refl, (((tt, expr_counted e), stmt_counted s), stmt_counted d))
  stmt_counted (while p e s) = (refl, ((tt, expr_counted e), stmt_counted s))
  stmt_counted (for p a b c s) = (refl, ((((tt, start_counted a), optional_counted b), optional_counted c), stmt_counted s))
  stmt_counted (return p o) = (refl, (tt, optional_counted o))
  stmt_counted (jump p j) = (refl, tt)
  stmt_counted (throw p e) = (refl, (tt, expr_counted e))
  stmt_counted (try p s m d) = (refl, (((tt, stmt_counted s), (refl, tt)), stmt_counted d))
  stmt_counted (block p ss) = let h0 = stmts_size ss no_trees in (omega arith, stmts_counted ss no_trees tt)
  stmt_counted (empty p) = (refl, tt)

  exprs_counted : (es : Exprs) (rs : ParseTrees) → AllCounted rs → AllCounted (exprs_trees es rs)
  exprs_counted no_exprs rs a = a
  exprs_counted (exprs_and es e) rs a = (exprs_counted es rs a, expr_counted e)

  attributes_counted : (ats : Attributes) (rs : ParseTrees) → AllCounted rs → AllCounted (attributes_trees ats rs)
  attributes_counted no_attributes rs a = a
  attributes_counted (attributes_and ats z) rs a = (attributes_counted ats rs a, attribute_counted z)

  children_counted : (cs : Children) (rs : ParseTrees) → AllCounted rs → AllCounted (children_trees cs rs)
  children_counted no_children rs a = a
  children_counted (children_and cs c) rs a = (children_counted cs rs a, child_counted c)

  decls_counted : (ds : Decls) (rs : ParseTrees) → AllCounted rs → AllCounted (decls_trees ds rs)
  decls_counted no_decls rs a = a
  decls_counted (decls_and ds d) rs a = (decls_counted ds rs a, decl_counted d)

  stmts_counted : (ss : Stmts) (rs : ParseTrees) → AllCounted rs → AllCounted (stmts_trees ss rs)
  stmts_counted no_stmts rs a = a
  stmts_counted (stmts_and ss s) rs a = (stmts_counted ss rs a, stmt_counted s)

  props_counted : (ps : Props) (rs : ParseTrees) → AllCounted rs → AllCounted (props_trees ps rs)
  props_counted no_props rs a = a
  props_counted (props_and ps k e) rs a = ((props_counted ps rs a, key_counted k), expr_counted e)

-- ---- the scan

or_none : (a b : Option Place) → a ≡ None → b ≡ None → or_else a b ≡ None
or_none a b h g = rw h g

or_assoc : (a b c : Option Place) → or_else a (or_else b c) ≡ or_else (or_else a b) c
or_assoc None b c = refl
or_assoc (Some p) b c = refl

none_found : (q : Option Place) (inner : Option Place) → inner ≡ None → found_at q 0 inner ≡ None
none_found None inner h = h
none_found (Some p) inner h = h

none_below : (q : Option Place) → below q 0 ≡ 0
none_below None = refl
none_below (Some p) = refl

-- nothing is found at level 0
mutual
  first_none : (r : ParseTree) → first_at r 0 ≡ None
  first_none (parse_tree x rs) = none_found (counted_place x) _ (ap (firsts_at rs) (none_below (counted_place x)) ∙ firsts_none rs)

  firsts_none : (rs : ParseTrees) → firsts_at rs 0 ≡ None
  firsts_none no_trees = refl
  firsts_none (trees_and rs r) = or_none _ _ (firsts_none rs) (first_none r)

-- where a node is at level 1, nothing in it is
node_or : (q : Option Place) (rs : ParseTrees) (l : ℕ) (later : Option Place) → or_else (firsts_at rs (below q l)) (found_at q l later) ≡ or_else (found_at q l (firsts_at rs (below q l))) later
node_or None rs l later = refl
node_or (Some p) rs l later = go (nat_eq l 1) (λ t. let same : l ≡ 1 = eqb-true l 1 t in ap (firsts_at rs) (omega arith) ∙ firsts_none rs)
  where
    go : (b : Bool) → (b ≡ true → firsts_at rs (l - 1) ≡ None) → or_else (firsts_at rs (l - 1)) (cond b (Some p) later) ≡ or_else (cond b (Some p) (firsts_at rs (l - 1))) later
    go true g = rw (g refl) refl
    go false g = refl

module _ (top : ℕ) where
  -- one node from the back
  back : (out : Nodes) (x : Node) (l : ℕ) (levels : List ℕ) (found : Option Place)
      → scan top (reverse (out ++ x ∷ [])) (l ∷ levels) found ≡ scan top (reverse out) (replicate (inside x) (below (counted_place x) l) ++ levels) (found_at (counted_place x) l found)
  back out x l levels found = ap (λ nodes. scan top nodes (l ∷ levels) found) (reverse-append out (x ∷ []))

  mutual
    tree_scan : (r : ParseTree) → Counted r → (out : Nodes) (l : ℕ) (levels : List ℕ) (found : Option Place)
        → scan top (reverse (tree_nodes r out)) (l ∷ levels) found ≡ scan top (reverse out) levels (or_else (first_at r l) found)
    tree_scan (parse_tree x rs) c out l levels found =
        let q = counted_place x in
        back (trees_nodes rs out) x l levels found ∙ ap (λ w. scan top (reverse (trees_nodes rs out)) (replicate w (below q l) ++ levels) (found_at q l found)) c.0
        ∙ trees_scan rs c.1 out (below q l) levels (found_at q l found) ∙ ap (scan top (reverse out) levels) (node_or q rs l found)

    trees_scan : (rs : ParseTrees) → AllCounted rs → (out : Nodes) (l : ℕ) (levels : List ℕ) (found : Option Place)
        → scan top (reverse (trees_nodes rs out)) (replicate (trees_count rs) l ++ levels) found ≡ scan top (reverse out) levels (or_else (firsts_at rs l) found)
    trees_scan no_trees c out l levels found = refl
    trees_scan (trees_and rs r) c out l levels found =
        ap (λ w. scan top (reverse (tree_nodes r (trees_nodes rs out))) (replicate w l ++ levels) found) (add-one (trees_count rs))
        ∙ tree_scan r c.1 (trees_nodes rs out) l (replicate (trees_count rs) l ++ levels) found ∙ trees_scan rs c.0 out l levels (or_else (first_at r l) found)
        ∙ ap (scan top (reverse out) levels) (or_assoc (firsts_at rs l) (first_at r l) found)

  -- a level that isn't given is the top one
  pad : (nodes : Nodes) (levels : List ℕ) (i : ℕ) (found : Option Place) → scan top nodes levels found ≡ scan top nodes (levels ++ replicate i top) found
  pad [] levels i found = refl
  pad (x ∷ nodes) [] zero found = refl
  pad (x ∷ nodes) [] (suc i) found = pad nodes (replicate (inside x) (below (counted_place x) top)) i (found_at (counted_place x) top found)
  pad (x ∷ nodes) (l ∷ levels) i found =
      let m = below (counted_place x) l in
      pad nodes (replicate (inside x) m ++ levels) i (found_at (counted_place x) l found)
      ∙ ap (λ w. scan top nodes w (found_at (counted_place x) l found)) (append_assoc (replicate (inside x) m) levels (replicate i top))

-- from the nodes of a program the scan gives the place of the first node that is too deep
pub deep : (limit : ℕ) (ss : Stmts) → scan (limit + 1) (reverse (stmts_nodes ss [])) [] None ≡ too_deep_at limit ss
deep limit ss =
    let top = limit + 1 in let rs = stmts_trees ss no_trees in
    ap (λ nodes. scan top (reverse nodes) [] None) (sym (stmts_same ss no_trees []))
    ∙ pad top (reverse (trees_nodes rs [])) [] (trees_count rs) None ∙ ap (λ w. scan top (reverse (trees_nodes rs [])) w None) (sym (append-nil (replicate (trees_count rs) top)))
    ∙ trees_scan top rs (stmts_counted ss no_trees tt) [] top [] None ∙ or_nothing (firsts_at rs top)
  where
    or_nothing : (a : Option Place) → or_else a None ≡ a
    or_nothing None = refl
    or_nothing (Some p) = refl
