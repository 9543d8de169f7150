-- The trees that grow from the nodes of a spelled tree are its trees.
use Rattle.std.proofs.Common.{◌≡◌, ℕ, zero, suc, ◌+◌, [], ◌∷◌, ◌++◌, Option, Some, None, option_and_then, refl, ap, ◌∙◌, arith}
use Rattle.mt_grammar.specs.Tree.{Mark, Title, a_service, a_declaration, a_named_expression, an_expression, heading_of, Key, plain, quoted, Names, no_names, names_and, names_count, Expr, name, number, text, property, constant, array, object, function, unary, step, operation, condition, assign, index, call, tilde, dollar, element, Exprs, no_exprs, exprs_and, exprs_count, Props, no_props, props_and, props_count, Attribute, attribute_plain, attribute_quoted, attribute_tilde, attribute_dollar, Attributes, no_attributes, attributes_and, attributes_count, Child, child_text, child_direct, child_dollar, Children, no_children, children_and, children_count, Decl, decl_only, decl_as, Decls, no_decls, decls_and, decls_count, Optional, absent, present, Start, start_optional, start_vars, Stmt, expression, var, declare, if_only, if_else, while, for, return, jump, throw, try, block, empty, Stmts, no_stmts, stmts_and, stmts_count}
use Rattle.mt_grammar.specs.Nodes.{Node, Nodes, names_nodes, title_nodes, key_node, expr_nodes, exprs_nodes, props_nodes, attribute_nodes, attributes_nodes, child_nodes, children_nodes, decl_nodes, decls_nodes, optional_nodes, start_nodes, stmt_nodes, stmts_nodes}
use Rattle.mt_grammar.specs.Nodes as n
use Rattle.mt_grammar.specs.ParseTree.{parse_tree, ParseTrees, no_trees, trees_and, title_trees, names_trees, key_tree, expr_tree, attribute_tree, child_tree, decl_tree, optional_tree, start_tree, stmt_tree, exprs_trees, attributes_trees, children_trees, decls_trees, stmts_trees, props_trees}
use Rattle.mt_grammar.specs.Depth.{titles, inside}

-- ---- growing on a row, the last tree outermost

-- the row without a given number of its last trees, and these
abbrev pub take_trees : ℕ → ParseTrees → Option (ParseTrees × ParseTrees)
take_trees zero rs = Some (rs, no_trees)
take_trees (suc i) no_trees = None
take_trees (suc i) (trees_and rs r) = option_and_then (λ q. Some (q.0, trees_and q.1 r)) (take_trees i rs)

abbrev pub grow : Node → ParseTrees → Option ParseTrees
grow x rs = option_and_then (λ q. Some (trees_and q.0 (parse_tree x q.1))) (take_trees (inside x) rs)

abbrev pub grew_on : Nodes → Option ParseTrees → Option ParseTrees
grew_on [] r = r
grew_on (x ∷ nodes) r = grew_on nodes (option_and_then (grow x) r)

unfoldable pub grew : Nodes → Option ParseTrees
grew nodes = grew_on nodes (Some no_trees)

one_more : (nodes : Nodes) (x : Node) (r : Option ParseTrees) → grew_on (nodes ++ x ∷ []) r ≡ option_and_then (grow x) (grew_on nodes r)
one_more [] x r = refl
one_more (y ∷ nodes) x r = one_more nodes x (option_and_then (grow y) r)

then : (nodes : Nodes) (x : Node) (vs ws : ParseTrees) → grew nodes ≡ Some vs → grow x vs ≡ Some ws → grew (nodes ++ x ∷ []) ≡ Some ws
unfolding grew
then nodes x vs ws h e = one_more nodes x (Some no_trees) ∙ ap (option_and_then (grow x)) h ∙ e

took : (x : Node) (vs : ParseTrees) {front back : ParseTrees} → take_trees (inside x) vs ≡ Some (front, back) → grow x vs ≡ Some (trees_and front (parse_tree x back))
took x vs e = ap (option_and_then (λ q. Some (trees_and q.0 (parse_tree x q.1)))) e

-- ---- a row is taken back

exprs_back : (es : Exprs) (i m : ℕ) (vs front back : ParseTrees) → take_trees m vs ≡ Some (front, back) → i ≡ exprs_count es + m → take_trees i (exprs_trees es vs) ≡ Some (front, exprs_trees es back)
unfolding expr_tree
exprs_back no_exprs i m vs front back h e = let e' : i ≡ m = omega arith in rw e' h
exprs_back (exprs_and es x) i m vs front back h e =
    let e' : i ≡ suc (exprs_count es + m) = omega arith in
    rw (e', exprs_back es (exprs_count es + m) m vs front back h refl) refl

stmts_back : (es : Stmts) (i m : ℕ) (vs front back : ParseTrees) → take_trees m vs ≡ Some (front, back) → i ≡ stmts_count es + m → take_trees i (stmts_trees es vs) ≡ Some (front, stmts_trees es back)
unfolding expr_tree
stmts_back no_stmts i m vs front back h e = let e' : i ≡ m = omega arith in rw e' h
stmts_back (stmts_and es x) i m vs front back h e =
    let e' : i ≡ suc (stmts_count es + m) = omega arith in
    rw (e', stmts_back es (stmts_count es + m) m vs front back h refl) refl

attributes_back : (es : Attributes) (i m : ℕ) (vs front back : ParseTrees) → take_trees m vs ≡ Some (front, back) → i ≡ attributes_count es + m → take_trees i (attributes_trees es vs) ≡ Some (front, attributes_trees es back)
unfolding expr_tree
attributes_back no_attributes i m vs front back h e = let e' : i ≡ m = omega arith in rw e' h
attributes_back (attributes_and es x) i m vs front back h e =
    let e' : i ≡ suc (attributes_count es + m) = omega arith in
    rw (e', attributes_back es (attributes_count es + m) m vs front back h refl) refl

children_back : (es : Children) (i m : ℕ) (vs front back : ParseTrees) → take_trees m vs ≡ Some (front, back) → i ≡ children_count es + m → take_trees i (children_trees es vs) ≡ Some (front, children_trees es back)
unfolding expr_tree
children_back no_children i m vs front back h e = let e' : i ≡ m = omega arith in rw e' h
children_back (children_and es x) i m vs front back h e =
    let e' : i ≡ suc (children_count es + m) = omega arith in
    rw (e', children_back es (children_count es + m) m vs front back h refl) refl

decls_back : (es : Decls) (i m : ℕ) (vs front back : ParseTrees) → take_trees m vs ≡ Some (front, back) → i ≡ decls_count es + m → take_trees i (decls_trees es vs) ≡ Some (front, decls_trees es back)
unfolding expr_tree
decls_back no_decls i m vs front back h e = let e' : i ≡ m = omega arith in rw e' h
decls_back (decls_and es x) i m vs front back h e =
    let e' : i ≡ suc (decls_count es + m) = omega arith in
    rw (e', decls_back es (decls_count es + m) m vs front back h refl) refl

names_back : (es : Names) (i m : ℕ) (vs front back : ParseTrees) → take_trees m vs ≡ Some (front, back) → i ≡ names_count es + m → take_trees i (names_trees es vs) ≡ Some (front, names_trees es back)
names_back no_names i m vs front back h e = let e' : i ≡ m = omega arith in rw e' h
names_back (names_and es x) i m vs front back h e =
    let e' : i ≡ suc (names_count es + m) = omega arith in
    rw (e', names_back es (names_count es + m) m vs front back h refl) refl

props_back : (es : Props) (i m : ℕ) (vs front back : ParseTrees) → take_trees m vs ≡ Some (front, back) → i ≡ props_count es + props_count es + m → take_trees i (props_trees es vs) ≡ Some (front, props_trees es back)
unfolding expr_tree
props_back no_props i m vs front back h e = let e' : i ≡ m = omega arith in rw e' h
props_back (props_and es k x) i m vs front back h e =
    let e' : i ≡ suc (suc (props_count es + props_count es + m)) = omega arith in
    rw (e', props_back es (props_count es + props_count es + m) m vs front back h refl) refl

title_back : (t : Title) (vs : ParseTrees) → take_trees (titles (heading_of t)) (title_trees t vs) ≡ Some (vs, title_trees t no_trees)
title_back (a_service m) vs = refl
title_back (a_declaration m) vs = refl
title_back (a_named_expression m) vs = refl
title_back an_expression vs = refl

function_back : (t : Title) (ns : Names) (ss : Stmts) (vs : ParseTrees)
    → take_trees (titles (heading_of t) + names_count ns + stmts_count ss) (stmts_trees ss (names_trees ns (title_trees t vs))) ≡ Some (vs, stmts_trees ss (names_trees ns (title_trees t no_trees)))
function_back t ns ss vs =
    stmts_back ss _ (titles (heading_of t) + names_count ns) _ _ _ (names_back ns _ (titles (heading_of t)) _ _ _ (title_back t vs) (omega arith)) (omega arith)

element_back : (m : Mark) (ats : Attributes) (cs : Children) (vs : ParseTrees)
    → take_trees (attributes_count ats + children_count cs + 1) (children_trees cs (attributes_trees ats (trees_and vs (parse_tree (n.Word m) no_trees)))) ≡ Some (vs, children_trees cs (attributes_trees ats (trees_and no_trees (parse_tree (n.Word m) no_trees))))
element_back m ats cs vs =
    children_back cs _ (attributes_count ats + 1) _ _ _ (attributes_back ats _ 1 _ _ _ refl (omega arith)) (omega arith)

-- ---- the trees of a spelled tree

title_grew : (h : Title) (out : Nodes) (vs : ParseTrees) → grew out ≡ Some vs → grew (title_nodes h out) ≡ Some (title_trees h vs)
title_grew (a_service m) out vs h = then out (n.Word m) vs _ h refl
title_grew (a_declaration m) out vs h = then out (n.Word m) vs _ h refl
title_grew (a_named_expression m) out vs h = then out (n.Word m) vs _ h refl
title_grew an_expression out vs h = h

names_grew : (ns : Names) (out : Nodes) (vs : ParseTrees) → grew out ≡ Some vs → grew (names_nodes ns out) ≡ Some (names_trees ns vs)
names_grew no_names out vs h = h
names_grew (names_and ns m) out vs h = then (names_nodes ns out) (n.Word m) (names_trees ns vs) _ (names_grew ns out vs h) refl

key_grew : (k : Key) (out : Nodes) (vs : ParseTrees) → grew out ≡ Some vs → grew (out ++ key_node k ∷ []) ≡ Some (trees_and vs (key_tree k))
key_grew (plain m) out vs h = then out (n.Word m) vs _ h refl
key_grew (quoted m) out vs h = then out (n.QuotedKey m) vs _ h refl

mutual
  unfolding expr_nodes expr_tree

  expr_grew : (e : Expr) (out : Nodes) (vs : ParseTrees) → grew out ≡ Some vs → grew (expr_nodes e out) ≡ Some (trees_and vs (expr_tree e))
  expr_grew (name m) out vs h = then out (n.Name m) vs _ h refl
  expr_grew (number m) out vs h = then out (n.Number m) vs _ h refl
  expr_grew (text m) out vs h = then out (n.Text m) vs _ h refl
  expr_grew (property m) out vs h = then out (n.Property m) vs _ h refl
  expr_grew (constant p c) out vs h = then out (n.Constant p c) vs _ h refl
  expr_grew (array p es) out vs h = then _ (n.Array p (exprs_count es)) (exprs_trees es vs) _ (exprs_grew es out vs h) (took _ _ (exprs_back es (exprs_count es) 0 vs vs no_trees refl (omega arith)))
  expr_grew (object p ps) out vs h = then _ (n.Object p (props_count ps)) (props_trees ps vs) _ (props_grew ps out vs h) (took _ _ (props_back ps (props_count ps + props_count ps) 0 vs vs no_trees refl (omega arith)))
  expr_grew (function p t ns ss) out vs h =
      then _ (n.Function p (heading_of t) (names_count ns) (stmts_count ss)) (stmts_trees ss (names_trees ns (title_trees t vs))) _
      (stmts_grew ss _ _ (names_grew ns _ _ (title_grew t out vs h))) (took _ _ (function_back t ns ss vs))
  expr_grew (unary p u a) out vs h = then _ (n.Unary p u) _ _ (expr_grew a out vs h) refl
  expr_grew (step p d a) out vs h = then _ (n.Step p d) _ _ (expr_grew a out vs h) refl
  expr_grew (operation p o a b) out vs h = then _ (n.Operation p o) _ _ (expr_grew b _ _ (expr_grew a out vs h)) refl
  expr_grew (condition p a b d) out vs h = then _ (n.Condition p) _ _ (expr_grew d _ _ (expr_grew b _ _ (expr_grew a out vs h))) refl
  expr_grew (assign p o a e) out vs h = then _ (n.Assign p o) _ _ (expr_grew e _ _ (expr_grew a out vs h)) refl
  expr_grew (index p a i) out vs h = then _ (n.Index p) _ _ (expr_grew i _ _ (expr_grew a out vs h)) refl
  expr_grew (call p a es) out vs h =
      then _ (n.Call p (exprs_count es)) (exprs_trees es (trees_and vs (expr_tree a))) _ (exprs_grew es _ _ (expr_grew a out vs h)) (took _ _ (exprs_back es (exprs_count es + 1) 1 (trees_and vs (expr_tree a)) vs (trees_and no_trees (expr_tree a)) refl (omega arith)))
  expr_grew (tilde p ss) out vs h = then _ (n.Tilde p (stmts_count ss)) (stmts_trees ss vs) _ (stmts_grew ss out vs h) (took _ _ (stmts_back ss (stmts_count ss) 0 vs vs no_trees refl (omega arith)))
  expr_grew (dollar p e) out vs h = then _ (n.Dollar p) _ _ (expr_grew e out vs h) refl
  expr_grew (element m ats cs) out vs h =
      let ws = trees_and vs (parse_tree (n.Word m) no_trees) in
      then _ (n.Element m.place (attributes_count ats) (children_count cs)) (children_trees cs (attributes_trees ats ws)) _
      (children_grew cs _ _ (attributes_grew ats _ _ (then out (n.Word m) vs _ h refl))) (took _ _ (element_back m ats cs vs))

  exprs_grew : (es : Exprs) (out : Nodes) (vs : ParseTrees) → grew out ≡ Some vs → grew (exprs_nodes es out) ≡ Some (exprs_trees es vs)
  exprs_grew no_exprs out vs h = h
  exprs_grew (exprs_and es e) out vs h = expr_grew e _ _ (exprs_grew es out vs h)

  props_grew : (ps : Props) (out : Nodes) (vs : ParseTrees) → grew out ≡ Some vs → grew (props_nodes ps out) ≡ Some (props_trees ps vs)
  props_grew no_props out vs h = h
  props_grew (props_and ps k e) out vs h = expr_grew e _ _ (key_grew k _ _ (props_grew ps out vs h))

  attribute_grew : (a : Attribute) (out : Nodes) (vs : ParseTrees) → grew out ≡ Some vs → grew (attribute_nodes a out) ≡ Some (trees_and vs (attribute_tree a))
  attribute_grew (attribute_plain m) out vs h = then out (n.AttributeName m) vs _ h refl
  attribute_grew (attribute_quoted m v) out vs h = then _ (n.AttributeQuoted v) _ _ (then out (n.AttributeName m) vs _ h refl) refl
  attribute_grew (attribute_tilde m e) out vs h = then _ n.AttributeTilde _ _ (expr_grew e _ _ (then out (n.AttributeName m) vs _ h refl)) refl
  attribute_grew (attribute_dollar m e) out vs h = then _ n.AttributeDollar _ _ (expr_grew e _ _ (then out (n.AttributeName m) vs _ h refl)) refl

  attributes_grew : (ats : Attributes) (out : Nodes) (vs : ParseTrees) → grew out ≡ Some vs → grew (attributes_nodes ats out) ≡ Some (attributes_trees ats vs)
  attributes_grew no_attributes out vs h = h
  attributes_grew (attributes_and ats a) out vs h = attribute_grew a _ _ (attributes_grew ats out vs h)

  child_grew : (c : Child) (out : Nodes) (vs : ParseTrees) → grew out ≡ Some vs → grew (child_nodes c out) ≡ Some (trees_and vs (child_tree c))
  child_grew (child_text m) out vs h = then out (n.ChildText m) vs _ h refl
  child_grew (child_direct e) out vs h = then _ n.ChildDirect _ _ (expr_grew e out vs h) refl
  child_grew (child_dollar e) out vs h = then _ n.ChildDollar _ _ (expr_grew e out vs h) refl

  children_grew : (cs : Children) (out : Nodes) (vs : ParseTrees) → grew out ≡ Some vs → grew (children_nodes cs out) ≡ Some (children_trees cs vs)
  children_grew no_children out vs h = h
  children_grew (children_and cs c) out vs h = child_grew c _ _ (children_grew cs out vs h)

  decl_grew : (d : Decl) (out : Nodes) (vs : ParseTrees) → grew out ≡ Some vs → grew (decl_nodes d out) ≡ Some (trees_and vs (decl_tree d))
  decl_grew (decl_only m) out vs h = then out (n.DeclName m) vs _ h refl
  decl_grew (decl_as m e) out vs h = then _ n.DeclValue _ _ (expr_grew e _ _ (then out (n.DeclName m) vs _ h refl)) refl

  decls_grew : (ds : Decls) (out : Nodes) (vs : ParseTrees) → grew out ≡ Some vs → grew (decls_nodes ds out) ≡ Some (decls_trees ds vs)
  decls_grew no_decls out vs h = h
  decls_grew (decls_and ds d) out vs h = decl_grew d _ _ (decls_grew ds out vs h)

  optional_grew : (o : Optional) (out : Nodes) (vs : ParseTrees) → grew out ≡ Some vs → grew (optional_nodes o out) ≡ Some (trees_and vs (optional_tree o))
  optional_grew absent out vs h = then out n.Absent vs _ h refl
  optional_grew (present e) out vs h = then _ n.Present _ _ (expr_grew e out vs h) refl

  start_grew : (a : Start) (out : Nodes) (vs : ParseTrees) → grew out ≡ Some vs → grew (start_nodes a out) ≡ Some (trees_and vs (start_tree a))
  start_grew (start_optional o) out vs h = then _ n.StartOptional _ _ (optional_grew o out vs h) refl
  start_grew (start_vars ds) out vs h = then _ (n.StartVars (decls_count ds)) (decls_trees ds vs) _ (decls_grew ds out vs h) (took _ _ (decls_back ds (decls_count ds) 0 vs vs no_trees refl (omega arith)))

  stmt_grew : (s : Stmt) (out : Nodes) (vs : ParseTrees) → grew out ≡ Some vs → grew (stmt_nodes s out) ≡ Some (trees_and vs (stmt_tree s))
  stmt_grew (expression p e) out vs h = then _ (n.Expression p) _ _ (expr_grew e out vs h) refl
  stmt_grew (var p d ds) out vs h = then _ (n.Var p d (decls_count ds)) (decls_trees ds vs) _ (decls_grew ds out vs h) (took _ _ (decls_back ds (decls_count ds) 0 vs vs no_trees refl (omega arith)))
  stmt_grew (declare p t ns ss) out vs h =
      then _ (n.Declare p (heading_of t) (names_count ns) (stmts_count ss)) (stmts_trees ss (names_trees ns (title_trees t vs))) _
      (stmts_grew ss _ _ (names_grew ns _ _ (title_grew t out vs h))) (took _ _ (function_back t ns ss vs))
  stmt_grew (if_only p e s) out vs h = then _ (n.If p) _ _ (stmt_grew s _ _ (expr_grew e out vs h)) refl
  stmt_grew (if_else p e s d) out vs h = then _ (n.IfElse p) _ _ (stmt_grew d _ _ (stmt_grew s _ _ (expr_grew e out vs h))) refl
  stmt_grew (while p e s) out vs h = then _ (n.While p) _ _ (stmt_grew s _ _ (expr_grew e out vs h)) refl
  stmt_grew (for p a b c s) out vs h = then _ (n.For p) _ _ (stmt_grew s _ _ (optional_grew c _ _ (optional_grew b _ _ (start_grew a out vs h)))) refl
  stmt_grew (return p o) out vs h = then _ (n.Return p) _ _ (optional_grew o out vs h) refl
  stmt_grew (jump p j) out vs h = then out (n.Jump p j) vs _ h refl
  stmt_grew (throw p e) out vs h = then _ (n.Throw p) _ _ (expr_grew e out vs h) refl
  stmt_grew (try p s m d) out vs h = then _ (n.Try p) _ _ (stmt_grew d _ _ (then _ (n.Word m) _ _ (stmt_grew s out vs h) refl)) refl
  stmt_grew (block p ss) out vs h = then _ (n.Block p (stmts_count ss)) (stmts_trees ss vs) _ (stmts_grew ss out vs h) (took _ _ (stmts_back ss (stmts_count ss) 0 vs vs no_trees refl (omega arith)))
  stmt_grew (empty p) out vs h = then out (n.Empty p) vs _ h refl

  pub stmts_grew : (ss : Stmts) (out : Nodes) (vs : ParseTrees) → grew out ≡ Some vs → grew (stmts_nodes ss out) ≡ Some (stmts_trees ss vs)
  stmts_grew no_stmts out vs h = h
  stmts_grew (stmts_and ss s) out vs h = stmt_grew s _ _ (stmts_grew ss out vs h)

pub program_grew : (ss : Stmts) → grew (stmts_nodes ss []) ≡ Some (stmts_trees ss no_trees)
unfolding grew
program_grew ss = stmts_grew ss [] no_trees refl
