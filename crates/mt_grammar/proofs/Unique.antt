-- A list of tokens has at most one tree.
use Rattle.std.proofs.Common.{◌≡◌, [], ◌∷◌, ◌++◌, Option, Some, option_and_then, refl, sym, ap, ◌∙◌, add-one}
use Rattle.mt_grammar.specs.Token.{Tokens}
use Rattle.mt_grammar.specs.Tree.{Title, a_service, a_declaration, a_named_expression, an_expression, heading_of, Key, plain, quoted, Names, no_names, names_and, names_count, Expr, name, number, text, property, constant, array, object, function, unary, step, operation, condition, assign, index, call, tilde, dollar, element, Exprs, no_exprs, exprs_and, exprs_count, Props, no_props, props_and, props_count, Attribute, attribute_plain, attribute_quoted, attribute_tilde, attribute_dollar, Attributes, no_attributes, attributes_and, attributes_count, Child, child_text, child_direct, child_dollar, Children, no_children, children_and, children_count, Decl, decl_only, decl_as, Decls, no_decls, decls_and, decls_count, Optional, absent, present, Start, start_optional, start_vars, Stmt, expression, var, declare, if_only, if_else, while, for, return, jump, throw, try, block, empty, Stmts, no_stmts, stmts_and, stmts_count}
use Rattle.mt_grammar.specs.Nodes.{Node, Nodes, names_nodes, title_nodes, key_node, expr_nodes, exprs_nodes, props_nodes, attribute_nodes, attributes_nodes, child_nodes, children_nodes, decl_nodes, decls_nodes, optional_nodes, start_nodes, stmt_nodes, stmts_nodes}
use Rattle.mt_grammar.specs.Nodes as n
use Rattle.mt_grammar.specs.Grammar.{IsProgram}
use Rattle.mt_grammar.specs.Values.{Value, of_expr, of_stmt, of_word, of_quoted, of_attribute, of_child, of_decl, of_optional, of_start, Values, take_exprs, take_stmts, take_names, take_props, take_attributes, take_children, take_decls, take_title, take_function, apply, built_on, built, of_stmts}
use Rattle.mt_grammar.proofs.Complete.{complete}

one_more : (nodes : Nodes) (x : Node) (r : Option Values) → built_on (nodes ++ x ∷ []) r ≡ option_and_then (apply x) (built_on nodes r)
one_more [] x r = refl
one_more (y ∷ nodes) x r = one_more nodes x (option_and_then (apply y) r)

then : (nodes : Nodes) (x : Node) (vs ws : Values) → built nodes ≡ Some vs → apply x vs ≡ Some ws → built (nodes ++ x ∷ []) ≡ Some ws
unfolding built
then nodes x vs ws h e = one_more nodes x (Some []) ∙ ap (option_and_then (apply x)) h ∙ e

-- the values that a row leaves

abbrev exprs_on : Exprs → Values → Values
exprs_on no_exprs vs = vs
exprs_on (exprs_and es e) vs = of_expr e ∷ exprs_on es vs

abbrev stmts_on : Stmts → Values → Values
stmts_on no_stmts vs = vs
stmts_on (stmts_and ss s) vs = of_stmt s ∷ stmts_on ss vs

abbrev names_on : Names → Values → Values
names_on no_names vs = vs
names_on (names_and ns m) vs = of_word m ∷ names_on ns vs

abbrev key_value : Key → Value
key_value (plain m) = of_word m
key_value (quoted m) = of_quoted m

abbrev props_on : Props → Values → Values
props_on no_props vs = vs
props_on (props_and ps k e) vs = of_expr e ∷ key_value k ∷ props_on ps vs

abbrev attributes_on : Attributes → Values → Values
attributes_on no_attributes vs = vs
attributes_on (attributes_and ats a) vs = of_attribute a ∷ attributes_on ats vs

abbrev children_on : Children → Values → Values
children_on no_children vs = vs
children_on (children_and cs c) vs = of_child c ∷ children_on cs vs

abbrev decls_on : Decls → Values → Values
decls_on no_decls vs = vs
decls_on (decls_and ds d) vs = of_decl d ∷ decls_on ds vs

abbrev title_on : Title → Values → Values
title_on (a_service m) vs = of_word m ∷ vs
title_on (a_declaration m) vs = of_word m ∷ vs
title_on (a_named_expression m) vs = of_word m ∷ vs
title_on an_expression vs = vs

exprs_back : (es : Exprs) (vs : Values) → take_exprs (exprs_count es) (exprs_on es vs) ≡ Some (es, vs)
exprs_back no_exprs vs = refl
exprs_back (exprs_and es e) vs = rw (add-one, exprs_back es vs) refl

stmts_back : (ss : Stmts) (vs : Values) → take_stmts (stmts_count ss) (stmts_on ss vs) ≡ Some (ss, vs)
stmts_back no_stmts vs = refl
stmts_back (stmts_and ss s) vs = rw (add-one, stmts_back ss vs) refl

names_back : (ns : Names) (vs : Values) → take_names (names_count ns) (names_on ns vs) ≡ Some (ns, vs)
names_back no_names vs = refl
names_back (names_and ns m) vs = rw (add-one, names_back ns vs) refl

props_back : (ps : Props) (vs : Values) → take_props (props_count ps) (props_on ps vs) ≡ Some (ps, vs)
props_back no_props vs = refl
props_back (props_and ps (plain m) e) vs = rw (add-one, props_back ps vs) refl
props_back (props_and ps (quoted m) e) vs = rw (add-one, props_back ps vs) refl

attributes_back : (ats : Attributes) (vs : Values) → take_attributes (attributes_count ats) (attributes_on ats vs) ≡ Some (ats, vs)
attributes_back no_attributes vs = refl
attributes_back (attributes_and ats a) vs = rw (add-one, attributes_back ats vs) refl

children_back : (cs : Children) (vs : Values) → take_children (children_count cs) (children_on cs vs) ≡ Some (cs, vs)
children_back no_children vs = refl
children_back (children_and cs c) vs = rw (add-one, children_back cs vs) refl

decls_back : (ds : Decls) (vs : Values) → take_decls (decls_count ds) (decls_on ds vs) ≡ Some (ds, vs)
decls_back no_decls vs = refl
decls_back (decls_and ds d) vs = rw (add-one, decls_back ds vs) refl

title_back : (h : Title) (vs : Values) → take_title (heading_of h) (title_on h vs) ≡ Some (h, vs)
title_back (a_service m) vs = refl
title_back (a_declaration m) vs = refl
title_back (a_named_expression m) vs = refl
title_back an_expression vs = refl

function_back : (h : Title) (ns : Names) (ss : Stmts) (vs : Values)
    → take_function (heading_of h) (names_count ns) (stmts_count ss) (stmts_on ss (names_on ns (title_on h vs))) ≡ Some (h, ns, ss, vs)
function_back h ns ss vs = rw (stmts_back ss (names_on ns (title_on h vs)), names_back ns (title_on h vs), title_back h vs) refl

title_built : (h : Title) (out : Nodes) (vs : Values) → built out ≡ Some vs → built (title_nodes h out) ≡ Some (title_on h vs)
title_built (a_service m) out vs h = then out (n.Word m) vs _ h refl
title_built (a_declaration m) out vs h = then out (n.Word m) vs _ h refl
title_built (a_named_expression m) out vs h = then out (n.Word m) vs _ h refl
title_built an_expression out vs h = h

names_built : (ns : Names) (out : Nodes) (vs : Values) → built out ≡ Some vs → built (names_nodes ns out) ≡ Some (names_on ns vs)
names_built no_names out vs h = h
names_built (names_and ns m) out vs h = then (names_nodes ns out) (n.Word m) (names_on ns vs) _ (names_built ns out vs h) refl

key_built : (k : Key) (out : Nodes) (vs : Values) → built out ≡ Some vs → built (out ++ key_node k ∷ []) ≡ Some (key_value k ∷ vs)
key_built (plain m) out vs h = then out (n.Word m) vs _ h refl
key_built (quoted m) out vs h = then out (n.QuotedKey m) vs _ h refl

mutual
  unfolding expr_nodes

  expr_built : (e : Expr) (out : Nodes) (vs : Values) → built out ≡ Some vs → built (expr_nodes e out) ≡ Some (of_expr e ∷ vs)
  expr_built (name m) out vs h = then out (n.Name m) vs _ h refl
  expr_built (number m) out vs h = then out (n.Number m) vs _ h refl
  expr_built (text m) out vs h = then out (n.Text m) vs _ h refl
  expr_built (property m) out vs h = then out (n.Property m) vs _ h refl
  expr_built (constant p c) out vs h = then out (n.Constant p c) vs _ h refl
  expr_built (array p es) out vs h = then _ (n.Array p (exprs_count es)) (exprs_on es vs) _ (exprs_built es out vs h) (rw (exprs_back es vs) refl)
  expr_built (object p ps) out vs h = then _ (n.Object p (props_count ps)) (props_on ps vs) _ (props_built ps out vs h) (rw (props_back ps vs) refl)
  expr_built (function p t ns ss) out vs h =
      then _ (n.Function p (heading_of t) (names_count ns) (stmts_count ss)) (stmts_on ss (names_on ns (title_on t vs))) _
      (stmts_built ss _ _ (names_built ns _ _ (title_built t out vs h))) (rw (function_back t ns ss vs) refl)
  expr_built (unary p u a) out vs h = then _ (n.Unary p u) _ _ (expr_built a out vs h) refl
  expr_built (step p d a) out vs h = then _ (n.Step p d) _ _ (expr_built a out vs h) refl
  expr_built (operation p o a b) out vs h = then _ (n.Operation p o) _ _ (expr_built b _ _ (expr_built a out vs h)) refl
  expr_built (condition p a b d) out vs h = then _ (n.Condition p) _ _ (expr_built d _ _ (expr_built b _ _ (expr_built a out vs h))) refl
  expr_built (assign p o a e) out vs h = then _ (n.Assign p o) _ _ (expr_built e _ _ (expr_built a out vs h)) refl
  expr_built (index p a i) out vs h = then _ (n.Index p) _ _ (expr_built i _ _ (expr_built a out vs h)) refl
  expr_built (call p a es) out vs h =
      then _ (n.Call p (exprs_count es)) (exprs_on es (of_expr a ∷ vs)) _ (exprs_built es _ _ (expr_built a out vs h)) (rw (exprs_back es (of_expr a ∷ vs)) refl)
  expr_built (tilde p ss) out vs h = then _ (n.Tilde p (stmts_count ss)) (stmts_on ss vs) _ (stmts_built ss out vs h) (rw (stmts_back ss vs) refl)
  expr_built (dollar p e) out vs h = then _ (n.Dollar p) _ _ (expr_built e out vs h) refl
  expr_built (element m ats cs) out vs h =
      let ws = of_word m ∷ vs in
      then _ (n.Element m.place (attributes_count ats) (children_count cs)) (children_on cs (attributes_on ats ws)) _
      (children_built cs _ _ (attributes_built ats _ _ (then out (n.Word m) vs _ h refl))) (rw (children_back cs (attributes_on ats ws), attributes_back ats ws) refl)

  exprs_built : (es : Exprs) (out : Nodes) (vs : Values) → built out ≡ Some vs → built (exprs_nodes es out) ≡ Some (exprs_on es vs)
  exprs_built no_exprs out vs h = h
  exprs_built (exprs_and es e) out vs h = expr_built e _ _ (exprs_built es out vs h)

  props_built : (ps : Props) (out : Nodes) (vs : Values) → built out ≡ Some vs → built (props_nodes ps out) ≡ Some (props_on ps vs)
  props_built no_props out vs h = h
  props_built (props_and ps k e) out vs h = expr_built e _ _ (key_built k _ _ (props_built ps out vs h))

  attribute_built : (a : Attribute) (out : Nodes) (vs : Values) → built out ≡ Some vs → built (attribute_nodes a out) ≡ Some (of_attribute a ∷ vs)
  attribute_built (attribute_plain m) out vs h = then out (n.AttributeName m) vs _ h refl
  attribute_built (attribute_quoted m v) out vs h = then _ (n.AttributeQuoted v) _ _ (then out (n.AttributeName m) vs _ h refl) refl
  attribute_built (attribute_tilde m e) out vs h = then _ n.AttributeTilde _ _ (expr_built e _ _ (then out (n.AttributeName m) vs _ h refl)) refl
  attribute_built (attribute_dollar m e) out vs h = then _ n.AttributeDollar _ _ (expr_built e _ _ (then out (n.AttributeName m) vs _ h refl)) refl

  attributes_built : (ats : Attributes) (out : Nodes) (vs : Values) → built out ≡ Some vs → built (attributes_nodes ats out) ≡ Some (attributes_on ats vs)
  attributes_built no_attributes out vs h = h
  attributes_built (attributes_and ats a) out vs h = attribute_built a _ _ (attributes_built ats out vs h)

  child_built : (c : Child) (out : Nodes) (vs : Values) → built out ≡ Some vs → built (child_nodes c out) ≡ Some (of_child c ∷ vs)
  child_built (child_text m) out vs h = then out (n.ChildText m) vs _ h refl
  child_built (child_direct e) out vs h = then _ n.ChildDirect _ _ (expr_built e out vs h) refl
  child_built (child_dollar e) out vs h = then _ n.ChildDollar _ _ (expr_built e out vs h) refl

  children_built : (cs : Children) (out : Nodes) (vs : Values) → built out ≡ Some vs → built (children_nodes cs out) ≡ Some (children_on cs vs)
  children_built no_children out vs h = h
  children_built (children_and cs c) out vs h = child_built c _ _ (children_built cs out vs h)

  decl_built : (d : Decl) (out : Nodes) (vs : Values) → built out ≡ Some vs → built (decl_nodes d out) ≡ Some (of_decl d ∷ vs)
  decl_built (decl_only m) out vs h = then out (n.DeclName m) vs _ h refl
  decl_built (decl_as m e) out vs h = then _ n.DeclValue _ _ (expr_built e _ _ (then out (n.DeclName m) vs _ h refl)) refl

  decls_built : (ds : Decls) (out : Nodes) (vs : Values) → built out ≡ Some vs → built (decls_nodes ds out) ≡ Some (decls_on ds vs)
  decls_built no_decls out vs h = h
  decls_built (decls_and ds d) out vs h = decl_built d _ _ (decls_built ds out vs h)

  optional_built : (o : Optional) (out : Nodes) (vs : Values) → built out ≡ Some vs → built (optional_nodes o out) ≡ Some (of_optional o ∷ vs)
  optional_built absent out vs h = then out n.Absent vs _ h refl
  optional_built (present e) out vs h = then _ n.Present _ _ (expr_built e out vs h) refl

  start_built : (a : Start) (out : Nodes) (vs : Values) → built out ≡ Some vs → built (start_nodes a out) ≡ Some (of_start a ∷ vs)
  start_built (start_optional o) out vs h = then _ n.StartOptional _ _ (optional_built o out vs h) refl
  start_built (start_vars ds) out vs h = then _ (n.StartVars (decls_count ds)) (decls_on ds vs) _ (decls_built ds out vs h) (rw (decls_back ds vs) refl)

  stmt_built : (s : Stmt) (out : Nodes) (vs : Values) → built out ≡ Some vs → built (stmt_nodes s out) ≡ Some (of_stmt s ∷ vs)
  stmt_built (expression p e) out vs h = then _ (n.Expression p) _ _ (expr_built e out vs h) refl
  stmt_built (var p d ds) out vs h = then _ (n.Var p d (decls_count ds)) (decls_on ds vs) _ (decls_built ds out vs h) (rw (decls_back ds vs) refl)
  stmt_built (declare p t ns ss) out vs h =
      then _ (n.Declare p (heading_of t) (names_count ns) (stmts_count ss)) (stmts_on ss (names_on ns (title_on t vs))) _
      (stmts_built ss _ _ (names_built ns _ _ (title_built t out vs h))) (rw (function_back t ns ss vs) refl)
  stmt_built (if_only p e s) out vs h = then _ (n.If p) _ _ (stmt_built s _ _ (expr_built e out vs h)) refl
  stmt_built (if_else p e s d) out vs h = then _ (n.IfElse p) _ _ (stmt_built d _ _ (stmt_built s _ _ (expr_built e out vs h))) refl
  stmt_built (while p e s) out vs h = then _ (n.While p) _ _ (stmt_built s _ _ (expr_built e out vs h)) refl
  stmt_built (for p a b c s) out vs h = then _ (n.For p) _ _ (stmt_built s _ _ (optional_built c _ _ (optional_built b _ _ (start_built a out vs h)))) refl
  stmt_built (return p o) out vs h = then _ (n.Return p) _ _ (optional_built o out vs h) refl
  stmt_built (jump p j) out vs h = then out (n.Jump p j) vs _ h refl
  stmt_built (throw p e) out vs h = then _ (n.Throw p) _ _ (expr_built e out vs h) refl
  stmt_built (try p s m d) out vs h = then _ (n.Try p) _ _ (stmt_built d _ _ (then _ (n.Word m) _ _ (stmt_built s out vs h) refl)) refl
  stmt_built (block p ss) out vs h = then _ (n.Block p (stmts_count ss)) (stmts_on ss vs) _ (stmts_built ss out vs h) (rw (stmts_back ss vs) refl)
  stmt_built (empty p) out vs h = then out (n.Empty p) vs _ h refl

  pub stmts_built : (ss : Stmts) (out : Nodes) (vs : Values) → built out ≡ Some vs → built (stmts_nodes ss out) ≡ Some (stmts_on ss vs)
  stmts_built no_stmts out vs h = h
  stmts_built (stmts_and ss s) out vs h = stmt_built s _ _ (stmts_built ss out vs h)

abbrev stmts_from : Values → Stmts
stmts_from [] = no_stmts
stmts_from (of_stmt s ∷ vs) = stmts_and (stmts_from vs) s
stmts_from (_ ∷ vs) = no_stmts

stmts_again : (ss : Stmts) → stmts_from (stmts_on ss []) ≡ ss
stmts_again no_stmts = refl
stmts_again (stmts_and ss s) = ap (λ x. stmts_and x s) (stmts_again ss)

-- the nodes of a program have one tree
pub one_tree : (a b : Stmts) → stmts_nodes a [] ≡ stmts_nodes b [] → a ≡ b
unfolding built
one_tree a b e =
    let same : Some (stmts_on a []) ≡ Some (stmts_on b []) = sym (stmts_built a [] [] refl) ∙ ap built e ∙ stmts_built b [] [] refl in
    let both : stmts_on a [] ≡ stmts_on b [] = cc in
    sym (stmts_again a) ∙ ap stmts_from both ∙ stmts_again b

-- a list of tokens has at most one tree
pub unique : (ts : Tokens) (a b : Stmts) → IsProgram ts a → IsProgram ts b → a ≡ b
unique ts a b p q =
    let same : Some (stmts_nodes a []) ≡ Some (stmts_nodes b []) = sym (complete ts a p) ∙ complete ts b q in
    one_tree a b (cc)

stmts_alone : (ss : Stmts) → stmts_on ss [] ≡ of_stmts ss
stmts_alone no_stmts = refl
stmts_alone (stmts_and ss s) = ap (λ vs. of_stmt s ∷ vs) (stmts_alone ss)

pub program_built : (ss : Stmts) → built (stmts_nodes ss []) ≡ Some (of_stmts ss)
unfolding built
program_built ss = stmts_built ss [] [] refl ∙ ap Some (stmts_alone ss)
