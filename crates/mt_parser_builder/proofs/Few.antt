-- A derived tree has at most four nodes for each token.
use Rattle.std.proofs.Common.{◌≡◌, ℕ, ◌+◌, ◌*◌, ◌≤◌, [], length, refl, arith}
use Rattle.mt_grammar.specs.Tree.{Title, Key, plain, quoted, Names, Expr, Exprs, Props, Attribute, Attributes, Child, Children, Decl, Decls, Optional, Start, Stmt, Stmts}
use Rattle.mt_grammar.specs.Token.{Tokens}
use Rattle.mt_grammar.specs.Nodes.{stmts_nodes}
use Rattle.mt_grammar.specs.Grammar.{Ends, ReadsNames, Parameters, Head, Reads, ReadsList, ReadsProps, ReadsFunction, ReadsTilde, ReadsDollar, ReadsElement, ReadsAttribute, ReadsAttributes, ReadsChild, ReadsChildren, ReadsDecl, ReadsDecls, ReadsOptional, ReadsStart, ReadsBlock, ReadsBody, ReadsStmt, ReadsStmts, ReadsItem, ReadsItems, semicolon, before_brace, first_name, next_name, no_parameters, parameters, h_service, h_declaration, h_named, h_expression, r_assign, r_up, r_condition, r_operation, r_unary, r_step_before, r_step_after, r_dot, r_index, r_call_none, r_call, r_name, r_number, r_text, r_constant, r_paren, r_array_none, r_array, r_array_comma, r_object_none, r_object, r_object_comma, r_function, r_tilde, r_dollar, r_element, first_expr, next_expr, first_prop, next_prop, function_of, tilde_of, dollar_of, e_self, e_void, e_children, a_plain, a_quoted, a_tilde, a_dollar, no_attribute, next_attribute, c_text, c_element, c_tilde, c_dollar, no_child, next_child, d_only, d_as, first_decl, next_decl, o_absent, o_present, f_optional, f_vars, block_of, b_block, b_single, s_var, s_if, s_if_else, s_while, s_for, s_return, s_return_value, s_jump, s_throw, s_try, s_block, s_empty, s_expression, no_stmt, next_stmt, i_function, i_statement, no_item, next_item, IsProgram, tag_mark}
use Rattle.mt_grammar.specs.Nodes as n
use Rattle.mt_tree.specs.declared.operators.VarKind.{VarKind}
use Rattle.mt_grammar.specs.declared.terminal.Terminal.{Terminal}
use Rattle.mt_grammar.specs.ParseTree.{parse_tree, ParseTrees, no_trees, trees_and, title_trees, names_trees, key_tree, expr_tree, attribute_tree, child_tree, decl_tree, optional_tree, start_tree, stmt_tree, exprs_trees, attributes_trees, children_trees, decls_trees, stmts_trees, props_trees}
use Rattle.mt_parser_builder.proofs.Numbers.{weight, weights}
use Rattle.mt_parser_builder.proofs.Whole.{nodes_weigh}

ends_few : {ts rest : Tokens} → Ends ts rest → length rest ≤ length ts
ends_few (semicolon q) = omega arith
ends_few (before_brace q) = omega arith

names_few : {ts rest : Tokens} {ns : Names} → ReadsNames ts rest ns → (rs : ParseTrees) → weights (names_trees ns rs) + 4 * length rest ≤ weights rs + 4 * length ts
names_few (first_name q) rs = omega arith
names_few (next_name d c q) rs = let x = names_few d rs in omega arith

parameters_few : {ts rest : Tokens} {ns : Names} → Parameters ts rest ns → (rs : ParseTrees) → weights (names_trees ns rs) + 4 * length rest + 4 ≤ weights rs + 4 * length ts
parameters_few (no_parameters q) rs = omega arith
parameters_few (parameters d q) rs = let x = names_few d rs in omega arith

head_few : {h : Title} {ts rest : Tokens} → Head h ts rest → weights (title_trees h no_trees) + 4 * length rest + 7 ≤ 4 * length ts
head_few (h_service a b c) = omega arith
head_few (h_declaration a b c) = omega arith
head_few (h_named a b c) = omega arith
head_few (h_expression a b) = omega arith

key_few : (key : Key) → weight (key_tree key) ≡ 1
key_few (plain m) = refl
key_few (quoted m) = refl

mutual
  unfolding expr_tree

  expr_few : {l : ℕ} {ts rest : Tokens} {e : Expr} → Reads l ts rest e → weight (expr_tree e) + 4 * length rest + 3 ≤ 4 * length ts
  expr_few (r_assign o d w q f) = let x = expr_few d in let y = expr_few f in omega arith
  expr_few (r_up d) = expr_few d
  expr_few (r_condition d q f c g) = let x = expr_few d in let y = expr_few f in let z = expr_few g in omega arith
  expr_few (r_operation o l d q f) = let x = expr_few d in let y = expr_few f in omega arith
  expr_few (r_unary u q d) = let x = expr_few d in omega arith
  expr_few (r_step_before s q d w) = let x = expr_few d in omega arith
  expr_few (r_step_after s d w q) = let x = expr_few d in omega arith
  expr_few (r_dot d q w) = let x = expr_few d in omega arith
  expr_few (r_index d q f c) = let x = expr_few d in let y = expr_few f in omega arith
  expr_few (r_call_none d q c) = let x = expr_few d in omega arith
  expr_few (r_call {a} d q f c) = let x = expr_few d in let y = list_few f (trees_and no_trees (expr_tree a)) in omega arith
  expr_few (r_name q) = omega arith
  expr_few (r_number q) = omega arith
  expr_few (r_text q) = omega arith
  expr_few (r_constant v q) = omega arith
  expr_few (r_paren q d c) = let x = expr_few d in omega arith
  expr_few (r_array_none q c) = omega arith
  expr_few (r_array q d c) = let x = list_few d no_trees in omega arith
  expr_few (r_array_comma q d m c) = let x = list_few d no_trees in omega arith
  expr_few (r_object_none q c) = omega arith
  expr_few (r_object q d c) = let x = props_few d no_trees in omega arith
  expr_few (r_object_comma q d m c) = let x = props_few d no_trees in omega arith
  expr_few (r_function d q) = let x = function_few d in omega arith
  expr_few (r_tilde d) = let x = tilde_few d in omega arith
  expr_few (r_dollar d) = let x = dollar_few d in omega arith
  expr_few (r_element d) = let x = element_few d in omega arith

  list_few : {ts rest : Tokens} {es : Exprs} → ReadsList ts rest es → (rs : ParseTrees) → weights (exprs_trees es rs) + 4 * length rest + 3 ≤ weights rs + 4 * length ts
  list_few (first_expr d) rs = let x = expr_few d in omega arith
  list_few (next_expr d c f) rs = let x = list_few d rs in let y = expr_few f in omega arith

  props_few : {ts rest : Tokens} {ps : Props} → ReadsProps ts rest ps → (rs : ParseTrees) → weights (props_trees ps rs) + 4 * length rest + 3 ≤ weights rs + 4 * length ts
  props_few (first_prop {x = key} w c d) rs = let x = expr_few d in let y = key_few key in omega arith
  props_few (next_prop {x = key} d m w c f) rs = let x = props_few d rs in let y = expr_few f in let z = key_few key in omega arith

  function_few : {h : Title} {ts rest : Tokens} {ns : Names} {ss : Stmts} → ReadsFunction h ts rest ns ss → weights (stmts_trees ss (names_trees ns (title_trees h no_trees))) + 4 * length rest + 7 ≤ 4 * length ts
  function_few (function_of {h} {ns = ns} a b o c d) =
      let x = head_few a in let y = parameters_few b (title_trees h no_trees) in let z = items_few c (names_trees ns (title_trees h no_trees)) in omega arith

  tilde_few : {ts rest : Tokens} {e : Expr} → ReadsTilde ts rest e → weight (expr_tree e) + 4 * length rest + 7 ≤ 4 * length ts
  tilde_few (tilde_of q d c) = let x = items_few d no_trees in omega arith

  dollar_few : {ts rest : Tokens} {e : Expr} → ReadsDollar ts rest e → weight (expr_tree e) + 4 * length rest + 11 ≤ 4 * length ts
  dollar_few (dollar_of q d c) = let x = expr_few d in omega arith

  element_few : {ts rest : Tokens} {e : Expr} → ReadsElement ts rest e → weight (expr_tree e) + 4 * length rest + 4 ≤ 4 * length ts
  element_few (e_self {o} q d c) = let x = attributes_few d (trees_and no_trees (parse_tree (n.Word (tag_mark o)) no_trees)) in omega arith
  element_few (e_void {o} q d c v) = let x = attributes_few d (trees_and no_trees (parse_tree (n.Word (tag_mark o)) no_trees)) in omega arith
  element_few (e_children {o} {ats = ats} q d c v f z w) =
      let x = attributes_few d (trees_and no_trees (parse_tree (n.Word (tag_mark o)) no_trees)) in let y = children_few f (attributes_trees ats (trees_and no_trees (parse_tree (n.Word (tag_mark o)) no_trees))) in omega arith

  attribute_few : {ts rest : Tokens} {a : Attribute} → ReadsAttribute ts rest a → weight (attribute_tree a) + 4 * length rest ≤ 4 * length ts
  attribute_few (a_plain q) = omega arith
  attribute_few (a_quoted q z v) = omega arith
  attribute_few (a_tilde q z d) = let x = tilde_few d in omega arith
  attribute_few (a_dollar q z d) = let x = dollar_few d in omega arith

  attributes_few : {ts rest : Tokens} {ats : Attributes} → ReadsAttributes ts rest ats → (rs : ParseTrees) → weights (attributes_trees ats rs) + 4 * length rest ≤ weights rs + 4 * length ts
  attributes_few no_attribute rs = omega arith
  attributes_few (next_attribute d f) rs = let x = attributes_few d rs in let y = attribute_few f in omega arith

  child_few : {ts rest : Tokens} {c : Child} → ReadsChild ts rest c → weight (child_tree c) + 4 * length rest ≤ 4 * length ts
  child_few (c_text q) = omega arith
  child_few (c_element d) = let x = element_few d in omega arith
  child_few (c_tilde d) = let x = tilde_few d in omega arith
  child_few (c_dollar d) = let x = dollar_few d in omega arith

  children_few : {ts rest : Tokens} {cs : Children} → ReadsChildren ts rest cs → (rs : ParseTrees) → weights (children_trees cs rs) + 4 * length rest ≤ weights rs + 4 * length ts
  children_few no_child rs = omega arith
  children_few (next_child d f) rs = let x = children_few d rs in let y = child_few f in omega arith

  decl_few : {d : VarKind} {ts rest : Tokens} {z : Decl} → ReadsDecl d ts rest z → weight (decl_tree z) + 4 * length rest + 3 ≤ 4 * length ts
  decl_few (d_only q n) = omega arith
  decl_few (d_as q z d) = let x = expr_few d in omega arith

  decls_few : {d : VarKind} {ts rest : Tokens} {ds : Decls} → ReadsDecls d ts rest ds → (rs : ParseTrees) → weights (decls_trees ds rs) + 4 * length rest + 3 ≤ weights rs + 4 * length ts
  decls_few (first_decl f) rs = let x = decl_few f in omega arith
  decls_few (next_decl d c f) rs = let x = decls_few d rs in let y = decl_few f in omega arith

  optional_few : {y : Terminal} {ts rest : Tokens} {o : Optional} → ReadsOptional y ts rest o → weight (optional_tree o) + 4 * length rest + 3 ≤ 4 * length ts
  optional_few (o_absent q) = omega arith
  optional_few (o_present d q) = let x = expr_few d in omega arith

  start_few : {ts rest : Tokens} {a : Start} → ReadsStart ts rest a → weight (start_tree a) + 4 * length rest + 2 ≤ 4 * length ts
  start_few (f_optional d) = let x = optional_few d in omega arith
  start_few (f_vars q d c) = let x = decls_few d no_trees in omega arith

  block_few : {ts rest : Tokens} {s : Stmt} → ReadsBlock ts rest s → weight (stmt_tree s) + 4 * length rest + 7 ≤ 4 * length ts
  block_few (block_of q d c) = let x = stmts_few d no_trees in omega arith

  body_few : {ts rest : Tokens} {s : Stmt} → ReadsBody ts rest s → weight (stmt_tree s) + 4 * length rest ≤ 4 * length ts
  body_few (b_block d) = let x = block_few d in omega arith
  body_few (b_single f d) = let x = stmt_few d in omega arith

  stmt_few : {ts rest : Tokens} {s : Stmt} → ReadsStmt ts rest s → weight (stmt_tree s) + 4 * length rest + 1 ≤ 4 * length ts
  stmt_few (s_var v q d e) = let x = decls_few d no_trees in let y = ends_few e in omega arith
  stmt_few (s_if q o d c f n) = let x = expr_few d in let y = body_few f in omega arith
  stmt_few (s_if_else q o d c f w g) = let x = expr_few d in let y = body_few f in let z = body_few g in omega arith
  stmt_few (s_while q o d c f) = let x = expr_few d in let y = body_few f in omega arith
  stmt_few (s_for q o d f g h) = let x = start_few d in let y = optional_few f in let z = optional_few g in let w = body_few h in omega arith
  stmt_few (s_return q e) = let y = ends_few e in omega arith
  stmt_few (s_return_value q d e) = let x = expr_few d in let y = ends_few e in omega arith
  stmt_few (s_jump j q e) = let y = ends_few e in omega arith
  stmt_few (s_throw q d e) = let x = expr_few d in let y = ends_few e in omega arith
  stmt_few (s_try q d w o n c f) = let x = block_few d in let y = block_few f in omega arith
  stmt_few (s_block d) = let x = block_few d in omega arith
  stmt_few (s_empty q) = omega arith
  stmt_few (s_expression b d e) = let x = expr_few d in let y = ends_few e in omega arith

  stmts_few : {ts rest : Tokens} {ss : Stmts} → ReadsStmts ts rest ss → (rs : ParseTrees) → weights (stmts_trees ss rs) + 4 * length rest ≤ weights rs + 4 * length ts
  stmts_few no_stmt rs = omega arith
  stmts_few (next_stmt d f) rs = let x = stmts_few d rs in let y = stmt_few f in omega arith

  item_few : {ts rest : Tokens} {s : Stmt} → ReadsItem ts rest s → weight (stmt_tree s) + 4 * length rest ≤ 4 * length ts
  item_few (i_function d q) = let x = function_few d in omega arith
  item_few (i_statement d) = let x = stmt_few d in omega arith

  items_few : {ts rest : Tokens} {ss : Stmts} → ReadsItems ts rest ss → (rs : ParseTrees) → weights (stmts_trees ss rs) + 4 * length rest ≤ weights rs + 4 * length ts
  items_few no_item rs = omega arith
  items_few (next_item d f) rs = let x = items_few d rs in let y = item_few f in omega arith

pub few : (ts : Tokens) (ss : Stmts) → IsProgram ts ss → length (stmts_nodes ss []) ≤ 4 * length ts
few ts ss d = let x = items_few d no_trees in let y = nodes_weigh ss in omega arith
