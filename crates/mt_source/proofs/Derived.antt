-- Each text of a derived tree is that of a token, or the name in one that opens a tag: where the tokens are short, so are they.
use Rattle.std.proofs.Common.{ℕ, ◌≤◌, length, arith}
use Rattle.mt_grammar.specs.Token.{Token, Tokens, open_name}
use Rattle.mt_grammar.specs.Tree.{Title, Key, Names, Expr, Exprs, Props, Attribute, Attributes, Child, Children, Decl, Decls, Optional, Start, Stmt, Stmts}
use Rattle.mt_grammar.specs.Grammar.{Ends, ReadsNames, Parameters, Head, IsKey, Reads, ReadsList, ReadsProps, ReadsFunction, ReadsTilde, ReadsDollar, ReadsElement, ReadsAttribute, ReadsAttributes, ReadsChild, ReadsChildren, ReadsDecl, ReadsDecls, ReadsOptional, ReadsStart, ReadsBlock, ReadsBody, ReadsStmt, ReadsStmts, ReadsItem, ReadsItems, semicolon, before_brace, first_name, next_name, no_parameters, parameters, h_service, h_declaration, h_named, h_expression, key_word, key_text, r_assign, r_up, r_condition, r_operation, r_unary, r_step_before, r_step_after, r_dot, r_index, r_call_none, r_call, r_name, r_number, r_text, r_constant, r_paren, r_array_none, r_array, r_array_comma, r_object_none, r_object, r_object_comma, r_function, r_tilde, r_dollar, r_element, first_expr, next_expr, first_prop, next_prop, function_of, tilde_of, dollar_of, e_self, e_void, e_children, a_plain, a_quoted, a_tilde, a_dollar, no_attribute, next_attribute, c_text, c_element, c_tilde, c_dollar, no_child, next_child, d_only, d_as, first_decl, next_decl, o_absent, o_present, f_optional, f_vars, block_of, b_block, b_single, s_var, s_if, s_if_else, s_while, s_for, s_return, s_return_value, s_jump, s_throw, s_try, s_block, s_empty, s_expression, no_stmt, next_stmt, i_function, i_statement, no_item, next_item, IsProgram}
use Rattle.mt_tree.specs.declared.operators.VarKind.{VarKind}
use Rattle.mt_grammar.specs.declared.terminal.Terminal.{Terminal}
use Rattle.mt_source.proofs.Tokens.{ShortTokens, open_name_short}
use Rattle.mt_source.proofs.Marks.{ShortTitle, ShortKey, ShortNames, ShortExpr, ShortExprs, ShortProps, ShortAttribute, ShortAttributes, ShortChild, ShortChildren, ShortDecl, ShortDecls, ShortOptional, ShortStart, ShortStmt, ShortStmts}

module _ (limit : ℕ) where
  abbrev Fit : Tokens → Type 0
  Fit = ShortTokens limit

  ends : {ts rest : Tokens} → Ends ts rest → Fit ts → Fit rest
  ends (semicolon q) f = f.1
  ends (before_brace q) f = f

  names : {ts rest : Tokens} {ns : Names} → ReadsNames ts rest ns → Fit ts → ShortNames limit ns × Fit rest
  names (first_name q) f = ((tt, f.0), f.1)
  names (next_name d c q) f = let x = names d f in ((x.0, x.1.1.0), x.1.1.1)

  names_in : {ts rest : Tokens} {ns : Names} → Parameters ts rest ns → Fit ts → ShortNames limit ns × Fit rest
  names_in (no_parameters q) f = (tt, f.1)
  names_in (parameters d q) f = let x = names d f in (x.0, x.1.1)

  head : {h : Title} {ts rest : Tokens} → Head h ts rest → Fit ts → ShortTitle limit h × Fit rest
  head (h_service w n o) f = (f.1.0, f.1.1.1)
  head (h_declaration w n o) f = (f.1.0, f.1.1.1)
  head (h_named w n o) f = (f.1.0, f.1.1.1)
  head (h_expression w o) f = (tt, f.1.1)

  key : {t : Token} {x : Key} → IsKey t x → length t.text ≤ limit → ShortKey limit x
  key (key_word t q) h = h
  key (key_text t q) h = h

  tag : (t : Token) → length t.text ≤ limit → length (open_name t) ≤ limit
  tag t h = omega (arith, h, open_name_short t)

  mutual
    expr : {l : ℕ} {ts rest : Tokens} {e : Expr} → Reads l ts rest e → Fit ts → ShortExpr limit e × Fit rest
    expr (r_assign o d w q g) f = let x = expr d f in let y = expr g x.1.1 in ((x.0, y.0), y.1)
    expr (r_up d) f = expr d f
    expr (r_condition d q g c i) f = let x = expr d f in let y = expr g x.1.1 in let z = expr i y.1.1 in ((x.0, y.0, z.0), z.1)
    expr (r_operation o l d q g) f = let x = expr d f in let y = expr g x.1.1 in ((x.0, y.0), y.1)
    expr (r_unary u q d) f = expr d f.1
    expr (r_step_before s q d w) f = expr d f.1
    expr (r_step_after s d w q) f = let x = expr d f in (x.0, x.1.1)
    expr (r_dot d q w) f = let x = expr d f in ((x.0, x.1.1.0), x.1.1.1)
    expr (r_index d q g c) f = let x = expr d f in let y = expr g x.1.1 in ((x.0, y.0), y.1.1)
    expr (r_call_none d q c) f = let x = expr d f in ((x.0, tt), x.1.1.1)
    expr (r_call d q g c) f = let x = expr d f in let y = list g x.1.1 in ((x.0, y.0), y.1.1)
    expr (r_name q) f = f
    expr (r_number q) f = (tt, f.1)
    expr (r_text q) f = f
    expr (r_constant v q) f = (tt, f.1)
    expr (r_paren q d c) f = let x = expr d f.1 in (x.0, x.1.1)
    expr (r_array_none q c) f = (tt, f.1.1)
    expr (r_array q d c) f = let x = list d f.1 in (x.0, x.1.1)
    expr (r_array_comma q d m c) f = let x = list d f.1 in (x.0, x.1.1.1)
    expr (r_object_none q c) f = (tt, f.1.1)
    expr (r_object q d c) f = let x = props d f.1 in (x.0, x.1.1)
    expr (r_object_comma q d m c) f = let x = props d f.1 in (x.0, x.1.1.1)
    expr (r_function d q) f = function d f
    expr (r_tilde d) f = tilde d f
    expr (r_dollar d) f = dollar d f
    expr (r_element d) f = element d f

    list : {ts rest : Tokens} {es : Exprs} → ReadsList ts rest es → Fit ts → ShortExprs limit es × Fit rest
    list (first_expr d) f = let x = expr d f in ((tt, x.0), x.1)
    list (next_expr d c g) f = let x = list d f in let y = expr g x.1.1 in ((x.0, y.0), y.1)

    props : {ts rest : Tokens} {ps : Props} → ReadsProps ts rest ps → Fit ts → ShortProps limit ps × Fit rest
    props (first_prop w c d) f = let x = expr d f.1.1 in ((tt, key w f.0, x.0), x.1)
    props (next_prop d m w c g) f = let x = props d f in let y = expr g x.1.1.1.1 in ((x.0, key w x.1.1.0, y.0), y.1)

    function : {h : Title} {ts rest : Tokens} {ns : Names} {ss : Stmts} → ReadsFunction h ts rest ns ss → Fit ts → (ShortTitle limit h × ShortNames limit ns × ShortStmts limit ss) × Fit rest
    function (function_of a b o d c) f = let x = head a f in let y = names_in b x.1 in let z = items d y.1.1 in ((x.0, y.0, z.0), z.1.1)

    tilde : {ts rest : Tokens} {e : Expr} → ReadsTilde ts rest e → Fit ts → ShortExpr limit e × Fit rest
    tilde (tilde_of q d c) f = let x = items d f.1 in (x.0, x.1.1)

    dollar : {ts rest : Tokens} {e : Expr} → ReadsDollar ts rest e → Fit ts → ShortExpr limit e × Fit rest
    dollar (dollar_of q d c) f = let x = expr d f.1 in (x.0, x.1.1)

    element : {ts rest : Tokens} {e : Expr} → ReadsElement ts rest e → Fit ts → ShortExpr limit e × Fit rest
    element (e_self {o} q d c) f = let x = attributes d f.1 in ((tag o f.0, x.0, tt), x.1.1)
    element (e_void {o} q d c v) f = let x = attributes d f.1 in ((tag o f.0, x.0, tt), x.1.1)
    element (e_children {o} q d c v g z w) f = let x = attributes d f.1 in let y = children g x.1.1 in ((tag o f.0, x.0, y.0), y.1.1)

    attribute : {ts rest : Tokens} {a : Attribute} → ReadsAttribute ts rest a → Fit ts → ShortAttribute limit a × Fit rest
    attribute (a_plain q) f = f
    attribute (a_quoted q z v) f = ((f.0, f.1.1.0), f.1.1.1)
    attribute (a_tilde q z d) f = let x = tilde d f.1.1 in ((f.0, x.0), x.1)
    attribute (a_dollar q z d) f = let x = dollar d f.1.1 in ((f.0, x.0), x.1)

    attributes : {ts rest : Tokens} {ats : Attributes} → ReadsAttributes ts rest ats → Fit ts → ShortAttributes limit ats × Fit rest
    attributes no_attribute f = (tt, f)
    attributes (next_attribute d g) f = let x = attributes d f in let y = attribute g x.1 in ((x.0, y.0), y.1)

    child : {ts rest : Tokens} {c : Child} → ReadsChild ts rest c → Fit ts → ShortChild limit c × Fit rest
    child (c_text q) f = f
    child (c_element d) f = element d f
    child (c_tilde d) f = tilde d f
    child (c_dollar d) f = dollar d f

    children : {ts rest : Tokens} {cs : Children} → ReadsChildren ts rest cs → Fit ts → ShortChildren limit cs × Fit rest
    children no_child f = (tt, f)
    children (next_child d g) f = let x = children d f in let y = child g x.1 in ((x.0, y.0), y.1)

    decl : {d : VarKind} {ts rest : Tokens} {z : Decl} → ReadsDecl d ts rest z → Fit ts → ShortDecl limit z × Fit rest
    decl (d_only q n) f = f
    decl (d_as q z d) f = let x = expr d f.1.1 in ((f.0, x.0), x.1)

    decls : {d : VarKind} {ts rest : Tokens} {ds : Decls} → ReadsDecls d ts rest ds → Fit ts → ShortDecls limit ds × Fit rest
    decls (first_decl d) f = let x = decl d f in ((tt, x.0), x.1)
    decls (next_decl d c g) f = let x = decls d f in let y = decl g x.1.1 in ((x.0, y.0), y.1)

    optional : {y : Terminal} {ts rest : Tokens} {o : Optional} → ReadsOptional y ts rest o → Fit ts → ShortOptional limit o × Fit rest
    optional (o_absent q) f = (tt, f.1)
    optional (o_present d q) f = let x = expr d f in (x.0, x.1.1)

    start : {ts rest : Tokens} {a : Start} → ReadsStart ts rest a → Fit ts → ShortStart limit a × Fit rest
    start (f_optional d) f = optional d f
    start (f_vars q d c) f = let x = decls d f.1 in (x.0, x.1.1)

    block : {ts rest : Tokens} {s : Stmt} → ReadsBlock ts rest s → Fit ts → ShortStmt limit s × Fit rest
    block (block_of q d c) f = let x = stmts d f.1 in (x.0, x.1.1)

    body : {ts rest : Tokens} {s : Stmt} → ReadsBody ts rest s → Fit ts → ShortStmt limit s × Fit rest
    body (b_block d) f = block d f
    body (b_single n d) f = let x = stmt d f in ((tt, x.0), x.1)

    stmt : {ts rest : Tokens} {s : Stmt} → ReadsStmt ts rest s → Fit ts → ShortStmt limit s × Fit rest
    stmt (s_var v q d e) f = let x = decls d f.1 in (x.0, ends e x.1)
    stmt (s_if q o d c g n) f = let x = expr d f.1.1 in let y = body g x.1.1 in ((x.0, y.0), y.1)
    stmt (s_if_else q o d c g w i) f = let x = expr d f.1.1 in let y = body g x.1.1 in let z = body i y.1.1 in ((x.0, y.0, z.0), z.1)
    stmt (s_while q o d c g) f = let x = expr d f.1.1 in let y = body g x.1.1 in ((x.0, y.0), y.1)
    stmt (s_for q o a b c d) f = let x = start a f.1.1 in let y = optional b x.1 in let z = optional c y.1 in let w = body d z.1 in ((x.0, y.0, z.0, w.0), w.1)
    stmt (s_return q e) f = (tt, ends e f.1)
    stmt (s_return_value q d e) f = let x = expr d f.1 in (x.0, ends e x.1)
    stmt (s_jump j q e) f = (tt, ends e f.1)
    stmt (s_throw q d e) f = let x = expr d f.1 in (x.0, ends e x.1)
    stmt (s_try q d w o n c g) f = let x = block d f.1 in let y = block g x.1.1.1.1.1 in ((x.0, x.1.1.1.0, y.0), y.1)
    stmt (s_block d) f = block d f
    stmt (s_empty q) f = (tt, f.1)
    stmt (s_expression n d e) f = let x = expr d f in (x.0, ends e x.1)

    stmts : {ts rest : Tokens} {ss : Stmts} → ReadsStmts ts rest ss → Fit ts → ShortStmts limit ss × Fit rest
    stmts no_stmt f = (tt, f)
    stmts (next_stmt d g) f = let x = stmts d f in let y = stmt g x.1 in ((x.0, y.0), y.1)

    item : {ts rest : Tokens} {s : Stmt} → ReadsItem ts rest s → Fit ts → ShortStmt limit s × Fit rest
    item (i_function d q) f = function d f
    item (i_statement d) f = stmt d f

    items : {ts rest : Tokens} {ss : Stmts} → ReadsItems ts rest ss → Fit ts → ShortStmts limit ss × Fit rest
    items no_item f = (tt, f)
    items (next_item d g) f = let x = items d f in let y = item g x.1 in ((x.0, y.0), y.1)

  pub program_short : (ts : Tokens) (ss : Stmts) → IsProgram ts ss → ShortTokens limit ts → ShortStmts limit ss
  program_short ts ss d f = (items d f).0
