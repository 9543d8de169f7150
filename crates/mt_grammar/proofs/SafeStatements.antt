-- At an operand or a statement, and behind a statement, the machine stays within a derivation.
use Rattle.std.proofs.Common.{◌≡◌, ◌≢◌, Bool, true, false, cond, List, [], ◌∷◌, None, refl, sym, ap, ◌∙◌, subst}
use Rattle.std.proofs.lemmas.Bool.{leb-true}
use Rattle.mt_tree.specs.declared.place.Place.{Place}
use Rattle.mt_tree.specs.declared.operators.Binary.TheVariants as binary_op
use Rattle.mt_tree.specs.declared.operators.Unary.{Unary}
use Rattle.mt_tree.specs.declared.operators.Unary.TheVariants as unary_op
use Rattle.mt_tree.specs.declared.operators.VarKind.TheVariants as var_kind
use Rattle.mt_grammar.specs.declared.terminal.Declaration.{Declaration}
use Rattle.mt_grammar.specs.declared.terminal.Heading.{Heading}
use Rattle.mt_grammar.specs.declared.terminal.Heading.TheVariants as heading
use Rattle.mt_grammar.specs.declared.terminal.Infix.TheVariants as infix_op
use Rattle.mt_grammar.specs.declared.terminal.Terminal.{Terminal}
use Rattle.mt_grammar.specs.declared.terminal.Terminal.TheVariants as k
use Rattle.mt_grammar.specs.Token.{Token, Tokens, place_of, terminal}
use Rattle.mt_grammar.specs.Nodes.{Nodes, names_nodes, title_nodes, expr_nodes, decls_nodes, stmt_nodes, stmts_nodes}
use Rattle.mt_grammar.specs.Stack.{Level, Focus}
use Rattle.mt_grammar.specs.Stack as f
use Rattle.mt_grammar.specs.Grammar.{mark, sign_of, begins_expression, begins_single, is_expression, Ends, semicolon, before_brace, r_name, r_number, r_text, r_constant, r_function, r_tilde, r_dollar, r_element, ReadsFunction, function_of, ReadsTilde, tilde_of, ReadsDollar, ReadsElement, a_tilde, a_dollar, no_attribute, next_attribute, c_element, c_tilde, c_dollar, next_child, ReadsDecls, f_vars, ReadsBlock, block_of, ReadsBody, b_block, b_single, ReadsStmt, s_var, s_if, s_if_else, s_while, s_for, s_try, s_block, s_empty, no_stmt, next_stmt, ReadsItem, i_function, i_statement, no_item, next_item}
use Rattle.mt_grammar.specs.Tree.{Title, a_service, a_declaration, a_named_expression, an_expression, heading_of, Names, names_count, Expr, name, number, text, constant, function, dollar, Decls, decls_count, Stmt, var, declare, if_only, if_else, while, for, try, block, empty, Stmts, no_stmts, stmts_and, stmts_count}
use Rattle.mt_grammar.specs.Machine.{Next, settled, dollar_settled, function_closed, close_brace, kind_of, prefix_by, operand_by, item_by, statement_by, body_by, else_or, catch_by, finished_by, ended_by, declared_by}
use Rattle.mt_grammar.proofs.Open.{Want, an_item, a_statement, a_body, a_block, a_value, wants, takes_stmt, takes_block, holds_code, holds_element, head_wants, head_word, no_expr, no_prop, no_decl, some_decls, DeclsBegin, in_statement, in_for, Open, o_program, o_block, o_body, o_tilde, o_single, o_if_open, o_if_then, o_if_else, o_while_open, o_while_body, o_for_open, o_for_test, o_for_body, o_decl_name, o_return, o_jump, o_throw, o_statement, o_try_open, o_try_block, o_catch_open, o_catch_block, o_function_start, o_function_name, o_paren, o_unary, o_step_before, o_array, o_object_key, o_dollar, o_attributes, o_attribute_value, o_children, g_statement, g_body, g_operand, g_first, g_word, g_value, g_finished, Fits, Good, Safe}
use Rattle.mt_grammar.proofs.Parts.{tilde_is, element_is}
use Rattle.mt_grammar.proofs.Rows.{value_is, code_wanted, element_wanted}

module _ (all : Tokens) where
  pub either_way : (b : Bool) (p q : Next) (ts : Tokens) → (b ≡ true → Safe all p ts) → (b ≡ false → Safe all q ts) → Safe all (cond b p q) ts
  either_way true p q ts g h = g refl
  either_way false p q ts g h = h refl

  pub or_refused : (b : Bool) (p : Next) (ts : Tokens) → (b ≡ true → Safe all p ts) → Safe all (cond b p None) ts
  or_refused true p ts g = g refl
  or_refused false p ts g = tt

  -- ---- an operand

  pub prefix_safe : {x : Level} {fs : List Level} {out : Nodes} {ts : Tokens} (t : Token) (u : Unary) → terminal t ≡ sign_of u → Open all (x ∷ fs) out (t ∷ ts) → wants x ≡ a_value
      → Safe all (prefix_by t (f.Unary u t.place) (x ∷ fs) out) ts
  prefix_safe t u q d w = or_refused _ _ _ (λ h. g_operand (o_unary u d w (leb-true _ _ h) q) refl)

  pub operand_safe : {x : Level} {fs : List Level} {out : Nodes} {ts : Tokens} (t : Token) (y : Terminal) → terminal t ≡ y → Open all (x ∷ fs) out (t ∷ ts) → wants x ≡ a_value
      → Safe all (operand_by t y (x ∷ fs) out) ts
  unfolding expr_nodes
  operand_safe t k.Name q d w = g_value {e = name (mark t)} d w (r_name q) refl
  operand_safe t k.Number q d w = g_value {e = number (mark t)} d w (r_number q) refl
  operand_safe t k.Text q d w = g_value {e = text (mark t)} d w (r_text q) refl
  operand_safe t (k.Constant v) q d w = g_value {e = constant t.place v} d w (r_constant v q) refl
  operand_safe t k.Open q d w = g_operand (o_paren d w q) refl
  operand_safe t k.OpenSquare q d w = g_first (o_array d w q no_expr) refl
  operand_safe t k.OpenBrace q d w = g_word (o_object_key d w q no_prop) refl
  operand_safe t k.Function q d w = g_word (o_function_start d w q) refl
  operand_safe t k.Exclamation q d w = prefix_safe t unary_op.Not q d w
  operand_safe t k.Typeof q d w = prefix_safe t unary_op.Typeof q d w
  operand_safe t (k.Infix (infix_op.Binary binary_op.Add)) q d w = prefix_safe t unary_op.Plus q d w
  operand_safe t (k.Infix (infix_op.Binary binary_op.Sub)) q d w = prefix_safe t unary_op.Minus q d w
  operand_safe t (k.Step s) q d w = or_refused _ _ _ (λ h. g_operand (o_step_before s d w (leb-true _ _ h) q) refl)
  operand_safe {x} t k.TildeOpen q d w = g_statement (o_tilde d (code_wanted x w) q no_item) refl
  operand_safe {x} t k.DollarOpen q d w = g_operand (o_dollar d (code_wanted x w) q) refl
  operand_safe {x} t k.TagOpen q d w = g_word (o_attributes d (element_wanted x w) q no_attribute) refl
  operand_safe t _ q d w = tt

  -- ---- what is finished

  pub fits_stmt : (z : Want) {ts rest : Tokens} {s : Stmt} → takes_stmt z ≡ true → ReadsStmt ts rest s → Fits all z ts rest s
  fits_stmt an_item h d = i_statement d
  fits_stmt a_statement h d = d
  fits_stmt _ h d = absurd cc

  pub stmt_blocks : (z : Want) → takes_stmt z ≡ true → takes_block z ≡ true
  stmt_blocks an_item h = refl
  stmt_blocks a_statement h = refl
  stmt_blocks _ h = absurd cc

  pub fits_block : (z : Want) {ts rest : Tokens} {s : Stmt} → takes_block z ≡ true → ReadsBlock ts rest s → Fits all z ts rest s
  fits_block an_item h d = i_statement (s_block d)
  fits_block a_statement h d = s_block d
  fits_block a_body h d = b_block d
  fits_block a_block h d = d
  fits_block _ h d = absurd cc

  pub as_item : (x : Level) {ts rest : Tokens} {s : Stmt} → wants x ≡ an_item → ReadsItem ts rest s → Fits all (wants x) ts rest s
  as_item x {ts} {rest} {s} w d = subst (λ (z : Want). Fits all z ts rest s) (sym w) d

  pub as_body : (x : Level) {ts rest : Tokens} {s : Stmt} → wants x ≡ a_body → ReadsBody ts rest s → Fits all (wants x) ts rest s
  as_body x {ts} {rest} {s} w d = subst (λ (z : Want). Fits all z ts rest s) (sym w) d

  -- a statement that is finished
  pub done : {x : Level} {fs : List Level} {out : Nodes} {mid ts : Tokens} (s : Stmt) → Open all (x ∷ fs) out mid → takes_stmt (wants x) ≡ true → ReadsStmt mid ts s → Good all f.Finished (x ∷ fs) (stmt_nodes s out) ts
  done {x} s d w h = g_finished s d (stmt_blocks (wants x) w) (fits_stmt (wants x) w h)

  abbrev pub HoldsTop : List Level → Type 0
  HoldsTop [] = Unit {0}
  HoldsTop (x ∷ fs) = holds_code x ≡ true

  abbrev pub ElementTop : List Level → Type 0
  ElementTop [] = Unit {0}
  ElementTop (x ∷ fs) = holds_element x ≡ true

  pub tilde_settled : {fs : List Level} {out : Nodes} {mid ts : Tokens} {e : Expr} → Open all fs out mid → HoldsTop fs → ReadsTilde mid ts e → Safe all (settled (place_of mid) fs (expr_nodes e out)) ts
  unfolding expr_nodes
  tilde_settled (o_attribute_value d w q das n z) h t = g_word (o_attributes d w q (next_attribute das (a_tilde n z t))) refl
  tilde_settled (o_children d w q das c v dcs) h t = g_word (o_children d w q das c v (next_child dcs (c_tilde t))) refl
  tilde_settled d h t = g_value d (value_is _ h) (r_tilde t) (tilde_is t)

  pub dollar_done : {fs : List Level} {out : Nodes} {mid ts : Tokens} {e : Expr} → Open all fs out mid → HoldsTop fs → ReadsDollar mid ts e → Safe all (dollar_settled (place_of mid) fs (expr_nodes e out)) ts
  unfolding expr_nodes
  dollar_done (o_attribute_value d w q das n z) h t = g_word (o_attributes d w q (next_attribute das (a_dollar n z t))) refl
  dollar_done (o_children d w q das c v dcs) h t = g_word (o_children d w q das c v (next_child dcs (c_dollar t))) refl
  dollar_done {mid} {e} d h t = g_value {e = dollar (place_of mid) e} d (value_is _ h) (r_dollar t) refl

  pub element_settled : {fs : List Level} {out : Nodes} {mid ts : Tokens} {e : Expr} → Open all fs out mid → ElementTop fs → ReadsElement mid ts e → Safe all (settled (place_of mid) fs (expr_nodes e out)) ts
  unfolding expr_nodes
  element_settled (o_attribute_value d w q das n z) h t = absurd cc
  element_settled (o_children d w q das c v dcs) h t = g_word (o_children d w q das c v (next_child dcs (c_element t))) refl
  element_settled d h t = g_value d (value_is _ h) (r_element t) (element_is t)

  pub body_closed : {x : Level} {fs : List Level} {out : Nodes} {begin ts : Tokens} (h : Title) (ns : Names) (ss : Stmts) → Open all (x ∷ fs) out begin → wants x ≡ head_wants (heading_of h) → ReadsFunction h begin ts ns ss
      → Safe all (function_closed (heading_of h) (place_of begin) (names_count ns) (stmts_count ss) (x ∷ fs) (stmts_nodes ss (names_nodes ns (title_nodes h out)))) ts
  unfolding expr_nodes
  body_closed {x} {begin} (a_service m) ns ss d w r = g_finished (declare (place_of begin) (a_service m) ns ss) d (ap takes_block w) (as_item x w (i_function r refl))
  body_closed {x} {begin} (a_declaration m) ns ss d w r = g_finished (declare (place_of begin) (a_declaration m) ns ss) d (ap takes_block w) (as_item x w (i_function r refl))
  body_closed {x} {begin} (a_named_expression m) ns ss d w r = g_value {e = function (place_of begin) (a_named_expression m) ns ss} d w (r_function r refl) refl
  body_closed {x} {begin} an_expression ns ss d w r = g_value {e = function (place_of begin) an_expression ns ss} d w (r_function r refl) refl

  pub closing_brace : {fs : List Level} {out : Nodes} {ts : Tokens} (t : Token) → terminal t ≡ k.CloseBrace → Open all fs out (t ∷ ts) → Safe all (close_brace fs out) ts
  unfolding expr_nodes
  closing_brace t q (o_block {x} {o} {ss} d w b dss) = g_finished (block o.place ss) d w (fits_block (wants x) w (block_of b dss q))
  closing_brace t q (o_body {h} {ns} {ss} d w r ps b dss) = body_closed h ns ss d w (function_of r ps b dss q)
  closing_brace t q (o_tilde d w b dss) = tilde_settled d w (tilde_of b dss q)
  closing_brace t q d = tt

  -- ---- a statement or item

  pub item_safe : {fs : List Level} {out : Nodes} {ts : Tokens} (t : Token) (h : Heading) → is_expression h ≡ false → terminal t ≡ head_word h → Open all fs out (t ∷ ts) → Safe all (item_by t h fs out) ts
  unfolding expr_nodes
  item_safe t h g q (o_program dss) = g_word (o_function_name h (o_program dss) refl g q) refl
  item_safe t h g q (o_body d w r ps b dss) = g_word (o_function_name h (o_body d w r ps b dss) refl g q) refl
  item_safe t h g q (o_tilde d w b dss) = g_word (o_function_name h (o_tilde d w b dss) refl g q) refl
  item_safe t h g q d = tt

  pub begins : {x : Level} {fs : List Level} {out : Nodes} {ts : Tokens} (t : Token) (y : Terminal) → terminal t ≡ y → begins_expression y ≡ true → Open all (x ∷ fs) out (t ∷ ts) → takes_stmt (wants x) ≡ true
      → Safe all (operand_by t y (f.Expression t.place ∷ x ∷ fs) out) ts
  begins t y q h d w = operand_safe t y q (o_statement d w (ap begins_expression q ∙ h)) refl

  pub statement_safe : {x : Level} {fs : List Level} {out : Nodes} {ts : Tokens} (t : Token) (y : Terminal) → terminal t ≡ y → Open all (x ∷ fs) out (t ∷ ts) → takes_stmt (wants x) ≡ true
      → Safe all (statement_by t y (x ∷ fs) out) ts
  unfolding expr_nodes
  statement_safe t (k.Declare v) q d w = g_word (o_decl_name d w (in_statement q) no_decl) refl
  statement_safe t k.If q d w = g_word (o_if_open d w q) refl
  statement_safe t k.While q d w = g_word (o_while_open d w q) refl
  statement_safe t k.For q d w = g_word (o_for_open d w q) refl
  statement_safe t k.Return q d w = g_first (o_return d w q) refl
  statement_safe t (k.Jump j) q d w = g_word (o_jump j d w q) refl
  statement_safe t k.Throw q d w = g_operand (o_throw d w q) refl
  statement_safe t k.Try q d w = g_word (o_try_open d w q) refl
  statement_safe {x} t k.OpenBrace q d w = g_statement (o_block d (stmt_blocks (wants x) w) q no_stmt) refl
  statement_safe t k.CloseBrace q d w = closing_brace t q d
  statement_safe t k.Semicolon q d w = done (empty t.place) d w (s_empty q)
  statement_safe t k.Function q d w = item_safe t heading.Declaration refl q d
  statement_safe t k.Service q d w = item_safe t heading.Service refl q d
  statement_safe t y q d w = begins t y q refl d w

  pub body_safe : {x : Level} {fs : List Level} {out : Nodes} {ts : Tokens} (t : Token) (y : Terminal) → terminal t ≡ y → Open all (x ∷ fs) out (t ∷ ts) → wants x ≡ a_body
      → Safe all (body_by t y (x ∷ fs) out) ts
  unfolding expr_nodes
  body_safe t (k.Declare var_kind.Let) q d w = tt
  body_safe t (k.Declare var_kind.Const) q d w = tt
  body_safe t k.OpenBrace q d w = g_statement (o_block d (ap takes_block w) q no_stmt) refl
  body_safe t y q d w = statement_safe t y q (o_single d w (ap begins_single q)) refl

  -- ---- after a statement

  pub else_cases : (t : Token) (y : Terminal) (a b : Next) (ts : Tokens) → (y ≡ k.Else → Safe all a ts) → (y ≢ k.Else → Safe all b ts) → Safe all (else_or t y a b) ts
  else_cases t k.Else a b ts g h = g refl
  else_cases t y a b ts g h = h (λ e. cc)

  pub catch_cases : (t : Token) (y : Terminal) (a : Next) (ts : Tokens) → (y ≡ k.Catch → Safe all a ts) → Safe all (catch_by t y a) ts
  catch_cases t k.Catch a ts g = g refl
  catch_cases t y a ts g = tt

  abbrev pub FitsTop : List Level → Tokens → Tokens → Stmt → Type 0
  FitsTop [] mid rest s = Unit {0}
  FitsTop (x ∷ fs) mid rest s = Fits all (wants x) mid rest s

  pub finished_safe : {fs : List Level} {out : Nodes} {mid : Tokens} (ts : Tokens) (t : Token) (y : Terminal) → terminal t ≡ y → Open all fs out mid → (s : Stmt) → FitsTop fs mid (t ∷ ts) s
      → Safe all (finished_by t y fs (stmt_nodes s out)) ts
  unfolding expr_nodes
  finished_safe ts t y q (o_program dss) s h = statement_safe t y q (o_program (next_item dss h)) refl
  finished_safe ts t y q (o_block d w b dss) s h = statement_safe t y q (o_block d w b (next_stmt dss h)) refl
  finished_safe ts t y q (o_body d w r ps b dss) s h = statement_safe t y q (o_body d w r ps b (next_item dss h)) refl
  finished_safe ts t y q (o_tilde d w b dss) s h = statement_safe t y q (o_tilde d w b (next_item dss h)) refl
  finished_safe {mid} ts t y q (o_single d w g) s h = finished_safe ts t y q d (block (place_of mid) (stmts_and no_stmts s)) (as_body _ w (b_single g h))
  finished_safe ts t y q (o_if_then {i} {e} d w qi o de c) s h =
      else_cases t y _ _ ts (λ z. g_body (o_if_else d w qi o de c h (q ∙ z)) refl)
      (λ m. finished_safe ts t y q d (if_only i.place e s) (fits_stmt _ w (s_if qi o de c h (λ z. m (sym q ∙ z)))))
  finished_safe ts t y q (o_if_else {i} {e} {s} d w qi o de c ds z) s' h = finished_safe ts t y q d (if_else i.place e s s') (fits_stmt _ w (s_if_else qi o de c ds z h))
  finished_safe ts t y q (o_while_body {i} {e} d w qi o de c) s h = finished_safe ts t y q d (while i.place e s) (fits_stmt _ w (s_while qi o de c h))
  finished_safe ts t y q (o_for_body {i} {a} {b} {c} d w qi o da db dc) s h = finished_safe ts t y q d (for i.place a b c s) (fits_stmt _ w (s_for qi o da db dc h))
  finished_safe ts t y q (o_try_block d w qt) s h = catch_cases t y _ ts (λ z. g_word (o_catch_open d w qt h (q ∙ z)) refl)
  finished_safe ts t y q (o_catch_block {t = z} {m} {s} d w qt ds qw qo qm qc) s' h = finished_safe ts t y q d (try z.place s (mark m) s') (fits_stmt _ w (s_try qt ds qw qo qm qc h))
  finished_safe ts t y q d s h = tt

  -- where a statement may end
  pub ended_safe : {x : Level} {fs : List Level} {out : Nodes} {mid : Tokens} (ts : Tokens) (t : Token) (y : Terminal) → terminal t ≡ y → Open all (x ∷ fs) out mid → takes_stmt (wants x) ≡ true → (s : Stmt)
      → ((rest : Tokens) → Ends (t ∷ ts) rest → ReadsStmt mid rest s) → Safe all (ended_by t y (x ∷ fs) (stmt_nodes s out)) ts
  ended_safe ts t k.Semicolon q d w s h = done s d w (h ts (semicolon q))
  ended_safe {x} ts t k.CloseBrace q d w s h = finished_safe ts t k.CloseBrace q d s (fits_stmt (wants x) w (h (t ∷ ts) (before_brace q)))
  ended_safe ts t y q d w s h = tt

  -- behind a declaration
  pub declared_safe : {x : Level} {fs : List Level} {out : Nodes} {begin list : Tokens} {d : Declaration} {p : Place} {ds : Decls} (ts : Tokens) (t : Token) (y : Terminal) → terminal t ≡ y → Open all (x ∷ fs) out begin
      → takes_stmt (wants x) ≡ true → DeclsBegin d p begin list → ReadsDecls (kind_of d) list (t ∷ ts) ds → Safe all (declared_by t y d p (decls_count ds) (x ∷ fs) (decls_nodes ds out)) ts
  unfolding expr_nodes
  declared_safe ts t k.Comma q o w b dds = g_word (o_decl_name o w b (some_decls dds q)) refl
  declared_safe ts t k.Semicolon q o w (in_for qi qo qv) dds = g_first (o_for_test o w qi qo (f_vars qv dds q)) refl
  declared_safe {ds} ts t y q o w (in_statement {d = v} {v = r} qv) dds = ended_safe ts t y q o w (var r.place v ds) (λ r e. s_var v qv dds e)
  declared_safe ts t y q o w (in_for qi qo qv) dds = tt
