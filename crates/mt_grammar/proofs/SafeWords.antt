-- At a token that the topmost level names, or in front of an expression that may be left out, the machine stays within a derivation.
use Rattle.std.proofs.Common.{◌≡◌, ◌+◌, Bool, true, false, cond, List, [], ◌∷◌, ◌++◌, None, refl, ap, ◌∙◌, arith}
use Rattle.std.proofs.lemmas.Bool.{eqb-true}
use Rattle.mt_tree.specs.declared.place.Place.{Place}
use Rattle.mt_tree.specs.Tables.{is_void_tag}
use Rattle.mt_tree.specs.declared.operators.VarKind.TheVariants as var_kind
use Rattle.mt_grammar.specs.declared.terminal.Declaration.{Declaration}
use Rattle.mt_grammar.specs.declared.terminal.Heading.{Heading}
use Rattle.mt_grammar.specs.declared.terminal.Heading.TheVariants as heading
use Rattle.mt_grammar.specs.declared.terminal.Jump.{Jump}
use Rattle.mt_grammar.specs.declared.terminal.Terminal.{Terminal}
use Rattle.mt_grammar.specs.declared.terminal.Terminal.TheVariants as k
use Rattle.mt_grammar.specs.Token.{Token, Tokens, place_of, terminal, is_word, open_name, close_name}
use Rattle.mt_grammar.specs.Nodes.{Node, Nodes, names_nodes, title_nodes, key_node, expr_nodes, exprs_nodes, props_nodes, attribute_nodes, attributes_nodes, child_nodes, children_nodes, decl_nodes, decls_nodes, optional_nodes, start_nodes, stmt_nodes, stmts_nodes}
use Rattle.mt_grammar.specs.Nodes as n
use Rattle.mt_grammar.specs.Stack.{Level, Focus}
use Rattle.mt_grammar.specs.Stack as f
use Rattle.mt_grammar.specs.Grammar.{mark, tag_mark, needs_value, is_expression, ReadsNames, first_name, next_name, Parameters, no_parameters, parameters, Head, h_expression, IsKey, key_word, key_text, Reads, r_dot, r_call_none, r_array_none, r_array_comma, r_object_none, r_object_comma, first_expr, next_expr, e_self, e_void, e_children, a_plain, a_quoted, ReadsAttributes, no_attribute, next_attribute, c_text, ReadsChildren, no_child, next_child, d_only, ReadsOptional, o_absent, ReadsStart, f_optional, ReadsBlock, s_return, s_jump, no_stmt, no_item}
use Rattle.mt_grammar.specs.Tree.{Title, heading_of, Key, Names, names_count, Expr, property, array, object, index, call, Exprs, no_exprs, exprs_count, Props, no_props, props_count, attribute_plain, Attributes, attributes_and, attributes_count, Children, children_count, decl_only, Decls, decls_and, decls_count, Optional, absent, Start, start_optional, Stmt, return, jump}
use Rattle.mt_grammar.specs.Machine.{at, kind_of, first_by, word_by}
use Rattle.mt_grammar.proofs.Open.{an_item, a_value, a_word, wants, takes_stmt, holds_element, leaves_out, head_wants, head_word, Named, n_service, n_declaration, n_expression, SomeExprs, no_expr, some_exprs, SomeProps, no_prop, some_props, SomeDecls, no_decl, DeclsBegin, in_for, Open, o_program, o_block, o_body, o_tilde, o_if_open, o_if_test, o_while_open, o_while_test, o_for_open, o_for_start, o_for_test, o_for_step, o_for_body, o_decl_name, o_decl_next, o_decl_value, o_return, o_jump, o_try_open, o_try_block, o_catch_open, o_catch_name, o_catch_close, o_catch_brace, o_catch_block, o_function_start, o_function_name, o_function_open, o_function_first, o_function_next, o_parameter_name, o_function_brace, o_dot, o_arguments, o_array, o_object_key, o_object_colon, o_object_value, o_dollar, o_attributes, o_attribute_name, o_attribute_value, o_children, g_statement, g_body, g_operand, g_first, g_word, g_value, Safe}
use Rattle.mt_grammar.proofs.Parts.{same_bytes}
use Rattle.mt_grammar.proofs.Rows.{with_decl, named_head}
use Rattle.mt_grammar.proofs.SafeStatements.{either_way, or_refused, operand_safe, element_settled, ended_safe, declared_safe}

module _ (all : Tokens) where
  -- ---- an expression or the end of the level

  pub no_empty_list : {list ts : Tokens} {es : Exprs} → SomeExprs list ts es → exprs_count es ≡ 0 → list ≡ ts
  no_empty_list no_expr h = refl
  no_empty_list (some_exprs (first_expr d) q) h = absurd (omega arith)
  no_empty_list (some_exprs (next_expr ds c d) q) h = absurd (omega arith)

  pub arguments_first : {x : Level} {fs : List Level} {out : Nodes} {mid list ts : Tokens} {o : Token} {a : Expr} {es : Exprs} (t : Token) (y : Terminal) → terminal t ≡ y → Open all (x ∷ fs) out mid → wants x ≡ a_value
      → Reads 10 mid (o ∷ list) a → terminal o ≡ k.Open → SomeExprs list (t ∷ ts) es → exprs_count es ≡ 0
      → Safe all (first_by t y (f.Arguments (place_of mid) (exprs_count es) ∷ x ∷ fs) (exprs_nodes es (expr_nodes a out))) ts
  unfolding expr_nodes
  arguments_first {mid} {list} {ts} {o} {a} t k.Close q d w da qo no_expr h = g_value {e = call (place_of mid) a no_exprs} d w (r_call_none da qo q) refl
  arguments_first t k.Close q d w da qo (some_exprs (first_expr de) c) h = absurd (omega arith)
  arguments_first t k.Close q d w da qo (some_exprs (next_expr ds m de) c) h = absurd (omega arith)
  arguments_first t y q d w da qo some h = operand_safe all t y q (o_arguments d w da qo some) refl

  pub array_first : {x : Level} {fs : List Level} {out : Nodes} {list ts : Tokens} {o : Token} {es : Exprs} (t : Token) (y : Terminal) → terminal t ≡ y → Open all (x ∷ fs) out (o ∷ list) → wants x ≡ a_value
      → terminal o ≡ k.OpenSquare → SomeExprs list (t ∷ ts) es → Safe all (first_by t y (f.Array o.place (exprs_count es) ∷ x ∷ fs) (exprs_nodes es out)) ts
  unfolding expr_nodes
  array_first {o} t k.CloseSquare q d w qo no_expr = g_value {e = array o.place no_exprs} d w (r_array_none qo q) refl
  array_first {o} {es} t k.CloseSquare q d w qo (some_exprs des c) = g_value {e = array o.place es} d w (r_array_comma qo des c q) refl
  array_first t y q d w qo some = operand_safe all t y q (o_array d w qo some) refl

  pub start_first : {x : Level} {fs : List Level} {out : Nodes} {i o : Token} {ts : Tokens} (t : Token) (y : Terminal) → terminal t ≡ y → Open all (x ∷ fs) out (i ∷ o ∷ t ∷ ts) → takes_stmt (wants x) ≡ true
      → terminal i ≡ k.For → terminal o ≡ k.Open → Safe all (first_by t y (f.ForStart i.place ∷ x ∷ fs) out) ts
  unfolding expr_nodes
  start_first t (k.Declare var_kind.Var) q d w qi qo = g_word (o_decl_name d w (in_for qi qo q) no_decl) refl
  start_first t k.Semicolon q d w qi qo = g_first (o_for_test {a = start_optional absent} d w qi qo (f_optional (o_absent q))) refl
  start_first t y q d w qi qo = operand_safe all t y q (o_for_start d w qi qo) refl

  pub test_first : {x : Level} {fs : List Level} {out : Nodes} {i o : Token} {one ts : Tokens} {a : Start} (t : Token) (y : Terminal) → terminal t ≡ y → Open all (x ∷ fs) out (i ∷ o ∷ one) → takes_stmt (wants x) ≡ true
      → terminal i ≡ k.For → terminal o ≡ k.Open → ReadsStart one (t ∷ ts) a → Safe all (first_by t y (f.ForTest i.place ∷ x ∷ fs) (start_nodes a out)) ts
  unfolding expr_nodes
  test_first t k.Semicolon q d w qi qo da = g_first (o_for_step {b = absent} d w qi qo da (o_absent q)) refl
  test_first t y q d w qi qo da = operand_safe all t y q (o_for_test d w qi qo da) refl

  pub step_first : {x : Level} {fs : List Level} {out : Nodes} {i o : Token} {one two ts : Tokens} {a : Start} {b : Optional} (t : Token) (y : Terminal) → terminal t ≡ y → Open all (x ∷ fs) out (i ∷ o ∷ one)
      → takes_stmt (wants x) ≡ true → terminal i ≡ k.For → terminal o ≡ k.Open → ReadsStart one two a → ReadsOptional k.Semicolon two (t ∷ ts) b
      → Safe all (first_by t y (f.ForStep i.place ∷ x ∷ fs) (optional_nodes b (start_nodes a out))) ts
  unfolding expr_nodes
  step_first t k.Close q d w qi qo da db = g_body (o_for_body {c = absent} d w qi qo da db (o_absent q)) refl
  step_first t y q d w qi qo da db = operand_safe all t y q (o_for_step d w qi qo da db) refl

  pub return_first : {x : Level} {fs : List Level} {out : Nodes} {r : Token} {ts : Tokens} (t : Token) (y : Terminal) → terminal t ≡ y → Open all (x ∷ fs) out (r ∷ t ∷ ts) → takes_stmt (wants x) ≡ true
      → terminal r ≡ k.Return → Safe all (first_by t y (f.Return r.place ∷ x ∷ fs) out) ts
  unfolding expr_nodes
  return_first {r} {ts} t k.Semicolon q d w qr = ended_safe all ts t k.Semicolon q d w (return r.place absent) (λ r e. s_return qr e)
  return_first {r} {ts} t k.CloseBrace q d w qr = ended_safe all ts t k.CloseBrace q d w (return r.place absent) (λ r e. s_return qr e)
  return_first t y q d w qr = operand_safe all t y q (o_return d w qr) refl

  abbrev pub LeavesTop : List Level → Type 0
  LeavesTop [] = Unit {0}
  LeavesTop (x ∷ fs) = leaves_out x ≡ true

  pub first_safe : {fs : List Level} {out : Nodes} {ts : Tokens} (t : Token) → Open all fs out (t ∷ ts) → LeavesTop fs → Safe all (first_by t (terminal t) fs out) ts
  first_safe t (o_arguments d w da qo some) h = arguments_first t (terminal t) refl d w da qo some (eqb-true _ _ h)
  first_safe t (o_array d w qo some) h = array_first t (terminal t) refl d w qo some
  first_safe t (o_for_start d w qi qo) h = start_first t (terminal t) refl d w qi qo
  first_safe t (o_for_test d w qi qo da) h = test_first t (terminal t) refl d w qi qo da
  first_safe t (o_for_step d w qi qo da db) h = step_first t (terminal t) refl d w qi qo da db
  first_safe t (o_return d w qr) h = return_first t (terminal t) refl d w qr
  first_safe t (o_program dss) h = absurd cc
  first_safe t d h = absurd cc

  -- ---- a token that the topmost level names

  pub object_closed : {x : Level} {fs : List Level} {out : Nodes} {o : Token} {list ts : Tokens} {ps : Props} (t : Token) → terminal t ≡ k.CloseBrace → Open all (x ∷ fs) out (o ∷ list) → wants x ≡ a_value
      → terminal o ≡ k.OpenBrace → SomeProps list (t ∷ ts) ps → Safe all (at (f.Value o.place false) (x ∷ fs) (props_nodes ps out ++ n.Object o.place (props_count ps) ∷ [])) ts
  unfolding expr_nodes
  object_closed {o} t q d w qo no_prop = g_value {e = object o.place no_props} d w (r_object_none qo q) refl
  object_closed {o} {ps} t q d w qo (some_props dps c) = g_value {e = object o.place ps} d w (r_object_comma qo dps c q) refl

  pub key_safe : {x : Level} {fs : List Level} {out : Nodes} {o : Token} {list ts : Tokens} {ps : Props} (t : Token) (y : Terminal) → terminal t ≡ y → Open all (x ∷ fs) out (o ∷ list) → wants x ≡ a_value
      → terminal o ≡ k.OpenBrace → SomeProps list (t ∷ ts) ps → Safe all (word_by t (f.ObjectKey o.place (props_count ps)) y (x ∷ fs) (props_nodes ps out)) ts
  key_safe t k.CloseBrace q d w qo some = object_closed t q d w qo some
  key_safe t k.Text q d w qo some = g_word (o_object_colon d w qo some (key_text t q)) refl
  key_safe {x} {fs} {out} {o} {ts} {ps} t y q d w qo some =
      or_refused all (is_word y) (at f.Word (f.ObjectColon o.place (props_count ps) ∷ x ∷ fs) (props_nodes ps out ++ n.Word (mark t) ∷ [])) ts
      (λ h. g_word (o_object_colon d w qo some (key_word t (ap is_word q ∙ h))) refl)

  module _ {x : Level} {fs : List Level} {out : Nodes} (ts : Tokens) (t : Token) where
    w_if_open : {i : Token} (y : Terminal) → terminal t ≡ y → Open all (x ∷ fs) out (i ∷ t ∷ ts) → takes_stmt (wants x) ≡ true → terminal i ≡ k.If → Safe all (word_by t (f.IfOpen i.place) y (x ∷ fs) out) ts
    w_if_open k.Open q d w i = g_operand (o_if_test d w i q) refl
    w_if_open y q d w i = tt

    w_while_open : {i : Token} (y : Terminal) → terminal t ≡ y → Open all (x ∷ fs) out (i ∷ t ∷ ts) → takes_stmt (wants x) ≡ true → terminal i ≡ k.While → Safe all (word_by t (f.WhileOpen i.place) y (x ∷ fs) out) ts
    w_while_open k.Open q d w i = g_operand (o_while_test d w i q) refl
    w_while_open y q d w i = tt

    w_for_open : {i : Token} (y : Terminal) → terminal t ≡ y → Open all (x ∷ fs) out (i ∷ t ∷ ts) → takes_stmt (wants x) ≡ true → terminal i ≡ k.For → Safe all (word_by t (f.ForOpen i.place) y (x ∷ fs) out) ts
    w_for_open k.Open q d w i = g_first (o_for_start d w i q) refl
    w_for_open y q d w i = tt

    w_decl_name : {d : Declaration} {p : Place} {begin list : Tokens} {ds : Decls} (y : Terminal) → terminal t ≡ y → Open all (x ∷ fs) out begin → takes_stmt (wants x) ≡ true → DeclsBegin d p begin list
        → SomeDecls (kind_of d) list (t ∷ ts) ds → Safe all (word_by t (f.DeclName d p (decls_count ds)) y (x ∷ fs) (decls_nodes ds out)) ts
    w_decl_name k.Name q o w b some = g_word (o_decl_next o w b some q) refl
    w_decl_name y q o w b some = tt

    w_decl_next : {d : Declaration} {p : Place} {begin list : Tokens} {m : Token} {ds : Decls} (y : Terminal) → terminal t ≡ y → Open all (x ∷ fs) out begin → takes_stmt (wants x) ≡ true → DeclsBegin d p begin list
        → SomeDecls (kind_of d) list (m ∷ t ∷ ts) ds → terminal m ≡ k.Name
        → Safe all (word_by t (f.DeclNext d p (decls_count ds + 1)) y (x ∷ fs) (decls_nodes ds out ++ n.DeclName (mark m) ∷ [])) ts
    unfolding expr_nodes
    w_decl_next (k.Assign None) q o w b some qm = g_operand (o_decl_value o w b some qm q) refl
    w_decl_next {d} {m} {ds} y q o w b some qm =
        either_way all (needs_value (kind_of d)) _ _ ts (λ h. tt) (λ h. declared_safe all {ds = decls_and ds (decl_only (mark m))} ts t y q o w b (with_decl some (d_only qm h)))

    w_jump : {r : Token} (j : Jump) (y : Terminal) → terminal t ≡ y → Open all (x ∷ fs) out (r ∷ t ∷ ts) → takes_stmt (wants x) ≡ true → terminal r ≡ k.Jump j → Safe all (word_by t (f.Jump r.place j) y (x ∷ fs) out) ts
    unfolding expr_nodes
    w_jump {r} j y q d w qr = ended_safe all ts t y q d w (jump r.place j) (λ r e. s_jump j qr e)

    w_try_open : {r : Token} (y : Terminal) → terminal t ≡ y → Open all (x ∷ fs) out (r ∷ t ∷ ts) → takes_stmt (wants x) ≡ true → terminal r ≡ k.Try → Safe all (word_by t (f.TryOpen r.place) y (x ∷ fs) out) ts
    unfolding expr_nodes
    w_try_open k.OpenBrace q d w qr = g_statement (o_block (o_try_block d w qr) refl q no_stmt) refl
    w_try_open y q d w qr = tt

    w_catch_open : {r z : Token} {mid : Tokens} {s : Stmt} (y : Terminal) → terminal t ≡ y → Open all (x ∷ fs) out (r ∷ mid) → takes_stmt (wants x) ≡ true → terminal r ≡ k.Try → ReadsBlock mid (z ∷ t ∷ ts) s
        → terminal z ≡ k.Catch → Safe all (word_by t (f.CatchOpen r.place) y (x ∷ fs) (stmt_nodes s out)) ts
    w_catch_open k.Open q d w qr ds qz = g_word (o_catch_name d w qr ds qz q) refl
    w_catch_open y q d w qr ds qz = tt

    w_catch_name : {r z o : Token} {mid : Tokens} {s : Stmt} (y : Terminal) → terminal t ≡ y → Open all (x ∷ fs) out (r ∷ mid) → takes_stmt (wants x) ≡ true → terminal r ≡ k.Try → ReadsBlock mid (z ∷ o ∷ t ∷ ts) s
        → terminal z ≡ k.Catch → terminal o ≡ k.Open → Safe all (word_by t (f.CatchName r.place) y (x ∷ fs) (stmt_nodes s out)) ts
    w_catch_name k.Name q d w qr ds qz qo = g_word (o_catch_close d w qr ds qz qo q) refl
    w_catch_name y q d w qr ds qz qo = tt

    w_catch_close : {r z o m : Token} {mid : Tokens} {s : Stmt} (y : Terminal) → terminal t ≡ y → Open all (x ∷ fs) out (r ∷ mid) → takes_stmt (wants x) ≡ true → terminal r ≡ k.Try → ReadsBlock mid (z ∷ o ∷ m ∷ t ∷ ts) s
        → terminal z ≡ k.Catch → terminal o ≡ k.Open → terminal m ≡ k.Name → Safe all (word_by t (f.CatchClose r.place) y (x ∷ fs) (stmt_nodes s out ++ n.Word (mark m) ∷ [])) ts
    w_catch_close k.Close q d w qr ds qz qo qm = g_word (o_catch_brace d w qr ds qz qo qm q) refl
    w_catch_close y q d w qr ds qz qo qm = tt

    w_catch_brace : {r z o m c : Token} {mid : Tokens} {s : Stmt} (y : Terminal) → terminal t ≡ y → Open all (x ∷ fs) out (r ∷ mid) → takes_stmt (wants x) ≡ true → terminal r ≡ k.Try
        → ReadsBlock mid (z ∷ o ∷ m ∷ c ∷ t ∷ ts) s → terminal z ≡ k.Catch → terminal o ≡ k.Open → terminal m ≡ k.Name → terminal c ≡ k.Close
        → Safe all (word_by t (f.CatchBrace r.place) y (x ∷ fs) (stmt_nodes s out ++ n.Word (mark m) ∷ [])) ts
    unfolding expr_nodes
    w_catch_brace k.OpenBrace q d w qr ds qz qo qm qc = g_statement (o_block (o_catch_block d w qr ds qz qo qm qc) refl q no_stmt) refl
    w_catch_brace y q d w qr ds qz qo qm qc = tt

    w_function_start : {r : Token} (y : Terminal) → terminal t ≡ y → Open all (x ∷ fs) out (r ∷ t ∷ ts) → wants x ≡ a_value → terminal r ≡ k.Function → Safe all (word_by t (f.FunctionStart r.place) y (x ∷ fs) out) ts
    w_function_start k.Name q d w r = g_word (o_function_open d w (n_expression r q)) refl
    w_function_start k.Open q d w r = g_word (o_function_first d w (h_expression r q)) refl
    w_function_start y q d w r = tt

    w_function_name : {r : Token} (h : Heading) (y : Terminal) → terminal t ≡ y → Open all (x ∷ fs) out (r ∷ t ∷ ts) → wants x ≡ an_item → is_expression h ≡ false → terminal r ≡ head_word h
        → Safe all (word_by t (f.FunctionName h r.place) y (x ∷ fs) out) ts
    w_function_name heading.Service k.Name q d w g r = g_word (o_function_open d w (n_service r q)) refl
    w_function_name heading.Declaration k.Name q d w g r = g_word (o_function_open d w (n_declaration r q)) refl
    w_function_name heading.NamedExpression y q d w g r = absurd cc
    w_function_name heading.Expression y q d w g r = absurd cc
    w_function_name h y q d w g r = tt

    w_function_open : {h : Title} {r m : Token} (y : Terminal) → terminal t ≡ y → Open all (x ∷ fs) out (r ∷ m ∷ t ∷ ts) → wants x ≡ head_wants (heading_of h) → Named h r m
        → Safe all (word_by t (f.FunctionOpen (heading_of h) r.place) y (x ∷ fs) (title_nodes h out)) ts
    w_function_open k.Open q d w r = g_word (o_function_first d w (named_head r q)) refl
    w_function_open y q d w r = tt

    w_function_first : {h : Title} {begin : Tokens} (y : Terminal) → terminal t ≡ y → Open all (x ∷ fs) out begin → wants x ≡ head_wants (heading_of h) → Head h begin (t ∷ ts)
        → Safe all (word_by t (f.FunctionFirst (heading_of h) (place_of begin)) y (x ∷ fs) (title_nodes h out)) ts
    w_function_first k.Close q d w r = g_word (o_function_brace d w r (no_parameters q)) refl
    w_function_first k.Name q d w r = g_word (o_function_next d w r (first_name q)) refl
    w_function_first y q d w r = tt

    w_function_next : {h : Title} {begin list : Tokens} {ns : Names} (y : Terminal) → terminal t ≡ y → Open all (x ∷ fs) out begin → wants x ≡ head_wants (heading_of h) → Head h begin list → ReadsNames list (t ∷ ts) ns
        → Safe all (word_by t (f.FunctionNext (heading_of h) (place_of begin) (names_count ns)) y (x ∷ fs) (names_nodes ns (title_nodes h out))) ts
    w_function_next k.Comma q d w r ns = g_word (o_parameter_name d w r ns q) refl
    w_function_next k.Close q d w r ns = g_word (o_function_brace d w r (parameters ns q)) refl
    w_function_next y q d w r ns = tt

    w_parameter_name : {h : Title} {c : Token} {begin list : Tokens} {ns : Names} (y : Terminal) → terminal t ≡ y → Open all (x ∷ fs) out begin → wants x ≡ head_wants (heading_of h) → Head h begin list
        → ReadsNames list (c ∷ t ∷ ts) ns → terminal c ≡ k.Comma → Safe all (word_by t (f.ParameterName (heading_of h) (place_of begin) (names_count ns)) y (x ∷ fs) (names_nodes ns (title_nodes h out))) ts
    w_parameter_name k.Name q d w r ns c = g_word (o_function_next d w r (next_name ns c q)) refl
    w_parameter_name y q d w r ns c = tt

    w_function_brace : {h : Title} {begin list : Tokens} {ns : Names} (y : Terminal) → terminal t ≡ y → Open all (x ∷ fs) out begin → wants x ≡ head_wants (heading_of h) → Head h begin list → Parameters list (t ∷ ts) ns
        → Safe all (word_by t (f.FunctionBrace (heading_of h) (place_of begin) (names_count ns)) y (x ∷ fs) (names_nodes ns (title_nodes h out))) ts
    unfolding expr_nodes
    w_function_brace k.OpenBrace q d w r ps = g_statement (o_body d w r ps q no_item) refl
    w_function_brace y q d w r ps = tt

    w_dot : {mid : Tokens} {c : Token} {a : Expr} → Open all (x ∷ fs) out mid → wants x ≡ a_value → Reads 10 mid (c ∷ t ∷ ts) a → terminal c ≡ k.Dot
        → Safe all (word_by t (f.Dot (place_of mid)) (terminal t) (x ∷ fs) (expr_nodes a out)) ts
    unfolding expr_nodes
    w_dot {mid} {a} d w da o = or_refused all _ _ ts (λ h. g_value {e = index (place_of mid) a (property (mark t))} d w (r_dot da o h) refl)

    w_object_colon : {o r : Token} {list : Tokens} {ps : Props} {z : Key} (y : Terminal) → terminal t ≡ y → Open all (x ∷ fs) out (o ∷ list) → wants x ≡ a_value → terminal o ≡ k.OpenBrace
        → SomeProps list (r ∷ t ∷ ts) ps → IsKey r z → Safe all (word_by t (f.ObjectColon o.place (props_count ps)) y (x ∷ fs) (props_nodes ps out ++ key_node z ∷ [])) ts
    w_object_colon k.Colon q d w qo some kt = g_operand (o_object_value d w qo some kt q) refl
    w_object_colon y q d w qo some kt = tt

    -- among the attributes of a tag, with or without a `=` that may follow
    w_attributes : {o : Token} {list : Tokens} {ats : Attributes} (v : Bool) (y : Terminal) → terminal t ≡ y → Open all (x ∷ fs) out (o ∷ list) → holds_element x ≡ true → terminal o ≡ k.TagOpen → ReadsAttributes list (t ∷ ts) ats
        → (terminal t ≡ k.Assign None → Safe all (cond v (at f.Word (f.AttributeValue (tag_mark o) (attributes_count ats) ∷ x ∷ fs) (attributes_nodes ats (out ++ n.Word (tag_mark o) ∷ []))) None) ts)
        → Safe all (word_by t (f.Attributes (tag_mark o) (attributes_count ats) v) y (x ∷ fs) (attributes_nodes ats (out ++ n.Word (tag_mark o) ∷ []))) ts
    unfolding expr_nodes
    w_attributes v k.AttributeName q d w qo das h = g_word (o_attribute_name d w qo das q) refl
    w_attributes v (k.Assign None) q d w qo das h = h q
    w_attributes {o} {ats} v k.TagSelfEnd q d w qo das h = element_settled all d w (e_self qo das q)
    w_attributes {o} {ats} v k.TagEnd q d w qo das h =
        either_way all (is_void_tag (open_name o)) _ _ ts (λ z. element_settled all d w (e_void qo das q z)) (λ z. g_word (o_children d w qo das q z no_child) refl)
    w_attributes v y q d w qo das h = tt

    w_attribute_value : {o r z : Token} {list : Tokens} {ats : Attributes} (y : Terminal) → terminal t ≡ y → Open all (x ∷ fs) out (o ∷ list) → holds_element x ≡ true → terminal o ≡ k.TagOpen
        → ReadsAttributes list (r ∷ z ∷ t ∷ ts) ats → terminal r ≡ k.AttributeName → terminal z ≡ k.Assign None
        → Safe all (word_by t (f.AttributeValue (tag_mark o) (attributes_count ats + 1)) y (x ∷ fs) (attributes_nodes ats (out ++ n.Word (tag_mark o) ∷ []) ++ n.AttributeName (mark r) ∷ [])) ts
    unfolding expr_nodes
    w_attribute_value {r} k.Quoted q d w qo das qr qz = g_word (o_attributes d w qo (next_attribute das (a_quoted qr qz q))) refl
    w_attribute_value k.TildeOpen q d w qo das qr qz = g_statement (o_tilde (o_attribute_value d w qo das qr qz) refl q no_item) refl
    w_attribute_value k.DollarOpen q d w qo das qr qz = g_operand (o_dollar (o_attribute_value d w qo das qr qz) refl q) refl
    w_attribute_value y q d w qo das qr qz = tt

    w_children : {o c : Token} {list mid : Tokens} {ats : Attributes} {cs : Children} (y : Terminal) → terminal t ≡ y → Open all (x ∷ fs) out (o ∷ list) → holds_element x ≡ true → terminal o ≡ k.TagOpen
        → ReadsAttributes list (c ∷ mid) ats → terminal c ≡ k.TagEnd → is_void_tag (open_name o) ≡ false → ReadsChildren mid (t ∷ ts) cs
        → Safe all (word_by t (f.Children (tag_mark o) (attributes_count ats) (children_count cs)) y (x ∷ fs) (children_nodes cs (attributes_nodes ats (out ++ n.Word (tag_mark o) ∷ [])))) ts
    unfolding expr_nodes
    w_children k.ChildText q d w qo das c v dcs = g_word (o_children d w qo das c v (next_child dcs (c_text q))) refl
    w_children k.TagOpen q d w qo das c v dcs = g_word (o_attributes (o_children d w qo das c v dcs) refl q no_attribute) refl
    w_children k.TildeOpen q d w qo das c v dcs = g_statement (o_tilde (o_children d w qo das c v dcs) refl q no_item) refl
    w_children k.DollarOpen q d w qo das c v dcs = g_operand (o_dollar (o_children d w qo das c v dcs) refl q) refl
    w_children {o} k.CloseTag q d w qo das c v dcs =
        or_refused all _ _ ts (λ h. element_settled all d w (e_children qo das c v dcs q (same_bytes (close_name t) (open_name o) h)))
    w_children y q d w qo das c v dcs = tt

  pub word_safe : {x : Level} {fs : List Level} {out : Nodes} (ts : Tokens) (t : Token) → Open all (x ∷ fs) out (t ∷ ts) → wants x ≡ a_word → Safe all (word_by t x (terminal t) fs out) ts
  unfolding expr_nodes
  word_safe ts t (o_if_open d w i) h = w_if_open ts t (terminal t) refl d w i
  word_safe ts t (o_while_open d w i) h = w_while_open ts t (terminal t) refl d w i
  word_safe ts t (o_for_open d w i) h = w_for_open ts t (terminal t) refl d w i
  word_safe ts t (o_decl_name d w b some) h = w_decl_name ts t (terminal t) refl d w b some
  word_safe ts t (o_decl_next d w b some m) h = w_decl_next ts t (terminal t) refl d w b some m
  word_safe ts t (o_jump j d w q) h = w_jump ts t j (terminal t) refl d w q
  word_safe ts t (o_try_open d w q) h = w_try_open ts t (terminal t) refl d w q
  word_safe ts t (o_catch_open d w q ds z) h = w_catch_open ts t (terminal t) refl d w q ds z
  word_safe ts t (o_catch_name d w q ds z o) h = w_catch_name ts t (terminal t) refl d w q ds z o
  word_safe ts t (o_catch_close d w q ds z o m) h = w_catch_close ts t (terminal t) refl d w q ds z o m
  word_safe ts t (o_catch_brace d w q ds z o m c) h = w_catch_brace ts t (terminal t) refl d w q ds z o m c
  word_safe ts t (o_function_start d w r) h = w_function_start ts t (terminal t) refl d w r
  word_safe ts t (o_function_name z d w g r) h = w_function_name ts t z (terminal t) refl d w g r
  word_safe ts t (o_function_open d w r) h = w_function_open ts t (terminal t) refl d w r
  word_safe ts t (o_function_first d w r) h = w_function_first ts t (terminal t) refl d w r
  word_safe ts t (o_function_next d w r ns) h = w_function_next ts t (terminal t) refl d w r ns
  word_safe ts t (o_parameter_name d w r ns c) h = w_parameter_name ts t (terminal t) refl d w r ns c
  word_safe ts t (o_function_brace d w r ps) h = w_function_brace ts t (terminal t) refl d w r ps
  word_safe ts t (o_dot d w da q) h = w_dot ts t d w da q
  word_safe ts t (o_object_key d w q some) h = key_safe t (terminal t) refl d w q some
  word_safe ts t (o_object_colon d w q some kt) h = w_object_colon ts t (terminal t) refl d w q some kt
  word_safe ts t (o_attributes d w q das) h = w_attributes ts t false (terminal t) refl d w q das (λ z. tt)
  word_safe ts t (o_attribute_name {t = m} {ats} d w q das n) h =
      w_attributes ts t {ats = attributes_and ats (attribute_plain (mark m))} true (terminal t) refl d w q (next_attribute das (a_plain n)) (λ z. g_word (o_attribute_value d w q das n z) refl)
  word_safe ts t (o_attribute_value d w q das n z) h = w_attribute_value ts t (terminal t) refl d w q das n z
  word_safe ts t (o_children d w q das c v dcs) h = w_children ts t (terminal t) refl d w q das c v dcs
  word_safe ts t d h = absurd cc
