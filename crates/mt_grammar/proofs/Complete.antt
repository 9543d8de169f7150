-- What has a derivation is read, with its tree.
use Rattle.std.proofs.Common.{◌&&◌, nat_le, Some, None, ◌≡◌, ℕ, suc, ◌+◌, ◌≤◌, Bool, true, false, List, [], ◌∷◌, ◌++◌, refl, sym, ap, ◌∙◌, arith}
use Rattle.std.proofs.lemmas.Bool.{le-leb}
use Rattle.mt_tree.specs.declared.place.Place.{Place}
use Rattle.mt_tree.specs.declared.operators.VarKind.{VarKind}
use Rattle.mt_tree.specs.declared.operators.VarKind.TheVariants as var_kind
use Rattle.mt_grammar.specs.declared.terminal.Declaration.{Declaration}
use Rattle.mt_grammar.specs.declared.terminal.Declaration.TheVariants as declaration
use Rattle.mt_grammar.specs.declared.terminal.Terminal.{Terminal}
use Rattle.mt_grammar.specs.declared.terminal.Terminal.TheVariants as k
use Rattle.mt_grammar.specs.Token.{Token, Tokens, place_of, terminal}
use Rattle.mt_grammar.specs.Tree.{Mark, Title, heading_of, Names, names_count, Expr, Exprs, Props, Attribute, Attributes, attributes_count, Child, Children, children_count, Decl, Decls, decls_count, Optional, Start, Stmt, Stmts, stmts_count, is_target}
use Rattle.mt_grammar.specs.Nodes.{Node, Nodes, names_nodes, title_nodes, key_node, expr_nodes, exprs_nodes, props_nodes, attribute_nodes, attributes_nodes, child_nodes, children_nodes, decl_nodes, decls_nodes, optional_nodes, start_nodes, stmt_nodes, stmts_nodes}
use Rattle.mt_grammar.specs.Nodes as n
use Rattle.mt_grammar.specs.Stack.{Level, Focus}
use Rattle.mt_grammar.specs.Stack as f
use Rattle.mt_grammar.specs.Grammar.{mark, tag_mark, precedence_of, sign_of, step_before, step_after, needs_value, Reads, r_assign, r_up, r_condition, r_operation, r_unary, r_step_before, r_step_after, r_dot, r_index, r_call_none, r_call, r_name, r_number, r_text, r_constant, r_paren, r_array_none, r_array, r_array_comma, r_object_none, r_object, r_object_comma, r_function, r_tilde, r_dollar, r_element, ReadsList, first_expr, next_expr, ReadsProps, first_prop, next_prop, ReadsFunction, function_of, ReadsTilde, tilde_of, ReadsDollar, dollar_of, ReadsElement, e_self, e_void, e_children, ReadsAttribute, a_plain, a_quoted, a_tilde, a_dollar, ReadsAttributes, no_attribute, next_attribute, ReadsChild, c_text, c_element, c_tilde, c_dollar, ReadsChildren, no_child, next_child, ReadsDecl, d_only, d_as, ReadsDecls, first_decl, next_decl, ReadsOptional, o_absent, o_present, ReadsStart, f_optional, f_vars, ReadsBlock, block_of, ReadsBody, b_block, b_single, ReadsStmt, s_var, s_if, s_if_else, s_while, s_for, s_return, s_return_value, s_jump, s_throw, s_try, s_block, s_empty, s_expression, ReadsStmts, no_stmt, next_stmt, ReadsItem, i_function, i_statement, ReadsItems, no_item, next_item, IsProgram}
use Rattle.mt_grammar.specs.Machine.{Next, at, awaits_at, binding, takes_items, settled, dollar_settled, function_closed, kind_of, run, parsed}
use Rattle.mt_grammar.proofs.Precedence.{Stops, precedence_between}
use Rattle.mt_grammar.proofs.Steps.{shift_on, reduce, Stops-less, closes, Stops-any, no_question, operand_at, first_at, word_at, statement_at, body_at, finished_at, close_at, if_true, if_false}
use Rattle.mt_grammar.proofs.Starts.{starts, list_starts, first_operand, statement_operand}
use Rattle.mt_grammar.proofs.Parts.{stop_end, ended, Ends-stops, stopped, declared_ends, next_declared, parameter_list, head_focus, HeadTakes, head, key_read, Lists, in_arguments, in_array, Holds, in_block, HoldsItems, in_program, in_function, in_tilde, single, else_done, while_done, for_done, try_done, if_done, stmt_some, body_single, settled_value, dollar_value, bytes_same, head_operand, head_statement, takes_any, takes_item, expression_closed, item_closed, prefix_taken, LeavesOut, at_start, at_test, at_step, Listed, Keyed, Declared, return_ends, tilde_is, element_is}

mutual
  unfolding expr_nodes

  pub reads : {l : ℕ} {ts rest : Tokens} {e : Expr} → Reads l ts rest e → (x : Level) (fs : List Level) (out : Nodes) → awaits_at x ≤ l → Stops l rest
      → run ts (at f.Operand (x ∷ fs) out) ≡ run rest (at (f.Value (place_of ts) (is_target e)) (x ∷ fs) (expr_nodes e out))
  reads (r_assign {ts} {mid} {rest} {t} {a} {e} b da h q de) x fs out low stops =
      let s = place_of ts in let o = expr_nodes a out in
      reads da x fs out (omega arith) (Stops-any (t ∷ mid)) ∙ shift_on (k.Assign b) t mid s (is_target a) x fs o (omega arith) low q ∙ ap (run mid) (if_true _ None h)
      ∙ reads de (f.Assign b s) (x ∷ fs) o (omega arith) stops ∙ reduce rest 0 (place_of mid) (is_target e) (f.Assign b s) (x ∷ fs) (expr_nodes e o) (λ y b. le-leb _ _ b) stops
  reads (r_up {l} {ts} {rest} {e} d) x fs out low stops = reads d x fs out (omega arith) (Stops-less l (suc l) rest (omega arith) stops)
  reads (r_condition {ts} {mid} {last} {rest} {q} {c} {a} {b} {d} da hq db hc dd) x fs out low stops =
      let s = place_of ts in let o = expr_nodes a out in let o2 = expr_nodes b o in
      let two : binding (terminal q) ≡ 2 = ap binding hq in
      reads da x fs out (omega arith) (omega arith) ∙ shift_on k.Question q mid s (is_target a) x fs o (omega arith) low hq
      ∙ reads db (f.CondTest s) (x ∷ fs) o (omega arith) (closes k.Colon c last refl hc) ∙ close_at k.Colon c last (place_of mid) (is_target b) (f.CondTest s) (x ∷ fs) o2 refl (omega arith) hc
      ∙ reads dd (f.CondElse s) (x ∷ fs) o2 (omega arith) (no_question rest stops) ∙ reduce rest 0 (place_of last) (is_target d) (f.CondElse s) (x ∷ fs) (expr_nodes d o2) (λ y h. le-leb _ _ h) (no_question rest stops)
  reads (r_operation {l} {ts} {mid} {rest} {t} {a} {b} o precedence da q db) x fs out low stops =
      let s = place_of ts in let out' = expr_nodes a out in
      let sign : binding (terminal t) ≡ precedence_of o = ap binding q in
      let some = (precedence_between o).0 in
      reads da x fs out low (omega arith) ∙ shift_on (k.Infix o) t mid s (is_target a) x fs out' (omega arith) (omega arith) q
      ∙ reads db (f.Operation o s) (x ∷ fs) out' (omega arith) (Stops-less l (suc l) rest (omega arith) stops)
      ∙ reduce rest l (place_of mid) (is_target b) (f.Operation o s) (x ∷ fs) (expr_nodes b out') (λ y h. le-leb _ _ (omega arith)) stops
  reads (r_unary {ts} {rest} {t} {a} u q d) x fs out low stops =
      operand_at (sign_of u) t ts (x ∷ fs) out q ∙ ap (run ts) (prefix_taken t u x fs out low) ∙ reads d (f.Unary u t.place) (x ∷ fs) out (omega arith) stops
      ∙ reduce rest 8 (place_of ts) (is_target a) (f.Unary u t.place) (x ∷ fs) (expr_nodes a out) (λ y h. le-leb _ _ h) stops
  reads (r_step_before {ts} {rest} {t} {a} d q da h) x fs out low stops =
      let z = f.StepBefore (step_before d) t.place in
      operand_at (k.Step d) t ts (x ∷ fs) out q ∙ ap (run ts) (if_true _ None (le-leb _ _ low)) ∙ reads da z (x ∷ fs) out (omega arith) (Stops-any rest)
      ∙ reduce rest 8 (place_of ts) (is_target a) z (x ∷ fs) (expr_nodes a out) (λ y b. ap (λ v. v && nat_le (binding y) 9) h ∙ le-leb _ _ (omega arith)) stops
  reads (r_step_after {ts} {rest} {t} {a} d da h q) x fs out low stops =
      let s = place_of ts in let o = expr_nodes a out in
      reads da x fs out (omega arith) (Stops-any (t ∷ rest)) ∙ shift_on (k.Step d) t rest s (is_target a) x fs o (omega arith) low q ∙ ap (run rest) (if_true _ None h)
      ∙ reduce rest 9 s false (f.StepAfter (step_after d) s) (x ∷ fs) o (λ y b. le-leb _ _ b) stops
  reads (r_dot {ts} {rest} {d} {t} {a} da q h) x fs out low stops =
      let s = place_of ts in let o = expr_nodes a out in
      reads da x fs out low (Stops-any (d ∷ t ∷ rest)) ∙ shift_on k.Dot d (t ∷ rest) s (is_target a) x fs o (omega arith) low q ∙ ap (run rest) (if_true _ None h)
  reads (r_index {ts} {mid} {rest} {o} {c} {a} {i} da q di r) x fs out low stops =
      let s = place_of ts in let out' = expr_nodes a out in
      reads da x fs out low (Stops-any (o ∷ mid)) ∙ shift_on k.OpenSquare o mid s (is_target a) x fs out' (omega arith) low q
      ∙ reads di (f.Index s) (x ∷ fs) out' (omega arith) (closes k.CloseSquare c rest refl r)
      ∙ close_at k.CloseSquare c rest (place_of mid) (is_target i) (f.Index s) (x ∷ fs) (expr_nodes i out') refl (omega arith) r
  reads (r_call_none {ts} {rest} {o} {c} {a} da q r) x fs out low stops =
      let s = place_of ts in let out' = expr_nodes a out in
      reads da x fs out low (Stops-any (o ∷ c ∷ rest)) ∙ shift_on k.Open o (c ∷ rest) s (is_target a) x fs out' (omega arith) low q
      ∙ first_at k.Close c rest (f.Arguments s 0 ∷ x ∷ fs) out' r
  reads (r_call {ts} {mid} {rest} {o} {c} {a} {es} da q des r) x fs out low stops =
      let s = place_of ts in let out' = expr_nodes a out in
      let i = reads_list des (λ i. f.Arguments s i) (in_arguments s) (x ∷ fs) out' (closes k.Close c rest refl r) in
      reads da x fs out low (Stops-any (o ∷ mid)) ∙ shift_on k.Open o mid s (is_target a) x fs out' (omega arith) low q
      ∙ first_operand mid (f.Arguments s 0 ∷ x ∷ fs) out' (list_starts des) ∙ i.4
      ∙ close_at k.Close c rest i.0 i.1 (f.Arguments s i.2) (x ∷ fs) (exprs_nodes es out') refl (omega arith) r
      ∙ ap (λ m. run rest (at (f.Value s false) (x ∷ fs) (exprs_nodes es out' ++ n.Call s m ∷ []))) (sym i.3)
  reads (r_name {rest} {t} q) x fs out low stops = operand_at k.Name t rest (x ∷ fs) out q
  reads (r_number {rest} {t} q) x fs out low stops = operand_at k.Number t rest (x ∷ fs) out q
  reads (r_text {rest} {t} q) x fs out low stops = operand_at k.Text t rest (x ∷ fs) out q
  reads (r_constant {rest} {t} v q) x fs out low stops = operand_at (k.Constant v) t rest (x ∷ fs) out q
  reads (r_paren {ts} {rest} {o} {c} {e} q d r) x fs out low stops =
      operand_at k.Open o ts (x ∷ fs) out q ∙ reads d (f.Paren o.place) (x ∷ fs) out (omega arith) (closes k.Close c rest refl r)
      ∙ close_at k.Close c rest (place_of ts) (is_target e) (f.Paren o.place) (x ∷ fs) (expr_nodes e out) refl (omega arith) r
  reads (r_array_none {rest} {o} {c} q r) x fs out low stops =
      operand_at k.OpenSquare o (c ∷ rest) (x ∷ fs) out q ∙ first_at k.CloseSquare c rest (f.Array o.place 0 ∷ x ∷ fs) out r
  reads (r_array {ts} {rest} {o} {c} {es} q des r) x fs out low stops =
      let i = reads_list des (λ i. f.Array o.place i) (in_array o.place) (x ∷ fs) out (closes k.CloseSquare c rest refl r) in
      operand_at k.OpenSquare o ts (x ∷ fs) out q ∙ first_operand ts (f.Array o.place 0 ∷ x ∷ fs) out (list_starts des) ∙ i.4
      ∙ close_at k.CloseSquare c rest i.0 i.1 (f.Array o.place i.2) (x ∷ fs) (exprs_nodes es out) refl (omega arith) r
      ∙ ap (λ m. run rest (at (f.Value o.place false) (x ∷ fs) (exprs_nodes es out ++ n.Array o.place m ∷ []))) (sym i.3)
  reads (r_array_comma {ts} {rest} {o} {m} {c} {es} q des r z) x fs out low stops =
      let i = reads_list des (λ i. f.Array o.place i) (in_array o.place) (x ∷ fs) out (closes k.Comma m (c ∷ rest) refl r) in
      operand_at k.OpenSquare o ts (x ∷ fs) out q ∙ first_operand ts (f.Array o.place 0 ∷ x ∷ fs) out (list_starts des) ∙ i.4
      ∙ close_at k.Comma m (c ∷ rest) i.0 i.1 (f.Array o.place i.2) (x ∷ fs) (exprs_nodes es out) refl (omega arith) r
      ∙ first_at k.CloseSquare c rest (f.Array o.place (i.2 + 1) ∷ x ∷ fs) (exprs_nodes es out) z
      ∙ ap (λ m. run rest (at (f.Value o.place false) (x ∷ fs) (exprs_nodes es out ++ n.Array o.place m ∷ []))) (sym i.3)
  reads (r_object_none {rest} {o} {c} q r) x fs out low stops =
      operand_at k.OpenBrace o (c ∷ rest) (x ∷ fs) out q ∙ word_at k.CloseBrace c rest (f.ObjectKey o.place 0) (x ∷ fs) out r
  reads (r_object {ts} {rest} {o} {c} {ps} q dps r) x fs out low stops =
      let i = reads_props dps o.place (x ∷ fs) out (closes k.CloseBrace c rest refl r) in
      operand_at k.OpenBrace o ts (x ∷ fs) out q ∙ i.4
      ∙ close_at k.CloseBrace c rest i.0 i.1 (f.ObjectValue o.place i.2) (x ∷ fs) (props_nodes ps out) refl (omega arith) r
      ∙ ap (λ m. run rest (at (f.Value o.place false) (x ∷ fs) (props_nodes ps out ++ n.Object o.place m ∷ []))) (sym i.3)
  reads (r_object_comma {ts} {rest} {o} {m} {c} {ps} q dps r z) x fs out low stops =
      let i = reads_props dps o.place (x ∷ fs) out (closes k.Comma m (c ∷ rest) refl r) in
      operand_at k.OpenBrace o ts (x ∷ fs) out q ∙ i.4
      ∙ close_at k.Comma m (c ∷ rest) i.0 i.1 (f.ObjectValue o.place i.2) (x ∷ fs) (props_nodes ps out) refl (omega arith) r
      ∙ word_at k.CloseBrace c rest (f.ObjectKey o.place (i.2 + 1)) (x ∷ fs) (props_nodes ps out) z
      ∙ ap (λ m. run rest (at (f.Value o.place false) (x ∷ fs) (props_nodes ps out ++ n.Object o.place m ∷ []))) (sym i.3)
  reads (r_function {ts} {rest} {h} {ns} {ss} d g) x fs out low stops =
      let z = heading_of h in
      ap (λ w. run ts (at w (x ∷ fs) out)) (sym (head_operand z g)) ∙ reads_function d (x ∷ fs) out (takes_any z (x ∷ fs) g)
      ∙ ap (run rest) (expression_closed z (place_of ts) (names_count ns) (stmts_count ss) (x ∷ fs) (stmts_nodes ss (names_nodes ns (title_nodes h out))) g)
  reads (r_tilde {ts} {rest} {e} d) x fs out low stops =
      reads_tilde d (at f.Operand (x ∷ fs) out) (x ∷ fs) out (λ t more q. operand_at k.TildeOpen t more (x ∷ fs) out q) ∙ ap (run rest) (settled_value (place_of ts) x fs (expr_nodes e out) low)
      ∙ ap (λ v. run rest (at (f.Value (place_of ts) v) (x ∷ fs) (expr_nodes e out))) (sym (tilde_is d))
  reads (r_dollar {ts} {rest} {e} d) x fs out low stops =
      reads_dollar d (at f.Operand (x ∷ fs) out) (x ∷ fs) out (λ t more q. operand_at k.DollarOpen t more (x ∷ fs) out q) ∙ ap (run rest) (dollar_value (place_of ts) x fs (expr_nodes e out) low)
  reads (r_element {ts} {rest} {e} d) x fs out low stops =
      reads_element d (at f.Operand (x ∷ fs) out) (x ∷ fs) out (λ t more q. operand_at k.TagOpen t more (x ∷ fs) out q) ∙ ap (run rest) (settled_value (place_of ts) x fs (expr_nodes e out) low)
      ∙ ap (λ v. run rest (at (f.Value (place_of ts) v) (x ∷ fs) (expr_nodes e out))) (sym (element_is d))

  pub reads_list : {ts rest : Tokens} {es : Exprs} → ReadsList ts rest es → (g : ℕ → Level) → Lists g → (fs : List Level) (out : Nodes) → Stops 0 rest → Listed ts rest es g fs out
  reads_list (first_expr {ts} {rest} {e} d) g lists fs out stops = (place_of ts, is_target e, 0, refl, reads d (g 0) fs out (lists.low 0) stops)
  reads_list (next_expr {ts} {mid} {rest} {c} {es} {e} des q d) g lists fs out stops =
      let i = reads_list des g lists fs out (closes k.Comma c mid refl q) in
      let m = i.2 in (
        place_of mid,
        is_target e,
        m + 1,
        ap (λ m. m + 1) i.3,
        i.4 ∙ lists.comma m c mid i.0 i.1 fs (exprs_nodes es out) q (starts d) ∙ reads d (g (m + 1)) fs (exprs_nodes es out) (lists.low (m + 1)) stops,
      )

  pub reads_props : {ts rest : Tokens} {ps : Props} → ReadsProps ts rest ps → (p : Place) (fs : List Level) (out : Nodes) → Stops 0 rest → Keyed ts rest ps p fs out
  reads_props (first_prop {ts} {rest} {t} {c} {x} {e} kt q d) p fs out stops =
      let o = out ++ key_node x ∷ [] in (
        place_of ts,
        is_target e,
        0,
        refl,
        key_read kt p 0 (c ∷ ts) fs out ∙ word_at k.Colon c ts (f.ObjectColon p 0) fs o q ∙ reads d (f.ObjectValue p 0) fs o (omega arith) stops,
      )
  reads_props (next_prop {ts} {mid} {rest} {m} {t} {c} {ps} {x} {e} dps r kt q d) p fs out stops =
      let i = reads_props dps p fs out (closes k.Comma m (t ∷ c ∷ mid) refl r) in
      let j = i.2 + 1 in
      let o = props_nodes ps out in
      let o2 = o ++ key_node x ∷ [] in (
        place_of mid,
        is_target e,
        j,
        ap (λ m. m + 1) i.3,
        i.4 ∙ close_at k.Comma m (t ∷ c ∷ mid) i.0 i.1 (f.ObjectValue p i.2) fs o refl (omega arith) r
            ∙ key_read kt p j (c ∷ mid) fs o ∙ word_at k.Colon c mid (f.ObjectColon p j) fs o2 q ∙ reads d (f.ObjectValue p j) fs o2 (omega arith) stops,
      )

  pub reads_function : {h : Title} {ts rest : Tokens} {ns : Names} {ss : Stmts} → ReadsFunction h ts rest ns ss → (fs : List Level) (out : Nodes) → HeadTakes (heading_of h) fs
      → run ts (at (head_focus (heading_of h)) fs out)
      ≡ run rest (function_closed (heading_of h) (place_of ts) (names_count ns) (stmts_count ss) fs (stmts_nodes ss (names_nodes ns (title_nodes h out))))
  reads_function (function_of {h} {ts} {list} {mid} {rest} {o} {c} {ns} {ss} dh ps b dss r) fs out takes =
      let p = place_of ts in let z = heading_of h in let m = names_count ns in
      let o1 = title_nodes h out in let o2 = names_nodes ns o1 in
      head dh fs out takes ∙ parameter_list ps z p fs o1 ∙ word_at k.OpenBrace o mid (f.FunctionBrace z p m) fs o2 b
      ∙ reads_items dss (λ i. f.FunctionBody z p m i) (in_function z p m) fs o2
      ∙ statement_at k.CloseBrace c rest (f.FunctionBody z p m (stmts_count ss) ∷ fs) (stmts_nodes ss o2) r

  pub reads_tilde : {ts rest : Tokens} {e : Expr} → ReadsTilde ts rest e → (s : Next) (fs : List Level) (out : Nodes)
      → ((t : Token) (more : Tokens) → terminal t ≡ k.TildeOpen → run (t ∷ more) s ≡ run more (at f.Statement (f.Tilde t.place 0 ∷ fs) out))
      → run ts s ≡ run rest (settled (place_of ts) fs (expr_nodes e out))
  reads_tilde (tilde_of {ts} {rest} {o} {c} {ss} q dss r) s fs out begin =
      begin o ts q ∙ reads_items dss (λ i. f.Tilde o.place i) (in_tilde o.place) fs out
      ∙ statement_at k.CloseBrace c rest (f.Tilde o.place (stmts_count ss) ∷ fs) (stmts_nodes ss out) r

  pub reads_dollar : {ts rest : Tokens} {e : Expr} → ReadsDollar ts rest e → (s : Next) (fs : List Level) (out : Nodes)
      → ((t : Token) (more : Tokens) → terminal t ≡ k.DollarOpen → run (t ∷ more) s ≡ run more (at f.Operand (f.Dollar t.place ∷ fs) out))
      → run ts s ≡ run rest (dollar_settled (place_of ts) fs (expr_nodes e out))
  reads_dollar (dollar_of {ts} {rest} {o} {c} {e} q d r) s fs out begin =
      begin o ts q ∙ reads d (f.Dollar o.place) fs out (omega arith) (closes k.CloseBrace c rest refl r)
      ∙ close_at k.CloseBrace c rest (place_of ts) (is_target e) (f.Dollar o.place) fs (expr_nodes e out) refl (omega arith) r

  pub reads_element : {ts rest : Tokens} {e : Expr} → ReadsElement ts rest e → (s : Next) (fs : List Level) (out : Nodes)
      → ((t : Token) (more : Tokens) → terminal t ≡ k.TagOpen → run (t ∷ more) s ≡ run more (at f.Word (f.Attributes (tag_mark t) 0 false ∷ fs) (out ++ n.Word (tag_mark t) ∷ [])))
      → run ts s ≡ run rest (settled (place_of ts) fs (expr_nodes e out))
  reads_element (e_self {ts} {rest} {o} {c} {ats} q d r) s fs out begin =
      let m = tag_mark o in let o1 = out ++ n.Word m ∷ [] in
      let i = reads_attributes d m fs o1 in
      begin o ts q ∙ i.1 ∙ word_at k.TagSelfEnd c rest (f.Attributes m (attributes_count ats) i.0) fs (attributes_nodes ats o1) r
  reads_element (e_void {ts} {rest} {o} {c} {ats} q d r h) s fs out begin =
      let m = tag_mark o in let o1 = out ++ n.Word m ∷ [] in
      let i = reads_attributes d m fs o1 in
      begin o ts q ∙ i.1 ∙ word_at k.TagEnd c rest (f.Attributes m (attributes_count ats) i.0) fs (attributes_nodes ats o1) r ∙ ap (run rest) (if_true _ _ h)
  reads_element (e_children {ts} {mid} {rest} {o} {c} {z} {ats} {cs} q d r h dcs g e) s fs out begin =
      let m = tag_mark o in let o1 = out ++ n.Word m ∷ [] in
      let i = reads_attributes d m fs o1 in
      let a = attributes_count ats in let o2 = attributes_nodes ats o1 in
      begin o ts q ∙ i.1 ∙ word_at k.TagEnd c mid (f.Attributes m a i.0) fs o2 r ∙ ap (run mid) (if_false _ _ h)
      ∙ reads_children dcs m a fs o2 ∙ word_at k.CloseTag z rest (f.Children m a (children_count cs)) fs (children_nodes cs o2) g
      ∙ ap (run rest) (if_true _ None (bytes_same _ _ e))

  pub reads_attribute : {ts rest : Tokens} {a : Attribute} → ReadsAttribute ts rest a → (m : Mark) (i : ℕ) (v : Bool) (fs : List Level) (out : Nodes)
      → (w : Bool) × (run ts (at f.Word (f.Attributes m i v ∷ fs) out) ≡ run rest (at f.Word (f.Attributes m (i + 1) w ∷ fs) (attribute_nodes a out)))
  reads_attribute (a_plain {rest} {t} q) m i v fs out = (true, word_at k.AttributeName t rest (f.Attributes m i v) fs out q)
  reads_attribute (a_quoted {rest} {t} {z} {v = x} q r u) m i v fs out =
      let o = out ++ n.AttributeName (mark t) ∷ [] in (
        false,
        word_at k.AttributeName t (z ∷ x ∷ rest) (f.Attributes m i v) fs out q ∙ word_at (k.Assign None) z (x ∷ rest) (f.Attributes m (i + 1) true) fs o r
            ∙ word_at k.Quoted x rest (f.AttributeValue m (i + 1)) fs o u,
      )
  reads_attribute (a_tilde {ts} {rest} {t} {z} {e} q r d) m i v fs out =
      let o = out ++ n.AttributeName (mark t) ∷ [] in let x = f.AttributeValue m (i + 1) in (
        false,
        word_at k.AttributeName t (z ∷ ts) (f.Attributes m i v) fs out q ∙ word_at (k.Assign None) z ts (f.Attributes m (i + 1) true) fs o r
            ∙ reads_tilde d (at f.Word (x ∷ fs) o) (x ∷ fs) o (λ t more q. word_at k.TildeOpen t more x fs o q),
      )
  reads_attribute (a_dollar {ts} {rest} {t} {z} {e} q r d) m i v fs out =
      let o = out ++ n.AttributeName (mark t) ∷ [] in let x = f.AttributeValue m (i + 1) in (
        false,
        word_at k.AttributeName t (z ∷ ts) (f.Attributes m i v) fs out q ∙ word_at (k.Assign None) z ts (f.Attributes m (i + 1) true) fs o r
            ∙ reads_dollar d (at f.Word (x ∷ fs) o) (x ∷ fs) o (λ t more q. word_at k.DollarOpen t more x fs o q),
      )

  pub reads_attributes : {ts rest : Tokens} {ats : Attributes} → ReadsAttributes ts rest ats → (m : Mark) (fs : List Level) (out : Nodes)
      → (w : Bool) × (run ts (at f.Word (f.Attributes m 0 false ∷ fs) out) ≡ run rest (at f.Word (f.Attributes m (attributes_count ats) w ∷ fs) (attributes_nodes ats out)))
  reads_attributes no_attribute m fs out = (false, refl)
  reads_attributes (next_attribute {ts} {mid} {rest} {ats} {a} das d) m fs out =
      let i = reads_attributes das m fs out in
      let j = reads_attribute d m (attributes_count ats) i.0 fs (attributes_nodes ats out) in
      (j.0, i.1 ∙ j.1)

  pub reads_child : {ts rest : Tokens} {c : Child} → ReadsChild ts rest c → (m : Mark) (a i : ℕ) (fs : List Level) (out : Nodes)
      → run ts (at f.Word (f.Children m a i ∷ fs) out) ≡ run rest (at f.Word (f.Children m a (i + 1) ∷ fs) (child_nodes c out))
  reads_child (c_text {rest} {t} q) m a i fs out = word_at k.ChildText t rest (f.Children m a i) fs out q
  reads_child (c_element d) m a i fs out =
      let x = f.Children m a i in reads_element d (at f.Word (x ∷ fs) out) (x ∷ fs) out (λ t more q. word_at k.TagOpen t more x fs out q)
  reads_child (c_tilde d) m a i fs out =
      let x = f.Children m a i in reads_tilde d (at f.Word (x ∷ fs) out) (x ∷ fs) out (λ t more q. word_at k.TildeOpen t more x fs out q)
  reads_child (c_dollar d) m a i fs out =
      let x = f.Children m a i in reads_dollar d (at f.Word (x ∷ fs) out) (x ∷ fs) out (λ t more q. word_at k.DollarOpen t more x fs out q)

  pub reads_children : {ts rest : Tokens} {cs : Children} → ReadsChildren ts rest cs → (m : Mark) (a : ℕ) (fs : List Level) (out : Nodes)
      → run ts (at f.Word (f.Children m a 0 ∷ fs) out) ≡ run rest (at f.Word (f.Children m a (children_count cs) ∷ fs) (children_nodes cs out))
  reads_children no_child m a fs out = refl
  reads_children (next_child {cs} dcs d) m a fs out = reads_children dcs m a fs out ∙ reads_child d m a (children_count cs) fs (children_nodes cs out)

  pub reads_decl : {kd : VarKind} {ts rest : Tokens} {x : Decl} → ReadsDecl kd ts rest x → (d : Declaration) → kind_of d ≡ kd → (p : Place) (c : ℕ) (fs : List Level) (out : Nodes) → Stops 0 rest
      → Declared ts rest d p c (c + 1) fs out (decl_nodes x out)
  reads_decl (d_only {rest} {t} q nv) d e p c fs out stops =
      let o = out ++ n.DeclName (mark t) ∷ [] in (
        at f.Word (f.DeclNext d p (c + 1) ∷ fs) o,
        word_at k.Name t rest (f.DeclName d p c) fs out q,
        λ y t' more h g. word_at y t' more (f.DeclNext d p (c + 1)) fs o g ∙ ap (run more) (next_declared t' y d p (c + 1) fs o h (ap needs_value e ∙ nv)),
      )
  reads_decl (d_as {ts} {rest} {t} {z} {e = a} q r de) d e p c fs out stops =
      let o = out ++ n.DeclName (mark t) ∷ [] in let x = f.DeclValue d p (c + 1) in (
        at (f.Value (place_of ts) (is_target a)) (x ∷ fs) (expr_nodes a o),
        word_at k.Name t (z ∷ ts) (f.DeclName d p c) fs out q ∙ word_at (k.Assign None) z ts (f.DeclNext d p (c + 1)) fs o r ∙ reads de x fs o (omega arith) stops,
        λ y t' more h g. stopped y t' more (place_of ts) (is_target a) x fs (expr_nodes a o) refl h g,
      )

  pub reads_decls : {kd : VarKind} {ts rest : Tokens} {ds : Decls} → ReadsDecls kd ts rest ds → (d : Declaration) → kind_of d ≡ kd → (p : Place) (fs : List Level) (out : Nodes) → Stops 0 rest
      → Declared ts rest d p 0 (decls_count ds) fs out (decls_nodes ds out)
  reads_decls (first_decl dx) d e p fs out stops = reads_decl dx d e p 0 fs out stops
  reads_decls (next_decl {mid} {c} {ds} dds q dx) d e p fs out stops =
      let i = reads_decls dds d e p fs out (closes k.Comma c mid refl q) in
      let j = reads_decl dx d e p (decls_count ds) fs (decls_nodes ds out) stops in
      (j.0, i.1 ∙ i.2 k.Comma c mid refl q ∙ j.1, j.2)

  pub reads_optional : {y : Terminal} {ts rest : Tokens} {o : Optional} → ReadsOptional y ts rest o → (x : Level) (fs : List Level) (next : Nodes → Next) → LeavesOut y x fs next → (out : Nodes)
      → run ts (at f.First (x ∷ fs) out) ≡ run rest (next (optional_nodes o out))
  reads_optional (o_absent {y} {c} {rest} q) x fs next leaves out = first_at y c rest (x ∷ fs) out q ∙ ap (run rest) (leaves.none c out)
  reads_optional (o_present {y} {ts} {rest} {c} {e} d q) x fs next leaves out =
      let o = expr_nodes e out in
      first_operand ts (x ∷ fs) out (starts d) ∙ reads d x fs out leaves.low (closes y c rest leaves.ends q)
      ∙ close_at y c rest (place_of ts) (is_target e) x fs o (leaves.calm (is_target e)) leaves.low q ∙ ap (run rest) (leaves.some c (place_of ts) (is_target e) o)

  pub reads_start : {ts rest : Tokens} {a : Start} → ReadsStart ts rest a → (p : Place) (fs : List Level) (out : Nodes)
      → run ts (at f.First (f.ForStart p ∷ fs) out) ≡ run rest (at f.First (f.ForTest p ∷ fs) (start_nodes a out))
  reads_start (f_optional d) p fs out = reads_optional d (f.ForStart p) fs (λ out. at f.First (f.ForTest p ∷ fs) (out ++ n.StartOptional ∷ [])) (at_start p fs) out
  reads_start (f_vars {ts} {rest} {v} {c} {ds} q dds r) p fs out =
      let i = reads_decls dds declaration.ForStart refl p fs out (closes k.Semicolon c rest refl r) in
      first_at (k.Declare var_kind.Var) v ts (f.ForStart p ∷ fs) out q ∙ i.1 ∙ i.2 k.Semicolon c rest refl r

  -- a block, wherever its brace opens one
  pub reads_block : {ts rest : Tokens} {s : Stmt} → ReadsBlock ts rest s → (z : Next) (fs : List Level) (out : Nodes)
      → ((t : Token) (more : Tokens) → terminal t ≡ k.OpenBrace → run (t ∷ more) z ≡ run more (at f.Statement (f.Block t.place 0 ∷ fs) out))
      → run ts z ≡ run rest (at f.Finished fs (stmt_nodes s out))
  reads_block (block_of {ts} {rest} {o} {c} {ss} q dss r) z fs out begin =
      begin o ts q ∙ reads_stmts dss (λ i. f.Block o.place i) (in_block o.place) fs out
      ∙ statement_at k.CloseBrace c rest (f.Block o.place (stmts_count ss) ∷ fs) (stmts_nodes ss out) r

  pub reads_body : {ts rest : Tokens} {s : Stmt} → ReadsBody ts rest s → (fs : List Level) (out : Nodes)
      → run ts (at f.Body fs out) ≡ run rest (at f.Finished fs (stmt_nodes s out))
  reads_body (b_block d) fs out = reads_block d (at f.Body fs out) fs out (λ t more q. body_at k.OpenBrace t more fs out q)
  reads_body (b_single {ts} {rest} {s} h d) fs out =
      body_single ts fs out h (stmt_some d) ∙ reads_stmt d (f.Single (place_of ts) ∷ fs) out ∙ single rest (place_of ts) fs (stmt_nodes s out)

  pub reads_stmt : {ts rest : Tokens} {s : Stmt} → ReadsStmt ts rest s → (fs : List Level) (out : Nodes)
      → run ts (at f.Statement fs out) ≡ run rest (at f.Finished fs (stmt_nodes s out))
  reads_stmt (s_var {ts} {mid} {rest} {v} {ds} d q dds e) fs out =
      let p = v.place in let c = decls_count ds in let o = decls_nodes ds out in
      let i = reads_decls dds (declaration.Statement d) refl p fs out (Ends-stops e) in
      statement_at (k.Declare d) v ts fs out q ∙ i.1
      ∙ ended i.0 fs (o ++ n.Var p d c ∷ []) e (λ y t more h g. i.2 y t more (stop_end y h) g ∙ ap (run more) (declared_ends t y d p c fs o h))
  reads_stmt (s_if {ts} {mid} {rest} {i} {o} {c} {e} {s} q r de z ds h) fs out =
      let p = i.place in let out' = expr_nodes e out in
      statement_at k.If i (o ∷ ts) fs out q ∙ word_at k.Open o ts (f.IfOpen p) fs out r
      ∙ reads de (f.IfTest p) fs out (omega arith) (closes k.Close c mid refl z) ∙ close_at k.Close c mid (place_of ts) (is_target e) (f.IfTest p) fs out' refl (omega arith) z
      ∙ reads_body ds (f.IfThen p ∷ fs) out' ∙ if_done rest p fs (stmt_nodes s out') h
  reads_stmt (s_if_else {ts} {mid} {after} {rest} {i} {o} {c} {w} {e} {s} {d} q r de z ds y dd) fs out =
      let p = i.place in let out' = expr_nodes e out in
      statement_at k.If i (o ∷ ts) fs out q ∙ word_at k.Open o ts (f.IfOpen p) fs out r
      ∙ reads de (f.IfTest p) fs out (omega arith) (closes k.Close c mid refl z) ∙ close_at k.Close c mid (place_of ts) (is_target e) (f.IfTest p) fs out' refl (omega arith) z
      ∙ reads_body ds (f.IfThen p ∷ fs) out' ∙ finished_at k.Else w after (f.IfThen p ∷ fs) (stmt_nodes s out') y
      ∙ reads_body dd (f.IfElse p ∷ fs) (stmt_nodes s out') ∙ else_done rest p fs (stmt_nodes d (stmt_nodes s out'))
  reads_stmt (s_while {ts} {mid} {rest} {i} {o} {c} {e} {s} q r de z ds) fs out =
      let p = i.place in let out' = expr_nodes e out in
      statement_at k.While i (o ∷ ts) fs out q ∙ word_at k.Open o ts (f.WhileOpen p) fs out r
      ∙ reads de (f.WhileTest p) fs out (omega arith) (closes k.Close c mid refl z) ∙ close_at k.Close c mid (place_of ts) (is_target e) (f.WhileTest p) fs out' refl (omega arith) z
      ∙ reads_body ds (f.WhileBody p ∷ fs) out' ∙ while_done rest p fs (stmt_nodes s out')
  reads_stmt (s_for {ts} {two} {three} {body} {rest} {i} {o} {a} {b} {c} {s} q r da db dc ds) fs out =
      let p = i.place in let o1 = start_nodes a out in let o2 = optional_nodes b o1 in let o3 = optional_nodes c o2 in
      statement_at k.For i (o ∷ ts) fs out q ∙ word_at k.Open o ts (f.ForOpen p) fs out r ∙ reads_start da p fs out
      ∙ reads_optional db (f.ForTest p) fs (λ out. at f.First (f.ForStep p ∷ fs) out) (at_test p fs) o1
      ∙ reads_optional dc (f.ForStep p) fs (λ out. at f.Body (f.ForBody p ∷ fs) out) (at_step p fs) o2
      ∙ reads_body ds (f.ForBody p ∷ fs) o3 ∙ for_done rest p fs (stmt_nodes s o3)
  reads_stmt (s_return {ts} {rest} {t} q e) fs out =
      let x = f.Return t.place in
      statement_at k.Return t ts fs out q
      ∙ ended (at f.First (x ∷ fs) out) fs (out ++ n.Absent ∷ [] ++ n.Return t.place ∷ []) e (λ y t' more h g. first_at y t' more (x ∷ fs) out g ∙ ap (run more) (return_ends t' y t.place fs out h))
  reads_stmt (s_return_value {ts} {mid} {rest} {t} {e} q de en) fs out =
      let x = f.Return t.place in let s = place_of ts in let v = is_target e in let o = expr_nodes e out in
      statement_at k.Return t ts fs out q ∙ first_operand ts (x ∷ fs) out (starts de) ∙ reads de x fs out (omega arith) (Ends-stops en)
      ∙ ended (at (f.Value s v) (x ∷ fs) o) fs (o ++ n.Present ∷ [] ++ n.Return t.place ∷ []) en (λ y t' more h g. stopped y t' more s v x fs o refl (stop_end y h) g)
  reads_stmt (s_jump {ts} {rest} {t} j q e) fs out =
      let x = f.Jump t.place j in
      statement_at (k.Jump j) t ts fs out q ∙ ended (at f.Word (x ∷ fs) out) fs (out ++ n.Jump t.place j ∷ []) e (λ y t' more h g. word_at y t' more x fs out g)
  reads_stmt (s_throw {ts} {mid} {rest} {t} {e} q de en) fs out =
      let x = f.Throw t.place in let s = place_of ts in let v = is_target e in let o = expr_nodes e out in
      statement_at k.Throw t ts fs out q ∙ reads de x fs out (omega arith) (Ends-stops en)
      ∙ ended (at (f.Value s v) (x ∷ fs) o) fs (o ++ n.Throw t.place ∷ []) en (λ y t' more h g. stopped y t' more s v x fs o refl (stop_end y h) g)
  reads_stmt (s_try {ts} {mid} {rest} {t} {w} {o} {n = m} {c} {s} {d} q ds qw qo qn qc dd) fs out =
      let p = t.place in let o1 = stmt_nodes s out in let o2 = o1 ++ n.Word (mark m) ∷ [] in
      statement_at k.Try t ts fs out q
      ∙ reads_block ds (at f.Word (f.TryOpen p ∷ fs) out) (f.TryBlock p ∷ fs) out (λ t more q. word_at k.OpenBrace t more (f.TryOpen p) fs out q)
      ∙ finished_at k.Catch w (o ∷ m ∷ c ∷ mid) (f.TryBlock p ∷ fs) o1 qw ∙ word_at k.Open o (m ∷ c ∷ mid) (f.CatchOpen p) fs o1 qo ∙ word_at k.Name m (c ∷ mid) (f.CatchName p) fs o1 qn
      ∙ word_at k.Close c mid (f.CatchClose p) fs o2 qc
      ∙ reads_block dd (at f.Word (f.CatchBrace p ∷ fs) o2) (f.CatchBlock p ∷ fs) o2 (λ t more q. word_at k.OpenBrace t more (f.CatchBrace p) fs o2 q)
      ∙ try_done rest p fs (stmt_nodes d o2)
  reads_stmt (s_block d) fs out = reads_block d (at f.Statement fs out) fs out (λ t more q. statement_at k.OpenBrace t more fs out q)
  reads_stmt (s_empty {rest} {t} q) fs out = statement_at k.Semicolon t rest fs out q
  reads_stmt (s_expression {ts} {mid} {rest} {e} h de en) fs out =
      let s = place_of ts in let x = f.Expression s in let v = is_target e in let o = expr_nodes e out in
      statement_operand ts fs out (starts de) h ∙ reads de x fs out (omega arith) (Ends-stops en)
      ∙ ended (at (f.Value s v) (x ∷ fs) o) fs (o ++ n.Expression s ∷ []) en (λ y t' more h g. stopped y t' more s v x fs o refl (stop_end y h) g)

  pub reads_stmts : {ts rest : Tokens} {ss : Stmts} → ReadsStmts ts rest ss → (g : ℕ → Level) → Holds g → (fs : List Level) (out : Nodes)
      → run ts (at f.Statement (g 0 ∷ fs) out) ≡ run rest (at f.Statement (g (stmts_count ss) ∷ fs) (stmts_nodes ss out))
  reads_stmts no_stmt g holds fs out = refl
  reads_stmts (next_stmt {ts} {mid} {rest} {ss} {s} dss d) g holds fs out =
      reads_stmts dss g holds fs out ∙ reads_stmt d (g (stmts_count ss) ∷ fs) (stmts_nodes ss out)
      ∙ holds.next (stmts_count ss) rest fs (stmt_nodes s (stmts_nodes ss out))

  pub reads_item : {ts rest : Tokens} {s : Stmt} → ReadsItem ts rest s → (fs : List Level) (out : Nodes) → takes_items fs ≡ true
      → run ts (at f.Statement fs out) ≡ run rest (at f.Finished fs (stmt_nodes s out))
  reads_item (i_function {ts} {rest} {h} {ns} {ss} d g) fs out takes =
      let z = heading_of h in
      ap (λ w. run ts (at w fs out)) (sym (head_statement z g)) ∙ reads_function d fs out (takes_item z fs takes)
      ∙ ap (run rest) (item_closed z (place_of ts) (names_count ns) (stmts_count ss) fs (stmts_nodes ss (names_nodes ns (title_nodes h out))) g)
  reads_item (i_statement d) fs out takes = reads_stmt d fs out

  pub reads_items : {ts rest : Tokens} {ss : Stmts} → ReadsItems ts rest ss → (g : ℕ → Level) → HoldsItems g → (fs : List Level) (out : Nodes)
      → run ts (at f.Statement (g 0 ∷ fs) out) ≡ run rest (at f.Statement (g (stmts_count ss) ∷ fs) (stmts_nodes ss out))
  reads_items no_item g items fs out = refl
  reads_items (next_item {ts} {mid} {rest} {ss} {s} dss d) g items fs out =
      reads_items dss g items fs out ∙ reads_item d (g (stmts_count ss) ∷ fs) (stmts_nodes ss out) (items.takes (stmts_count ss) fs)
      ∙ items.holds.next (stmts_count ss) rest fs (stmt_nodes s (stmts_nodes ss out))

-- what has a derivation is read, and its nodes are those of the tree
pub complete : (ts : Tokens) (ss : Stmts) → IsProgram ts ss → parsed ts ≡ Some (stmts_nodes ss [])
complete ts ss d = reads_items d f.Program in_program [] []
