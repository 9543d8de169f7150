-- Behind an expression the machine stays within a derivation.
use Rattle.std.proofs.Common.{◌≡◌, ℕ, suc, ◌≤◌, Bool, true, false, cond, ◌&&◌, nat_le, List, ◌∷◌, Option, None, refl, ◌∙◌, subst, arith}
use Rattle.std.proofs.lemmas.Bool.{leb-true}
use Rattle.mt_tree.specs.declared.place.Place.{Place}
use Rattle.mt_tree.specs.declared.operators.Binary.{Binary}
use Rattle.mt_grammar.specs.declared.terminal.Infix.{Infix}
use Rattle.mt_grammar.specs.declared.terminal.StepSign.{StepSign}
use Rattle.mt_grammar.specs.declared.terminal.Terminal.{Terminal}
use Rattle.mt_grammar.specs.declared.terminal.Terminal.TheVariants as k
use Rattle.mt_grammar.specs.Token.{Token, Tokens, place_of, terminal}
use Rattle.mt_grammar.specs.Nodes.{Nodes, expr_nodes}
use Rattle.mt_grammar.specs.Stack.{Level, Focus}
use Rattle.mt_grammar.specs.Stack as f
use Rattle.mt_grammar.specs.Grammar.{mark, precedence_of, step_before, step_after, Reads, r_assign, r_condition, r_operation, r_unary, r_step_before, r_step_after, r_index, r_call, r_paren, r_array, r_object, dollar_of, d_as, o_present, f_optional, s_return_value, s_throw, s_expression}
use Rattle.mt_grammar.specs.Tree.{Expr, array, object, unary, step, operation, condition, assign, index, call, exprs_and, props_and, decl_as, decls_and, present, start_optional, expression, return, throw, is_target}
use Rattle.mt_grammar.specs.Machine.{at, awaits_at, binding, made_at, stop_by, close_by, shift_by, value_by}
use Rattle.mt_grammar.proofs.Open.{a_value, an_end, wants, no_expr, some_exprs, some_props, Open, o_if_test, o_if_then, o_while_test, o_while_body, o_for_start, o_for_test, o_for_step, o_for_body, o_decl_value, o_return, o_throw, o_statement, o_paren, o_operation, o_unary, o_step_before, o_step_after, o_assign, o_cond_test, o_cond_else, o_dot, o_index, o_arguments, o_array, o_object_key, o_object_value, o_dollar, g_body, g_operand, g_first, g_word, g_value, g_stepped, Safe}
use Rattle.mt_grammar.proofs.Precedence.{precedence_between, bound}
use Rattle.mt_grammar.proofs.Rows.{down, with_expr, with_prop, with_decl}
use Rattle.mt_grammar.proofs.SafeStatements.{either_way, or_refused, dollar_done, ended_safe, declared_safe}

module _ (all : Tokens) where
  -- ---- after an expression

  module _ (ts : Tokens) (t : Token) where
    at_close : {x : Level} {fs : List Level} {out : Nodes} {mid : Tokens} {e : Expr} → terminal t ≡ k.Close → Open all (x ∷ fs) out mid → Reads 0 mid (t ∷ ts) e → Safe all (close_by t k.Close (is_target e) x fs (expr_nodes e out)) ts
    unfolding expr_nodes
    at_close q (o_paren d w o) de = g_value d w (r_paren o de q) refl
    at_close q (o_if_test d w i o) de = g_body (o_if_then d w i o de q) refl
    at_close q (o_while_test d w i o) de = g_body (o_while_body d w i o de q) refl
    at_close {e} q (o_for_step d w i o da db) de = g_body (o_for_body {c = present e} d w i o da db (o_present de q)) refl
    at_close {e} q (o_arguments {mid} {a} {es} d w da o some) de = g_value {e = call (place_of mid) a (exprs_and es e)} d w (r_call da o (with_expr some de) q) refl
    at_close q d de = tt

    at_square : {x : Level} {fs : List Level} {out : Nodes} {mid : Tokens} {e : Expr} → terminal t ≡ k.CloseSquare → Open all (x ∷ fs) out mid → Reads 0 mid (t ∷ ts) e
        → Safe all (close_by t k.CloseSquare (is_target e) x fs (expr_nodes e out)) ts
    unfolding expr_nodes
    at_square {e} q (o_index {mid} {a} d w da o) de = g_value {e = index (place_of mid) a e} d w (r_index da o de q) refl
    at_square {e} q (o_array {o} {es} d w b some) de = g_value {e = array o.place (exprs_and es e)} d w (r_array b (with_expr some de) q) refl
    at_square q d de = tt

    at_colon : {x : Level} {fs : List Level} {out : Nodes} {mid : Tokens} {e : Expr} → terminal t ≡ k.Colon → Open all (x ∷ fs) out mid → Reads 0 mid (t ∷ ts) e → Safe all (close_by t k.Colon (is_target e) x fs (expr_nodes e out)) ts
    at_colon q (o_cond_test d w low da hq) de = g_operand (o_cond_else d w low da hq de q) refl
    at_colon q d de = tt

    -- where a statement may end, or a declaration
    at_stop : {x : Level} {fs : List Level} {out : Nodes} {mid : Tokens} {e : Expr} (y : Terminal) → terminal t ≡ y → Open all (x ∷ fs) out mid → Reads 0 mid (t ∷ ts) e → Safe all (stop_by t y x fs (expr_nodes e out)) ts
    unfolding expr_nodes
    at_stop {e} y q (o_decl_value {t = m} {ds} d w b some qm qz) de = declared_safe all {ds = decls_and ds (decl_as (mark m) e)} ts t y q d w b (with_decl some (d_as qm qz de))
    at_stop {e} y q (o_return {t = r} d w qr) de = ended_safe all ts t y q d w (return r.place (present e)) (λ r z. s_return_value qr de z)
    at_stop {e} y q (o_throw {t = r} d w qr) de = ended_safe all ts t y q d w (throw r.place e) (λ r z. s_throw qr de z)
    at_stop {mid} {e} y q (o_statement d w g) de = ended_safe all ts t y q d w (expression (place_of mid) e) (λ r z. s_expression g de z)
    at_stop y q d de = tt

    at_comma : {x : Level} {fs : List Level} {out : Nodes} {mid : Tokens} {e : Expr} → terminal t ≡ k.Comma → Open all (x ∷ fs) out mid → Reads 0 mid (t ∷ ts) e → Safe all (close_by t k.Comma (is_target e) x fs (expr_nodes e out)) ts
    unfolding expr_nodes
    at_comma {e} q (o_arguments {es} d w da o some) de = g_operand (o_arguments {es = exprs_and es e} d w da o (some_exprs (with_expr some de) q)) refl
    at_comma {e} q (o_array {es} d w b some) de = g_first (o_array {es = exprs_and es e} d w b (some_exprs (with_expr some de) q)) refl
    at_comma {e} q (o_object_value {ps} {y = z} d w o some kt c) de = g_word (o_object_key {ps = props_and ps z e} d w o (some_props (with_prop some kt c de) q)) refl
    at_comma q d de = at_stop k.Comma q d de

    at_semicolon : {x : Level} {fs : List Level} {out : Nodes} {mid : Tokens} {e : Expr} → terminal t ≡ k.Semicolon → Open all (x ∷ fs) out mid → Reads 0 mid (t ∷ ts) e
        → Safe all (close_by t k.Semicolon (is_target e) x fs (expr_nodes e out)) ts
    unfolding expr_nodes
    at_semicolon {e} q (o_for_start d w i o) de = g_first (o_for_test {a = start_optional (present e)} d w i o (f_optional (o_present de q))) refl
    at_semicolon {e} q (o_for_test d w i o da) de = g_first (o_for_step {b = present e} d w i o da (o_present de q)) refl
    at_semicolon q d de = at_stop k.Semicolon q d de

    at_brace : {x : Level} {fs : List Level} {out : Nodes} {mid : Tokens} {e : Expr} → terminal t ≡ k.CloseBrace → Open all (x ∷ fs) out mid → Reads 0 mid (t ∷ ts) e
        → Safe all (close_by t k.CloseBrace (is_target e) x fs (expr_nodes e out)) ts
    unfolding expr_nodes
    at_brace {e} q (o_object_value {o} {ps} {y = z} d w b some kt c) de = g_value {e = object o.place (props_and ps z e)} d w (r_object b (with_prop some kt c de) q) refl
    at_brace q (o_dollar d w o) de = dollar_done all d w (dollar_of o de q)
    at_brace q d de = at_stop k.CloseBrace q d de

  pub assign_safe : {x : Level} {fs : List Level} {out : Nodes} {mid ts : Tokens} {t : Token} {e : Expr} (o : Option Binary) (v : Bool) → is_target e ≡ v → terminal t ≡ k.Assign o → Open all (x ∷ fs) out mid → wants x ≡ a_value
      → Reads 10 mid (t ∷ ts) e → awaits_at x ≤ 0 → Safe all (cond v (at f.Operand (f.Assign o (place_of mid) ∷ x ∷ fs) (expr_nodes e out)) None) ts
  assign_safe o true h q d w de low = g_operand (o_assign o d w low de h q) refl
  assign_safe o false h q d w de low = tt

  pub step_safe : {x : Level} {fs : List Level} {out : Nodes} {mid ts : Tokens} {t : Token} {e : Expr} (s : StepSign) (v : Bool) → is_target e ≡ v → terminal t ≡ k.Step s → Open all (x ∷ fs) out mid → wants x ≡ a_value
      → Reads 10 mid (t ∷ ts) e → awaits_at x ≤ 9 → Safe all (cond v (at (f.Value (place_of mid) false) (f.StepAfter (step_after s) (place_of mid) ∷ x ∷ fs) (expr_nodes e out)) None) ts
  step_safe s true h q d w de low = g_stepped (o_step_after s d w low de h q) refl
  step_safe s false h q d w de low = tt

  pub shift_safe : {x : Level} {fs : List Level} {out : Nodes} {mid : Tokens} {e : Expr} {v : Bool} (ts : Tokens) (t : Token) (y : Terminal) (l : ℕ) → terminal t ≡ y → Open all (x ∷ fs) out mid → wants x ≡ a_value
      → Reads l mid (t ∷ ts) e → is_target e ≡ v → binding y ≤ l → l ≤ 10 → awaits_at x ≤ made_at y → Safe all (shift_by t y (place_of mid) v x fs (expr_nodes e out)) ts
  unfolding expr_nodes
  shift_safe ts t k.Dot l q d w de g b h r = g_word (o_dot d w (down 10 l (omega arith) de) q) refl
  shift_safe ts t k.OpenSquare l q d w de g b h r = g_operand (o_index d w (down 10 l (omega arith) de) q) refl
  shift_safe ts t k.Open l q d w de g b h r = g_first (o_arguments d w (down 10 l (omega arith) de) q no_expr) refl
  shift_safe ts t (k.Assign o) l q d w de g b h r = assign_safe o _ g q d w (down 10 l (omega arith) de) r
  shift_safe ts t (k.Step s) l q d w de g b h r = step_safe s _ g q d w (down 10 l (omega arith) de) r
  shift_safe ts t (k.Infix o) l q d w de g b h r = g_operand (o_operation o d w r (down (precedence_of o) l b de) q) refl
  shift_safe ts t k.Question l q d w de g b h r = g_operand (o_cond_test d w r (down 2 l b de) q) refl
  shift_safe {x} {fs} {out} {e} ts t k.Colon l q d w de g b h r = subst (λ (v : Bool). Safe all (close_by t k.Colon v x fs (expr_nodes e out)) ts) g (at_colon ts t q d (down 0 l b de))
  shift_safe {x} {fs} {out} {e} ts t k.Close l q d w de g b h r = subst (λ (v : Bool). Safe all (close_by t k.Close v x fs (expr_nodes e out)) ts) g (at_close ts t q d (down 0 l b de))
  shift_safe {x} {fs} {out} {e} ts t k.CloseSquare l q d w de g b h r = subst (λ (v : Bool). Safe all (close_by t k.CloseSquare v x fs (expr_nodes e out)) ts) g (at_square ts t q d (down 0 l b de))
  shift_safe {x} {fs} {out} {e} ts t k.Comma l q d w de g b h r = subst (λ (v : Bool). Safe all (close_by t k.Comma v x fs (expr_nodes e out)) ts) g (at_comma ts t q d (down 0 l b de))
  shift_safe {x} {fs} {out} {e} ts t k.Semicolon l q d w de g b h r = subst (λ (v : Bool). Safe all (close_by t k.Semicolon v x fs (expr_nodes e out)) ts) g (at_semicolon ts t q d (down 0 l b de))
  shift_safe {x} {fs} {out} {e} ts t k.CloseBrace l q d w de g b h r = subst (λ (v : Bool). Safe all (close_by t k.CloseBrace v x fs (expr_nodes e out)) ts) g (at_brace ts t q d (down 0 l b de))
  shift_safe ts t y l q d w de g b h r = tt

  -- where the topmost level is no operator that ends here
  pub past : {x : Level} {fs : List Level} {out : Nodes} {mid : Tokens} {e : Expr} {v : Bool} (ts : Tokens) (t : Token) (l : ℕ) → Open all (x ∷ fs) out mid → wants x ≡ a_value → Reads l mid (t ∷ ts) e → is_target e ≡ v
      → binding (terminal t) ≤ l → l ≤ 10 → Safe all (cond (nat_le (awaits_at x) (made_at (terminal t))) (shift_by t (terminal t) (place_of mid) v x fs (expr_nodes e out)) None) ts
  past {x} ts t l d w de g b h = or_refused all _ _ ts (λ r. shift_safe ts t (terminal t) l refl d w de g b h (leb-true _ _ r))

  pub both : (v b : Bool) → (v && b) ≡ true → (v ≡ true) × (b ≡ true)
  both true b h = (refl, h)
  both false b h = absurd cc

  pub precedence_small : (o : Infix) → precedence_of o ≤ 10
  precedence_small o = let b = (precedence_between o).1 in omega arith

  pub value_safe : {x : Level} {fs : List Level} {out : Nodes} {mid : Tokens} {v : Bool} (ts : Tokens) (t : Token) (l : ℕ) → Open all (x ∷ fs) out mid → wants x ≡ a_value → (e : Expr) → Reads l mid (t ∷ ts) e
      → is_target e ≡ v → awaits_at x ≤ l → binding (terminal t) ≤ l → l ≤ 10 → Safe all (value_by t (terminal t) (place_of mid) v (x ∷ fs) (expr_nodes e out)) ts
  unfolding expr_nodes
  value_safe ts t l (o_operation {mid = begin} {a} o d wx low da q) w e de g aw bl h =
      either_way all _ _ _ ts
      (λ r. let z : binding (terminal t) ≤ precedence_of o = leb-true _ _ r in
      value_safe ts t (precedence_of o) d wx (operation (place_of begin) o a e) (r_operation o refl da q (down (suc (precedence_of o)) l (omega arith) de)) refl low z (precedence_small o))
      (λ r. past ts t l (o_operation o d wx low da q) w de g bl h)
  value_safe ts t l (o_unary {t = m} u d wx low q) w e de g aw bl h =
      either_way all _ _ _ ts
      (λ r. let z : binding (terminal t) ≤ 8 = leb-true _ _ r in value_safe ts t 8 d wx (unary m.place u e) (r_unary u q (down 8 l aw de)) refl low z (omega arith))
      (λ r. past ts t l (o_unary u d wx low q) w de g bl h)
  value_safe {v} ts t l (o_step_before {t = m} s d wx low q) w e de g aw bl h =
      either_way all _ _ _ ts
      (λ r. let two = both v (nat_le (binding (terminal t)) 9) r in
      let z : binding (terminal t) ≤ 9 = leb-true _ _ two.1 in
      value_safe ts t 8 d wx (step m.place (step_before s) e) (r_step_before s q (down 10 l aw de) (g ∙ two.0)) refl low ((bound (terminal t)).not_nine z) (omega arith))
      (λ r. past ts t l (o_step_before s d wx low q) w de g bl h)
  value_safe ts t l (o_assign {mid = begin} {a} o d wx low da ta q) w e de g aw bl h =
      either_way all _ _ _ ts
      (λ r. let z : binding (terminal t) ≤ 0 = leb-true _ _ r in value_safe ts t 0 d wx (assign (place_of begin) o a e) (r_assign o da ta q (down 0 l (omega arith) de)) refl low z (omega arith))
      (λ r. past ts t l (o_assign o d wx low da ta q) w de g bl h)
  value_safe ts t l (o_cond_else {begin} {a} {b} d wx low da hq db hc) w e de g aw bl h =
      either_way all _ _ _ ts
      (λ r. let z : binding (terminal t) ≤ 0 = leb-true _ _ r in
      value_safe ts t 1 d wx (condition (place_of begin) a b e) (r_condition da hq db hc (down 0 l (omega arith) de)) refl low (omega arith) (omega arith))
      (λ r. past ts t l (o_cond_else d wx low da hq db hc) w de g bl h)
  value_safe ts t l (o_step_after s d wx low da ta q) w e de g aw bl h = absurd cc
  value_safe ts t l d w e de g aw bl h = past ts t l d w de g bl h

  -- behind a step after its target
  pub stepped_safe : {x : Level} {fs : List Level} {out : Nodes} (s : Place) (ts : Tokens) (t : Token) → Open all (x ∷ fs) out (t ∷ ts) → wants x ≡ an_end → Safe all (value_by t (terminal t) s false (x ∷ fs) out) ts
  unfolding expr_nodes
  stepped_safe begin ts t (o_step_after {mid} {a} s d w low da ta q) h =
      either_way all _ _ _ ts
      (λ r. let z : binding (terminal t) ≤ 9 = leb-true _ _ r in value_safe ts t 9 d w (step (place_of mid) (step_after s) a) (r_step_after s da ta q) refl low z (omega arith))
      (λ r. or_refused all _ _ ts (λ u. let a : 11 ≤ made_at (terminal t) = leb-true _ _ u in let b = (bound (terminal t)).made in absurd (omega arith)))
  stepped_safe begin ts t d h = absurd cc
