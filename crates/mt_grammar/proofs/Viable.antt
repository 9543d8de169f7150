-- Where the machine refuses a token, and only there, no program goes on with the tokens so far.
use Rattle.std.proofs.Common.{◌≡◌, false, List, [], ◌∷◌, ◌++◌, Some, None, refl, ap, ◌∙◌, subst}
use Rattle.mt_grammar.specs.Token.{Tokens, nowhere, terminal}
use Rattle.mt_grammar.specs.Nodes.{Node, Nodes, names_nodes, title_nodes, key_node, expr_nodes, exprs_nodes, props_nodes, attribute_nodes, attributes_nodes, child_nodes, children_nodes, decl_nodes, decls_nodes, optional_nodes, start_nodes, stmt_nodes, stmts_nodes}
use Rattle.mt_grammar.specs.Nodes as n
use Rattle.mt_grammar.specs.Stack.{Level, Focus}
use Rattle.mt_grammar.specs.Grammar.{mark, no_item}
use Rattle.mt_grammar.specs.Machine.{Configuration, Next, at, feed, run, after, start, parsed}
use Rattle.mt_grammar.proofs.Open.{takes_block, o_program, g_statement, g_body, g_operand, g_first, g_word, g_value, g_stepped, g_finished, Good, Safe}
use Rattle.mt_grammar.specs.Continues.{BeginsProgram}
use Rattle.mt_grammar.proofs.Parts.{single}
use Rattle.mt_grammar.proofs.Complete.{complete}
use Rattle.mt_grammar.proofs.Sound.{after_safe, sound}
use Rattle.mt_grammar.proofs.Stands.{a_number, a_semicolon, leaves_value, stands}
use Rattle.mt_grammar.proofs.Endings.{along, CanEnd, statement_begins, word_ends, stepped_ends, after_value, after_statement, value_ends, statement_ends}

nothing_more : (ts : Tokens) → run ts None ≡ None
nothing_more [] = refl
nothing_more (t ∷ ts) = nothing_more ts

pub run-append : (front more : Tokens) (s : Next) → run (front ++ more) s ≡ run more (after front s)
run-append [] more s = refl
run-append (t ∷ front) more s = run-append front more (feed t s)

-- no program begins with tokens that are refused
pub no_program : (front : Tokens) → after front start ≡ None → BeginsProgram front → ⊥
no_program front h b =
    let more = b.0 in let ss = b.1 in let d = b.2 in
    let none : run (front ++ more) start ≡ None = run-append front more start ∙ ap (run more) h ∙ nothing_more more in
    let some : run (front ++ more) start ≡ Some (stmts_nodes ss []) = complete (front ++ more) ss d in
    cc

module _ (all : Tokens) where
  good_ends : {x : Focus} {fs : List Level} {out : Nodes} {ts : Tokens} → Good all x fs out ts → CanEnd (at x fs out)
  unfolding terminal
  good_ends (g_statement {out} d w) = statement_begins (stands all d) w out
  good_ends (g_body {x} {fs} {out} d w) =
      let rest = after_statement (x ∷ fs) in let o = out ++ n.Empty nowhere ∷ [] in
      (a_semicolon ∷ rest, along rest rest _ _ (single rest nowhere (x ∷ fs) o) (statement_ends (stands all d) (ap takes_block w) (o ++ n.Block nowhere 1 ∷ [])))
  good_ends (g_operand {x} {fs} {out} d w) = (a_number ∷ after_value (x ∷ fs), value_ends (stands all d) w nowhere false (out ++ n.Number (mark a_number) ∷ []))
  good_ends (g_first {x} {fs} {out} d h) = (a_number ∷ after_value (x ∷ fs), value_ends (stands all d) (leaves_value x h) nowhere false (out ++ n.Number (mark a_number) ∷ []))
  good_ends (g_word {out} d w) = word_ends (stands all d) w out
  good_ends (g_value {x} {fs} d w de g) = (after_value (x ∷ fs), value_ends (stands all d) w _ _ _)
  good_ends (g_stepped {x} {fs} {out} {s} d w) = (after_value (x ∷ fs), stepped_ends (stands all d) w s out)
  good_ends (g_finished {x} {fs} s d w h) = (after_statement (x ∷ fs), statement_ends (stands all d) w _)

-- where these tokens are not refused, some program begins with them
pub some_program : (front : Tokens) (s : Configuration) → after front start ≡ Some s → BeginsProgram front
unfolding stmts_nodes
some_program front s e =
    let good = subst (λ r. Safe front r []) e (after_safe front front start (g_statement (o_program no_item) refl)) in
    let m = good_ends front good in
    let whole : parsed (front ++ m.0) ≡ Some m.1.0 = run-append front m.0 start ∙ ap (run m.0) e ∙ m.1.1 in
    let p = sound (front ++ m.0) m.1.0 whole in
    (m.0, p.0, p.1)
