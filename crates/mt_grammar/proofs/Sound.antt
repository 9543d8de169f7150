-- What is read has a derivation, with this tree.
use Rattle.std.proofs.Common.{◌≡◌, List, [], ◌∷◌, Some, None, refl, arith}
use Rattle.mt_grammar.specs.Token.{Token, Tokens, place_of, terminal}
use Rattle.mt_grammar.specs.Nodes.{Nodes, expr_nodes, stmt_nodes, stmts_nodes}
use Rattle.mt_grammar.specs.Stack.{Level, Focus}
use Rattle.mt_grammar.specs.Grammar.{mark, b_single, s_if, s_if_else, s_while, s_for, s_try, no_item, next_item, IsProgram}
use Rattle.mt_grammar.specs.Tree.{Stmt, if_only, if_else, while, for, try, block, Stmts, no_stmts, stmts_and}
use Rattle.mt_grammar.specs.Machine.{Next, feed_by, end_finished, end_statement, end_by, run, after, start, parsed}
use Rattle.mt_grammar.proofs.Open.{Open, o_program, o_single, o_if_then, o_if_else, o_while_body, o_for_body, o_catch_block, g_statement, g_body, g_operand, g_first, g_word, g_value, g_stepped, g_finished, Good, Safe}
use Rattle.mt_grammar.proofs.Precedence.{bound}
use Rattle.mt_grammar.proofs.Rows.{value_low}
use Rattle.mt_grammar.proofs.SafeStatements.{operand_safe, fits_stmt, as_body, statement_safe, body_safe, FitsTop, finished_safe}
use Rattle.mt_grammar.proofs.SafeWords.{first_safe, word_safe}
use Rattle.mt_grammar.proofs.SafeValues.{value_safe, stepped_safe}

module _ (all : Tokens) where
  -- the machine never leaves what a derivation can be at
  pub feed_safe : {x : Focus} {fs : List Level} {out : Nodes} (ts : Tokens) (t : Token) → Good all x fs out (t ∷ ts) → Safe all (feed_by t x fs out) ts
  feed_safe ts t (g_statement d w) = statement_safe all t (terminal t) refl d w
  feed_safe ts t (g_body d w) = body_safe all t (terminal t) refl d w
  feed_safe ts t (g_operand d w) = operand_safe all t (terminal t) refl d w
  feed_safe ts t (g_first d h) = first_safe all t d h
  feed_safe ts t (g_word d w) = word_safe all ts t d w
  feed_safe ts t (g_value {x} {e} d w de g) = value_safe all ts t 10 d w e de g (value_low x w) (bound (terminal t)).small (omega arith)
  feed_safe ts t (g_stepped {s} d w) = stepped_safe all s ts t d w
  feed_safe ts t (g_finished s d w h) = finished_safe all ts t (terminal t) refl d s h

  abbrev pub Found : Nodes → Type 0
  Found nodes = (ss : Stmts) × IsProgram all ss × (nodes ≡ stmts_nodes ss [])

  pub end_safe : {fs : List Level} {out : Nodes} {mid : Tokens} → Open all fs out mid → (s : Stmt) → FitsTop all fs mid [] s → (nodes : Nodes) → end_finished fs (stmt_nodes s out) ≡ Some nodes → Found nodes
  unfolding expr_nodes
  end_safe (o_program {ss} dss) s h nodes e = (stmts_and ss s, next_item dss h, cc)
  end_safe {mid} (o_single d w g) s h nodes e = end_safe d (block (place_of mid) (stmts_and no_stmts s)) (as_body all _ w (b_single g h)) nodes e
  end_safe (o_if_then {i} {e} d w qi o de c) s h nodes q = end_safe d (if_only i.place e s) (fits_stmt all _ w (s_if qi o de c h tt)) nodes q
  end_safe (o_if_else {i} {e} {s} d w qi o de c ds z) s' h nodes q = end_safe d (if_else i.place e s s') (fits_stmt all _ w (s_if_else qi o de c ds z h)) nodes q
  end_safe (o_while_body {i} {e} d w qi o de c) s h nodes q = end_safe d (while i.place e s) (fits_stmt all _ w (s_while qi o de c h)) nodes q
  end_safe (o_for_body {i} {a} {b} {c} d w qi o da db dc) s h nodes q = end_safe d (for i.place a b c s) (fits_stmt all _ w (s_for qi o da db dc h)) nodes q
  end_safe (o_catch_block {t = z} {m} {s} d w qt ds qw qo qm qc) s' h nodes q = end_safe d (try z.place s (mark m) s') (fits_stmt all _ w (s_try qt ds qw qo qm qc h)) nodes q
  end_safe d s h nodes e = absurd cc

  pub end_statement_safe : {fs : List Level} {out : Nodes} → Open all fs out [] → (nodes : Nodes) → end_statement fs out ≡ Some nodes → Found nodes
  end_statement_safe (o_program {ss} dss) nodes e = (ss, dss, cc)
  end_statement_safe d nodes e = absurd cc

  pub finish_safe : {x : Focus} {fs : List Level} {out : Nodes} → Good all x fs out [] → (nodes : Nodes) → end_by x fs out ≡ Some nodes → Found nodes
  finish_safe (g_statement d w) nodes e = end_statement_safe d nodes e
  finish_safe (g_finished s d w h) nodes e = end_safe d s h nodes e
  finish_safe d nodes e = absurd cc

  pub after_safe : (ts : Tokens) (s : Next) → Safe all s ts → Safe all (after ts s) []
  after_safe [] s h = h
  after_safe (t ∷ ts) None h = after_safe ts None tt
  after_safe (t ∷ ts) (Some c) h = after_safe ts (feed_by t c.focus c.levels c.nodes) (feed_safe ts t h)

  pub run_safe : (ts : Tokens) (s : Next) → Safe all s ts → (nodes : Nodes) → run ts s ≡ Some nodes → Found nodes
  run_safe [] None h nodes e = absurd cc
  run_safe [] (Some c) h nodes e = finish_safe h nodes e
  run_safe (t ∷ ts) None h nodes e = run_safe ts None tt nodes e
  run_safe (t ∷ ts) (Some c) h nodes e = run_safe ts (feed_by t c.focus c.levels c.nodes) (feed_safe ts t h) nodes e

-- what is read has a derivation, and the nodes are those of its tree
pub sound : (ts : Tokens) (nodes : Nodes) → parsed ts ≡ Some nodes → (ss : Stmts) × IsProgram ts ss × (nodes ≡ stmts_nodes ss [])
unfolding expr_nodes
sound ts nodes e = run_safe ts ts start (g_statement (o_program no_item) refl) nodes e
