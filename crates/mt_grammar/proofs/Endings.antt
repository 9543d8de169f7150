-- Wherever the machine stands, some tokens end the program.
use Rattle.std.proofs.Common.{◌≡◌, ℕ, ◌+◌, ◌≤◌, Bool, true, false, cond, List, [], ◌∷◌, ◌++◌, Some, None, refl, ap, ◌∙◌, arith}
use Rattle.std.proofs.lemmas.Bool.{le-leb}
use Rattle.mt_tree.specs.declared.place.Place.{Place}
use Rattle.mt_grammar.specs.declared.terminal.Declaration.TheVariants as declaration
use Rattle.mt_grammar.specs.declared.terminal.Heading.{Heading}
use Rattle.mt_grammar.specs.declared.terminal.Heading.TheVariants as heading
use Rattle.mt_grammar.specs.declared.terminal.Terminal.TheVariants as k
use Rattle.mt_grammar.specs.Token.{Tokens, nowhere, terminal}
use Rattle.mt_grammar.specs.Nodes.{Node, Nodes, names_nodes, title_nodes, key_node, expr_nodes, exprs_nodes, props_nodes, attribute_nodes, attributes_nodes, child_nodes, children_nodes, decl_nodes, decls_nodes, optional_nodes, start_nodes, stmt_nodes, stmts_nodes}
use Rattle.mt_grammar.specs.Nodes as n
use Rattle.mt_grammar.specs.Stack.{Level, Focus}
use Rattle.mt_grammar.specs.Stack as f
use Rattle.mt_grammar.specs.Grammar.{mark, NotNext}
use Rattle.mt_grammar.specs.Machine.{Next, at, awaits, settled, dollar_settled, run}
use Rattle.mt_grammar.proofs.Open.{Want, a_value, a_word, an_end, wants, takes_stmt, takes_block, holds_code, head_wants}
use Rattle.mt_grammar.proofs.Precedence.{Stops}
use Rattle.mt_grammar.proofs.Steps.{shift_on, reduce}
use Rattle.mt_grammar.proofs.Parts.{single, else_done, while_done, for_done, try_done, if_done, bytes_same}
use Rattle.mt_grammar.proofs.Rows.{value_is}
use Rattle.mt_grammar.proofs.Stands.{a_name, a_number, a_catch, opening, closing, closing_square, opening_brace, closing_brace, a_semicolon, a_colon, a_dot, an_equals, a_self_end, a_quoted_text, closing_tag, closes_tag, Stands, stmt_block, element_code, bottom, above}

-- what ends all that is open, after an expression and after a statement
abbrev mutual
  pub after_value : List Level → Tokens
  after_value [] = []
  after_value (f.Operation o s ∷ fs) = after_value fs
  after_value (f.Unary u p ∷ fs) = after_value fs
  after_value (f.StepBefore d p ∷ fs) = a_dot ∷ a_name ∷ after_value fs
  after_value (f.StepAfter d s ∷ fs) = after_value fs
  after_value (f.Assign o s ∷ fs) = after_value fs
  after_value (f.CondTest s ∷ fs) = a_colon ∷ a_number ∷ after_value fs
  after_value (f.CondElse s ∷ fs) = after_value fs
  after_value (f.Paren p ∷ fs) = closing ∷ after_value fs
  after_value (f.Index s ∷ fs) = closing_square ∷ after_value fs
  after_value (f.Arguments s c ∷ fs) = closing ∷ after_value fs
  after_value (f.Array p c ∷ fs) = closing_square ∷ after_value fs
  after_value (f.ObjectValue p c ∷ fs) = closing_brace ∷ after_value fs
  after_value (f.Dollar p ∷ fs) = closing_brace ∷ after_value fs
  after_value (f.AttributeValue m a ∷ fs) = a_self_end ∷ after_value fs
  after_value (f.Children m a c ∷ fs) = closing_tag m.text ∷ after_value fs
  after_value (f.IfTest p ∷ fs) = closing ∷ a_semicolon ∷ after_statement fs
  after_value (f.WhileTest p ∷ fs) = closing ∷ a_semicolon ∷ after_statement fs
  after_value (f.ForStart p ∷ fs) = a_semicolon ∷ a_semicolon ∷ closing ∷ a_semicolon ∷ after_statement fs
  after_value (f.ForTest p ∷ fs) = a_semicolon ∷ closing ∷ a_semicolon ∷ after_statement fs
  after_value (f.ForStep p ∷ fs) = closing ∷ a_semicolon ∷ after_statement fs
  after_value (f.DeclValue (declaration.Statement d) p c ∷ fs) = a_semicolon ∷ after_statement fs
  after_value (f.DeclValue declaration.ForStart p c ∷ fs) = a_semicolon ∷ a_semicolon ∷ closing ∷ a_semicolon ∷ after_statement fs
  after_value (f.Return p ∷ fs) = a_semicolon ∷ after_statement fs
  after_value (f.Throw p ∷ fs) = a_semicolon ∷ after_statement fs
  after_value (f.Expression p ∷ fs) = a_semicolon ∷ after_statement fs
  after_value (_ ∷ fs) = []

  pub after_statement : List Level → Tokens
  after_statement [] = []
  after_statement (f.Block p c ∷ fs) = closing_brace ∷ after_statement fs
  after_statement (f.FunctionBody heading.Service p m c ∷ fs) = closing_brace ∷ after_statement fs
  after_statement (f.FunctionBody heading.Declaration p m c ∷ fs) = closing_brace ∷ after_statement fs
  after_statement (f.FunctionBody heading.NamedExpression p m c ∷ fs) = closing_brace ∷ after_value fs
  after_statement (f.FunctionBody heading.Expression p m c ∷ fs) = closing_brace ∷ after_value fs
  after_statement (f.Tilde p c ∷ fs) = closing_brace ∷ after_value fs
  after_statement (f.Single p ∷ fs) = after_statement fs
  after_statement (f.IfThen p ∷ fs) = after_statement fs
  after_statement (f.IfElse p ∷ fs) = after_statement fs
  after_statement (f.WhileBody p ∷ fs) = after_statement fs
  after_statement (f.ForBody p ∷ fs) = after_statement fs
  after_statement (f.TryBlock p ∷ fs) = a_catch ∷ opening ∷ a_name ∷ closing ∷ opening_brace ∷ closing_brace ∷ after_statement fs
  after_statement (f.CatchBlock p ∷ fs) = after_statement fs
  after_statement (_ ∷ fs) = []

pub value_stops : {fs : List Level} → Stands fs → awaits fs ≤ 9 → Stops 0 (after_value fs)
unfolding terminal
value_stops (above {y = f.Operation o s} st w) h = value_stops st w.1
value_stops (above {y = f.Unary u p} st w) h = value_stops st w.1
value_stops (above {y = f.Assign o s} st w) h = value_stops st w.1
value_stops (above {y = f.CondElse s} st w) h = value_stops st w.1
value_stops (above {y = f.StepAfter d s} st w) h = absurd (omega arith)
value_stops (above {y = f.StepBefore d p} st w) h = absurd (omega arith)
value_stops (above {y = f.AttributeValue m a} st w) h = absurd (omega arith)
value_stops (above {y = f.Children m a c} st w) h = absurd (omega arith)
value_stops (above {y = f.CondTest s} st w) h = omega arith
value_stops (above {y = f.Paren p} st w) h = omega arith
value_stops (above {y = f.Index s} st w) h = omega arith
value_stops (above {y = f.Arguments s c} st w) h = omega arith
value_stops (above {y = f.Array p c} st w) h = omega arith
value_stops (above {y = f.ObjectValue p c} st w) h = omega arith
value_stops (above {y = f.Dollar p} st w) h = omega arith
value_stops (above {y = f.IfTest p} st w) h = omega arith
value_stops (above {y = f.WhileTest p} st w) h = omega arith
value_stops (above {y = f.ForStart p} st w) h = omega arith
value_stops (above {y = f.ForTest p} st w) h = omega arith
value_stops (above {y = f.ForStep p} st w) h = omega arith
value_stops (above {y = f.DeclValue (declaration.Statement d) p c} st w) h = omega arith
value_stops (above {y = f.DeclValue declaration.ForStart p c} st w) h = omega arith
value_stops (above {y = f.Return p} st w) h = omega arith
value_stops (above {y = f.Throw p} st w) h = omega arith
value_stops (above {y = f.Expression p} st w) h = omega arith
value_stops st h = tt

pub no_else_next : (fs : List Level) → NotNext k.Else (after_statement fs)
unfolding terminal
no_else_next [] = tt
no_else_next (f.Block p c ∷ fs) = λ e. cc
no_else_next (f.FunctionBody heading.Service p m c ∷ fs) = λ e. cc
no_else_next (f.FunctionBody heading.Declaration p m c ∷ fs) = λ e. cc
no_else_next (f.FunctionBody heading.NamedExpression p m c ∷ fs) = λ e. cc
no_else_next (f.FunctionBody heading.Expression p m c ∷ fs) = λ e. cc
no_else_next (f.Tilde p c ∷ fs) = λ e. cc
no_else_next (f.TryBlock p ∷ fs) = λ e. cc
no_else_next (f.Single p ∷ fs) = no_else_next fs
no_else_next (f.IfThen p ∷ fs) = no_else_next fs
no_else_next (f.IfElse p ∷ fs) = no_else_next fs
no_else_next (f.WhileBody p ∷ fs) = no_else_next fs
no_else_next (f.ForBody p ∷ fs) = no_else_next fs
no_else_next (f.CatchBlock p ∷ fs) = no_else_next fs
no_else_next (_ ∷ fs) = tt

abbrev pub ReadsAll : Tokens → Next → Type 0
ReadsAll ts s = (nodes : Nodes) × (run ts s ≡ Some nodes)

pub along : (ts us : Tokens) (r s : Next) → run ts r ≡ run us s → ReadsAll us s → ReadsAll ts r
along ts us r s e h = (h.0, e ∙ h.1)

abbrev pub wants_top : List Level → Want → Type 0
wants_top [] w = Unit {0}
wants_top (x ∷ fs) w = wants x ≡ w

abbrev pub block_top : List Level → Type 0
block_top [] = Unit {0}
block_top (x ∷ fs) = takes_block (wants x) ≡ true

abbrev pub code_top : List Level → Type 0
code_top [] = Unit {0}
code_top (x ∷ fs) = holds_code x ≡ true

abbrev pub ValueEnds : List Level → Type 0
ValueEnds fs = wants_top fs a_value → (s : Place) (v : Bool) (out : Nodes) → ReadsAll (after_value fs) (at (f.Value s v) fs out)

mutual
  unfolding terminal

  pub value_ends : {fs : List Level} → Stands fs → wants_top fs a_value → (s : Place) (v : Bool) (out : Nodes) → ReadsAll (after_value fs) (at (f.Value s v) fs out)
  value_ends (above {y = f.Operation o p} {x} {fs} st w) h s v out =
      let rest = after_value (x ∷ fs) in
      along rest rest _ _ (reduce rest 0 s v (f.Operation o p) (x ∷ fs) out (λ y b. le-leb _ _ (omega arith)) (value_stops st w.1)) (value_ends st w.0 p false (out ++ n.Operation p o ∷ []))
  value_ends (above {y = f.Unary u p} {x} {fs} st w) h s v out =
      let rest = after_value (x ∷ fs) in
      along rest rest _ _ (reduce rest 0 s v (f.Unary u p) (x ∷ fs) out (λ y b. le-leb _ _ (omega arith)) (value_stops st w.1)) (value_ends st w.0 p false (out ++ n.Unary p u ∷ []))
  value_ends (above {y = f.Assign o p} {x} {fs} st w) h s v out =
      let rest = after_value (x ∷ fs) in
      along rest rest _ _ (reduce rest 0 s v (f.Assign o p) (x ∷ fs) out (λ y b. le-leb _ _ b) (value_stops st w.1)) (value_ends st w.0 p false (out ++ n.Assign p o ∷ []))
  value_ends (above {y = f.CondElse p} {x} {fs} st w) h s v out =
      let rest = after_value (x ∷ fs) in
      along rest rest _ _ (reduce rest 0 s v (f.CondElse p) (x ∷ fs) out (λ y b. le-leb _ _ b) (value_stops st w.1)) (value_ends st w.0 p false (out ++ n.Condition p ∷ []))
  value_ends (above {y = f.StepBefore d p} {x} {fs} st w) h s v out =
      let rest = after_value (x ∷ fs) in let z = f.StepBefore d p in
      let o = out ++ n.Property (mark a_name) ∷ [] ++ n.Index s ∷ [] in
      along (a_dot ∷ a_name ∷ rest) rest (at (f.Value s v) (z ∷ x ∷ fs) out) _
      (shift_on k.Dot a_dot (a_name ∷ rest) s v z (x ∷ fs) out (omega arith) (omega arith) refl ∙ reduce rest 0 s true z (x ∷ fs) o (λ y b. le-leb _ _ (omega arith)) (value_stops st w.1))
      (value_ends st w.0 p false (o ++ n.Step p d ∷ []))
  value_ends (above {y = f.CondTest p} {x} {fs} st w) h s v out =
      let rest = after_value (x ∷ fs) in let o = out ++ n.Number (mark a_number) ∷ [] in
      along rest rest _ _ (reduce rest 0 nowhere false (f.CondElse p) (x ∷ fs) o (λ y b. le-leb _ _ b) (value_stops st w.1)) (value_ends st w.0 p false (o ++ n.Condition p ∷ []))
  value_ends (above {y = f.Paren p} st w) h s v out = value_ends st w _ v out
  value_ends (above {y = f.Index p} st w) h s v out = value_ends st w _ true _
  value_ends (above {y = f.Arguments p c} st w) h s v out = value_ends st w _ false _
  value_ends (above {y = f.Array p c} st w) h s v out = value_ends st w _ false _
  value_ends (above {y = f.ObjectValue p c} st w) h s v out = value_ends st w _ false _
  value_ends (above {y = f.Dollar p} {x} {fs} st w) h s v out = dollar_ends st (λ g s v o. value_ends st g s v o) w p out
  value_ends (above {y = f.IfTest p} {x} {fs} st w) h s v out =
      let rest = after_statement (x ∷ fs) in let o = out ++ n.Empty nowhere ∷ [] in
      along rest rest _ _ (single rest nowhere (f.IfThen p ∷ x ∷ fs) o ∙ if_done rest p (x ∷ fs) (o ++ n.Block nowhere 1 ∷ []) (no_else_next (x ∷ fs)))
      (statement_ends st (stmt_block _ w) (o ++ n.Block nowhere 1 ∷ [] ++ n.If p ∷ []))
  value_ends (above {y = f.WhileTest p} {x} {fs} st w) h s v out =
      let rest = after_statement (x ∷ fs) in let o = out ++ n.Empty nowhere ∷ [] in
      along rest rest _ _ (single rest nowhere (f.WhileBody p ∷ x ∷ fs) o ∙ while_done rest p (x ∷ fs) (o ++ n.Block nowhere 1 ∷ []))
      (statement_ends st (stmt_block _ w) (o ++ n.Block nowhere 1 ∷ [] ++ n.While p ∷ []))
  value_ends (above {y = f.ForStart p} {x} {fs} st w) h s v out =
      let rest = after_statement (x ∷ fs) in let o = out ++ n.Present ∷ [] ++ n.StartOptional ∷ [] ++ n.Absent ∷ [] ++ n.Absent ∷ [] ++ n.Empty nowhere ∷ [] in
      along rest rest _ _ (single rest nowhere (f.ForBody p ∷ x ∷ fs) o ∙ for_done rest p (x ∷ fs) (o ++ n.Block nowhere 1 ∷ []))
      (statement_ends st (stmt_block _ w) (o ++ n.Block nowhere 1 ∷ [] ++ n.For p ∷ []))
  value_ends (above {y = f.ForTest p} {x} {fs} st w) h s v out =
      let rest = after_statement (x ∷ fs) in let o = out ++ n.Present ∷ [] ++ n.Absent ∷ [] ++ n.Empty nowhere ∷ [] in
      along rest rest _ _ (single rest nowhere (f.ForBody p ∷ x ∷ fs) o ∙ for_done rest p (x ∷ fs) (o ++ n.Block nowhere 1 ∷ []))
      (statement_ends st (stmt_block _ w) (o ++ n.Block nowhere 1 ∷ [] ++ n.For p ∷ []))
  value_ends (above {y = f.ForStep p} {x} {fs} st w) h s v out =
      let rest = after_statement (x ∷ fs) in let o = out ++ n.Present ∷ [] ++ n.Empty nowhere ∷ [] in
      along rest rest _ _ (single rest nowhere (f.ForBody p ∷ x ∷ fs) o ∙ for_done rest p (x ∷ fs) (o ++ n.Block nowhere 1 ∷ []))
      (statement_ends st (stmt_block _ w) (o ++ n.Block nowhere 1 ∷ [] ++ n.For p ∷ []))
  value_ends (above {y = f.DeclValue (declaration.Statement d) p c} st w) h s v out = statement_ends st (stmt_block _ w) _
  value_ends (above {y = f.DeclValue declaration.ForStart p c} {x} {fs} st w) h s v out =
      let rest = after_statement (x ∷ fs) in let o = out ++ n.DeclValue ∷ [] ++ n.StartVars c ∷ [] ++ n.Absent ∷ [] ++ n.Absent ∷ [] ++ n.Empty nowhere ∷ [] in
      along rest rest _ _ (single rest nowhere (f.ForBody p ∷ x ∷ fs) o ∙ for_done rest p (x ∷ fs) (o ++ n.Block nowhere 1 ∷ []))
      (statement_ends st (stmt_block _ w) (o ++ n.Block nowhere 1 ∷ [] ++ n.For p ∷ []))
  value_ends (above {y = f.Return p} st w) h s v out = statement_ends st (stmt_block _ w) _
  value_ends (above {y = f.Throw p} st w) h s v out = statement_ends st (stmt_block _ w) _
  value_ends (above {y = f.Expression p} st w) h s v out = statement_ends st (stmt_block _ w) _
  value_ends st h s v out = absurd cc

  pub statement_ends : {fs : List Level} → Stands fs → block_top fs → (out : Nodes) → ReadsAll (after_statement fs) (at f.Finished fs out)
  statement_ends bottom h out = (out, refl)
  statement_ends (above {y = f.Program c} st w) h out = elim w [ ]
  statement_ends (above {y = f.Block p c} st w) h out = statement_ends st w _
  statement_ends (above {y = f.FunctionBody heading.Service p m c} st w) h out = statement_ends st (ap takes_block w) _
  statement_ends (above {y = f.FunctionBody heading.Declaration p m c} st w) h out = statement_ends st (ap takes_block w) _
  statement_ends (above {y = f.FunctionBody heading.NamedExpression p m c} st w) h out = value_ends st w _ false _
  statement_ends (above {y = f.FunctionBody heading.Expression p m c} st w) h out = value_ends st w _ false _
  statement_ends (above {y = f.Tilde p c} st w) h out = settled_ends st (λ g s v o. value_ends st g s v o) w p _
  statement_ends (above {y = f.Single p} {x} {fs} st w) h out =
      let rest = after_statement (x ∷ fs) in along rest rest _ _ (single rest p (x ∷ fs) out) (statement_ends st (ap takes_block w) (out ++ n.Block p 1 ∷ []))
  statement_ends (above {y = f.IfThen p} {x} {fs} st w) h out =
      let rest = after_statement (x ∷ fs) in along rest rest _ _ (if_done rest p (x ∷ fs) out (no_else_next (x ∷ fs))) (statement_ends st (stmt_block _ w) (out ++ n.If p ∷ []))
  statement_ends (above {y = f.IfElse p} {x} {fs} st w) h out =
      let rest = after_statement (x ∷ fs) in along rest rest _ _ (else_done rest p (x ∷ fs) out) (statement_ends st (stmt_block _ w) (out ++ n.IfElse p ∷ []))
  statement_ends (above {y = f.WhileBody p} {x} {fs} st w) h out =
      let rest = after_statement (x ∷ fs) in along rest rest _ _ (while_done rest p (x ∷ fs) out) (statement_ends st (stmt_block _ w) (out ++ n.While p ∷ []))
  statement_ends (above {y = f.ForBody p} {x} {fs} st w) h out =
      let rest = after_statement (x ∷ fs) in along rest rest _ _ (for_done rest p (x ∷ fs) out) (statement_ends st (stmt_block _ w) (out ++ n.For p ∷ []))
  statement_ends (above {y = f.TryBlock p} {x} {fs} st w) h out =
      let rest = after_statement (x ∷ fs) in let o = out ++ n.Word (mark a_name) ∷ [] ++ n.Block nowhere 0 ∷ [] in
      along rest rest _ _ (try_done rest p (x ∷ fs) o) (statement_ends st (stmt_block _ w) (o ++ n.Try p ∷ []))
  statement_ends (above {y = f.CatchBlock p} {x} {fs} st w) h out =
      let rest = after_statement (x ∷ fs) in along rest rest _ _ (try_done rest p (x ∷ fs) out) (statement_ends st (stmt_block _ w) (out ++ n.Try p ∷ []))
  statement_ends st h out = absurd cc

  pub settled_ends : {fs : List Level} → Stands fs → ValueEnds fs → code_top fs → (p : Place) (out : Nodes) → ReadsAll (after_value fs) (settled p fs out)
  settled_ends (above {y = f.AttributeValue m a} {x} st w) value h p out = settled_ends st (λ g s v o. value_ends st g s v o) (element_code x w) m.place _
  settled_ends (above {y = f.Children m a c} {x} {fs} st w) value h p out =
      let rest = after_value (x ∷ fs) in let o = out ++ n.ChildDirect ∷ [] ++ n.Element m.place a (c + 1) ∷ [] in
      along (closing_tag m.text ∷ rest) rest (settled p (f.Children m a c ∷ x ∷ fs) out) _ (ap (λ b. run rest (cond b (settled m.place (x ∷ fs) o) None)) (bytes_same _ _ (closes_tag m.text w.1)))
      (settled_ends st (λ g s v o. value_ends st g s v o) (element_code x w.0) m.place o)
  settled_ends st value h p out = value (value_is _ h) p false out

  pub dollar_ends : {fs : List Level} → Stands fs → ValueEnds fs → code_top fs → (p : Place) (out : Nodes) → ReadsAll (after_value fs) (dollar_settled p fs out)
  dollar_ends (above {y = f.AttributeValue m a} {x} st w) value h p out = settled_ends st (λ g s v o. value_ends st g s v o) (element_code x w) m.place _
  dollar_ends (above {y = f.Children m a c} {x} {fs} st w) value h p out =
      let rest = after_value (x ∷ fs) in let o = out ++ n.ChildDollar ∷ [] ++ n.Element m.place a (c + 1) ∷ [] in
      along (closing_tag m.text ∷ rest) rest (dollar_settled p (f.Children m a c ∷ x ∷ fs) out) _ (ap (λ b. run rest (cond b (settled m.place (x ∷ fs) o) None)) (bytes_same _ _ (closes_tag m.text w.1)))
      (settled_ends st (λ g s v o. value_ends st g s v o) (element_code x w.0) m.place o)
  dollar_ends st value h p out = value (value_is _ h) p false (out ++ n.Dollar p ∷ [])

abbrev pub CanEnd : Next → Type 0
CanEnd s = (more : Tokens) × ReadsAll more s

pub statement_begins : {x : Level} {fs : List Level} → Stands (x ∷ fs) → takes_stmt (wants x) ≡ true → (out : Nodes) → CanEnd (at f.Statement (x ∷ fs) out)
unfolding terminal
statement_begins {x} {fs} st w out = (a_semicolon ∷ after_statement (x ∷ fs), statement_ends st (stmt_block _ w) (out ++ n.Empty nowhere ∷ []))

-- the body of a function
pub body_ends : {x : Level} {fs : List Level} → Stands (x ∷ fs) → (h : Heading) → wants x ≡ head_wants h → (p : Place) (m : ℕ) (out : Nodes) → ReadsAll (a_semicolon ∷ after_statement (f.FunctionBody h p m 0 ∷ x ∷ fs)) (at f.Statement (f.FunctionBody h p m 0 ∷ x ∷ fs) out)
unfolding terminal
body_ends {x} {fs} st h w p m out = statement_ends (above {y = f.FunctionBody h p m 0} st w) refl (out ++ n.Empty nowhere ∷ [])

-- Wherever the machine stands, some tokens end the program.
pub word_ends : {fs : List Level} → Stands fs → wants_top fs a_word → (out : Nodes) → CanEnd (at f.Word fs out)
unfolding terminal
word_ends (above {y = f.IfOpen p} {x} {fs} st w) h out =
    let y = f.IfTest p in (opening ∷ a_number ∷ after_value (y ∷ x ∷ fs), value_ends (above {y = y} st w) refl nowhere false (out ++ n.Number (mark a_number) ∷ []))
word_ends (above {y = f.WhileOpen p} {x} {fs} st w) h out =
    let y = f.WhileTest p in (opening ∷ a_number ∷ after_value (y ∷ x ∷ fs), value_ends (above {y = y} st w) refl nowhere false (out ++ n.Number (mark a_number) ∷ []))
word_ends (above {y = f.ForOpen p} {x} {fs} st w) h out =
    let y = f.ForStart p in (opening ∷ a_number ∷ after_value (y ∷ x ∷ fs), value_ends (above {y = y} st w) refl nowhere false (out ++ n.Number (mark a_number) ∷ []))
word_ends (above {y = f.DeclName d p c} {x} {fs} st w) h out =
    let y = f.DeclValue d p (c + 1) in (
      a_name ∷ an_equals ∷ a_number ∷ after_value (y ∷ x ∷ fs),
      value_ends (above {y = y} st w) refl nowhere false (out ++ n.DeclName (mark a_name) ∷ [] ++ n.Number (mark a_number) ∷ []),
    )
word_ends (above {y = f.DeclNext d p c} {x} {fs} st w) h out =
    let y = f.DeclValue d p c in (an_equals ∷ a_number ∷ after_value (y ∷ x ∷ fs), value_ends (above {y = y} st w) refl nowhere false (out ++ n.Number (mark a_number) ∷ []))
word_ends (above {y = f.Jump p j} {x} {fs} st w) h out = (a_semicolon ∷ after_statement (x ∷ fs), statement_ends st (stmt_block _ w) (out ++ n.Jump p j ∷ []))
word_ends (above {y = f.TryOpen p} {x} {fs} st w) h out =
    let y = f.TryBlock p in (opening_brace ∷ closing_brace ∷ after_statement (y ∷ x ∷ fs), statement_ends (above {y = y} st w) refl (out ++ n.Block nowhere 0 ∷ []))
word_ends (above {y = f.CatchOpen p} {x} {fs} st w) h out =
    let y = f.CatchBlock p in (
      opening ∷ a_name ∷ closing ∷ opening_brace ∷ closing_brace ∷ after_statement (y ∷ x ∷ fs),
      statement_ends (above {y = y} st w) refl (out ++ n.Word (mark a_name) ∷ [] ++ n.Block nowhere 0 ∷ []),
    )
word_ends (above {y = f.CatchName p} {x} {fs} st w) h out =
    let y = f.CatchBlock p in (
      a_name ∷ closing ∷ opening_brace ∷ closing_brace ∷ after_statement (y ∷ x ∷ fs),
      statement_ends (above {y = y} st w) refl (out ++ n.Word (mark a_name) ∷ [] ++ n.Block nowhere 0 ∷ []),
    )
word_ends (above {y = f.CatchClose p} {x} {fs} st w) h out =
    let y = f.CatchBlock p in (closing ∷ opening_brace ∷ closing_brace ∷ after_statement (y ∷ x ∷ fs), statement_ends (above {y = y} st w) refl (out ++ n.Block nowhere 0 ∷ []))
word_ends (above {y = f.CatchBrace p} {x} {fs} st w) h out =
    let y = f.CatchBlock p in (opening_brace ∷ closing_brace ∷ after_statement (y ∷ x ∷ fs), statement_ends (above {y = y} st w) refl (out ++ n.Block nowhere 0 ∷ []))
word_ends (above {y = f.FunctionStart p} {x} {fs} st w) h out =
    let z = heading.Expression in let y = f.FunctionBody z p 0 0 in (opening ∷ closing ∷ opening_brace ∷ a_semicolon ∷ after_statement (y ∷ x ∷ fs), body_ends st z w p 0 out)
word_ends (above {y = f.FunctionName z p} {x} {fs} st w) h out =
    let y = f.FunctionBody z p 0 0 in (
      a_name ∷ opening ∷ closing ∷ opening_brace ∷ a_semicolon ∷ after_statement (y ∷ x ∷ fs),
      body_ends st z w p 0 (out ++ n.Word (mark a_name) ∷ []),
    )
word_ends (above {y = f.FunctionOpen z p} {x} {fs} st w) h out =
    let y = f.FunctionBody z p 0 0 in (opening ∷ closing ∷ opening_brace ∷ a_semicolon ∷ after_statement (y ∷ x ∷ fs), body_ends st z w p 0 out)
word_ends (above {y = f.FunctionFirst z p} {x} {fs} st w) h out =
    let y = f.FunctionBody z p 0 0 in (closing ∷ opening_brace ∷ a_semicolon ∷ after_statement (y ∷ x ∷ fs), body_ends st z w p 0 out)
word_ends (above {y = f.FunctionNext z p m} {x} {fs} st w) h out =
    let y = f.FunctionBody z p m 0 in (closing ∷ opening_brace ∷ a_semicolon ∷ after_statement (y ∷ x ∷ fs), body_ends st z w p m out)
word_ends (above {y = f.ParameterName z p m} {x} {fs} st w) h out =
    let y = f.FunctionBody z p (m + 1) 0 in (
      a_name ∷ closing ∷ opening_brace ∷ a_semicolon ∷ after_statement (y ∷ x ∷ fs),
      body_ends st z w p (m + 1) (out ++ n.Word (mark a_name) ∷ []),
    )
word_ends (above {y = f.FunctionBrace z p m} {x} {fs} st w) h out =
    let y = f.FunctionBody z p m 0 in (opening_brace ∷ a_semicolon ∷ after_statement (y ∷ x ∷ fs), body_ends st z w p m out)
word_ends (above {y = f.Dot s} {x} {fs} st w) h out = (a_name ∷ after_value (x ∷ fs), value_ends st w s true (out ++ n.Property (mark a_name) ∷ [] ++ n.Index s ∷ []))
word_ends (above {y = f.ObjectKey p c} {x} {fs} st w) h out =
    let y = f.ObjectValue p c in (
      a_name ∷ a_colon ∷ a_number ∷ after_value (y ∷ x ∷ fs),
      value_ends (above {y = y} st w) refl nowhere false (out ++ n.Word (mark a_name) ∷ [] ++ n.Number (mark a_number) ∷ []),
    )
word_ends (above {y = f.ObjectColon p c} {x} {fs} st w) h out =
    let y = f.ObjectValue p c in (a_colon ∷ a_number ∷ after_value (y ∷ x ∷ fs), value_ends (above {y = y} st w) refl nowhere false (out ++ n.Number (mark a_number) ∷ []))
word_ends (above {y = f.Attributes m a v} {x} {fs} st w) h out =
    (a_self_end ∷ after_value (x ∷ fs), settled_ends st (λ g s v o. value_ends st g s v o) (element_code x w) m.place (out ++ n.Element m.place a 0 ∷ []))
word_ends (above {y = f.AttributeValue m a} {x} {fs} st w) h out =
    (a_quoted_text ∷ a_self_end ∷ after_value (x ∷ fs), settled_ends st (λ g s v o. value_ends st g s v o) (element_code x w) m.place (out ++ n.AttributeQuoted (mark a_quoted_text) ∷ [] ++ n.Element m.place a 0 ∷ []))
word_ends (above {y = f.Children m a c} {x} {fs} st w) h out =
    let rest = after_value (x ∷ fs) in let o = out ++ n.Element m.place a c ∷ [] in (
      closing_tag m.text ∷ rest,
      along (closing_tag m.text ∷ rest) rest (at f.Word (f.Children m a c ∷ x ∷ fs) out) _ (ap (λ b. run rest (cond b (settled m.place (x ∷ fs) o) None)) (bytes_same _ _ (closes_tag m.text w.1)))
          (settled_ends st (λ g s v o. value_ends st g s v o) (element_code x w.0) m.place o),
    )
word_ends st h out = absurd cc

pub stepped_ends : {fs : List Level} → Stands fs → wants_top fs an_end → (s : Place) (out : Nodes) → ReadsAll (after_value fs) (at (f.Value s false) fs out)
stepped_ends (above {y = f.StepAfter d p} {x} {fs} st w) h s out =
    let rest = after_value (x ∷ fs) in
    along rest rest _ _ (reduce rest 0 s false (f.StepAfter d p) (x ∷ fs) out (λ y b. le-leb _ _ (omega arith)) (value_stops st w.1)) (value_ends st w.0 p false (out ++ n.Step p d ∷ []))
stepped_ends st h s out = absurd cc
