-- A statement does the same in environments that agree on the names that are free in it.
use Rattle.std.proofs.Common.{◌≡◌, ℕ, List, [], ◌∷◌, ◌++◌, length, map, Option, Some, None, true, false, refl, subst}
use Rattle.mt_eval_meaning.specs.Free.{Names, Used, has, without, none, joined, finding, used_by_stmt_kind, declared_by}
use Rattle.mt_eval_meaning.specs.States.{keeping_free}
use Rattle.mt_eval_agreement.proofs.Cuts.{Coincide, coincide_left, coincide_right, coincide_more, coincide_names, coincide_without, has_here, has_left, name_same, false_by, clash}
use Rattle.mt_eval_agreement.proofs.Endings.{sim_expression, sim_finished, sim_given_back, sim_thrown, sim_sequence, sim_choice, sim_loop, sim_starting, sim_attempt}
use Rattle.mt_eval_agreement.proofs.Forms.{AllSim, none as no_parts, one}
use Rattle.mt_eval_agreement.proofs.FreeExpressions.{tilde, referent_same, SameParts}
use Rattle.mt_eval_agreement.proofs.Keeps.{keep_declare, keep_write_name}
use Rattle.mt_eval_agreement.proofs.Trims.{trim_view}
use Rattle.mt_eval_agreement.proofs.Uses.{named, all_used, value_used, decl_used, decl_uses, start_uses, here_is}
use Rattle.mt_eval_agreement.proofs.Views.{Sim, sim_pure, sim_bind, sim_on_state}
use Rattle.mt_eval_meaning.specs.Entering.{Named, lexical_variables}
use Rattle.mt_eval_meaning.specs.Evaluation as names
use Rattle.mt_eval_meaning.specs.Hoisting.{Lexical, lexicals, name_of_decl}
use Rattle.mt_eval_meaning.specs.Host.{Outside}
use Rattle.mt_eval_meaning.specs.Names.{Binding, Environment, Surroundings, referent}
use Rattle.mt_eval_meaning.specs.References.{write_name, declare}
use Rattle.mt_eval_meaning.specs.Runs.{and_then}
use Rattle.mt_eval_meaning.specs.State.{Eval, on_state, add_cell}
use Rattle.mt_eval_meaning.specs.Statements.{returned}
use Rattle.mt_eval_meaning.specs.declared.completion.Completion.TheVariants as completion
use Rattle.mt_eval_meaning.specs.declared.reference.Referent.{Referent}
use Rattle.mt_syntax.specs.Fold.{Tree, ForStartLayer, StmtKindLayer, on_decl, on_expr, on_for_start, on_stmt}
use Rattle.mt_syntax.specs.Gathering.{all_of, of_for_start}
use Rattle.mt_syntax.specs.declared.tree.Decl.{Decl, out-Decl}
use Rattle.mt_syntax.specs.declared.tree.Expr.{Expr}
use Rattle.mt_syntax.specs.declared.tree.ExprKind.TheOpen.{ForStart-F, StmtKind-F}
use Rattle.mt_syntax.specs.declared.tree.ForStart.{ForStart, out-ForStart}
use Rattle.mt_syntax.specs.declared.tree.Stmt.{Stmt}
use Rattle.mt_tree.specs.declared.operators.VarKind.{VarKind}
use Rattle.mt_tree.specs.declared.operators.VarKind.TheVariants as word
use Rattle.mt_syntax_laws.proofs.Layers.{map_for_start, map_stmt_kind}
use Rattle.mt_syntax_laws.proofs.Related.{on}
use Rattle.mt_value.specs.declared.cell.Cell.TheVariants as cell
use Rattle.mt_value.specs.declared.value.Value.{Value}
use Rattle.mt_value.specs.declared.value.Value.TheVariants as value

declared_free : (kind : VarKind) (u : Used) → (declared_by kind u).free ≡ u.free
declared_free word.Var u = refl
declared_free word.Let u = refl
declared_free word.Const u = refl

-- new variables of `let` and `const` names, under which the rest does the same
pub lexicals_then : {H A : Type 0} (around : Surroundings) (ls : List Lexical) (after free : Names) (env env' : Environment) (f g : Environment → Eval (Named H) A) → Coincide (named ls ++ after) free env env'
    → ((e e' : Environment) → Coincide after free e e' → Sim (trim_view around.tildes) (f e) (g e')) → Sim (trim_view around.tildes) (λ s. and_then (lexical_variables ls env s) f) (λ s. and_then (lexical_variables ls env' s) g)
unfolding add_cell
lexicals_then around [] after free env env' f g a h = h env env' a
lexicals_then around (l ∷ ls) after free env env' f g a h = record {
  run = λ s good.
      let b : Binding = record { name = l.name; address = length s.0.store; constant = l.constant } in
      (lexicals_then around ls after free (b ∷ env) (b ∷ env') f g (coincide_more b (named ls ++ after) free env env' a) h).run (record s.0 { store = s.0.store ++ cell.Variable None ∷ [] }, s.1) tt;
}

module _ {H : Type 0} (around : Surroundings) (o o' : Outside (Named H)) (p q : names.Parts H) (below : SameParts around p q) where
  abbrev right : Surroundings
  right = keeping_free around

  abbrev used : Expr → Used
  used = on_expr (finding (tilde around))

  abbrev stmt_used : Stmt → Used
  stmt_used = on_stmt (finding (tilde around))

  parts_same : (ts : List Stmt) (env env' : Environment) → Coincide [] (all_used (tilde around) ts).free env env' → AllSim (trim_view around.tildes) (map (λ t. p.stmt t env) ts) (map (λ t. q.stmt t env') ts)
  parts_same [] env env' a = no_parts
  parts_same (t ∷ ts) env env' a =
      let rest = (all_used (tilde around) ts).free in
      one (below.stmt t env env' (coincide_left (stmt_used t).free rest env env' a)) (parts_same ts env env' (coincide_right (stmt_used t).free rest env env' a))

  pub stmts_same : (ts : List Stmt) (env env' : Environment) → Coincide [] (all_used (tilde around) ts).free env env' → Sim (trim_view around.tildes) (names.stmts around o p ts env) (names.stmts right o' q ts env')
  stmts_same ts env env' a = sim_sequence (trim_view around.tildes) (parts_same ts env env' a)

  pub body_same : (ts : List Stmt) (env env' : Environment) → Coincide [] (all_used (tilde around) ts).free env env' → Sim (trim_view around.tildes) (names.body around o p ts env) (names.body right o' q ts env')
  unfolding names.body
  body_same ts env env' a = sim_bind (trim_view around.tildes) (stmts_same ts env env' a) (λ ending. sim_pure (trim_view around.tildes) (returned ending))

  -- ---- declarations

  module _ (text : List ℕ) (free : Names) (env env' : Environment) (a : Coincide [] (text ∷ free) env env') where
    there : has (text ∷ free) text ≡ true
    there = has_here text free text (name_same text)

    declare_same : (v : Value) → Sim (trim_view {H = H} around.tildes) (on_state (declare text (referent around env text) v)) (on_state (declare text (referent right env' text) v))
    declare_same v =
        subst (λ (r : Referent). Sim (trim_view {H = H} around.tildes) (on_state (declare text (referent around env text) v)) (on_state (declare text r v))) (referent_same around (text ∷ free) env env' text a there)
        (sim_on_state (trim_view around.tildes) (keep_declare [] text (referent around env text) v))

    write_same : (v : Value) → Sim (trim_view {H = H} around.tildes) (on_state (write_name text (referent around env text) v)) (on_state (write_name text (referent right env' text) v))
    write_same v =
        subst (λ (r : Referent). Sim (trim_view {H = H} around.tildes) (on_state (write_name text (referent around env text) v)) (on_state (write_name text r v))) (referent_same around (text ∷ free) env env' text a there)
        (sim_on_state (trim_view around.tildes) (keep_write_name [] text (referent around env text) v))

  value_coincide : (text : List ℕ) (free : Names) (env env' : Environment) → Coincide [] (text ∷ free) env env' → Coincide [] free env env'
  value_coincide text free env env' a = coincide_right (text ∷ []) free env env' a

  declared_same : (kind : VarKind) (text : List ℕ) (e : Option Expr) (env env' : Environment) → Coincide [] (decl_used (tilde around) text e).free env env' → Sim (trim_view around.tildes) (names.declared_by around o p kind text e env) (names.declared_by right o' q kind text e env')
  declared_same word.Var text None env env' a = sim_pure (trim_view around.tildes) tt
  declared_same word.Let text None env env' a = declare_same text [] env env' a value.Undefined
  declared_same word.Const text None env env' a = declare_same text [] env env' a value.Undefined
  declared_same word.Var text (Some e) env env' a = sim_bind (trim_view around.tildes) (below.expr e env env' (value_coincide text (used e).free env env' a)) (λ v. write_same text (used e).free env env' a v)
  declared_same word.Let text (Some e) env env' a = sim_bind (trim_view around.tildes) (below.expr e env env' (value_coincide text (used e).free env env' a)) (λ v. declare_same text (used e).free env env' a v)
  declared_same word.Const text (Some e) env env' a = sim_bind (trim_view around.tildes) (below.expr e env env' (value_coincide text (used e).free env env' a)) (λ v. declare_same text (used e).free env env' a v)

  declarations_same : (kind : VarKind) (ds : List Decl) (env env' : Environment) → Coincide [] (all_of none joined (map (on_decl (finding (tilde around))) ds)).free env env'
      → Sim (trim_view around.tildes) (names.declarations around o p kind ds env) (names.declarations right o' q kind ds env')
  declarations_same kind [] env env' a = sim_pure (trim_view around.tildes) tt
  declarations_same kind (d ∷ ds) env env' a =
      let first = (on_decl (finding (tilde around)) d).free in
      let rest = (all_of none joined (map (on_decl (finding (tilde around))) ds)).free in
      sim_bind (trim_view around.tildes) (declared_same kind (name_of_decl d) (out-Decl d).value env env' (subst (λ (u : Used). Coincide [] u.free env env') (decl_uses (tilde around) d) (coincide_left first rest env env' a)))
      (λ _. declarations_same kind ds env env' (coincide_right first rest env env' a))

  -- ---- parts that may be left out

  start_same : (x : ForStartLayer Tree) (env env' : Environment) → Coincide [] (of_for_start none joined (map_for_start (on (finding (tilde around))) x)).free env env' → Sim (trim_view around.tildes) (names.started_by around o p x env) (names.started_by right o' q x env')
  start_same ForStart-F.Absent env env' a = sim_pure (trim_view around.tildes) tt
  start_same (ForStart-F.ForStart::Var ds) env env' a = declarations_same word.Var ds env env' a
  start_same (ForStart-F.ForStart::Expr e) env env' a = sim_bind (trim_view around.tildes) (below.expr e env env' a) (λ _. sim_pure (trim_view around.tildes) tt)

  tested_same : (e : Option Expr) (env env' : Environment) → Coincide [] (value_used (tilde around) e).free env env' → Sim (trim_view around.tildes) (names.tested_by around o p e env) (names.tested_by right o' q e env')
  tested_same None env env' a = sim_pure (trim_view around.tildes) (value.Bool true)
  tested_same (Some e) env env' a = below.expr e env env' a

  stepped_same : (e : Option Expr) (env env' : Environment) → Coincide [] (value_used (tilde around) e).free env env' → Sim (trim_view around.tildes) (names.stepped_by around o p e env) (names.stepped_by right o' q e env')
  stepped_same None env env' a = sim_pure (trim_view around.tildes) tt
  stepped_same (Some e) env env' a = sim_bind (trim_view around.tildes) (below.expr e env env' a) (λ _. sim_pure (trim_view around.tildes) tt)

  for_same : (start : ForStart) (test step : Option Expr) (t : Stmt) (env env' : Environment)
      → Coincide [] ((on_for_start (finding (tilde around)) start).free ++ ((value_used (tilde around) test).free ++ ((value_used (tilde around) step).free ++ (stmt_used t).free))) env env'
      → Sim (trim_view around.tildes) (names.stmt_at around o p (StmtKind-F.For start test step t) env) (names.stmt_at right o' q (StmtKind-F.For start test step t) env')
  for_same start test step t env env' a =
      let s = (on_for_start (finding (tilde around)) start).free in
      let e = (value_used (tilde around) test).free in
      let f = (value_used (tilde around) step).free in
      let all = coincide_right s (e ++ (f ++ (stmt_used t).free)) env env' a in
      let rest = coincide_right e (f ++ (stmt_used t).free) env env' all in
      sim_starting (trim_view around.tildes)
      (start_same (out-ForStart start) env env' (subst (λ (u : Used). Coincide [] u.free env env') (start_uses (tilde around) start) (coincide_left s (e ++ (f ++ (stmt_used t).free)) env env' a)))
      (sim_loop (trim_view around.tildes) (tested_same test env env' (coincide_left e (f ++ (stmt_used t).free) env env' all)) (below.stmt t env env' (coincide_right f (stmt_used t).free env env' rest))
      (stepped_same step env env' (coincide_left f (stmt_used t).free env env' rest)))

  -- ---- handlers and blocks

  handler_same : (text : List ℕ) (t : Stmt) (env env' : Environment) → Coincide [] (without (text ∷ []) (stmt_used t).free) env env' → (v : Value) → Sim (trim_view around.tildes) (names.handler around o p text t env v) (names.handler right o' q text t env' v)
  unfolding names.handler add_cell
  handler_same text t env env' a v = record {
    run = λ s good.
        let b : Binding = record { name = text; address = length s.0.store; constant = false } in
        (below.stmt t (b ∷ env) (b ∷ env') (coincide_more b [] (stmt_used t).free env env' (coincide_without (text ∷ []) (stmt_used t).free env env' a))).run (record s.0 { store = s.0.store ++ cell.Variable (Some v) ∷ [] }, s.1) tt;
  }

  block_same : (ts : List Stmt) (env env' : Environment) → Coincide [] (without (all_used (tilde around) ts).here (all_used (tilde around) ts).free) env env' → Sim (trim_view around.tildes) (names.block around o p ts env) (names.block right o' q ts env')
  unfolding names.block
  block_same ts env env' a =
      let u = all_used (tilde around) ts in
      let bound : Coincide (named (lexicals ts)) u.free env env' = subst (λ (xs : Names). Coincide xs u.free env env') (here_is (tilde around) ts) (coincide_without u.here u.free env env' a) in
      let wide : Coincide (named (lexicals ts) ++ []) u.free env env' =
      coincide_names (named (lexicals ts)) (named (lexicals ts) ++ []) u.free env env' (λ y h. false_by (has (named (lexicals ts)) y) (λ k. clash (has (named (lexicals ts) ++ []) y) (has_left (named (lexicals ts)) [] y k) h)) bound in
      lexicals_then around (lexicals ts) [] u.free env env' (λ e. names.stmts around o p ts e) (λ e. names.stmts right o' q ts e) wide (λ e e' b. stmts_same ts e e' b)

  -- ---- the cases

  pub stmt_same : (x : StmtKindLayer Tree) (env env' : Environment) → Coincide [] (used_by_stmt_kind (tilde around) (map_stmt_kind (on (finding (tilde around))) x)).free env env'
      → Sim (trim_view around.tildes) (names.stmt_at around o p x env) (names.stmt_at right o' q x env')
  stmt_same (StmtKind-F.StmtKind::Expr e) env env' a = sim_expression (trim_view around.tildes) (below.expr e env env' a)
  stmt_same (StmtKind-F.StmtKind::Var kind ds) env env' a =
      sim_finished (trim_view around.tildes) (declarations_same kind ds env env' (subst (λ (xs : Names). Coincide [] xs env env') (declared_free kind (all_of none joined (map (on_decl (finding (tilde around))) ds))) a))
  stmt_same (StmtKind-F.Function f) env env' a = sim_pure (trim_view around.tildes) completion.Normal
  stmt_same (StmtKind-F.Service f) env env' a = sim_pure (trim_view around.tildes) completion.Normal
  stmt_same (StmtKind-F.If e b None) env env' a =
      let rest = coincide_right (used e).free ((stmt_used b).free ++ []) env env' a in
      sim_choice (trim_view around.tildes) (below.expr e env env' (coincide_left (used e).free ((stmt_used b).free ++ []) env env' a)) (below.stmt b env env' (coincide_left (stmt_used b).free [] env env' rest)) (sim_pure (trim_view around.tildes) completion.Normal)
  stmt_same (StmtKind-F.If e b (Some c)) env env' a =
      let rest = coincide_right (used e).free ((stmt_used b).free ++ (stmt_used c).free) env env' a in
      sim_choice (trim_view around.tildes) (below.expr e env env' (coincide_left (used e).free ((stmt_used b).free ++ (stmt_used c).free) env env' a)) (below.stmt b env env' (coincide_left (stmt_used b).free (stmt_used c).free env env' rest))
      (below.stmt c env env' (coincide_right (stmt_used b).free (stmt_used c).free env env' rest))
  stmt_same (StmtKind-F.While e b) env env' a =
      sim_loop (trim_view around.tildes) (below.expr e env env' (coincide_left (used e).free (stmt_used b).free env env' a)) (below.stmt b env env' (coincide_right (used e).free (stmt_used b).free env env' a)) (sim_pure (trim_view around.tildes) tt)
  stmt_same (StmtKind-F.For start None None t) env env' a = for_same start None None t env env' a
  stmt_same (StmtKind-F.For start None (Some f) t) env env' a = for_same start None (Some f) t env env' a
  stmt_same (StmtKind-F.For start (Some e) None t) env env' a = for_same start (Some e) None t env env' a
  stmt_same (StmtKind-F.For start (Some e) (Some f) t) env env' a = for_same start (Some e) (Some f) t env env' a
  stmt_same (StmtKind-F.Return None) env env' a = sim_pure (trim_view around.tildes) (completion.Return value.Undefined)
  stmt_same (StmtKind-F.Return (Some e)) env env' a = sim_given_back (trim_view around.tildes) (below.expr e env env' a)
  stmt_same StmtKind-F.Break env env' a = sim_pure (trim_view around.tildes) completion.Break
  stmt_same StmtKind-F.Continue env env' a = sim_pure (trim_view around.tildes) completion.Continue
  stmt_same (StmtKind-F.Throw e) env env' a = sim_thrown (trim_view around.tildes) (below.expr e env env' a)
  stmt_same (StmtKind-F.Try b name c) env env' a =
      let rest = without (name.name ∷ []) (stmt_used c).free in
      sim_attempt (trim_view around.tildes) (below.stmt b env env' (coincide_left (stmt_used b).free rest env env' a)) (λ v. handler_same name.name c env env' (coincide_right (stmt_used b).free rest env env' a) v)
  stmt_same (StmtKind-F.Block ts) env env' a = block_same ts env env' a
  stmt_same StmtKind-F.Empty env env' a = sim_pure (trim_view around.tildes) completion.Normal
