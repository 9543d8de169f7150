-- Code on slots that stands for a statement does what it does, over parts that do.
use Rattle.std.proofs.Common.{◌≡◌, ℕ, zero, suc, ◌+◌, ◌≤◌, true, false, List, [], ◌∷◌, ◌++◌, length, map, Option, Some, None, sym, subst, arith}
use Rattle.mt_eval_meaning.specs.Code.{AllStand, OptionalStands, ExprStandsTo, StmtStands, StmtStandsTo, NameStands, DeclStands, StartStands, block_scope}
use Rattle.mt_eval_meaning.specs.Scopes.{Scope, environment_of, IsBelow, with_name}
use Rattle.mt_eval_meaning.specs.States.{Numbered, keeping_free}
use Rattle.mt_eval_agreement.proofs.Blocks.{alone_then, lexicals_then}
use Rattle.mt_eval_agreement.proofs.Endings.{sim_expression, sim_finished, sim_given_back, sim_thrown, sim_sequence, sim_choice, sim_loop, sim_starting, sim_attempt}
use Rattle.mt_eval_agreement.proofs.Expressions.{SimExprs}
use Rattle.mt_eval_agreement.proofs.Forms.{AllSim, none, one}
use Rattle.mt_eval_agreement.proofs.Functions.{declare_sim, write_sim}
use Rattle.mt_eval_agreement.proofs.Sim.{slots_view}
use Rattle.mt_eval_agreement.proofs.Views.{Sim, sim_pure, sim_bind}
use Rattle.mt_eval_meaning.specs.Entering.{Named, lexical_variables}
use Rattle.mt_eval_meaning.specs.Evaluation as names
use Rattle.mt_eval_meaning.specs.Hoisting.{lexicals}
use Rattle.mt_eval_meaning.specs.Host.{Outside}
use Rattle.mt_eval_meaning.specs.Names.{Environment, Surroundings}
use Rattle.mt_eval_meaning.specs.Runs.{and_then}
use Rattle.mt_eval_meaning.specs.State.{Eval, on_state}
use Rattle.mt_eval_meaning.specs.Statements as forms
use Rattle.mt_eval_meaning.specs.Statements.{returned}
use Rattle.mt_eval_meaning.specs.declared.completion.Completion.{Completion}
use Rattle.mt_eval_meaning.specs.declared.completion.Completion.TheVariants as completion
use Rattle.mt_eval_meaning.specs.Activations.{Activation, grown}
use Rattle.mt_eval_meaning.specs.Slots as slots
use Rattle.mt_eval_meaning.specs.Slots.{StmtLayer}
use Rattle.mt_eval_meaning.specs.declared.expr.Expr as code_expr
use Rattle.mt_eval_meaning.specs.declared.function.Function.{Function as Code}
use Rattle.mt_eval_meaning.specs.declared.name.Name.{Name}
use Rattle.mt_eval_meaning.specs.declared.stmt.Decl as code_decl
use Rattle.mt_eval_meaning.specs.declared.stmt.ForStart.{ForStart}
use Rattle.mt_eval_meaning.specs.declared.stmt.ForStart.TheVariants as start
use Rattle.mt_eval_meaning.specs.declared.stmt.Stmt as code
use Rattle.mt_eval_meaning.specs.declared.stmt.Stmt.TheOpen.{Stmt-F}
use Rattle.mt_syntax.specs.Fold.{Tree, ForStartLayer, StmtKindLayer}
use Rattle.mt_syntax.specs.declared.tree.Decl.{Decl, out-Decl}
use Rattle.mt_syntax.specs.declared.tree.Expr.{Expr}
use Rattle.mt_syntax.specs.declared.tree.ExprKind.TheOpen.{ForStart-F, StmtKind-F}
use Rattle.mt_syntax.specs.declared.tree.ForStart.{out-ForStart}
use Rattle.mt_syntax.specs.declared.tree.Stmt.{Stmt}
use Rattle.mt_tree.specs.declared.operators.VarKind.{VarKind}
use Rattle.mt_tree.specs.declared.operators.VarKind.TheVariants as word
use Rattle.mt_value.specs.declared.value.Value.{Value}
use Rattle.mt_value.specs.declared.value.Value.TheVariants as value

module _ {H : Type 0} (around : Surroundings) (units : List Code) (table : List Numbered) where
  abbrev pub SimStmts : ℕ → slots.Parts H → names.Parts H → Type 0
  SimStmts depth p q =
      (k : ℕ) → k ≤ depth → (scope : Scope) (activation : Activation) (u : code.Stmt) (t : Stmt) → IsBelow (length activation) scope → StmtStandsTo around units table k scope (length activation) u t
      → Sim (slots_view table) (p.stmt u activation) (q.stmt t (environment_of scope activation))

  module _ (depth : ℕ) (p : slots.Parts H) (outside : Outside (Named H)) (q : names.Parts H) (exprs : SimExprs around units table depth p q) (inside : SimStmts depth p q) where
    pub stmts_sim : (k : ℕ) → k ≤ depth → (scope : Scope) (activation : Activation) (us : List code.Stmt) (ts : List Stmt) → IsBelow (length activation) scope → AllStand (StmtStandsTo around units table k scope (length activation)) us ts
        → AllSim (slots_view table) (map (λ u. p.stmt u activation) us) (map (λ t. q.stmt t (environment_of scope activation)) ts)
    stmts_sim k le scope activation [] [] low h = none
    stmts_sim k le scope activation (u ∷ us) (t ∷ ts) low h = one (inside k le scope activation u t low h.0) (stmts_sim k le scope activation us ts low h.1)
    stmts_sim k le scope activation [] (t ∷ ts) low h = absurd h
    stmts_sim k le scope activation (u ∷ us) [] low h = absurd h

    pub body_sim : (k : ℕ) → k ≤ depth → (scope : Scope) (activation : Activation) (us : List code.Stmt) (ts : List Stmt) → IsBelow (length activation) scope → AllStand (StmtStandsTo around units table k scope (length activation)) us ts
        → Sim (slots_view table) (slots.body units p us activation) (names.body (keeping_free around) outside q ts (environment_of scope activation))
    unfolding slots.body names.body
    body_sim k le scope activation us ts low h = sim_bind (slots_view table) (sim_sequence (slots_view table) (stmts_sim k le scope activation us ts low h)) (λ c. sim_pure (slots_view table) (returned c))

    module _ (scope : Scope) (activation : Activation) (low : IsBelow (length activation) scope) where
      -- ---- declarations

      declared_at : (k : ℕ) → k ≤ depth → (kind : VarKind) (n : Name) (text : List ℕ) (u : Option code_expr.Expr) (e : Option Expr) → NameStands around units table scope n text → OptionalStands (ExprStandsTo around units table k scope) u e
          → Sim (slots_view table) (slots.declared_by units p kind n u activation) (names.declared_by (keeping_free around) outside q kind text e (environment_of scope activation))
      declared_at k le word.Var n text None None s h = sim_pure (slots_view table) tt
      declared_at k le word.Var n text (Some u) (Some e) s h = sim_bind (slots_view table) (exprs k le scope activation u e low h) (λ v. write_sim around units table scope activation low n text s v)
      declared_at k le word.Let n text None None s h = declare_sim around units table scope activation low n text s value.Undefined
      declared_at k le word.Let n text (Some u) (Some e) s h = sim_bind (slots_view table) (exprs k le scope activation u e low h) (λ v. declare_sim around units table scope activation low n text s v)
      declared_at k le word.Const n text None None s h = declare_sim around units table scope activation low n text s value.Undefined
      declared_at k le word.Const n text (Some u) (Some e) s h = sim_bind (slots_view table) (exprs k le scope activation u e low h) (λ v. declare_sim around units table scope activation low n text s v)
      declared_at k le kind n text None (Some e) s h = absurd h
      declared_at k le kind n text (Some u) None s h = absurd h

      declaration_sim : (k : ℕ) → k ≤ depth → (kind : VarKind) (d : code_decl.Decl) (e : Decl) → DeclStands around units table (ExprStandsTo around units table k) scope d e
          → Sim (slots_view table) (slots.declaration units p kind activation d) (names.declaration (keeping_free around) outside q kind e (environment_of scope activation))
      unfolding slots.declaration
      declaration_sim k le kind d e h = declared_at k le kind d.name (out-Decl e).name.name d.value (out-Decl e).value h.0 h.1

      declarations_sim : (k : ℕ) → k ≤ depth → (kind : VarKind) (ds : List code_decl.Decl) (es : List Decl) → AllStand (DeclStands around units table (ExprStandsTo around units table k) scope) ds es
          → Sim (slots_view table) (slots.declarations units p kind ds activation) (names.declarations (keeping_free around) outside q kind es (environment_of scope activation))
      declarations_sim k le kind [] [] h = sim_pure (slots_view table) tt
      declarations_sim k le kind (d ∷ ds) (e ∷ es) h = sim_bind (slots_view table) (declaration_sim k le kind d e h.0) (λ _. declarations_sim k le kind ds es h.1)
      declarations_sim k le kind [] (e ∷ es) h = absurd h
      declarations_sim k le kind (d ∷ ds) [] h = absurd h

      -- ---- the parts of a loop, and others that may be absent

      start_at : (k : ℕ) → k ≤ depth → (u : ForStart) (e : ForStartLayer Tree) → StartStands around units table (ExprStandsTo around units table k) scope u e → Sim (slots_view table) (slots.started_by units p u activation) (names.started_by (keeping_free around) outside q e (environment_of scope activation))
      start_at k le start.Absent ForStart-F.Absent h = sim_pure (slots_view table) tt
      start_at k le (start.Var ds) (ForStart-F.ForStart::Var es) h = declarations_sim k le word.Var ds es h
      start_at k le (start.Expr u) (ForStart-F.ForStart::Expr e) h = sim_bind (slots_view table) (exprs k le scope activation u e low h) (λ _. sim_pure (slots_view table) tt)
      start_at k le _ _ h = absurd h

      tested_at : (k : ℕ) → k ≤ depth → (u : Option code_expr.Expr) (e : Option Expr) → OptionalStands (ExprStandsTo around units table k scope) u e → Sim (slots_view table) (slots.tested_by units p u activation) (names.tested_by (keeping_free around) outside q e (environment_of scope activation))
      tested_at k le None None h = sim_pure (slots_view table) (value.Bool true)
      tested_at k le (Some u) (Some e) h = exprs k le scope activation u e low h
      tested_at k le None (Some e) h = absurd h
      tested_at k le (Some u) None h = absurd h

      stepped_at : (k : ℕ) → k ≤ depth → (u : Option code_expr.Expr) (e : Option Expr) → OptionalStands (ExprStandsTo around units table k scope) u e → Sim (slots_view table) (slots.stepped_by units p u activation) (names.stepped_by (keeping_free around) outside q e (environment_of scope activation))
      stepped_at k le None None h = sim_pure (slots_view table) tt
      stepped_at k le (Some u) (Some e) h = sim_bind (slots_view table) (exprs k le scope activation u e low h) (λ _. sim_pure (slots_view table) tt)
      stepped_at k le None (Some e) h = absurd h
      stepped_at k le (Some u) None h = absurd h

      else_at : (k : ℕ) → k ≤ depth → (u : Option code.Stmt) (t : Option Stmt) → OptionalStands (StmtStandsTo around units table k scope (length activation)) u t → Sim (slots_view table) (slots.or_else units p u activation) (names.or_else (keeping_free around) outside q t (environment_of scope activation))
      else_at k le None None h = sim_pure (slots_view table) completion.Normal
      else_at k le (Some u) (Some t) h = inside k le scope activation u t low h
      else_at k le None (Some t) h = absurd h
      else_at k le (Some u) None h = absurd h

      returned_at : (k : ℕ) → k ≤ depth → (u : Option code_expr.Expr) (e : Option Expr) → OptionalStands (ExprStandsTo around units table k scope) u e → Sim (slots_view table) (slots.returned_by units p u activation) (names.returned_by (keeping_free around) outside q e (environment_of scope activation))
      returned_at k le None None h = sim_pure (slots_view table) (completion.Return value.Undefined)
      returned_at k le (Some u) (Some e) h = sim_given_back (slots_view table) (exprs k le scope activation u e low h)
      returned_at k le None (Some e) h = absurd h
      returned_at k le (Some u) None h = absurd h

      -- ---- what makes variables

      handler_sim : (k : ℕ) → k ≤ depth → (text : List ℕ) (u : code.Stmt) (t : Stmt) → StmtStandsTo around units table k (with_name (length activation) text false [] ++ scope) (suc (length activation)) u t → (v : Value)
          → Sim (slots_view table) (slots.handler units p u activation v) (names.handler (keeping_free around) outside q text t (environment_of scope activation) v)
      unfolding slots.handler names.handler
      handler_sim k le text u t h v =
          let end : length activation + zero ≡ length activation = omega arith in
          alone_then table (Some v) text false (length activation + zero) scope activation (p.stmt u) (q.stmt t) end low (λ inner grow n b.
          inside k le (with_name (length activation) text false [] ++ scope) inner u t b (subst (λ (m : ℕ). StmtStandsTo around units table k (with_name (length activation) text false [] ++ scope) m u t) (sym n) h))

      block_sim : (k : ℕ) → k ≤ depth → (n : ℕ) (us : List code.Stmt) (ts : List Stmt) → n ≡ length (lexicals ts) → AllStand (StmtStandsTo around units table k (block_scope around units table (ExprStandsTo around units table k) scope (length activation) ts) (length activation + n)) us ts
          → Sim (slots_view table) (slots.block units p n us activation) (names.block (keeping_free around) outside q ts (environment_of scope activation))
      unfolding slots.block names.block
      block_sim k le n us ts e h =
          let inner_scope = block_scope around units table (ExprStandsTo around units table k) scope (length activation) ts in
          let f : Activation → Eval H Completion = λ inner. slots.stmts units p us inner in
          let g : Environment → Eval (Named H) Completion = λ env. names.stmts (keeping_free around) outside q ts env in
          let long : length activation ≡ length activation + zero = omega arith in
          subst (λ (m : ℕ). Sim (slots_view table) (λ s. and_then (on_state (grown m None activation) s) f) (λ s. and_then (lexical_variables (lexicals ts) (environment_of scope activation) s) g)) (sym e)
          (lexicals_then table (lexicals ts) [] scope activation (length activation) f g long low (λ inner grow l b.
          let at : length activation + n ≡ length inner = omega (arith, e, l) in
          sim_sequence (slots_view table) (stmts_sim k le inner_scope inner us ts b (subst (λ (m : ℕ). AllStand (StmtStandsTo around units table k inner_scope m) us ts) at h))))

      -- ---- the cases

      pub case_stmt : (k : ℕ) → k ≤ depth → (u : StmtLayer) (t : StmtKindLayer Tree) → StmtStands around units table (ExprStandsTo around units table k) (StmtStandsTo around units table k) scope (length activation) u t
          → Sim (slots_view table) (slots.stmt_at units p u activation) (names.stmt_at (keeping_free around) outside q t (environment_of scope activation))
      case_stmt k le (Stmt-F.Expr u) (StmtKind-F.StmtKind::Expr e) h = sim_expression (slots_view table) (exprs k le scope activation u e low h)
      case_stmt k le (Stmt-F.Var kind ds) (StmtKind-F.StmtKind::Var other es) h =
          subst (λ (z : VarKind). Sim (slots_view table) (forms.finished (slots.declarations units p kind ds activation)) (forms.finished (names.declarations (keeping_free around) outside q z es (environment_of scope activation)))) h.0 (sim_finished (slots_view table) (declarations_sim k le kind ds es h.1))
      case_stmt k le Stmt-F.Empty (StmtKind-F.Function f) h = sim_pure (slots_view table) completion.Normal
      case_stmt k le Stmt-F.Empty (StmtKind-F.Service f) h = sim_pure (slots_view table) completion.Normal
      case_stmt k le Stmt-F.Empty StmtKind-F.Empty h = sim_pure (slots_view table) completion.Normal
      case_stmt k le (Stmt-F.If u a b) (StmtKind-F.If e c d) h = sim_choice (slots_view table) (exprs k le scope activation u e low h.0) (inside k le scope activation a c low h.1) (else_at k le b d h.2)
      case_stmt k le (Stmt-F.While u a) (StmtKind-F.While e c) h = sim_loop (slots_view table) (exprs k le scope activation u e low h.0) (inside k le scope activation a c low h.1) (sim_pure (slots_view table) tt)
      case_stmt k le (Stmt-F.For begin test step a) (StmtKind-F.For other e f c) h =
          sim_starting (slots_view table) (start_at k le begin (out-ForStart other) h.0) (sim_loop (slots_view table) (tested_at k le test e h.1) (inside k le scope activation a c low h.3) (stepped_at k le step f h.2))
      case_stmt k le (Stmt-F.Return u) (StmtKind-F.Return e) h = returned_at k le u e h
      case_stmt k le Stmt-F.Break StmtKind-F.Break h = sim_pure (slots_view table) completion.Break
      case_stmt k le Stmt-F.Continue StmtKind-F.Continue h = sim_pure (slots_view table) completion.Continue
      case_stmt k le (Stmt-F.Throw u) (StmtKind-F.Throw e) h = sim_thrown (slots_view table) (exprs k le scope activation u e low h)
      case_stmt k le (Stmt-F.Try a b) (StmtKind-F.Try c text d) h = sim_attempt (slots_view table) (inside k le scope activation a c low h.0) (λ v. handler_sim k le text.name b d h.1 v)
      case_stmt k le (Stmt-F.Block n us) (StmtKind-F.Block ts) h = block_sim k le n us ts h.0 h.1
      case_stmt k le _ _ h = absurd h
