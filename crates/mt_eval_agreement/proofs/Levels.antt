-- Calls of functions, the levels of the recursion, and whole jobs.
use Rattle.std.proofs.Common.{◌≡◌, ℕ, zero, suc, ◌+◌, ◌<◌, ◌≤◌, nat_eq, List, [], ◌∷◌, ◌++◌, length, Option, Some, None, true, false, cond, refl, sym, ap, ◌∙◌, subst, arith}
use Rattle.std.proofs.lemmas.Bool.{eq-eqb, ne_eqb}
use Rattle.std.proofs.lemmas.List.{append-nil}
use Rattle.std.specs.Prelude.{slice_get}
use Rattle.mt_eval_meaning.specs.Agreement.{file_on_slots}
use Rattle.mt_eval_meaning.specs.Code.{AllStand, StmtStandsTo, CodeStands, TableStands, FileStands, ClientCodeStands}
use Rattle.mt_eval_meaning.specs.Scopes.{Scope, environment_of, IsBelow, body_entry}
use Rattle.mt_eval_meaning.specs.States.{Numbered, keeping_free}
use Rattle.mt_eval_agreement.proofs.Shown.{zipped, closure_by, closures_in, closures_from, view, IsGood, Knows, KnowsFunction}
use Rattle.mt_eval_agreement.proofs.Expressions.{SimExprs, case_expr}
use Rattle.mt_eval_agreement.proofs.Functions.{closure_of, scope_of, function_then, file_scope, file_then, client_scope, client_then}
use Rattle.mt_eval_agreement.proofs.Keeps.{keep_spend, keep_throw}
use Rattle.mt_eval_agreement.proofs.Outsides.{host_calls, applied_sim}
use Rattle.mt_eval_agreement.proofs.Sim.{slots_view}
use Rattle.mt_eval_agreement.proofs.Views.{Agrees, Sim, sim_pure, sim_leave, sim_bind, sim_on_state}
use Rattle.mt_eval_agreement.proofs.Statements.{SimStmts, body_sim, case_stmt}
use Rattle.mt_eval_meaning.specs.Entering.{Closure, Closures, Named, closure_at}
use Rattle.mt_eval_meaning.specs.Evaluation as names
use Rattle.mt_eval_meaning.specs.Evaluation.{expr_kind_of}
use Rattle.mt_eval_meaning.specs.Hoisting.{kind_of}
use Rattle.mt_eval_meaning.specs.Host.{Meaning}
use Rattle.mt_eval_meaning.specs.Names.{Environment, Surroundings}
use Rattle.mt_eval_meaning.specs.Runs.{gives, leaves, and_then}
use Rattle.mt_eval_meaning.specs.State.{Eval}
use Rattle.mt_eval_meaning.specs.declared.exit.Exit.TheVariants as exit
use Rattle.mt_eval_meaning.specs.declared.exit.Stop.TheVariants as stop
use Rattle.mt_eval_meaning.specs.declared.state.State.{State}
use Rattle.mt_ops.specs.declared.error.ErrorKind.TheVariants as error
use Rattle.mt_eval_meaning.specs.Activations.{Activation}
use Rattle.mt_eval_meaning.specs.Slots as slots
use Rattle.mt_eval_meaning.specs.Slots.{function_in}
use Rattle.mt_eval_meaning.specs.declared.expr.Expr as code
use Rattle.mt_eval_meaning.specs.declared.function.Function.{Function as Code}
use Rattle.mt_eval_meaning.specs.declared.function.Unit.{Unit as Unit'}
use Rattle.mt_eval_meaning.specs.declared.stmt.Stmt as code_stmt
use Rattle.mt_syntax.specs.declared.tree.Function.{out-Function}
use Rattle.mt_syntax.specs.declared.tree.Stmt.{Stmt}
use Rattle.mt_value.specs.declared.cell.Cell.{Cell}
use Rattle.mt_value.specs.declared.cell.Cell.TheVariants as cell
use Rattle.mt_value.specs.declared.cell.FunCell.{FunCell}
use Rattle.mt_value.specs.declared.value.Value.{Value}
use Rattle.mt_tree.specs.Limits.{call_limit, depth_limit}

-- ---- the function in a cell

module _ (table : List Numbered) where
  abbrev pub closure_in : Option Numbered → FunCell → Option Closure
  closure_in None f = None
  closure_in (Some n) f = Some (record { own = n.own; function = n.function; environment = zipped n.names f.captured })

  abbrev pub closure_for : Option FunCell → Option Closure
  closure_for None = None
  closure_for (Some f) = closure_in (slice_get table f.function) f

  passed_by : (o : Option Numbered) (f : FunCell) (x base : ℕ) (rest : Closures) → nat_eq x base ≡ false → closure_at x (closure_by table o f base ++ rest) ≡ closure_at x rest
  passed_by None f x base rest e = refl
  passed_by (Some n) f x base rest e = ap (λ b. cond {A = Option Closure} b (Some (record { own = n.own; function = n.function; environment = zipped n.names f.captured })) (closure_at x rest)) e

  -- the function of another cell is passed over
  passed : (c : Cell) (x base : ℕ) (rest : Closures) → nat_eq x base ≡ false → closure_at x (closures_in table base c ++ rest) ≡ closure_at x rest
  passed (cell.Fun f) x base rest e = passed_by (slice_get table f.function) f x base rest e
  passed (cell.Variable v) x base rest e = refl
  passed (cell.Arr items) x base rest e = refl
  passed (cell.Obj properties) x base rest e = refl
  passed (cell.Frame f) x base rest e = refl
  passed (cell.Html h) x base rest e = refl
  passed (cell.Code c) x base rest e = refl

  none_before : (store : List Cell) (x base : ℕ) → x < base → closure_at x (closures_from table base store) ≡ None
  none_before [] x base low = refl
  none_before (c ∷ store) x base low =
      let lower : x < suc base = omega (arith, low) in
      passed c x base (closures_from table (suc base) store) (ne_eqb x base (λ e. omega (arith, e, low))) ∙ none_before store x (suc base) lower

  here_by : (o : Option Numbered) (f : FunCell) (x base : ℕ) (rest : Closures) → nat_eq x base ≡ true → closure_at x rest ≡ None → closure_at x (closure_by table o f base ++ rest) ≡ closure_in o f
  here_by None f x base rest e n = n
  here_by (Some n) f x base rest e none = ap (λ b. cond {A = Option Closure} b (Some (record { own = n.own; function = n.function; environment = zipped n.names f.captured })) (closure_at x rest)) e

  here : (c : Cell) (x base : ℕ) (rest : Closures) → nat_eq x base ≡ true → closure_at x rest ≡ None → closure_at x (closures_in table base c ++ rest) ≡ closure_for (function_in (Some c))
  here (cell.Fun f) x base rest e n = here_by (slice_get table f.function) f x base rest e n
  here (cell.Variable v) x base rest e n = n
  here (cell.Arr items) x base rest e n = n
  here (cell.Obj properties) x base rest e n = n
  here (cell.Frame f) x base rest e n = n
  here (cell.Html h) x base rest e n = n
  here (cell.Code c) x base rest e n = n

  found_from : (store : List Cell) (x base at : ℕ) → x ≡ base + at → closure_at x (closures_from table base store) ≡ closure_for (function_in (slice_get store at))
  found_from [] x base at e = refl
  found_from (c ∷ store) x base zero e =
      let same : x ≡ base = omega (arith, e) in
      let low : x < suc base = omega (arith, e) in
      here c x base (closures_from table (suc base) store) (eq-eqb x base same) (none_before store x (suc base) low)
  found_from (c ∷ store) x base (suc at) e =
      let next : x ≡ suc base + at = omega (arith, e) in
      passed c x base (closures_from table (suc base) store) (ne_eqb x base (λ same. omega (arith, e, same))) ∙ found_from store x (suc base) at next

  pub closure_found : (store : List Cell) (at : ℕ) → closure_at at (closures_from table 0 store) ≡ closure_for (function_in (slice_get store at))
  closure_found store at = let e : at ≡ 0 + at = omega arith in found_from store at 0 at e

  abbrev pub KnowsIn : Option FunCell → Type 0
  KnowsIn None = Unit {0}
  KnowsIn (Some f) = KnowsFunction table (slice_get table f.function) f

  known_here : (c : Cell) → Knows table c → KnowsIn (function_in (Some c))
  known_here (cell.Fun f) h = h
  known_here (cell.Variable v) h = tt
  known_here (cell.Arr items) h = tt
  known_here (cell.Obj properties) h = tt
  known_here (cell.Frame f) h = tt
  known_here (cell.Html h) k = tt
  known_here (cell.Code c) h = tt

  pub known_in : (store : List Cell) (at : ℕ) → IsGood table store → KnowsIn (function_in (slice_get store at))
  known_in [] at h = tt
  known_in (c ∷ store) zero h = known_here c h.0
  known_in (c ∷ store) (suc at) h = known_in store at h.1

module _ {H : Type 0} (around : Surroundings) (units : List Code) (table : List Numbered)
    (host : Meaning H) where
  module _ (f : FunCell → Eval H Value) (g : Closure → Eval (Named H) Value)
      (each : (c : FunCell) (n : Numbered) → slice_get table c.function ≡ Some n → length c.captured ≡ length n.names → Sim (slots_view table) (f c) (g (record { own = n.own; function = n.function; environment = zipped n.names c.captured }))) where
    entered_in : (c : FunCell) (o : Option Numbered) → slice_get table c.function ≡ o → KnowsFunction table o c → (s : State × H) → IsGood table s.0.store → Agrees (slots_view table) (f c s) (names.entered_by (keeping_free around) host g (closure_in table o c) (view table s))
    entered_in c None is known s good = absurd known
    entered_in c (Some n) is known s good = (each c n is known).run s good

    entered_at : (o : Option FunCell) → KnowsIn table o → (s : State × H) → IsGood table s.0.store → Agrees (slots_view table) (slots.entered_by f o s) (names.entered_by (keeping_free around) host g (closure_for table o) (view table s))
    entered_at None known s good = (sim_on_state (slots_view table) (keep_throw table error.NotFunction)).run s good
    entered_at (Some c) known s good = entered_in c (slice_get table c.function) refl known s good

    entered_sim : (at : ℕ) → Sim (slots_view table) (slots.with_function at f) (names.with_closure (keeping_free around) host at g)
    unfolding slots.with_function
    entered_sim at = record {
      run = λ s good.
          subst (λ o. Agrees (slots_view table) (slots.entered_by f (function_in (slice_get s.0.store at)) s) (names.entered_by (keeping_free around) host g o (view table s))) (sym (closure_found table s.0.store at))
          (entered_at (function_in (slice_get s.0.store at)) (known_in table s.0.store at good) s good);
    }

  -- ---- the levels

  module _ (m : slots.Enter H) (n : names.Enter (keeping_free around) host) (enters : (at : ℕ) (vs : List Value) → Sim (slots_view table) (m at vs) (n at vs)) where
    level_exprs : (depth more : ℕ) → depth ≤ more → SimExprs around units table depth (slots.over host m (slots.level units host m depth)) (names.parts (keeping_free around) host n more)
    unfolding slots.expr names.expr
    level_exprs depth more deep zero le scope activation u e low h = absurd h
    level_exprs zero more deep (suc k) le scope activation u e low h = absurd (omega (arith, le))
    level_exprs (suc depth) zero deep (suc k) le scope activation u e low h = absurd (omega (arith, deep))
    level_exprs (suc depth) (suc more) deep (suc k) le scope activation u e low h =
        let shallow : depth ≤ more = omega (arith, deep) in
        let lower : k ≤ depth = omega (arith, le) in
        case_expr around units table depth (slots.over host m (slots.level units host m depth)) (names.outside_with (keeping_free around) host n) (names.parts (keeping_free around) host n more) (host_calls table host m n enters) (level_exprs depth more shallow) scope activation low k lower (code.out-Expr u) (expr_kind_of e) h

    level_stmts : (depth more : ℕ) → depth ≤ more → SimStmts around units table depth (slots.over host m (slots.level units host m depth)) (names.parts (keeping_free around) host n more)
    unfolding slots.stmt names.stmt
    level_stmts depth more deep zero le scope activation u t low h = absurd h
    level_stmts zero more deep (suc k) le scope activation u t low h = absurd (omega (arith, le))
    level_stmts (suc depth) zero deep (suc k) le scope activation u t low h = absurd (omega (arith, deep))
    level_stmts (suc depth) (suc more) deep (suc k) le scope activation u t low h =
        let shallow : depth ≤ more = omega (arith, deep) in
        let lower : k ≤ depth = omega (arith, le) in
        sim_bind (slots_view table) (sim_on_state (slots_view table) (keep_spend table 0)) (λ _.
        case_stmt around units table depth (slots.over host m (slots.level units host m depth)) (names.outside_with (keeping_free around) host n) (names.parts (keeping_free around) host n more) (level_exprs depth more shallow) (level_stmts depth more shallow) scope activation low k lower (code_stmt.out-Stmt u) (kind_of t) h)

    -- the statements of a body
    level_body : (scope : Scope) (activation : Activation) (us : List code_stmt.Stmt) (ts : List Stmt) → IsBelow (length activation) scope → AllStand (StmtStandsTo around units table depth_limit scope (length activation)) us ts
        → Sim (slots_view table) (slots.body units (slots.over host m (slots.level units host m depth_limit)) us activation) (names.body (keeping_free around) (names.outside_with (keeping_free around) host n) (names.parts (keeping_free around) host n depth_limit) ts (environment_of scope activation))
    level_body scope activation us ts low h =
        let same : depth_limit ≤ depth_limit = omega arith in
        body_sim around units table depth_limit (slots.over host m (slots.level units host m depth_limit)) (names.outside_with (keeping_free around) host n) (names.parts (keeping_free around) host n depth_limit) (level_exprs depth_limit depth_limit same) (level_stmts depth_limit depth_limit same) depth_limit same scope activation us ts low h

    called_sim : (c : Code) (e : Numbered) → CodeStands around units table c e → (captured : Activation) → length captured ≡ length e.names → (at : ℕ) (vs : List Value)
        → Sim (slots_view table) (slots.function_body units (slots.over host m (slots.level units host m depth_limit)) (Some c) captured at vs) (names.function_body (keeping_free around) (names.outside_with (keeping_free around) host n) (names.parts (keeping_free around) host n depth_limit) (closure_of e captured) at vs)
    unfolding names.function_body
    called_sim c e stands captured same at vs =
        let ts = (out-Function e.function).body in
        function_then around units table c e stands captured same at vs (slots.body units (slots.over host m (slots.level units host m depth_limit)) c.body.statements)
        (names.body (keeping_free around) (names.outside_with (keeping_free around) host n) (names.parts (keeping_free around) host n depth_limit) ts) (λ inner long low.
        level_body (scope_of around units table e) inner c.body.statements ts low (subst (λ (k : ℕ). AllStand (StmtStandsTo around units table depth_limit (scope_of around units table e) k) c.body.statements ts) long stands.body.statements))

  module _ (stands : TableStands around units table) where
    pub enter_sim : (calls : ℕ) (at : ℕ) (vs : List Value) → Sim (slots_view table) (slots.enter_to units host calls at vs) (names.enter_to (keeping_free around) host calls at vs)
    enter_sim zero at vs = entered_sim (λ c. λ s. leaves (exit.Stop stop.Depth) s) (λ c. λ s. leaves (exit.Stop stop.Depth) s) (λ c n is known. sim_leave (slots_view table) (exit.Stop stop.Depth)) at
    enter_sim (suc calls) at vs =
        let m = slots.enter_to units host calls in
        let n = names.enter_to (keeping_free around) host calls in
        entered_sim (λ c. slots.function_body units (slots.over host m (slots.level units host m depth_limit)) (slice_get units c.function) c.captured at vs)
        (λ c. names.function_body (keeping_free around) (names.outside_with (keeping_free around) host n) (names.parts (keeping_free around) host n depth_limit) c at vs) (λ c e is known.
        let found = stands.code c.function e is in
        subst (λ (o : Option Code). Sim (slots_view table) (slots.function_body units (slots.over host m (slots.level units host m depth_limit)) o c.captured at vs) (names.function_body (keeping_free around) (names.outside_with (keeping_free around) host n) (names.parts (keeping_free around) host n depth_limit) (closure_of e c.captured) at vs)) (sym found.1)
        (called_sim m n (enter_sim calls) found.0 e found.2 c.captured known at vs)) at

    -- ---- whole jobs

    pub called_agrees : (f : Value) (vs : List Value) → Sim (slots_view table) (slots.called units host f vs) (names.called (keeping_free around) host f vs)
    unfolding slots.called slots.parts names.called
    called_agrees f vs =
        applied_sim (slots_view table) (slots.over host (slots.enter_to units host (suc call_limit)) (slots.level units host (slots.enter_to units host (suc call_limit)) depth_limit)).outside (names.outside_with (keeping_free around) host (names.enter_to (keeping_free around) host (suc call_limit)))
        (host_calls table host (slots.enter_to units host (suc call_limit)) (names.enter_to (keeping_free around) host (suc call_limit)) (enter_sim (suc call_limit))) f vs

    pub client_agrees : (u : Unit') (items : List Stmt) → ClientCodeStands around units table u items → Sim (slots_view table) (slots.unit units host u) (names.client_code (keeping_free around) host items)
    unfolding slots.unit slots.parts names.client_code
    client_agrees u items code =
        let m = slots.enter_to units host call_limit in
        let n = names.enter_to (keeping_free around) host call_limit in
        client_then around units table u items code (slots.body units (slots.over host m (slots.level units host m depth_limit)) u.body.statements) (names.body (keeping_free around) (names.outside_with (keeping_free around) host n) (names.parts (keeping_free around) host n depth_limit) items) (λ inner long low.
        level_body m n (enter_sim call_limit) (client_scope items) inner u.body.statements items low
        (subst (λ (k : ℕ). AllStand (StmtStandsTo around units table depth_limit (client_scope items) k) u.body.statements items) long code.statements))

    -- the file gives the environment of its top, which its activation gives to the entry
    pub file_agrees : (u : Unit') (items : List Stmt) → FileStands around units table u items → Sim (slots_view table) (file_on_slots units host u items) (names.file (keeping_free around) host items)
    unfolding slots.parts names.file
    file_agrees u items code =
        let m = slots.enter_to units host call_limit in
        let n = names.enter_to (keeping_free around) host call_limit in
        let scope = file_scope items in
        let entry = body_entry 0 None [] items in
        file_then around units table u items code
        (λ activation s. and_then (slots.body units (slots.over host m (slots.level units host m depth_limit)) u.body.statements activation s) (λ _ s. gives (environment_of entry activation) s))
        (λ env s. and_then (names.body (keeping_free around) (names.outside_with (keeping_free around) host n) (names.parts (keeping_free around) host n depth_limit) items env s) (λ _ s. gives env s)) (λ inner long low.
        sim_bind (slots_view table) (level_body m n (enter_sim call_limit) scope inner u.body.statements items low
        (subst (λ (k : ℕ). AllStand (StmtStandsTo around units table depth_limit scope k) u.body.statements items) long code.body.statements)) (λ _.
        subst (λ (z : Environment). Sim (slots_view {H = H} table) (λ s. gives z s) (λ s. gives (environment_of scope inner) s)) (ap (λ (z : Scope). environment_of z inner) (append-nil entry)) (sim_pure (slots_view table) (environment_of scope inner))))
