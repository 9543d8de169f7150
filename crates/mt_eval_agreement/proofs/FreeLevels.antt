-- Functions that keep what is free in them do what those do that keep their whole environments: calls and whole jobs.
use Rattle.std.proofs.Common.{◌≡◌, ℕ, zero, suc, nat_eq, List, [], ◌∷◌, ◌++◌, map, Option, Some, None, Bool, true, false, cond, refl, sym, ◌∙◌, subst}
use Rattle.mt_eval_meaning.specs.Agreement.{SameTrimmed}
use Rattle.mt_eval_meaning.specs.Free.{Used}
use Rattle.mt_eval_meaning.specs.States.{keeping_free, trim, trimmed, trim_closure}
use Rattle.mt_eval_agreement.proofs.Bound.{Covers, bound_names, lexicals_make, body_makes, makes_then}
use Rattle.mt_eval_agreement.proofs.Cuts.{Coincide, coincide_same}
use Rattle.mt_eval_agreement.proofs.FreeBodies.{entered_same, function_same}
use Rattle.mt_eval_agreement.proofs.FreeExpressions.{tilde, SameParts, expr_same}
use Rattle.mt_eval_agreement.proofs.FreeStatements.{stmt_same}
use Rattle.mt_eval_agreement.proofs.Keeps.{keep_spend, keep_throw, keep_declare_global}
use Rattle.mt_eval_agreement.proofs.Outsides.{SimCalls, applied_sim}
use Rattle.mt_eval_agreement.proofs.Trims.{trim_view, same_on_host}
use Rattle.mt_eval_agreement.proofs.Uses.{named, all_used, expr_uses, stmt_uses}
use Rattle.mt_eval_agreement.proofs.Views.{Agrees, Sim, regrouped, sim_as, seen_run, sim_pure, sim_leave, sim_bind, sim_on_state}
use Rattle.mt_eval_meaning.specs.Entering.{Closure, Closures, Named, closure_at, lexical_variables, body_scope, define_all, enter_file, enter_client, function_names}
use Rattle.mt_eval_meaning.specs.Evaluation as names
use Rattle.mt_eval_meaning.specs.Evaluation.{expr_kind_of}
use Rattle.mt_eval_meaning.specs.Hoisting.{lexicals, variables, kind_of}
use Rattle.mt_eval_meaning.specs.Host.{Meaning, Outside, does}
use Rattle.mt_eval_meaning.specs.Names.{Environment, Surroundings}
use Rattle.mt_eval_meaning.specs.References.{declare_global}
use Rattle.mt_eval_meaning.specs.Runs.{Ran, gives, leaves, and_then, each}
use Rattle.mt_eval_meaning.specs.State.{Eval, on_state}
use Rattle.mt_eval_meaning.specs.declared.exit.Exit.TheVariants as exit
use Rattle.mt_eval_meaning.specs.declared.exit.Stop.TheVariants as stop
use Rattle.mt_eval_meaning.specs.declared.state.State.{State}
use Rattle.mt_ops.specs.declared.error.ErrorKind.TheVariants as error
use Rattle.mt_syntax.specs.declared.program.Tilde.{Tilde}
use Rattle.mt_syntax.specs.declared.tree.Function.{Function}
use Rattle.mt_syntax.specs.declared.tree.Stmt.{Stmt}
use Rattle.mt_value.specs.declared.value.Value.{Value}
use Rattle.mt_tree.specs.Limits.{call_limit, depth_limit}

-- ---- the function in a cell

module _ (tildes : List Tilde) where
  abbrev trimmed_option : Option Closure → Option Closure
  trimmed_option None = None
  trimmed_option (Some c) = Some (trim_closure tildes c)

  at_first : (b : Bool) (c : Closure) (r r' : Option Closure) → r' ≡ trimmed_option r → cond {A = Option Closure} b (Some (trim_closure tildes c)) r' ≡ trimmed_option (cond {A = Option Closure} b (Some c) r)
  at_first true c r r' h = refl
  at_first false c r r' h = h

  closure_trimmed : (at : ℕ) (cs : Closures) → closure_at at (map (λ c. (c.0, trim_closure tildes c.1)) cs) ≡ trimmed_option (closure_at at cs)
  closure_trimmed at [] = refl
  closure_trimmed at (c ∷ cs) = at_first (nat_eq at c.0) c.1 (closure_at at cs) (closure_at at (map (λ c. (c.0, trim_closure tildes c.1)) cs)) (closure_trimmed at cs)

module _ {H : Type 0} (around : Surroundings) (keeps : (own : Option (List ℕ)) (f : Function) (env : Environment) → around.kept own f env ≡ env) (host : Meaning H) where
  module _ (f g : Closure → Eval (Named H) Value) (each : (c : Closure) → Sim (trim_view around.tildes) (f c) (g (trim_closure around.tildes c))) where
    entered_by_same : (o : Option Closure) (s : State × Named H) → Agrees (trim_view around.tildes) (names.entered_by around host f o s) (names.entered_by (keeping_free around) host g (trimmed_option around.tildes o) (trim around.tildes s))
    entered_by_same None s = (sim_on_state (trim_view around.tildes) (keep_throw [] error.NotFunction)).run s tt
    entered_by_same (Some c) s = (each c).run s tt

    with_closure_same : (at : ℕ) → Sim (trim_view around.tildes) (names.with_closure around host at f) (names.with_closure (keeping_free around) host at g)
    with_closure_same at = record {
      run = λ s good.
          subst (λ (o : Option Closure). Agrees (trim_view around.tildes) (names.entered_by around host f (closure_at at s.1.closures) s) (names.entered_by (keeping_free around) host g o (trim around.tildes s))) (sym (closure_trimmed around.tildes at s.1.closures))
          (entered_by_same (closure_at at s.1.closures) s);
    }

  -- ---- the levels

  abbrev SameEnter : (ℕ → List Value → Eval (Named H) Value) → (ℕ → List Value → Eval (Named H) Value) → Type 0
  SameEnter m n = (at : ℕ) (vs : List Value) → Sim (trim_view around.tildes) (m at vs) (n at vs)

  calls_same : (m n : ℕ → List Value → Eval (Named H) Value) → SameEnter m n → SimCalls (trim_view around.tildes) (names.outside_with around host m) (names.outside_with (keeping_free around) host n)
  calls_same m n enters = record {
    native = λ which vs. same_on_host around.tildes (does (host.native which vs));
    method = λ base key vs. same_on_host around.tildes (does (host.method base key vs));
    get = λ base key. same_on_host around.tildes (does (host.get base key));
    set = λ base key v. same_on_host around.tildes (does (host.set base key v));
    frame = λ service vs. same_on_host around.tildes (does (host.frame service vs));
    staged = λ id vs. same_on_host around.tildes (does (host.staged id vs));
    element = λ tag xs vs. same_on_host around.tildes (does (host.element tag xs vs));
    enter = enters;
  }

  module _ (m n : ℕ → List Value → Eval (Named H) Value) (enters : SameEnter m n) where
    abbrev here : Outside (Named H)
    here = names.outside_with around host m

    abbrev there : Outside (Named H)
    there = names.outside_with (keeping_free around) host n

    level_same : (depth : ℕ) → SameParts around (names.parts around host m depth) (names.parts (keeping_free around) host n depth)
    unfolding names.expr names.stmt
    level_same zero = record {
      expr = λ e env env' a. sim_leave (trim_view around.tildes) (exit.Stop stop.Depth);
      stmt = λ t env env' a. sim_leave (trim_view around.tildes) (exit.Stop stop.Depth);
    }
    level_same (suc depth) =
        let p = names.parts around host m depth in
        let q = names.parts (keeping_free around) host n depth in
        record {
          expr = λ e env env' a. expr_same around keeps here there (calls_same m n enters) p q (level_same depth) (expr_kind_of e) env env' (subst (λ (u : Used). Coincide [] u.free env env') (expr_uses (tilde around) e) a);
          stmt = λ t env env' a.
              sim_bind (trim_view around.tildes) (sim_on_state (trim_view around.tildes) (keep_spend [] 0)) (λ _.
              stmt_same around here there p q (level_same depth) (kind_of t) env env' (subst (λ (u : Used). Coincide [] u.free env env') (stmt_uses (tilde around) t) a));
        }

    called_same : (c : Closure) (at : ℕ) (vs : List Value)
        → Sim (trim_view around.tildes) (names.function_body around here (names.parts around host m depth_limit) c at vs) (names.function_body (keeping_free around) there (names.parts (keeping_free around) host n depth_limit) (trim_closure around.tildes c) at vs)
    called_same c at vs = function_same around keeps here there (names.parts around host m depth_limit) (names.parts (keeping_free around) host n depth_limit) (level_same depth_limit) c at vs

    -- the functions and statements of a body whose environment is the same on both sides
    top_same : (items : List Stmt) (scope : Environment)
        → Sim (trim_view around.tildes) (λ s. and_then (define_all around scope items s) (λ _. names.body around here (names.parts around host m depth_limit) items scope))
        (λ s. and_then (define_all (keeping_free around) scope items s) (λ _. names.body (keeping_free around) there (names.parts (keeping_free around) host n depth_limit) items scope))
    top_same items scope =
        entered_same around keeps here there (names.parts around host m depth_limit) (names.parts (keeping_free around) host n depth_limit) (level_same depth_limit) items (function_names items) scope scope (λ y h. h)
        (coincide_same [] ((all_used (tilde around) items).free ++ function_names items) scope)

  pub enter_same : (calls : ℕ) → SameEnter (names.enter_to around host calls) (names.enter_to (keeping_free around) host calls)
  enter_same zero at vs = with_closure_same (λ c s. leaves (exit.Stop stop.Depth) s) (λ c s. leaves (exit.Stop stop.Depth) s) (λ c. sim_leave (trim_view around.tildes) (exit.Stop stop.Depth)) at
  enter_same (suc calls) at vs =
      let m = names.enter_to around host calls in
      let n = names.enter_to (keeping_free around) host calls in
      with_closure_same (λ c. names.function_body around (names.outside_with around host m) (names.parts around host m depth_limit) c at vs)
      (λ c. names.function_body (keeping_free around) (names.outside_with (keeping_free around) host n) (names.parts (keeping_free around) host n depth_limit) c at vs) (λ c. called_same m n (enter_same calls) c at vs) at

  -- ---- whole jobs

  globals_same : (text : List (List ℕ)) → Sim (trim_view {H = H} around.tildes) (each (map (λ name. on_state (declare_global name)) text)) (each (map (λ name. on_state (declare_global name)) text))
  globals_same [] = sim_pure (trim_view around.tildes) tt
  globals_same (name ∷ text) = sim_bind (trim_view around.tildes) (sim_on_state (trim_view around.tildes) (keep_declare_global [] name)) (λ _. globals_same text)

  called_trims : (f : Value) (vs : List Value) → Sim (trim_view around.tildes) (names.called around host f vs) (names.called (keeping_free around) host f vs)
  unfolding names.called
  called_trims f vs =
      let m = names.enter_to around host (suc call_limit) in
      let n = names.enter_to (keeping_free around) host (suc call_limit) in
      applied_sim (trim_view around.tildes) (names.outside_with around host m) (names.outside_with (keeping_free around) host n) (calls_same m n (enter_same (suc call_limit))) f vs

  file_trims : (items : List Stmt) → Sim (trim_view around.tildes) (names.file around host items) (names.file (keeping_free around) host items)
  unfolding names.file enter_file
  file_trims items =
      let m = names.enter_to around host call_limit in
      let n = names.enter_to (keeping_free around) host call_limit in
      let p = names.parts around host m depth_limit in
      let q = names.parts (keeping_free around) host n depth_limit in
      let o = names.outside_with around host m in
      let o' = names.outside_with (keeping_free around) host n in
      let entry = body_scope None 0 [] [] items in
      let first : Environment → Eval (Named H) Environment = λ scope s. and_then (define_all around scope items s) (λ _ s. gives scope s) in
      let second : Environment → Eval (Named H) Environment = λ scope s. and_then (define_all (keeping_free around) scope items s) (λ _ s. gives scope s) in
      let last : Environment → Eval (Named H) Environment = λ env s. and_then (names.body around o p items env s) (λ _ s. gives env s) in
      let last' : Environment → Eval (Named H) Environment = λ env s. and_then (names.body (keeping_free around) o' q items env s) (λ _ s. gives env s) in
      let f : Environment → Eval (Named H) Environment = λ scope s. and_then (first scope s) last in
      let g : Environment → Eval (Named H) Environment = λ scope s. and_then (second scope s) last' in
      sim_as (trim_view around.tildes) (names.file around host items) (λ s. and_then (entry s) f) (names.file (keeping_free around) host items) (λ s. and_then (entry s) g)
      (λ s. regrouped (entry s) first last) (λ s. regrouped (entry s) second last')
      (makes_then around.tildes (Covers (bound_names None [] items)) entry f g (body_makes around.tildes None 0 [] [] items) (λ scope covers.
      let one : Eval (Named H) Value = λ s. and_then (define_all around scope items s) (λ _. names.body around o p items scope) in
      let two : Eval (Named H) Value = λ s. and_then (define_all (keeping_free around) scope items s) (λ _. names.body (keeping_free around) o' q items scope) in
      sim_as (trim_view around.tildes) (f scope) (λ s. and_then (one s) (λ _ s. gives scope s)) (g scope) (λ s. and_then (two s) (λ _ s. gives scope s))
      (λ s. regrouped (define_all around scope items s) (λ _ s. gives scope s) last ∙ sym (regrouped (define_all around scope items s) (λ _. names.body around o p items scope) (λ _ s. gives scope s)))
      (λ s. regrouped (define_all (keeping_free around) scope items s) (λ _ s. gives scope s) last' ∙ sym (regrouped (define_all (keeping_free around) scope items s) (λ _. names.body (keeping_free around) o' q items scope) (λ _ s. gives scope s)))
      (sim_bind (trim_view around.tildes) (top_same m n (enter_same call_limit) items scope) (λ _. sim_pure (trim_view around.tildes) scope))))

  client_trims : (items : List Stmt) → Sim (trim_view around.tildes) (names.client_code around host items) (names.client_code (keeping_free around) host items)
  unfolding names.client_code enter_client
  client_trims items =
      let m = names.enter_to around host call_limit in
      let n = names.enter_to (keeping_free around) host call_limit in
      let p = names.parts around host m depth_limit in
      let q = names.parts (keeping_free around) host n depth_limit in
      let o = names.outside_with around host m in
      let o' = names.outside_with (keeping_free around) host n in
      let globals : Eval (Named H) (Unit {0}) = each (map (λ name. on_state (declare_global name)) (variables items)) in
      let entry = lexical_variables (lexicals items) [] in
      let first : Environment → Eval (Named H) Environment = λ scope s. and_then (define_all around scope items s) (λ _ s. gives scope s) in
      let second : Environment → Eval (Named H) Environment = λ scope s. and_then (define_all (keeping_free around) scope items s) (λ _ s. gives scope s) in
      let f : Environment → Eval (Named H) Value = λ scope s. and_then (first scope s) (names.body around o p items) in
      let g : Environment → Eval (Named H) Value = λ scope s. and_then (second scope s) (names.body (keeping_free around) o' q items) in
      sim_as (trim_view around.tildes) (names.client_code around host items) (λ s. and_then (globals s) (λ _ s. and_then (and_then (entry s) first) (names.body around o p items)))
      (names.client_code (keeping_free around) host items) (λ s. and_then (globals s) (λ _ s. and_then (and_then (entry s) second) (names.body (keeping_free around) o' q items)))
      (λ s. regrouped (globals s) (λ _ s. and_then (entry s) first) (names.body around o p items)) (λ s. regrouped (globals s) (λ _ s. and_then (entry s) second) (names.body (keeping_free around) o' q items))
      (sim_bind (trim_view around.tildes) (globals_same (variables items)) (λ _.
      sim_as (trim_view around.tildes) (λ s. and_then (and_then (entry s) first) (names.body around o p items)) (λ s. and_then (entry s) f) (λ s. and_then (and_then (entry s) second) (names.body (keeping_free around) o' q items)) (λ s. and_then (entry s) g)
      (λ s. regrouped (entry s) first (names.body around o p items)) (λ s. regrouped (entry s) second (names.body (keeping_free around) o' q items))
      (makes_then around.tildes (Covers (named (lexicals items) ++ [])) entry f g (lexicals_make around.tildes (lexicals items) []) (λ scope covers.
      sim_as (trim_view around.tildes) (f scope) (λ s. and_then (define_all around scope items s) (λ _. names.body around o p items scope)) (g scope) (λ s. and_then (define_all (keeping_free around) scope items s) (λ _. names.body (keeping_free around) o' q items scope))
      (λ s. regrouped (define_all around scope items s) (λ _ s. gives scope s) (names.body around o p items)) (λ s. regrouped (define_all (keeping_free around) scope items s) (λ _ s. gives scope s) (names.body (keeping_free around) o' q items))
      (top_same m n (enter_same call_limit) items scope)))))

  -- ---- the law

  trimmed_run : {A : Type 0} (r : Ran (State × Named H) A) → seen_run (trim around.tildes) (λ s. Unit {0}) r ≡ trimmed around.tildes r
  trimmed_run (gives a s) = refl
  trimmed_run (leaves e s) = refl

  same_trimmed : {A : Type 0} (m n : Eval (Named H) A) → Sim (trim_view around.tildes) m n → SameTrimmed around.tildes m n
  same_trimmed m n k s = (k.run s tt).same ∙ trimmed_run (m s)

  pub file_same : (items : List Stmt) → SameTrimmed around.tildes (names.file around host items) (names.file (keeping_free around) host items)
  file_same items = same_trimmed (names.file around host items) (names.file (keeping_free around) host items) (file_trims items)

  pub client_code_same : (items : List Stmt) → SameTrimmed around.tildes (names.client_code around host items) (names.client_code (keeping_free around) host items)
  client_code_same items = same_trimmed (names.client_code around host items) (names.client_code (keeping_free around) host items) (client_trims items)

  pub called_trimmed : (f : Value) (vs : List Value) → SameTrimmed around.tildes (names.called around host f vs) (names.called (keeping_free around) host f vs)
  called_trimmed f vs = same_trimmed (names.called around host f vs) (names.called (keeping_free around) host f vs) (called_trims f vs)
