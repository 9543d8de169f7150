-- Bodies do the same in environments that agree on what is free in their functions.
use Rattle.std.proofs.Common.{◌≡◌, ℕ, List, [], ◌∷◌, ◌++◌, map, Option, Some, None, true, false, refl, ap, ◌∙◌, subst}
use Rattle.std.proofs.lemmas.List.{map-append}
use Rattle.mt_eval_meaning.specs.Free.{Names, Used, has, finding, free_of, used_by_stmt_kind}
use Rattle.mt_eval_meaning.specs.States.{keeping_free, trim_closure}
use Rattle.mt_eval_agreement.proofs.Bound.{Covers, bound_names, own_names, body_makes, makes_then}
use Rattle.mt_eval_agreement.proofs.Cuts.{Coincide, coincide_kept, coincide_less, coincide_left, coincide_names, coincide_bound, coincide_scope, names_in, has_here, has_left, has_right, has_without, name_same, in_neither, clash, false_by}
use Rattle.mt_eval_agreement.proofs.FreeExpressions.{tilde, referent_same, free_parts, free_from, SameParts, closure_same}
use Rattle.mt_eval_agreement.proofs.FreeStatements.{body_same}
use Rattle.mt_eval_agreement.proofs.Keeps.{keep_declare}
use Rattle.mt_eval_agreement.proofs.Trims.{trim_view}
use Rattle.mt_eval_agreement.proofs.Uses.{named, all_used, stmt_uses, free_in_function}
use Rattle.mt_eval_agreement.proofs.Views.{Sim, regrouped, sim_as, sim_pure, sim_bind, sim_on_state}
use Rattle.mt_eval_meaning.specs.Entering.{Closure, Named, body_scope, define, define_all, enter_function, function_names}
use Rattle.mt_eval_meaning.specs.Evaluation as names
use Rattle.mt_eval_meaning.specs.Hoisting.{lexicals, functions, functions_of_kind, named_function, variables, kind_of, names_of}
use Rattle.mt_eval_meaning.specs.Host.{Outside}
use Rattle.mt_eval_meaning.specs.Names.{Environment, Surroundings, referent}
use Rattle.mt_eval_meaning.specs.References.{declare}
use Rattle.mt_eval_meaning.specs.Runs.{gives, and_then, each}
use Rattle.mt_eval_meaning.specs.State.{Eval, on_state}
use Rattle.mt_eval_meaning.specs.declared.reference.Referent.{Referent}
use Rattle.mt_syntax.specs.Fold.{Tree, StmtKindLayer, on_function, on_stmt}
use Rattle.mt_syntax.specs.declared.tree.ExprKind.TheOpen.{StmtKind-F}
use Rattle.mt_syntax.specs.declared.tree.Function.{Function, out-Function}
use Rattle.mt_syntax.specs.declared.tree.Mark.{Mark}
use Rattle.mt_syntax.specs.declared.tree.Stmt.{Stmt}
use Rattle.mt_syntax_laws.proofs.Layers.{map_stmt_kind}
use Rattle.mt_syntax_laws.proofs.Related.{on}
use Rattle.mt_value.specs.declared.value.Value.{Value}
use Rattle.mt_value.specs.declared.value.Value.TheVariants as value

-- ---- the functions that a body declares

has_own : (name : List ℕ) → has (name ∷ []) name ≡ true
has_own name = has_here name [] name (name_same name)

names_first : (fs gs : List (List ℕ × Function)) (y : List ℕ) → has (map (λ f. f.0) fs) y ≡ true → has (map (λ f. f.0) (fs ++ gs)) y ≡ true
names_first fs gs y h = ap (λ (xs : Names). has xs y) (map-append (λ f. f.0) fs gs) ∙ has_left (map (λ f. f.0) fs) (map (λ f. f.0) gs) y h

names_rest : (fs gs : List (List ℕ × Function)) (y : List ℕ) → has (map (λ f. f.0) gs) y ≡ true → has (map (λ f. f.0) (fs ++ gs)) y ≡ true
names_rest fs gs y h = ap (λ (xs : Names). has xs y) (map-append (λ f. f.0) fs gs) ∙ has_right (map (λ f. f.0) fs) (map (λ f. f.0) gs) y h

module _ {H : Type 0} (around : Surroundings) (keeps : (own : Option (List ℕ)) (f : Function) (env : Environment) → around.kept own f env ≡ env) where
  module _ (free : Names) (env env' : Environment) (a : Coincide [] free env env') where
    define_same : (f : List ℕ × Function) → ((y : List ℕ) → has (on_function (finding (tilde around)) f.1).free y ≡ true → has free y ≡ true) → has free f.0 ≡ true → Sim (trim_view {H = H} around.tildes) (define around env f) (define (keeping_free around) env' f)
    unfolding define
    define_same f inner there =
        sim_bind (trim_view around.tildes) (closure_same around keeps None f.1 env env' (coincide_less [] free (free_of around.tildes None f.1) env env' (λ y h. inner y (free_parts around None f.1 y h).0) a)) (λ at.
        subst (λ (r : Referent). Sim (trim_view {H = H} around.tildes) (on_state (declare f.0 (referent around env f.0) (value.Fun at))) (on_state (declare f.0 r (value.Fun at)))) (referent_same around free env env' f.0 a there)
        (sim_on_state (trim_view around.tildes) (keep_declare [] f.0 (referent around env f.0) (value.Fun at))))

    named_same : (m : Option Mark) (f : Function) (fs : List (List ℕ × Function)) → ((y : List ℕ) → has (on_function (finding (tilde around)) f).free y ≡ true → has free y ≡ true)
        → ((y : List ℕ) → has (map (λ f. f.0) (named_function m f)) y ≡ true → has free y ≡ true)
        → Sim (trim_view {H = H} around.tildes) (each (map (define around env) fs)) (each (map (define (keeping_free around) env') fs))
        → Sim (trim_view {H = H} around.tildes) (each (map (define around env) (named_function m f ++ fs))) (each (map (define (keeping_free around) env') (named_function m f ++ fs)))
    named_same None f fs inner there k = k
    named_same (Some m) f fs inner there k = sim_bind (trim_view around.tildes) (define_same (m.name, f) inner (there m.name (has_own m.name))) (λ _. k)

    one_same : (x : StmtKindLayer Tree) (fs : List (List ℕ × Function)) → ((y : List ℕ) → has (used_by_stmt_kind (tilde around) (map_stmt_kind (on (finding (tilde around))) x)).free y ≡ true → has free y ≡ true)
        → ((y : List ℕ) → has (map (λ f. f.0) (functions_of_kind x)) y ≡ true → has free y ≡ true)
        → Sim (trim_view {H = H} around.tildes) (each (map (define around env) fs)) (each (map (define (keeping_free around) env') fs))
        → Sim (trim_view {H = H} around.tildes) (each (map (define around env) (functions_of_kind x ++ fs))) (each (map (define (keeping_free around) env') (functions_of_kind x ++ fs)))
    one_same (StmtKind-F.Function f) fs inner there k = named_same (out-Function f).name f fs inner there k
    one_same _ fs inner there k = k

    pub define_all_same : (ts : List Stmt) → ((y : List ℕ) → has (all_used (tilde around) ts).free y ≡ true → has free y ≡ true) → ((y : List ℕ) → has (function_names ts) y ≡ true → has free y ≡ true)
        → Sim (trim_view {H = H} around.tildes) (define_all around env ts) (define_all (keeping_free around) env' ts)
    define_all_same [] inner there = sim_pure (trim_view around.tildes) tt
    define_all_same (t ∷ ts) inner there =
        one_same (kind_of t) (functions ts)
        (λ y h. inner y (has_left (on_stmt (finding (tilde around)) t).free (all_used (tilde around) ts).free y (ap (λ (u : Used). has u.free y) (stmt_uses (tilde around) t) ∙ h)))
        (λ y h. there y (names_first (functions_of_kind (kind_of t)) (functions ts) y h))
        (define_all_same ts (λ y h. inner y (has_right (on_stmt (finding (tilde around)) t).free (all_used (tilde around) ts).free y h)) (λ y h. there y (names_rest (functions_of_kind (kind_of t)) (functions ts) y h)))

  -- ---- bodies

  module _ (o o' : Outside (Named H)) (p q : names.Parts H) (below : SameParts around p q) where
    -- what a body has free, and doesn't bind, is free in its function
    free_in_body : (own : Option (List ℕ)) (f : Function) (y : List ℕ) → has (all_used (tilde around) (out-Function f).body).free y ≡ true → has (bound_names own (names_of (out-Function f).parameters) (out-Function f).body) y ≡ false → has (free_of around.tildes own f) y ≡ true
    free_in_body own f y h n =
        let ts = (out-Function f).body in
        let inside = names_of (out-Function f).parameters ++ (variables ts ++ (function_names ts ++ named (lexicals ts))) in
        let parts = in_neither (own_names own) inside y n in
        free_from around own f y (ap (λ (xs : Names). has xs y) (free_in_function (tilde around) f) ∙ has_without inside (all_used (tilde around) ts).free y parts.1 h) parts.0

    -- under the scope of a body, where all that it binds may count as free
    under_scope : (c : Closure) (scope : Environment) → Covers (bound_names c.own (names_of (out-Function c.function).parameters) (out-Function c.function).body) scope
        → Coincide [] ((all_used (tilde around) (out-Function c.function).body).free ++ names_in scope) (scope ++ c.environment) (scope ++ (trim_closure around.tildes c).environment)
    under_scope c scope covers =
        let ts = (out-Function c.function).body in
        let all = bound_names c.own (names_of (out-Function c.function).parameters) ts in
        let u = (all_used (tilde around) ts).free in
        let E = c.environment in
        let E' = (trim_closure around.tildes c).environment in
        let kept : Coincide [] (free_of around.tildes c.own c.function) E E' = coincide_kept (free_of around.tildes c.own c.function) E in
        let apart : Coincide (names_in scope) u E E' = record {
          cuts = λ some k. kept.cuts some (λ y i.
              let j = k y i in
              (free_in_body c.own c.function y j.0 (false_by (has all y) (λ b. clash (has (names_in scope) y) (covers y b) j.1)), refl));
        } in
        let wide : Coincide (names_in scope ++ []) (u ++ names_in scope) E E' =
        coincide_names (names_in scope) (names_in scope ++ []) (u ++ names_in scope) E E' (λ y h. false_by (has (names_in scope) y) (λ k. clash (has (names_in scope ++ []) y) (has_left (names_in scope) [] y k) h)) (coincide_bound (names_in scope) u E E' apart) in
        coincide_scope scope [] (u ++ names_in scope) E E' wide

    -- the functions of a body, and its statements
    pub entered_same : (ts : List Stmt) (more : Names) (env env' : Environment) → ((y : List ℕ) → has (function_names ts) y ≡ true → has more y ≡ true) → Coincide [] ((all_used (tilde around) ts).free ++ more) env env'
        → Sim (trim_view around.tildes) (λ s. and_then (define_all around env ts s) (λ _. names.body around o p ts env)) (λ s. and_then (define_all (keeping_free around) env' ts s) (λ _. names.body (keeping_free around) o' q ts env'))
    entered_same ts more env env' named a =
        let u = (all_used (tilde around) ts).free in
        sim_bind (trim_view around.tildes) (define_all_same (u ++ more) env env' a ts (λ y h. has_left u more y h) (λ y h. has_right u more y (named y h)))
        (λ _. body_same around o o' p q below ts env env' (coincide_left u more env env' a))

    names_of_functions : (own : Option (List ℕ)) (parameters : Names) (ts : List Stmt) (scope : Environment) → Covers (bound_names own parameters ts) scope → Covers (function_names ts) scope
    names_of_functions own parameters ts scope covers y h =
        covers y (has_right (own_names own) (parameters ++ (variables ts ++ (function_names ts ++ named (lexicals ts)))) y
        (has_right parameters (variables ts ++ (function_names ts ++ named (lexicals ts))) y (has_right (variables ts) (function_names ts ++ named (lexicals ts)) y (has_left (function_names ts) (named (lexicals ts)) y h))))

    pub function_same : (c : Closure) (at : ℕ) (vs : List Value) → Sim (trim_view around.tildes) (names.function_body around o p c at vs) (names.function_body (keeping_free around) o' q (trim_closure around.tildes c) at vs)
    unfolding names.function_body enter_function
    function_same c at vs =
        let ts = (out-Function c.function).body in
        let ps = names_of (out-Function c.function).parameters in
        let E = c.environment in
        let E' = (trim_closure around.tildes c).environment in
        let entry = body_scope c.own at ps vs ts in
        let first : Environment → Eval (Named H) Environment = λ scope s. and_then (define_all around (scope ++ E) ts s) (λ _ s. gives (scope ++ E) s) in
        let second : Environment → Eval (Named H) Environment = λ scope s. and_then (define_all (keeping_free around) (scope ++ E') ts s) (λ _ s. gives (scope ++ E') s) in
        let f : Environment → Eval (Named H) Value = λ scope s. and_then (first scope s) (names.body around o p ts) in
        let g : Environment → Eval (Named H) Value = λ scope s. and_then (second scope s) (names.body (keeping_free around) o' q ts) in
        sim_as (trim_view around.tildes) (names.function_body around o p c at vs) (λ s. and_then (entry s) f) (names.function_body (keeping_free around) o' q (trim_closure around.tildes c) at vs) (λ s. and_then (entry s) g)
        (λ s. regrouped (entry s) first (names.body around o p ts)) (λ s. regrouped (entry s) second (names.body (keeping_free around) o' q ts))
        (makes_then around.tildes (Covers (bound_names c.own ps ts)) entry f g (body_makes around.tildes c.own at ps vs ts) (λ scope covers.
        sim_as (trim_view around.tildes) (f scope) (λ s. and_then (define_all around (scope ++ E) ts s) (λ _. names.body around o p ts (scope ++ E))) (g scope) (λ s. and_then (define_all (keeping_free around) (scope ++ E') ts s) (λ _. names.body (keeping_free around) o' q ts (scope ++ E')))
        (λ s. regrouped (define_all around (scope ++ E) ts s) (λ _ s. gives (scope ++ E) s) (names.body around o p ts)) (λ s. regrouped (define_all (keeping_free around) (scope ++ E') ts s) (λ _ s. gives (scope ++ E') s) (names.body (keeping_free around) o' q ts))
        (entered_same ts (names_in scope) (scope ++ E) (scope ++ E') (names_of_functions c.own ps ts scope covers) (under_scope c scope covers))))
