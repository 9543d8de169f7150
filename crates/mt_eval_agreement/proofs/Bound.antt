-- Which names the entry of a body binds, whatever the state is.
use Rattle.std.proofs.Common.{◌≡◌, ℕ, List, [], ◌∷◌, ◌++◌, Option, Some, None, Bool, true, false, cond, ◌||◌, refl, sym, subst}
use Rattle.std.specs.Prelude.{is_some}
use Rattle.mt_eval_meaning.specs.Free.{Names, has}
use Rattle.mt_eval_agreement.proofs.Cuts.{names_in, has_left, has_right, has_there, has_split, same_name}
use Rattle.mt_eval_agreement.proofs.Keeps.{keep_add}
use Rattle.mt_eval_agreement.proofs.Trims.{trim_view}
use Rattle.mt_eval_agreement.proofs.Uses.{named}
use Rattle.mt_eval_agreement.proofs.Views.{Agrees, Sim, sim_pure, sim_bind, sim_on_state}
use Rattle.mt_eval_meaning.specs.Entering.{Named, new_variable, variable_once, variables_once, parameter_variables, own_variable, lexical_variables, body_scope, function_names, first, rest}
use Rattle.mt_eval_meaning.specs.Hoisting.{Lexical, lexicals, variables}
use Rattle.mt_eval_meaning.specs.Names.{Binding, Environment, find}
use Rattle.mt_eval_meaning.specs.Runs.{Ran, gives, leaves, and_then}
use Rattle.mt_eval_meaning.specs.State.{Eval, add_cell}
use Rattle.mt_eval_meaning.specs.declared.state.State.{State}
use Rattle.mt_syntax.specs.declared.program.Tilde.{Tilde}
use Rattle.mt_syntax.specs.declared.tree.Stmt.{Stmt}
use Rattle.mt_value.specs.Names.{is_same}
use Rattle.mt_value.specs.declared.cell.Cell.TheVariants as cell
use Rattle.mt_value.specs.declared.value.Value.{Value}
use Rattle.mt_value.specs.declared.value.Value.TheVariants as value

-- ---- names in joined lists

pub either : (xs ys : Names) (y : List ℕ) (b : Bool) → (has xs y ≡ true → b ≡ true) → (has ys y ≡ true → b ≡ true) → has (xs ++ ys) y ≡ true → b ≡ true
either xs ys y b f g h = by (has ys y) refl
  where
    by : (c : Bool) → has ys y ≡ c → b ≡ true
    by true e = g e
    by false e = f (has_split xs ys y h e)

found_at : (b : Bool) (r : Option Binding) (s : Bool) (c : Binding) → (is_some r ≡ true → s ≡ true) → is_some (cond {A = Option Binding} b (Some c) r) ≡ true → (b || s) ≡ true
found_at true r s c h e = refl
found_at false r s c h e = h e

-- a name that is found is one of the scope's
found_there : (x : List ℕ) (scope : Environment) → is_some (find x scope) ≡ true → has (names_in scope) x ≡ true
found_there x [] h = cc
found_there x (b ∷ scope) h = found_at (is_same x b.name) (find x scope) (has (names_in scope) x) b (found_there x scope) h

-- a scope binds some names
abbrev pub Covers : Names → Environment → Type 0
Covers names scope = (y : List ℕ) → has names y ≡ true → has (names_in scope) y ≡ true

more_covered : (name : List ℕ) (names : Names) (scope mid : Environment) → Covers (name ∷ names_in scope) mid → (y : List ℕ) → has (name ∷ (names ++ names_in scope)) y ≡ true → has (names ++ names_in mid) y ≡ true
more_covered name names scope mid h y k =
    either (name ∷ []) (names ++ names_in scope) y (has (names ++ names_in mid) y)
    (λ i. has_right names (names_in mid) y (h y (has_left (name ∷ []) (names_in scope) y i)))
    (λ i. either names (names_in scope) y (has (names ++ names_in mid) y) (λ j. has_left names (names_in mid) y j) (λ j. has_right names (names_in mid) y (h y (has_there name (names_in scope) y j))) i) k

abbrev pub own_names : Option (List ℕ) → Names
own_names None = []
own_names (Some name) = name ∷ []

-- the own name is bound, unless the body binds it itself
abbrev OwnBound : Option (List ℕ) → Names → Environment → Type 0
OwnBound own names scope = (y : List ℕ) → has (own_names own) y ≡ true → has (names ++ names_in scope) y ≡ true

-- all names that a body binds
abbrev pub bound_names : Option (List ℕ) → Names → List Stmt → Names
bound_names own parameters body = own_names own ++ (parameters ++ (variables body ++ (function_names body ++ named (lexicals body))))

module _ {H : Type 0} (tildes : List Tilde) where
  module _ {A : Type 0} (P : A → Type 0) where
    abbrev pub Holds : Ran (State × Named H) A → Type 0
    Holds (gives a s) = P a
    Holds (leaves e s) = Unit {0}

    -- an evaluation that does the same on both sides, and gives what has the property
    pub record Makes (m : Eval (Named H) A) : Type 0 where
      pub sim : Sim (trim_view tildes) m m
      pub gives : (s : State × Named H) → Holds (m s)

    pub makes_pure : (a : A) → P a → Makes (λ s. gives a s)
    makes_pure a h = record { sim = sim_pure (trim_view tildes) a; gives = λ s. h }

    pub makes_if : (b : Bool) (m n : Eval (Named H) A) → (b ≡ true → Makes m) → (b ≡ false → Makes n) → Makes (cond b m n)
    makes_if true m n h k = h refl
    makes_if false m n h k = k refl

  known_at : {A B : Type 0} (P : A → Type 0) (f g : A → Eval (Named H) B) (r t : Ran (State × Named H) A) → Agrees (trim_view tildes) r t → Holds P r → ((a : A) → P a → Sim (trim_view tildes) (f a) (g a)) → Agrees (trim_view tildes) (and_then r f) (and_then t g)
  known_at P f g (gives a s) t k p h = subst (λ z. Agrees (trim_view tildes) (f a s) (and_then z g)) (sym k.same) ((h a p).run s k.good)
  known_at P f g (leaves x s) t k p h = subst (λ z. Agrees (trim_view tildes) (leaves x s) (and_then z g)) (sym k.same) (record { same = refl; good = k.good })

  -- what follows may build on the property
  pub makes_then : {A B : Type 0} (P : A → Type 0) (m : Eval (Named H) A) (f g : A → Eval (Named H) B) → Makes P m → ((a : A) → P a → Sim (trim_view tildes) (f a) (g a)) → Sim (trim_view tildes) (λ s. and_then (m s) f) (λ s. and_then (m s) g)
  makes_then P m f g k h = record { run = λ s good. known_at P f g (m s) (m ((trim_view tildes).see s)) (k.sim.run s good) (k.gives s) h }

  bind_holds : {A B : Type 0} (P : A → Type 0) (Q : B → Type 0) (f : A → Eval (Named H) B) (r : Ran (State × Named H) A) → Holds P r → ((a : A) → P a → (s : State × Named H) → Holds Q (f a s)) → Holds Q (and_then r f)
  bind_holds P Q f (gives a s) p h = h a p s
  bind_holds P Q f (leaves x s) p h = tt

  pub makes_bind : {A B : Type 0} (P : A → Type 0) (Q : B → Type 0) (m : Eval (Named H) A) (f : A → Eval (Named H) B) → Makes P m → ((a : A) → P a → Makes Q (f a)) → Makes Q (λ s. and_then (m s) f)
  makes_bind P Q m f k h = record {
    sim = makes_then P m f f k (λ a p. (h a p).sim);
    gives = λ s. bind_holds P Q f (m s) (k.gives s) (λ a p. (h a p).gives);
  }

  weaker_at : {A : Type 0} (P Q : A → Type 0) (r : Ran (State × Named H) A) → ((a : A) → P a → Q a) → Holds P r → Holds Q r
  weaker_at P Q (gives a s) h p = h a p
  weaker_at P Q (leaves x s) h p = tt

  pub makes_weaker : {A : Type 0} (P Q : A → Type 0) (m : Eval (Named H) A) → ((a : A) → P a → Q a) → Makes P m → Makes Q m
  makes_weaker P Q m h k = record { sim = k.sim; gives = λ s. weaker_at P Q (m s) h (k.gives s) }

  -- ---- variables

  new_makes : (name : List ℕ) (constant : Bool) (content : Option Value) (scope : Environment) → Makes (Covers (name ∷ names_in scope)) (new_variable name constant content scope)
  unfolding add_cell
  new_makes name constant content scope = record {
    sim = sim_bind (trim_view tildes) (sim_on_state (trim_view tildes) (keep_add [] (cell.Variable content) tt)) (λ at. sim_pure (trim_view tildes) (record { name = name; address = at; constant = constant } ∷ scope));
    gives = λ s y h. h;
  }

  once_makes : (name : List ℕ) (constant : Bool) (content : Option Value) (scope : Environment) → Makes (Covers (name ∷ names_in scope)) (variable_once name constant content scope)
  once_makes name constant content scope =
      makes_if (Covers (name ∷ names_in scope)) (is_some (find name scope)) (λ s. gives scope s) (new_variable name constant content scope)
      (λ e. makes_pure (Covers (name ∷ names_in scope)) scope (λ y h. either (name ∷ []) (names_in scope) y (has (names_in scope) y) (λ i. same_one y i (found_there name scope e)) (λ i. i) h))
      (λ e. new_makes name constant content scope)
    where
      same_at : (y : List ℕ) (b : Bool) → is_same y name ≡ b → (b || false) ≡ true → has (names_in scope) name ≡ true → has (names_in scope) y ≡ true
      same_at y true e i h = subst (λ (z : List ℕ). has (names_in scope) z ≡ true) (sym (same_name y name e)) h
      same_at y false e i h = cc

      same_one : (y : List ℕ) → has (name ∷ []) y ≡ true → has (names_in scope) name ≡ true → has (names_in scope) y ≡ true
      same_one y i h = same_at y (is_same y name) refl i h

  all_once_makes : (names : Names) (content : Option Value) (scope : Environment) → Makes (Covers (names ++ names_in scope)) (variables_once names content scope)
  all_once_makes [] content scope = makes_pure (Covers (names_in scope)) scope (λ y h. h)
  all_once_makes (name ∷ names) content scope =
      makes_bind (Covers (name ∷ names_in scope)) (Covers (name ∷ (names ++ names_in scope))) (variable_once name false content scope) (variables_once names content) (once_makes name false content scope) (λ mid c.
      makes_weaker (Covers (names ++ names_in mid)) (Covers (name ∷ (names ++ names_in scope))) (variables_once names content mid) (λ last h y k. h y (more_covered name names scope mid c y k)) (all_once_makes names content mid))

  parameters_make : (names : Names) (vs : List Value) (scope : Environment) → Makes (Covers (names ++ names_in scope)) (parameter_variables names vs scope)
  parameters_make [] vs scope = makes_pure (Covers (names_in scope)) scope (λ y h. h)
  parameters_make (name ∷ names) vs scope =
      makes_bind (Covers (name ∷ names_in scope)) (Covers (name ∷ (names ++ names_in scope))) (new_variable name false (Some (first vs)) scope) (parameter_variables names (rest vs)) (new_makes name false (Some (first vs)) scope) (λ mid c.
      makes_weaker (Covers (names ++ names_in mid)) (Covers (name ∷ (names ++ names_in scope))) (parameter_variables names (rest vs) mid) (λ last h y k. h y (more_covered name names scope mid c y k)) (parameters_make names (rest vs) mid))

  pub lexicals_make : (ls : List Lexical) (scope : Environment) → Makes (Covers (named ls ++ names_in scope)) (lexical_variables ls scope)
  lexicals_make [] scope = makes_pure (Covers (names_in scope)) scope (λ y h. h)
  lexicals_make (l ∷ ls) scope =
      makes_bind (Covers (l.name ∷ names_in scope)) (Covers (l.name ∷ (named ls ++ names_in scope))) (new_variable l.name l.constant None scope) (lexical_variables ls) (new_makes l.name l.constant None scope) (λ mid c.
      makes_weaker (Covers (named ls ++ names_in mid)) (Covers (l.name ∷ (named ls ++ names_in scope))) (lexical_variables ls mid) (λ last h y k. h y (more_covered l.name (named ls) scope mid c y k)) (lexicals_make ls mid))

  own_makes : (own : Option (List ℕ)) (names : Names) (at : ℕ) → Makes (OwnBound own names) (own_variable own names at)
  own_makes None names at = makes_pure (OwnBound None names) [] (λ y h. cc)
  own_makes (Some name) names at =
      makes_if (OwnBound (Some name) names) (has names name) (λ s. gives [] s) (new_variable name true (Some (value.Fun at)) [])
      (λ e. makes_pure (OwnBound (Some name) names) [] (λ y h. has_left names [] y (same_at y (is_same y name) refl h e)))
      (λ e. makes_weaker (Covers (name ∷ [])) (OwnBound (Some name) names) (new_variable name true (Some (value.Fun at)) []) (λ scope h y k. has_right names (names_in scope) y (h y k)) (new_makes name true (Some (value.Fun at)) []))
    where
      same_at : (y : List ℕ) (b : Bool) → is_same y name ≡ b → (b || false) ≡ true → has names name ≡ true → has names y ≡ true
      same_at y true e i h = subst (λ (z : List ℕ). has names z ≡ true) (sym (same_name y name e)) h
      same_at y false e i h = cc

  pub body_makes : (own : Option (List ℕ)) (at : ℕ) (parameters : Names) (vs : List Value) (body : List Stmt) → Makes (Covers (bound_names own parameters body)) (body_scope own at parameters vs body)
  unfolding body_scope
  body_makes own at parameters vs body =
      let vars = variables body in
      let fs = function_names body in
      let ls = named (lexicals body) in
      let all = bound_names own parameters body in
      let names = parameters ++ (vars ++ fs) in
      makes_bind (OwnBound own names) (Covers all) (own_variable own names at) (λ named s. and_then (parameter_variables parameters vs named s) (λ given s. and_then (variables_once vars (Some value.Undefined) given s) (λ declared s. and_then (variables_once fs None declared s) (lexical_variables (lexicals body))))) (own_makes own names at) (λ r0 c0.
      makes_bind (Covers (parameters ++ names_in r0)) (Covers all) (parameter_variables parameters vs r0) (λ given s. and_then (variables_once vars (Some value.Undefined) given s) (λ declared s. and_then (variables_once fs None declared s) (lexical_variables (lexicals body)))) (parameters_make parameters vs r0) (λ r1 c1.
      makes_bind (Covers (vars ++ names_in r1)) (Covers all) (variables_once vars (Some value.Undefined) r1) (λ declared s. and_then (variables_once fs None declared s) (lexical_variables (lexicals body))) (all_once_makes vars (Some value.Undefined) r1) (λ r2 c2.
      makes_bind (Covers (fs ++ names_in r2)) (Covers all) (variables_once fs None r2) (lexical_variables (lexicals body)) (all_once_makes fs None r2) (λ r3 c3.
      makes_weaker (Covers (ls ++ names_in r3)) (Covers all) (lexical_variables (lexicals body) r3) (λ r4 c4 y h.
      let from3 : has (names_in r3) y ≡ true → has (names_in r4) y ≡ true = λ i. c4 y (has_right ls (names_in r3) y i) in
      let from2 : has (names_in r2) y ≡ true → has (names_in r4) y ≡ true = λ i. from3 (c3 y (has_right fs (names_in r2) y i)) in
      let from1 : has (names_in r1) y ≡ true → has (names_in r4) y ≡ true = λ i. from2 (c2 y (has_right vars (names_in r1) y i)) in
      let from0 : has (names_in r0) y ≡ true → has (names_in r4) y ≡ true = λ i. from1 (c1 y (has_right parameters (names_in r0) y i)) in
      let in_ls : has ls y ≡ true → has (names_in r4) y ≡ true = λ i. c4 y (has_left ls (names_in r3) y i) in
      let in_fs : has fs y ≡ true → has (names_in r4) y ≡ true = λ i. from3 (c3 y (has_left fs (names_in r2) y i)) in
      let in_vars : has vars y ≡ true → has (names_in r4) y ≡ true = λ i. from2 (c2 y (has_left vars (names_in r1) y i)) in
      let in_parameters : has parameters y ≡ true → has (names_in r4) y ≡ true = λ i. from1 (c1 y (has_left parameters (names_in r0) y i)) in
      let goal = has (names_in r4) y in
      either (own_names own) (parameters ++ (vars ++ (fs ++ ls))) y goal
      (λ i. either names (names_in r0) y goal (λ j. either parameters (vars ++ fs) y goal in_parameters (λ k. either vars fs y goal in_vars in_fs k) j) from0 (c0 y i))
      (λ i. either parameters (vars ++ (fs ++ ls)) y goal in_parameters (λ j. either vars (fs ++ ls) y goal in_vars (λ k. either fs ls y goal in_fs in_ls k) j) i) h)
      (lexicals_make (lexicals body) r3)))))
