-- New variables: behind an activation, and before an environment.
use Rattle.std.proofs.Common.{◌≡◌, ℕ, zero, suc, ◌+◌, ◌<◌, ◌≤◌, List, [], ◌∷◌, ◌++◌, length, Option, None, Bool, refl, sym, ap, ap₂, ◌∙◌, subst, arith, length-append}
use Rattle.std.specs.Prelude.{slice_index_or}
use Rattle.std.proofs.Math.ListN.{get_or-append}
use Rattle.std.proofs.Math.Seq.{get_or-append_seam}
use Rattle.mt_eval_meaning.specs.Scopes.{Scope, environment_of, IsBelow, with_name, with_lexicals}
use Rattle.mt_eval_meaning.specs.States.{Numbered}
use Rattle.mt_eval_agreement.proofs.Keeps.{keep_add}
use Rattle.mt_eval_agreement.proofs.Sim.{slots_view}
use Rattle.mt_eval_agreement.proofs.Views.{Sim, regrouped, sim_as, sim_bind, sim_on_state}
use Rattle.mt_eval_meaning.specs.Entering.{Named, new_variable, lexical_variables}
use Rattle.mt_eval_meaning.specs.Hoisting.{Lexical}
use Rattle.mt_eval_meaning.specs.Names.{Environment}
use Rattle.mt_eval_meaning.specs.Runs.{Ran, gives, leaves, Run, and_then}
use Rattle.mt_eval_meaning.specs.State.{Eval, on_state, beside, add_cell}
use Rattle.mt_eval_meaning.specs.declared.state.State.{State}
use Rattle.mt_eval_meaning.specs.Activations.{Activation, grown}
use Rattle.mt_value.specs.declared.cell.Cell.TheVariants as cell
use Rattle.mt_value.specs.declared.value.Value.{Value}

-- a longer activation has the same variables
pub kept_environment : (scope : Scope) (activation more : Activation) → IsBelow (length activation) scope → environment_of scope (activation ++ more) ≡ environment_of scope activation
kept_environment [] activation more low = refl
kept_environment (s ∷ scope) activation more low =
    ap₂ (λ at (bs : Environment). record { name = s.name; address = at; constant = s.constant } ∷ bs) (get_or-append activation more 0 s.slot low.0) (kept_environment scope activation more low.1)

pub wider : (scope : Scope) (m n : ℕ) → m ≤ n → IsBelow m scope → IsBelow n scope
wider [] m n le low = tt
wider (s ∷ scope) m n le low = let here : s.slot < m = low.0 in (omega arith, wider scope m n le low.1)

-- one more variable
pub one_more : (scope : Scope) (activation : Activation) (name : List ℕ) (constant : Bool) (slot at : ℕ) → slot ≡ length activation → IsBelow (length activation) scope
    → environment_of (record { name = name; slot = slot; constant = constant } ∷ scope) (activation ++ at ∷ []) ≡ record { name = name; address = at; constant = constant } ∷ environment_of scope activation
one_more scope activation name constant slot at e low =
    ap₂ (λ (a : ℕ) (bs : Environment). record { name = name; address = a; constant = constant } ∷ bs) (ap (λ n. slice_index_or (activation ++ at ∷ []) n 0) e ∙ get_or-append_seam activation at [] 0) (kept_environment scope activation (at ∷ []) low)

-- an activation with further variables
pub record Grows (activation inner : Activation) : Type 0 where
  pub kept : (scope : Scope) → IsBelow (length activation) scope → environment_of scope inner ≡ environment_of scope activation
  pub longer : length activation ≤ length inner

pub grows_same : (activation : Activation) → Grows activation activation
grows_same activation = record { kept = λ scope low. refl; longer = omega arith }

pub grows_one : (activation : Activation) (at : ℕ) → Grows activation (activation ++ at ∷ [])
grows_one activation at =
    let n : length (activation ++ at ∷ []) ≡ suc (length activation) = omega (arith, length-append activation (at ∷ [])) in
    record { kept = λ scope low. kept_environment scope activation (at ∷ []) low; longer = omega (arith, n) }

pub grows_both : (a b c : Activation) → Grows a b → Grows b c → Grows a c
grows_both a b c g h =
    let first : length a ≤ length b = g.longer in
    let second : length b ≤ length c = h.longer in
    record { kept = λ scope low. h.kept scope (wider scope (length a) (length b) first low) ∙ g.kept scope low; longer = omega (arith, first, second) }

module _ {H : Type 0} (table : List Numbered) where
  pub state_first : {A B C : Type 0} (r : Ran State A) (host : H) (f : A → Run State B) (g : B → Eval H C) → and_then (beside host (and_then r f)) g ≡ and_then (beside host r) (λ a s. and_then (on_state (f a) s) g)
  state_first (gives a s) host f g = refl
  state_first (leaves e s) host f g = refl

  -- the first of several steps apart, on both sides
  pub both_first : {A B C D E : Type 0} (m : Run State A) (h : A → Run State B) (f : B → Eval H C) (n : Eval (Named H) D) (k : D → Eval (Named H) E) (g : E → Eval (Named H) C)
      → Sim (slots_view table) (λ s. and_then (on_state m s) (λ a s. and_then (on_state (h a) s) f)) (λ s. and_then (n s) (λ d s. and_then (k d s) g))
      → Sim (slots_view table) (λ s. and_then (on_state (λ t. and_then (m t) h) s) f) (λ s. and_then (and_then (n s) k) g)
  both_first m h f n k g sim =
      sim_as (slots_view table) (λ s. and_then (on_state (λ t. and_then (m t) h) s) f) (λ s. and_then (on_state m s) (λ a s. and_then (on_state (h a) s) f))
      (λ s. and_then (and_then (n s) k) g) (λ s. and_then (n s) (λ d s. and_then (k d s) g))
      (λ s. state_first (m s.0) s.1 h f) (λ s. regrouped (n s) k g) sim

  -- one new variable, and what is done with it
  pub one_then : {A : Type 0} (content : Option Value) (name : List ℕ) (constant : Bool) (slot : ℕ) (scope : Scope) (activation : Activation) (f : Activation → Eval H A) (g : Environment → Eval (Named H) A)
      → slot ≡ length activation → IsBelow (length activation) scope
      → ((inner : Activation) → Grows activation inner → length inner ≡ suc (length activation) → IsBelow (length inner) (record { name = name; slot = slot; constant = constant } ∷ scope)
      → Sim (slots_view table) (f inner) (g (environment_of (record { name = name; slot = slot; constant = constant } ∷ scope) inner)))
      → Sim (slots_view table) (λ s. and_then (on_state (add_cell (cell.Variable content)) s) (λ at. f (activation ++ at ∷ []))) (λ s. and_then (new_variable name constant content (environment_of scope activation) s) g)
  one_then content name constant slot scope activation f g end low h =
      let c = cell.Variable content in
      let env = environment_of scope activation in
      sim_as (slots_view table) (λ s. and_then (on_state (add_cell c) s) (λ at. f (activation ++ at ∷ []))) (λ s. and_then (on_state (add_cell c) s) (λ at. f (activation ++ at ∷ [])))
      (λ s. and_then (new_variable name constant content env s) g) (λ s. and_then (on_state (add_cell c) s) (λ at. g (record { name = name; address = at; constant = constant } ∷ env)))
      (λ s. refl) (λ s. regrouped (on_state (add_cell c) s) (λ at s. gives (record { name = name; address = at; constant = constant } ∷ env) s) g)
      (sim_bind (slots_view table) (sim_on_state (slots_view table) (keep_add table c tt)) (λ at.
      let n : length (activation ++ at ∷ []) ≡ suc (length activation) = omega (arith, length-append activation (at ∷ [])) in
      let here : slot < length (activation ++ at ∷ []) = omega (arith, n, end) in
      let inner_low : IsBelow (length (activation ++ at ∷ [])) (record { name = name; slot = slot; constant = constant } ∷ scope) = (here, wider scope (length activation) (length (activation ++ at ∷ [])) (omega (arith, n)) low) in
      subst (λ (z : Environment). Sim (slots_view table) (f (activation ++ at ∷ [])) (g z)) (one_more scope activation name constant slot at end low) (h (activation ++ at ∷ []) (grows_one activation at) n inner_low)))

  -- one alone
  pub alone_then : {A : Type 0} (content : Option Value) (name : List ℕ) (constant : Bool) (slot : ℕ) (scope : Scope) (activation : Activation) (f : Activation → Eval H A) (g : Environment → Eval (Named H) A)
      → slot ≡ length activation → IsBelow (length activation) scope
      → ((inner : Activation) → Grows activation inner → length inner ≡ suc (length activation) → IsBelow (length inner) (record { name = name; slot = slot; constant = constant } ∷ scope)
      → Sim (slots_view table) (f inner) (g (environment_of (record { name = name; slot = slot; constant = constant } ∷ scope) inner)))
      → Sim (slots_view table) (λ s. and_then (on_state (grown (suc zero) content activation) s) f) (λ s. and_then (new_variable name constant content (environment_of scope activation) s) g)
  alone_then content name constant slot scope activation f g end low h =
      sim_as (slots_view table) (λ s. and_then (on_state (grown (suc zero) content activation) s) f) (λ s. and_then (on_state (add_cell (cell.Variable content)) s) (λ at. f (activation ++ at ∷ [])))
      (λ s. and_then (new_variable name constant content (environment_of scope activation) s) g) (λ s. and_then (new_variable name constant content (environment_of scope activation) s) g)
      (λ s. state_first (add_cell (cell.Variable content) s.0) s.1 (λ at t. gives (activation ++ at ∷ []) t) f) (λ s. refl) (one_then content name constant slot scope activation f g end low h)

  -- one before others
  pub step_then : {A : Type 0} (content : Option Value) (name : List ℕ) (constant : Bool) (slot : ℕ) (scope : Scope) (activation : Activation) (m : Activation → Run State Activation) (n : Environment → Eval (Named H) Environment) (f : Activation → Eval H A) (g : Environment → Eval (Named H) A)
      → slot ≡ length activation → IsBelow (length activation) scope
      → ((inner : Activation) → Grows activation inner → length inner ≡ suc (length activation) → IsBelow (length inner) (record { name = name; slot = slot; constant = constant } ∷ scope)
      → Sim (slots_view table) (λ s. and_then (on_state (m inner) s) f) (λ s. and_then (n (environment_of (record { name = name; slot = slot; constant = constant } ∷ scope) inner) s) g))
      → Sim (slots_view table) (λ s. and_then (on_state (λ t. and_then (add_cell (cell.Variable content) t) (λ at. m (activation ++ at ∷ []))) s) f) (λ s. and_then (and_then (new_variable name constant content (environment_of scope activation) s) n) g)
  step_then content name constant slot scope activation m n f g end low h =
      both_first (add_cell (cell.Variable content)) (λ at. m (activation ++ at ∷ [])) f (new_variable name constant content (environment_of scope activation)) n g
      (one_then content name constant slot scope activation (λ inner s. and_then (on_state (m inner) s) f) (λ env s. and_then (n env s) g) end low h)

  -- the variables of `let` and `const` names, and what is done with them
  pub lexicals_then : {A : Type 0} (ls : List Lexical) (entry base : Scope) (activation : Activation) (size : ℕ) (f : Activation → Eval H A) (g : Environment → Eval (Named H) A)
      → length activation ≡ size + length entry → IsBelow (length activation) (entry ++ base)
      → ((inner : Activation) → Grows activation inner → length inner ≡ length activation + length ls → IsBelow (length inner) (with_lexicals size ls entry ++ base) → Sim (slots_view table) (f inner) (g (environment_of (with_lexicals size ls entry ++ base) inner)))
      → Sim (slots_view table) (λ s. and_then (on_state (grown (length ls) None activation) s) f) (λ s. and_then (lexical_variables ls (environment_of (entry ++ base) activation) s) g)
  lexicals_then [] entry base activation size f g long low h = let e : length activation ≡ length activation + 0 = omega arith in h activation (grows_same activation) e low
  lexicals_then (l ∷ ls) entry base activation size f g long low h =
      step_then None l.name l.constant (size + length entry) (entry ++ base) activation (grown (length ls) None) (lexical_variables ls) f g (sym long) low (λ mid grow n mid_low.
      let longer : length mid ≡ size + suc (length entry) = omega (arith, n, long) in
      lexicals_then ls (with_name size l.name l.constant entry) base mid size f g longer mid_low (λ inner more e b.
      let e' : length inner ≡ length activation + suc (length ls) = omega (arith, e, n) in
      h inner (grows_both activation mid inner grow more) e' b))
