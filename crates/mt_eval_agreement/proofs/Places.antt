-- A file that begins on an empty store: the cell of each name of its top stands at the place that is its slot.
use Rattle.std.proofs.Common.{◌≡◌, ℕ, zero, suc, ◌+◌, ◌<◌, List, [], ◌∷◌, ◌++◌, length, map, Option, Some, None, Result, Ok, Err, Bool, true, false, cond, refl, sym, ap, ap₂, ◌∙◌, subst, arith, length-append}
use Rattle.std.specs.List.{range_with_len}
use Rattle.std.specs.Prelude.{is_some}
use Rattle.std.proofs.lemmas.List.FromFn.{get_or-range_with_len}
use Rattle.mt_eval_meaning.specs.Agreement.{EndsAs, StartsAs, StartedAs, EvaluatesAs, aside, file_on_slots, shown, shown_by_names, start_environment, without_functions}
use Rattle.mt_eval_meaning.specs.Code.{FileStands}
use Rattle.mt_eval_meaning.specs.Scopes.{Scope, find_slot, environment_of, IsBelow, with_name, with_names_once, with_lexicals, body_entry, variable_entry}
use Rattle.mt_eval_meaning.specs.States.{Numbered}
use Rattle.mt_eval_agreement.proofs.Blocks.{wider}
use Rattle.mt_eval_agreement.proofs.Laws.{starts, state_shown}
use Rattle.mt_eval_meaning.specs.Entering.{Named, function_names}
use Rattle.mt_eval_meaning.specs.Hoisting.{Lexical, lexicals, variables}
use Rattle.mt_eval_meaning.specs.Host.{Meaning}
use Rattle.mt_eval_meaning.specs.Names.{Environment, Surroundings}
use Rattle.mt_eval_meaning.specs.References.{declare_global}
use Rattle.mt_eval_meaning.specs.Runs.{Ran, gives, leaves, Run, and_then, each, Evals}
use Rattle.mt_eval_meaning.specs.State.{Eval, beside, add_cell}
use Rattle.mt_eval_meaning.specs.declared.exit.Exit.{Exit}
use Rattle.mt_eval_meaning.specs.declared.state.State.{State}
use Rattle.mt_eval_meaning.specs.Activations.{Activation, grown, define_all, enter_body, enter_unit}
use Rattle.mt_eval_meaning.specs.Slots as slots
use Rattle.mt_eval_meaning.specs.declared.function.Body.{Body}
use Rattle.mt_eval_meaning.specs.declared.function.Function.{Function as Code}
use Rattle.mt_eval_meaning.specs.declared.function.Unit.{Unit as Unit'}
use Rattle.mt_syntax.specs.declared.program.Tilde.{Tilde}
use Rattle.mt_syntax.specs.declared.tree.Stmt.{Stmt}
use Rattle.mt_value.specs.declared.cell.Cell.{Cell}
use Rattle.mt_value.specs.declared.cell.Cell.TheVariants as cell
use Rattle.mt_value.specs.declared.value.Value.{Value}
use Rattle.mt_value.specs.declared.value.Value.TheVariants as value
use Rattle.mt_tree.specs.Limits.{call_limit, depth_limit}

-- ---- the slots of an entry are below its length

one_low : (entry : Scope) (name : List ℕ) (constant : Bool) → IsBelow (length entry) entry → IsBelow (length (with_name 0 name constant entry)) (with_name 0 name constant entry)
one_low entry name constant low =
    let here : 0 + length entry < suc (length entry) = omega arith in
    (here, wider entry (length entry) (suc (length entry)) (omega arith) low)

choice_low : (b : Bool) (one other : Scope) → IsBelow (length one) one → IsBelow (length other) other → IsBelow (length (cond {A = Scope} b one other)) (cond {A = Scope} b one other)
choice_low true one other h k = h
choice_low false one other h k = k

once_low : (names : List (List ℕ)) (entry : Scope) → IsBelow (length entry) entry → IsBelow (length (with_names_once 0 names entry)) (with_names_once 0 names entry)
once_low [] entry low = low
once_low (name ∷ names) entry low =
    once_low names (cond {A = Scope} (is_some (find_slot name entry)) entry (with_name 0 name false entry))
    (choice_low (is_some (find_slot name entry)) entry (with_name 0 name false entry) low (one_low entry name false low))

lexicals_low : (ls : List Lexical) (entry : Scope) → IsBelow (length entry) entry → IsBelow (length (with_lexicals 0 ls entry)) (with_lexicals 0 ls entry)
lexicals_low [] entry low = low
lexicals_low (l ∷ ls) entry low = lexicals_low ls (with_name 0 l.name l.constant entry) (one_low entry l.name l.constant low)

entry_low : (items : List Stmt) → IsBelow (length (body_entry 0 None [] items)) (body_entry 0 None [] items)
entry_low items =
    lexicals_low (lexicals items) (with_names_once 0 (function_names items) (with_names_once 0 (variables items) [])) (once_low (function_names items) (with_names_once 0 (variables items) []) (once_low (variables items) [] tt))

-- ---- the activation of the top

range_more : (a n : ℕ) → range_with_len a n ++ (a + n) ∷ [] ≡ range_with_len a (suc n)
range_more a zero = let e : a + zero ≡ a = omega arith in ap (λ (m : ℕ). m ∷ []) e
range_more a (suc n) =
    let e : a + suc n ≡ (a + 1) + n = omega arith in
    ap (λ (m : ℕ). a ∷ (range_with_len (a + 1) n ++ m ∷ [])) e ∙ ap (λ (xs : List ℕ). a ∷ xs) (range_more (a + 1) n)

-- as many variables as there are cells, each at the place that is its slot
abbrev GrownTo : ℕ → Ran State Activation → Type 0
GrownTo k (gives activation t) = (activation ≡ range_with_len 0 k) × (length t.store ≡ k)
GrownTo k (leaves e t) = Unit {0}

abbrev ActivationIs : ℕ → Ran State Activation → Type 0
ActivationIs k (gives activation t) = activation ≡ range_with_len 0 k
ActivationIs k (leaves e t) = Unit {0}

grown_at : (n k : ℕ) (content : Option Value) (activation : Activation) (t : State) → activation ≡ range_with_len 0 k → length t.store ≡ k → GrownTo (k + n) (grown n content activation t)
unfolding add_cell
grown_at zero k content activation t e long = let n : k ≡ k + zero = omega arith in (e ∙ ap (range_with_len 0) n, long ∙ n)
grown_at (suc n) k content activation t e long =
    let next : State = record t { store = t.store ++ cell.Variable content ∷ [] } in
    let from : k ≡ 0 + k = omega arith in
    let longer : length next.store ≡ suc k = omega (arith, length-append t.store (cell.Variable content ∷ []), long) in
    let inner : activation ++ length t.store ∷ [] ≡ range_with_len 0 (suc k) = ap₂ (λ (xs : List ℕ) (m : ℕ). xs ++ m ∷ []) e (long ∙ from) ∙ range_more 0 k in
    let same : suc k + n ≡ k + suc n = omega arith in
    subst (λ (m : ℕ). GrownTo m (grown n content (activation ++ length t.store ∷ []) next)) same (grown_at n (suc k) content (activation ++ length t.store ∷ []) next inner longer)

grown_then : (k m : ℕ) (r : Ran State Activation) (f : Activation → Run State Activation) → GrownTo k r → ((activation : Activation) (t : State) → activation ≡ range_with_len 0 k → length t.store ≡ k → ActivationIs m (f activation t)) → ActivationIs m (and_then r f)
grown_then k m (gives activation t) f h next = next activation t h.0 h.1
grown_then k m (leaves e t) f h next = tt

activation_kept : (k : ℕ) (r : Ran State (Unit {0})) (activation : Activation) → activation ≡ range_with_len 0 k → ActivationIs k (and_then r (λ _ t. gives activation t))
activation_kept k (gives _ t) activation e = e
activation_kept k (leaves x t) activation e = tt

body_activation : (units : List Code) (b : Body) (t : State) → t.store ≡ [] → ActivationIs (b.variables + b.undeclared) (enter_body units b [] t)
unfolding enter_body
body_activation units b t empty =
    let from : 0 + b.variables ≡ b.variables = omega arith in
    let none : length t.store ≡ 0 = ap (λ (xs : List Cell). length xs) empty in
    grown_then b.variables (b.variables + b.undeclared) (grown b.variables (Some value.Undefined) [] t) (λ declared t. and_then (grown b.undeclared None declared t) (λ inner t. and_then (define_all units inner b.hoisted t) (λ _ t. gives inner t)))
    (subst (λ (m : ℕ). GrownTo m (grown b.variables (Some value.Undefined) [] t)) from (grown_at b.variables 0 (Some value.Undefined) [] t refl none)) (λ declared t e long.
    grown_then (b.variables + b.undeclared) (b.variables + b.undeclared) (grown b.undeclared None declared t) (λ inner t. and_then (define_all units inner b.hoisted t) (λ _ t. gives inner t))
    (grown_at b.undeclared b.variables None declared t e long) (λ inner t e long. activation_kept (b.variables + b.undeclared) (define_all units inner b.hoisted t) inner e))

unit_activation : (units : List Code) (u : Unit') (t : State) → u.globals ≡ [] → t.store ≡ [] → ActivationIs (u.body.variables + u.body.undeclared) (enter_unit units u t)
unfolding enter_unit
unit_activation units u t none empty =
    subst (λ (names : List (List ℕ)). ActivationIs (u.body.variables + u.body.undeclared) (and_then (each (map declare_global names) t) (λ _. enter_body units u.body []))) (sym none) (body_activation units u.body t empty)

-- ---- the environment of the top

placed : (scope : Scope) (k : ℕ) → IsBelow k scope → environment_of scope (range_with_len 0 k) ≡ map (λ s. record { name = s.name; address = s.slot; constant = s.constant }) scope
placed [] k low = refl
placed (s ∷ scope) k low =
    let from : 0 + s.slot ≡ s.slot = omega arith in
    ap₂ (λ (at : ℕ) (bs : Environment). record { name = s.name; address = at; constant = s.constant } ∷ bs) (get_or-range_with_len 0 k s.slot 0 low.0 ∙ from) (placed scope k low.1)

module _ (around : Surroundings) (units : List Code) (table : List Numbered) (u : Unit') (items : List Stmt) (code : FileStands around units table u items) where
  size_is : u.body.variables + u.body.undeclared ≡ length (body_entry 0 None [] items)
  size_is =
      let first : 0 + u.body.variables ≡ length (variable_entry 0 None [] items) = code.body.variables in
      let rest : length (variable_entry 0 None [] items) + u.body.undeclared ≡ length (body_entry 0 None [] items) = code.body.undeclared in
      omega (arith, first, rest)

  environment_is : (activation : Activation) → activation ≡ range_with_len 0 (u.body.variables + u.body.undeclared) → environment_of (body_entry 0 None [] items) activation ≡ start_environment items
  environment_is activation e =
      ap (environment_of (body_entry 0 None [] items)) (e ∙ ap (range_with_len 0) size_is) ∙ placed (body_entry 0 None [] items) (length (body_entry 0 None [] items)) (entry_low items)

  module _ {H : Type 0} (host : Meaning H) (ran : Ran (State × Named H) Environment) where
    abbrev statements : Activation → Eval H Value
    statements = slots.body units (slots.parts units host call_limit depth_limit) u.body.statements

    by_statements : (activation : Activation) (r : Ran (State × H) Value) → activation ≡ range_with_len 0 (u.body.variables + u.body.undeclared) → EndsAs around.tildes table ran (and_then r (λ _ s. gives (environment_of (body_entry 0 None [] items) activation) s)) → StartsAs around.tildes table items ran r
    by_statements activation (gives v s) e ends = (ends.0, ends.1 ∙ ap (λ (env : Environment). gives env ends.0) (environment_is activation e), ends.2)
    by_statements activation (leaves x s) e ends = ends

    by_entry : (r : Ran State Activation) (h : H) → ActivationIs (u.body.variables + u.body.undeclared) r
        → EndsAs around.tildes table ran (and_then (beside h r) (λ activation s. and_then (statements activation s) (λ _ s. gives (environment_of (body_entry 0 None [] items) activation) s)))
        → StartsAs around.tildes table items ran (and_then (beside h r) statements)
    by_entry (gives activation t) h e ends = by_statements activation (statements activation (t, h)) e ends
    by_entry (leaves x t) h e ends = ends

  pub starts_as : {H : Type 0} (host : Meaning H) (q : Eval (Named H) Environment) → EvaluatesAs around.tildes table (file_on_slots units host u items) q → (s : State × H) → s.0.store ≡ [] → StartsAs around.tildes table items (q (without_functions s)) (slots.unit units host u s)
  unfolding slots.unit
  starts_as host q law s empty =
      by_entry host (q (without_functions s)) (enter_unit units u s.0) s.1 (unit_activation units u s.0 code.globals empty) (law.ends s (without_functions s) (starts around.tildes table s empty))

module _ {H : Type 0} (tildes : List Tilde) (table : List Numbered) (items : List Stmt) where
  pub started_as : (ran : Ran (State × Named H) Environment) (r : Ran (State × H) Value) → StartsAs tildes table items ran r → (result : Result Value Exit) (new : State × H) → Evals r result new → StartedAs tildes table items ran result new
  started_as ran r starts (Ok v) new did = subst (λ (x : Ran (State × H) Value). StartsAs tildes table items ran x) did starts
  started_as ran r starts (Err e) new did = λ other. subst (λ (x : Ran (State × H) Value). StartsAs tildes table items ran x) (did other) starts

  pub shown_agrees : (ran : Ran (State × Named H) Environment) (r : Ran (State × H) Value) → StartsAs tildes table items ran r → shown_by_names (aside ran) ≡ shown (aside r)
  shown_agrees ran (gives v s) starts = ap (λ (r : Ran (State × Named H) Environment). shown_by_names (aside r)) starts.1 ∙ ap (λ (x : State × H). gives tt x) (state_shown tildes table s starts.0 starts.2)
  shown_agrees ran (leaves e s) starts = ap (λ (r : Ran (State × Named H) Environment). shown_by_names (aside r)) starts.1 ∙ ap (λ (x : State × H). leaves e x) (state_shown tildes table s starts.0 starts.2)
