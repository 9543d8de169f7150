-- What it means that code on slots is evaluated as the syntax that it stands for.
use Rattle.std.specs.Prelude.{◌≡◌, ◌≢◌, List, [], map, None, Result, Ok, Err}
use Rattle.mt_eval_meaning.specs.Scopes.{environment_of, body_entry}
use Rattle.mt_eval_meaning.specs.States.{Numbered, keeping_free, keeping_whole, trim, trimmed}
use Rattle.mt_eval_meaning.specs.Stores.{StateStands}
use Rattle.mt_eval_meaning.specs.Entering.{Named}
use Rattle.mt_eval_meaning.specs.Evaluation.{file, client_code, called}
use Rattle.mt_eval_meaning.specs.Host.{Meaning, seen}
use Rattle.mt_eval_meaning.specs.Names.{Environment, Surroundings}
use Rattle.mt_eval_meaning.specs.Runs.{Ran, gives, leaves, ◌>>=◌, ◌>>◌, pure}
use Rattle.mt_eval_meaning.specs.State.{Eval, on_state}
use Rattle.mt_eval_meaning.specs.declared.exit.Exit.{Exit}
use Rattle.mt_eval_meaning.specs.declared.exit.Exit.TheVariants as exit
use Rattle.mt_eval_meaning.specs.declared.state.State.{State}
use Rattle.mt_eval_meaning.specs.Activations.{enter_unit}
use Rattle.mt_eval_meaning.specs.Slots as slots
use Rattle.mt_eval_meaning.specs.declared.function.Function.{Function as Code}
use Rattle.mt_eval_meaning.specs.declared.function.Unit.{Unit as Unit'}
use Rattle.mt_syntax.specs.declared.program.Tilde.{Tilde}
use Rattle.mt_syntax.specs.declared.tree.Stmt.{Stmt}
use Rattle.mt_value.specs.declared.value.Value.{Value}
use Rattle.mt_tree.specs.Limits.{call_limit, depth_limit}

-- the file on slots, with the environment that its activation gives to the names of its top
abbrev pub file_on_slots : {H : Type 0} → List Code → Meaning H → Unit' → List Stmt → Eval H Environment
file_on_slots units host u items = do
  activation ← on_state (enter_unit units u)
  slots.body units (slots.parts units host call_limit depth_limit) u.body.statements activation
  pure (environment_of (body_entry 0 None [] items) activation)

-- ---- runs that end the same way, in states of which one stands for the other

module _ {H : Type 0} (tildes : List Tilde) (table : List Numbered) where
  -- a run by names and one on slots
  abbrev pub EndsAs : {A : Type 0} → Ran (State × Named H) A → Ran (State × H) A → Type 0
  EndsAs ran (gives a s) = (n : State × Named H) × (ran ≡ gives a n) × StateStands tildes table s n
  EndsAs ran (leaves e s) = (n : State × Named H) × (ran ≡ leaves e n) × StateStands tildes table s n

  -- a run by names and code that did what is meant, or had no memory
  abbrev pub EvalsAs : {A : Type 0} → Ran (State × Named H) A → Result A Exit → State × H → Type 0
  EvalsAs ran (Ok a) new = (n : State × Named H) × (ran ≡ gives a n) × StateStands tildes table new n
  EvalsAs ran (Err e) new = e ≢ exit.NoMemory → (n : State × Named H) × (ran ≡ leaves e n) × StateStands tildes table new n

  -- from each two states of which one stands for the other
  pub record EvaluatesAs {A : Type 0} (p : Eval H A) (q : Eval (Named H) A) : Type 0 where
    pub ends : (s : State × H) (n : State × Named H) → StateStands tildes table s n → EndsAs (q n) (p s)

-- ---- a file that begins on an empty store

-- a state by names that has no functions
abbrev pub without_functions : {H : Type 0} → State × H → State × Named H
without_functions s = (s.0, record { host = s.1; closures = [] })

-- the environment of the top, in which the cell of each name stands at the place that is its slot
abbrev pub start_environment : List Stmt → Environment
start_environment items = map (λ s. record { name = s.name; address = s.slot; constant = s.constant }) (body_entry 0 None [] items)

-- a run of the file by names, and one of its unit on slots
abbrev pub StartsAs : {H : Type 0} → List Tilde → List Numbered → List Stmt → Ran (State × Named H) Environment → Ran (State × H) Value → Type 0
StartsAs {H} tildes table items ran (gives v s) = (n : State × Named H) × (ran ≡ gives (start_environment items) n) × StateStands tildes table s n
StartsAs {H} tildes table items ran (leaves e s) = (n : State × Named H) × (ran ≡ leaves e n) × StateStands tildes table s n

-- the same of code that did what is meant on slots, or had no memory
abbrev pub StartedAs : {H : Type 0} → List Tilde → List Numbered → List Stmt → Ran (State × Named H) Environment → Result Value Exit → State × H → Type 0
StartedAs {H} tildes table items ran (Ok v) new = (n : State × Named H) × (ran ≡ gives (start_environment items) n) × StateStands tildes table new n
StartedAs {H} tildes table items ran (Err e) new = e ≢ exit.NoMemory → (n : State × Named H) × (ran ≡ leaves e n) × StateStands tildes table new n

-- ---- what a host sees of a run

-- a run, but for the value that it gives
abbrev pub aside : {S A : Type 0} → Ran S A → Ran S (Unit {0})
aside (gives a s) = gives tt s
aside (leaves e s) = leaves e s

module _ {H A : Type 0} where
  abbrev pub shown : Ran (State × H) A → Ran (State × H) A
  shown (gives a s) = gives a (record s.0 { store = seen s.0.store }, s.1)
  shown (leaves e s) = leaves e (record s.0 { store = seen s.0.store }, s.1)

  abbrev pub shown_by_names : Ran (State × Named H) A → Ran (State × H) A
  shown_by_names (gives a s) = gives a (s.0, s.1.host)
  shown_by_names (leaves e s) = leaves e (s.0, s.1.host)

-- ---- functions that keep what is free in them, in the place of their whole environments

-- the same ending, host and budget, and the same store but for what functions keep
abbrev pub SameTrimmed : {H A : Type 0} → List Tilde → Eval (Named H) A → Eval (Named H) A → Type 0
SameTrimmed {H} tildes p q = (s : State × Named H) → q (trim tildes s) ≡ trimmed tildes (p s)

pub record FreeIsEnough {H : Type 0} (around : Surroundings) (host : Meaning H) : Type 0 where
  pub file : (items : List Stmt) → SameTrimmed around.tildes (file (keeping_whole around) host items) (file (keeping_free around) host items)
  pub client_code : (items : List Stmt) → SameTrimmed around.tildes (client_code (keeping_whole around) host items) (client_code (keeping_free around) host items)
  pub called : (f : Value) (arguments : List Value) → SameTrimmed around.tildes (called (keeping_whole around) host f arguments) (called (keeping_free around) host f arguments)
