-- How names are bound and looked up while code is evaluated.
use Rattle.std.specs.Prelude.{ℕ, Bool, if◌then◌else◌, List, [], ◌∷◌, Option, None, Some}
use Rattle.std.specs.List.{list_any}
use Rattle.mt_eval_meaning.specs.declared.reference.Referent.{Referent}
use Rattle.mt_eval_meaning.specs.declared.reference.Referent.TheVariants as refers
use Rattle.mt_syntax.specs.declared.program.Tilde.{Tilde}
use Rattle.mt_syntax.specs.declared.tree.Function.{Function}
use Rattle.mt_value.specs.Names.{is_same}
use Rattle.mt_value.specs.declared.value.Native.{Native}
use Rattle.mt_value.specs.declared.value.Native.TheVariants as native
use Rattle.mt_tree.specs.Words.{object_name, array_name, string_name, number_name, error_name, log_name, alert_name, document_name, event_name}

-- ---- environments

-- a name, the address of its variable, and whether this is a constant
pub record Binding : Type 0 where
  pub name : List ℕ
  pub address : ℕ
  pub constant : Bool

-- newest first
abbrev pub Environment : Type 0
Environment = List Binding

abbrev pub find : List ℕ → Environment → Option Binding
find name [] = None
find name (b ∷ bs) = if is_same name b.name then Some b else find name bs

-- ---- what stands around the code

pub data Tier : Type 0 where
  server : Tier
  client : Tier

pub record Surroundings : Type 0 where
  pub tier : Tier
  -- the names of the services, of which a client knows none
  pub services : List (List ℕ)
  -- the tildes by their numbers, of which client code has none
  pub tildes : List Tilde
  -- what a function keeps of the environment in which it is made, by the name that it has inside and its syntax
  pub kept : Option (List ℕ) → Function → Environment → Environment

-- a function keeps its whole environment
abbrev pub whole : Option (List ℕ) → Function → Environment → Environment
whole own f environment = environment

-- ---- builtins

abbrev pub builtin_of_tier : Tier → List ℕ → Option Native
builtin_of_tier server name = if is_same name log_name then Some native.Log else None
builtin_of_tier client name =
    if is_same name alert_name then Some native.Alert else
    if is_same name document_name then Some native.Document else
    if is_same name event_name then Some native.Event else None

unfoldable pub builtin_of : Tier → List ℕ → Option Native
builtin_of tier name =
    if is_same name object_name then Some native.Object else
    if is_same name array_name then Some native.Array else
    if is_same name string_name then Some native.String else
    if is_same name number_name then Some native.Number else
    if is_same name error_name then Some native.Error else builtin_of_tier tier name

-- ---- what a name stands for

abbrev pub builtin_or_global : Option Native → Referent
builtin_or_global (Some n) = refers.Builtin n
builtin_or_global None = refers.Global

-- a name that nothing binds around it
unfoldable pub referent_outside : Surroundings → List ℕ → Referent
referent_outside around name = if list_any (is_same name) around.services then refers.Service else builtin_or_global (builtin_of around.tier name)

abbrev pub bound_or_outside : Option Binding → Surroundings → List ℕ → Referent
bound_or_outside (Some b) around name = refers.Variable b.address b.constant
bound_or_outside None around name = referent_outside around name

-- the newest binding of the name, else what it stands for outside of all
abbrev pub referent : Surroundings → Environment → List ℕ → Referent
referent around environment name = bound_or_outside (find name environment) around name
