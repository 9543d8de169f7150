-- The scope of code: the slot of each name, which an activation gives an address.
use Rattle.std.specs.Prelude.{ℕ, ◌+◌, ◌<◌, Bool, true, false, if◌then◌else◌, List, [], ◌∷◌, ◌++◌, length, map, Option, None, Some, is_some, slice_index_or}
use Rattle.std.specs.List.{list_any}
use Rattle.mt_eval_meaning.specs.Entering.{function_names}
use Rattle.mt_eval_meaning.specs.Hoisting.{Lexical, lexicals, variables}
use Rattle.mt_eval_meaning.specs.Names.{Environment, Surroundings, referent_outside}
use Rattle.mt_eval_meaning.specs.declared.reference.Referent.{Referent}
use Rattle.mt_eval_meaning.specs.declared.reference.Referent.TheVariants as refers
use Rattle.mt_eval_meaning.specs.Activations.{Activation}
use Rattle.mt_eval_meaning.specs.declared.name.Binding.{Binding}
use Rattle.mt_eval_meaning.specs.declared.name.Binding.TheVariants as binding
use Rattle.mt_syntax.specs.declared.tree.Stmt.{Stmt}
use Rattle.mt_value.specs.Names.{is_same}

pub record Slot : Type 0 where
  pub name : List ℕ
  pub slot : ℕ
  pub constant : Bool

-- newest first
abbrev pub Scope : Type 0
Scope = List Slot

abbrev pub find_slot : List ℕ → Scope → Option Slot
find_slot name [] = None
find_slot name (s ∷ ss) = if is_same name s.name then Some s else find_slot name ss

-- the environment that an activation gives a scope
abbrev pub environment_of : Scope → Activation → Environment
environment_of scope activation = map (λ s. record { name = s.name; address = slice_index_or activation s.slot 0; constant = s.constant }) scope

-- each slot is one of an activation of that size
abbrev pub IsBelow : ℕ → Scope → Type 0
IsBelow size [] = Unit {0}
IsBelow size (s ∷ ss) = (s.slot < size) × IsBelow size ss

-- ---- what a name stands for

abbrev pub outer_binding : Referent → Binding
outer_binding (refers.Variable at constant) = binding.Global
outer_binding refers.Service = binding.Service
outer_binding (refers.Builtin n) = binding.Builtin n
outer_binding refers.Global = binding.Global

abbrev pub slot_or_outer : Option Slot → Binding → Binding
slot_or_outer (Some s) outer = binding.Slot s.slot s.constant
slot_or_outer None outer = outer

abbrev pub binding_of : Surroundings → Scope → List ℕ → Binding
binding_of around scope name = slot_or_outer (find_slot name scope) (outer_binding (referent_outside around name))

-- ---- the slots of an entry, behind an activation of some size

abbrev pub with_name : ℕ → List ℕ → Bool → Scope → Scope
with_name size name constant entry = record { name = name; slot = size + length entry; constant = constant } ∷ entry

abbrev pub with_names : ℕ → List (List ℕ) → Scope → Scope
with_names size [] entry = entry
with_names size (name ∷ names) entry = with_names size names (with_name size name false entry)

-- a name that the entry binds already keeps its slot
abbrev pub with_names_once : ℕ → List (List ℕ) → Scope → Scope
with_names_once size [] entry = entry
with_names_once size (name ∷ names) entry = with_names_once size names (if is_some (find_slot name entry) then entry else with_name size name false entry)

abbrev pub with_lexicals : ℕ → List Lexical → Scope → Scope
with_lexicals size [] entry = entry
with_lexicals size (l ∷ ls) entry = with_lexicals size ls (with_name size l.name l.constant entry)

-- whether a function expression has its own name inside
abbrev pub has_own : Option (List ℕ) → List (List ℕ) → Bool
has_own None names = false
has_own (Some name) names = if list_any (is_same name) names then false else true

abbrev pub with_own_name : ℕ → Option (List ℕ) → Bool → Scope
with_own_name size (Some name) true = with_name size name true []
with_own_name size _ _ = []

-- ---- the entry of a function's body, group by group

module _ (size : ℕ) (own : Option (List ℕ)) (parameters : List (List ℕ)) (body : List Stmt) where
  abbrev pub own_given : Bool
  own_given = has_own own (parameters ++ (variables body ++ function_names body))

  abbrev pub parameter_entry : Scope
  parameter_entry = with_names size parameters (with_own_name size own own_given)

  abbrev pub variable_entry : Scope
  variable_entry = with_names_once size (variables body) parameter_entry

  abbrev pub body_entry : Scope
  body_entry = with_lexicals size (lexicals body) (with_names_once size (function_names body) variable_entry)
