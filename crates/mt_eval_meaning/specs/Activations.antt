-- How variables are found and made where names are resolved: by the slots of an activation, which has the addresses of their cells, the
-- newest last.
use Rattle.std.specs.Prelude.{ℕ, zero, suc, Bool, true, false, if◌then◌else◌, List, [], ◌∷◌, ◌++◌, map, flat_map, Option, None, Some, slice_get}
use Rattle.mt_eval_meaning.specs.Entering.{first, rest}
use Rattle.mt_eval_meaning.specs.References.{declare, declare_global}
use Rattle.mt_eval_meaning.specs.Runs.{Run, ◌>>=◌, ◌>>◌, pure, each}
use Rattle.mt_eval_meaning.specs.State.{add_cell}
use Rattle.mt_eval_meaning.specs.declared.reference.Referent.{Referent}
use Rattle.mt_eval_meaning.specs.declared.reference.Referent.TheVariants as refers
use Rattle.mt_eval_meaning.specs.declared.state.State.{State}
use Rattle.mt_eval_meaning.specs.declared.function.Body.{Body}
use Rattle.mt_eval_meaning.specs.declared.function.Function.{Function}
use Rattle.mt_eval_meaning.specs.declared.function.Hoisted.{Hoisted}
use Rattle.mt_eval_meaning.specs.declared.function.Unit.{Unit as Unit'}
use Rattle.mt_eval_meaning.specs.declared.name.Binding.{Binding}
use Rattle.mt_eval_meaning.specs.declared.name.Binding.TheVariants as binding
use Rattle.mt_eval_meaning.specs.declared.name.Name.{Name}
use Rattle.mt_value.specs.declared.cell.Cell.TheVariants as cell
use Rattle.mt_value.specs.declared.value.Value.{Value}
use Rattle.mt_value.specs.declared.value.Value.TheVariants as value

-- where a running call keeps its variables: the addresses of their cells
abbrev pub Activation : Type 0
Activation = List ℕ

-- no code names a slot that isn't there
abbrev pub slot_referent : Option ℕ → Bool → Referent
slot_referent None constant = refers.Global
slot_referent (Some at) constant = refers.Variable at constant

abbrev pub referent : Activation → Binding → Referent
referent activation (binding.Slot slot constant) = slot_referent (slice_get activation slot) constant
referent activation binding.Service = refers.Service
referent activation (binding.Builtin n) = refers.Builtin n
referent activation binding.Global = refers.Global

abbrev pub address_in : Option ℕ → List ℕ
address_in None = []
address_in (Some at) = at ∷ []

-- the addresses in some slots
abbrev pub captured : Activation → List ℕ → List ℕ
captured activation slots = flat_map (λ slot. address_in (slice_get activation slot)) slots

abbrev pub captures_of : Option Function → List ℕ
captures_of None = []
captures_of (Some f) = f.captures

-- new variables behind the activation's, all with the same content
abbrev pub grown : ℕ → Option Value → Activation → Run State Activation
grown zero content activation = pure activation
grown (suc n) content activation = add_cell (cell.Variable content) >>= (λ at. grown n content (activation ++ at ∷ []))

-- missing arguments are undefined, and further ones are left aside
abbrev pub with_parameters : ℕ → List Value → Activation → Run State Activation
with_parameters zero arguments activation = pure activation
with_parameters (suc n) arguments activation = add_cell (cell.Variable (Some (first arguments))) >>= (λ at. with_parameters n (rest arguments) (activation ++ at ∷ []))

-- the name that a function has inside, for the function in a cell
abbrev pub with_own : Bool → ℕ → Activation → Run State Activation
with_own true at activation = grown (suc zero) (Some (value.Fun at)) activation
with_own false at activation = pure activation

module _ (functions : List Function) where
  -- a new function, which captures what its code says
  unfoldable pub capture : ℕ → Activation → Run State ℕ
  capture n activation = add_cell (cell.Fun (record { function = n; captured = captured activation (captures_of (slice_get functions n)) }))

  unfoldable pub define : Activation → Hoisted → Run State (Unit {0})
  define activation h = do
    at ← capture h.function activation
    declare h.name.text (referent activation h.name.binding) (value.Fun at)

  abbrev pub define_all : Activation → List Hoisted → Run State (Unit {0})
  define_all activation hs = each (map (define activation) hs)

  -- ---- entries, with the activation that the statements have

  unfoldable pub enter_body : Body → Activation → Run State Activation
  enter_body b activation = do
    declared ← grown b.variables (Some value.Undefined) activation
    inner ← grown b.undeclared None declared
    define_all inner b.hoisted
    pure inner

  unfoldable pub enter_function : Function → List ℕ → ℕ → List Value → Run State Activation
  enter_function f captured at arguments = do
    named ← with_own f.own at captured
    given ← with_parameters f.parameters arguments named
    enter_body f.body given

  unfoldable pub enter_unit : Unit' → Run State Activation
  enter_unit u = do
    each (map declare_global u.globals)
    enter_body u.body []
