-- What is made where a function, a block or the code of a tier is entered.
use Rattle.std.specs.Prelude.{ℕ, Bool, true, false, if◌then◌else◌, List, [], ◌∷◌, ◌++◌, length, map, Option, None, Some, is_some, nat_eq}
use Rattle.std.specs.List.{list_any}
use Rattle.mt_eval_meaning.specs.Hoisting.{Lexical, lexicals, functions, variables, names_of}
use Rattle.mt_eval_meaning.specs.Host.{blank}
use Rattle.mt_eval_meaning.specs.Names.{Environment, find, Surroundings, referent}
use Rattle.mt_eval_meaning.specs.References.{declare, declare_global}
use Rattle.mt_eval_meaning.specs.Runs.{gives, ◌>>=◌, ◌>>◌, pure, each}
use Rattle.mt_eval_meaning.specs.State.{Eval, on_state, add_cell}
use Rattle.mt_syntax.specs.declared.tree.Function.{Function, out-Function}
use Rattle.mt_syntax.specs.declared.tree.Stmt.{Stmt}
use Rattle.mt_value.specs.Names.{is_same}
use Rattle.mt_value.specs.declared.cell.Cell.TheVariants as cell
use Rattle.mt_value.specs.declared.value.Value.{Value}
use Rattle.mt_value.specs.declared.value.Value.TheVariants as value

-- ---- functions in the store

-- what a function is: its syntax, the environment that it keeps, and the name of a function expression that has one
pub record Closure : Type 0 where
  pub own : Option (List ℕ)
  pub function : Function
  pub environment : Environment

-- the functions by the addresses of their cells
abbrev pub Closures : Type 0
Closures = List (ℕ × Closure)

-- what stands beside the state where names are looked up
pub record Named (H : Type 0) : Type 0 where
  pub host : H
  pub closures : Closures

abbrev pub closure_at : ℕ → Closures → Option Closure
closure_at at [] = None
closure_at at (c ∷ cs) = if nat_eq at c.0 then Some c.1 else closure_at at cs

abbrev pub first : List Value → Value
first [] = value.Undefined
first (v ∷ vs) = v

abbrev pub rest : List Value → List Value
rest [] = []
rest (v ∷ vs) = vs

-- the names of the functions that a body declares
abbrev pub function_names : List Stmt → List (List ℕ)
function_names body = map (λ f. f.0) (functions body)

-- a function that is made in this environment
abbrev pub closure : Surroundings → Option (List ℕ) → Function → Environment → Closure
closure around own f environment = record { own = own; function = f; environment = around.kept own f environment }

module _ {H : Type 0} where
  -- a new function, whose cell goes last
  unfoldable pub capture : Closure → Eval (Named H) ℕ
  capture c = λ s. gives (length s.0.store) (record s.0 { store = s.0.store ++ blank ∷ [] }, record s.1 { closures = s.1.closures ++ (length s.0.store, c) ∷ [] })

  -- ---- variables. A scope is the bindings of one entry, newest first

  abbrev pub new_variable : List ℕ → Bool → Option Value → Environment → Eval (Named H) Environment
  new_variable name constant content scope = on_state (add_cell (cell.Variable content)) >>= (λ at. pure (record { name = name; address = at; constant = constant } ∷ scope))

  -- a name that the scope binds already keeps its variable
  abbrev pub variable_once : List ℕ → Bool → Option Value → Environment → Eval (Named H) Environment
  variable_once name constant content scope = if is_some (find name scope) then pure scope else new_variable name constant content scope

  abbrev pub variables_once : List (List ℕ) → Option Value → Environment → Eval (Named H) Environment
  variables_once [] content scope = pure scope
  variables_once (name ∷ names) content scope = variable_once name false content scope >>= variables_once names content

  -- missing arguments are undefined, and further ones are left aside
  abbrev pub parameter_variables : List (List ℕ) → List Value → Environment → Eval (Named H) Environment
  parameter_variables [] arguments scope = pure scope
  parameter_variables (name ∷ names) arguments scope = new_variable name false (Some (first arguments)) scope >>= parameter_variables names (rest arguments)

  -- a function expression with a name has it inside, unless the body binds this name itself
  abbrev pub own_variable : Option (List ℕ) → List (List ℕ) → ℕ → Eval (Named H) Environment
  own_variable None names at = pure []
  own_variable (Some name) names at = if list_any (is_same name) names then pure [] else new_variable name true (Some (value.Fun at)) []

  -- `let` and `const` make new variables, which are not declared yet
  abbrev pub lexical_variables : List Lexical → Environment → Eval (Named H) Environment
  lexical_variables [] scope = pure scope
  lexical_variables (l ∷ ls) scope = new_variable l.name l.constant None scope >>= lexical_variables ls

  -- The variables of a function's body: its own name, the parameters, the `var` names, the functions' names, and those of `let` and
  -- `const` at its top, each group in text order.
  unfoldable pub body_scope : Option (List ℕ) → ℕ → List (List ℕ) → List Value → List Stmt → Eval (Named H) Environment
  body_scope own at parameters arguments body = do
    named ← own_variable own (parameters ++ (variables body ++ function_names body)) at
    given ← parameter_variables parameters arguments named
    declared ← variables_once (variables body) (Some value.Undefined) given
    hoisted ← variables_once (function_names body) None declared
    lexical_variables (lexicals body) hoisted

  -- ---- the functions that a body declares

  module _ (around : Surroundings) where
    unfoldable pub define : Environment → List ℕ × Function → Eval (Named H) (Unit {0})
    define environment f = do
      at ← capture (closure around None f.1 environment)
      on_state (declare f.0 (referent around environment f.0) (value.Fun at))

    -- each has a new cell, in text order
    abbrev pub define_all : Environment → List Stmt → Eval (Named H) (Unit {0})
    define_all environment body = each (map (define environment) (functions body))

    -- ---- entries

    -- a function's body, with the environment that it is evaluated in
    unfoldable pub enter_function : Closure → ℕ → List Value → Eval (Named H) Environment
    enter_function c at arguments = do
      scope ← body_scope c.own at (names_of (out-Function c.function).parameters) arguments (out-Function c.function).body
      define_all (scope ++ c.environment) (out-Function c.function).body
      pure (scope ++ c.environment)

    -- the top of the file, which is entered as a body is
    unfoldable pub enter_file : List Stmt → Eval (Named H) Environment
    enter_file items = do
      scope ← body_scope None 0 [] [] items
      define_all scope items
      pure scope

    -- The code of a tilde: its `var` and function names are globals, of which each `var` that isn't declared yet becomes undefined.
    unfoldable pub enter_client : List Stmt → Eval (Named H) Environment
    enter_client body = do
      each (map (λ name. on_state (declare_global name)) (variables body))
      scope ← lexical_variables (lexicals body) []
      define_all scope body
      pure scope

  -- a block
  abbrev pub enter_block : List Stmt → Environment → Eval (Named H) Environment
  enter_block body environment = lexical_variables (lexicals body) environment

  -- the handler of what was thrown
  abbrev pub enter_handler : List ℕ → Value → Environment → Eval (Named H) Environment
  enter_handler name v environment = new_variable name false (Some v) environment
