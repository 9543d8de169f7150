-- The services of a file, and the units of resolved code.
use Rattle.std.specs.Prelude.{ℕ, nat_eq, if◌then◌else◌, List, [], ◌∷◌, Option, None, Some}
use Rattle.mt_resolve.specs.declared.service.Service.{Service}
use Rattle.mt_eval_meaning.specs.declared.function.Function.{Function}
use Rattle.mt_eval_meaning.specs.declared.function.Unit.{Unit as Unit'}
use Rattle.mt_value.specs.Names.{is_same}

-- resolved code: functions and units by their numbers
pub record Contents : Type 0 where
  pub functions : List Function
  pub units : List Unit'
  pub services : List Service

-- the function of the first service of the name
abbrev pub function_of : List ℕ → List Service → Option ℕ
function_of name [] = None
function_of name (s ∷ services) = if is_same name s.name then Some s.function else function_of name services

-- what the service with the function captures
abbrev pub captured_by : ℕ → List Service → Option (List ℕ)
captured_by function [] = None
captured_by function (s ∷ services) = if nat_eq function s.function then Some s.captured else captured_by function services

-- the units of the empty file
abbrev pub nothing : Contents
nothing = record { functions = []; units = record { globals = []; body = record { variables = 0; undeclared = 0; hoisted = []; statements = [] } } ∷ []; services = [] }
