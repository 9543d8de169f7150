-- Resolved code that stands for syntax, with a table of what the numbers of its functions stand for.
use Rattle.std.specs.Prelude.{◌≡◌, ℕ, List, [], ◌∷◌, ◌++◌, length, map, None, Some, slice_get}
use Rattle.mt_eval_meaning.specs.Code.{AllStand, FunctionStands, captured_slots, TableStands, FileStands, ClientCodeStands}
use Rattle.mt_eval_meaning.specs.Scopes.{Scope, body_entry}
use Rattle.mt_eval_meaning.specs.States.{Numbered}
use Rattle.mt_eval_meaning.specs.Evaluation.{server_surroundings, client_surroundings}
use Rattle.mt_eval_meaning.specs.Hoisting.{services}
use Rattle.mt_eval_meaning.specs.Names.{Surroundings}
use Rattle.mt_resolve.specs.Services.{Contents}
use Rattle.mt_resolve.specs.declared.service.Service.{Service}
use Rattle.mt_eval_meaning.specs.declared.function.Function.{Function}
use Rattle.mt_eval_meaning.specs.declared.function.Unit.{Unit as Unit'}
use Rattle.mt_syntax.specs.declared.program.Program.{Program}
use Rattle.mt_syntax.specs.declared.tree.Function.{Function as SyntaxFunction}
use Rattle.mt_syntax.specs.declared.tree.Stmt.{Stmt}

-- ---- the surroundings of the code of a file and of client code

abbrev pub around_file : Program → Surroundings
around_file = server_surroundings

abbrev pub around_client : Surroundings
around_client = client_surroundings

module _ (around : Surroundings) where
  -- each function has a number of the table
  pub record AreNumbered (functions : List Function) (table : List Numbered) : Type 0 where
    pub count : length functions ≡ length table
    pub stands : TableStands around functions table

  -- a service captures in the scope of the file's top
  pub record ServiceStands (functions : List Function) (table : List Numbered) (scope : Scope) (s : Service) (f : List ℕ × SyntaxFunction) : Type 0 where
    pub name : s.name ≡ f.0
    pub function : FunctionStands around functions table scope s.function None f.1
    pub captured : s.captured ≡ map (λ c. c.slot) (captured_slots around functions table None f.1 scope)

-- the units of a file
pub record ProgramStands (p : Program) (code : Contents) : Type 0 where
  pub table : List Numbered
  pub functions : AreNumbered (around_file p) code.functions table
  pub top : Unit'
  pub units : code.units ≡ top ∷ []
  pub file : FileStands (around_file p) code.functions table top p.items
  pub services : AllStand (ServiceStands (around_file p) code.functions table (body_entry 0 None [] p.items)) code.services (services p.items)

-- each function and each entry keeps its number
pub record Extends (functions : List Function) (table : List Numbered) (functions' : List Function) (table' : List Numbered) : Type 0 where
  pub code : (n : ℕ) (f : Function) → slice_get functions n ≡ Some f → slice_get functions' n ≡ Some f
  pub entry : (n : ℕ) (e : Numbered) → slice_get table n ≡ Some e → slice_get table' n ≡ Some e

-- the units of a page, with those of one more client code
pub record ClientStands (body : List Stmt) (before after : Contents) (table : List Numbered) (id : ℕ) : Type 0 where
  pub table' : List Numbered
  pub more : Extends before.functions table after.functions table'
  pub functions : AreNumbered around_client after.functions table'
  pub unit : Unit'
  pub number : id ≡ length before.units
  pub units : after.units ≡ before.units ++ unit ∷ []
  pub services : after.services ≡ before.services
  pub stands : ClientCodeStands around_client after.functions table' unit body
