-- Which state on slots stands for which state by names.
use Rattle.std.specs.Prelude.{◌≡◌, ℕ, zero, suc, List, [], ◌∷◌, ◌++◌, map, Some, slice_get}
use Rattle.mt_eval_meaning.specs.Code.{AllStand}
use Rattle.mt_eval_meaning.specs.States.{Numbered, kept_free}
use Rattle.mt_eval_meaning.specs.Entering.{Closure, Closures, Named}
use Rattle.mt_eval_meaning.specs.Hoisting.{Lexical}
use Rattle.mt_eval_meaning.specs.Host.{seen}
use Rattle.mt_eval_meaning.specs.Names.{Binding}
use Rattle.mt_eval_meaning.specs.declared.state.State.{State}
use Rattle.mt_syntax.specs.declared.program.Tilde.{Tilde}
use Rattle.mt_value.specs.declared.cell.Cell.{Cell}
use Rattle.mt_value.specs.declared.cell.Cell.TheVariants as cell
use Rattle.mt_value.specs.declared.cell.FunCell.{FunCell}

-- the cells of functions from an address on, with their addresses
abbrev pub functions_in : ℕ → Cell → List (ℕ × FunCell)
functions_in at (cell.Fun f) = (at, f) ∷ []
functions_in at _ = []

abbrev pub functions_from : ℕ → List Cell → List (ℕ × FunCell)
functions_from at [] = []
functions_from at (c ∷ cs) = functions_in at c ++ functions_from (suc at) cs

abbrev pub lexical_in : Binding → Lexical
lexical_in b = record { name = b.name; constant = b.constant }

module _ (tildes : List Tilde) (table : List Numbered) where
  -- The cell of a function names it, and captures, for each name that is free in it, the address that its environment gives.
  pub record FunctionCellStands (f : FunCell) (c : Closure) : Type 0 where
    pub named : slice_get table f.function ≡ Some (record { own = c.own; function = c.function; names = map lexical_in (kept_free tildes c.own c.function c.environment) })
    pub captured : f.captured ≡ map (λ b. b.address) (kept_free tildes c.own c.function c.environment)

  -- the same cells at the same places, and the functions in them
  pub record StoreStands (store named : List Cell) (closures : Closures) : Type 0 where
    pub cells : named ≡ seen store
    pub functions : AllStand (λ f c. (f.0 ≡ c.0) × FunctionCellStands f.1 c.1) (functions_from zero store) closures

  pub record StateStands {H : Type 0} (s : State × H) (n : State × Named H) : Type 0 where
    pub store : StoreStands s.0.store n.0.store n.1.closures
    pub globals : n.0.globals ≡ s.0.globals
    pub budget : n.0.budget ≡ s.0.budget
    pub host : n.1.host ≡ s.1
