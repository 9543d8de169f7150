-- What a state on slots shows of a state by names.
use Rattle.std.specs.Prelude.{◌≡◌, ℕ, suc, List, [], ◌∷◌, ◌++◌, length, Option, None, Some, slice_get}
use Rattle.mt_eval_meaning.specs.States.{Numbered}
use Rattle.mt_eval_meaning.specs.Entering.{Closures, Named}
use Rattle.mt_eval_meaning.specs.Hoisting.{Lexical}
use Rattle.mt_eval_meaning.specs.Host.{seen}
use Rattle.mt_eval_meaning.specs.Names.{Environment}
use Rattle.mt_eval_meaning.specs.declared.state.State.{State}
use Rattle.mt_value.specs.declared.cell.Cell.{Cell}
use Rattle.mt_value.specs.declared.cell.Cell.TheVariants as cell
use Rattle.mt_value.specs.declared.cell.FunCell.{FunCell}

abbrev pub zipped : List Lexical → List ℕ → Environment
zipped [] addresses = []
zipped (l ∷ ls) [] = []
zipped (l ∷ ls) (at ∷ addresses) = record { name = l.name; address = at; constant = l.constant } ∷ zipped ls addresses

module _ (table : List Numbered) where
  abbrev pub closure_by : Option Numbered → FunCell → ℕ → Closures
  closure_by None f at = []
  closure_by (Some n) f at = (at, record { own = n.own; function = n.function; environment = zipped n.names f.captured }) ∷ []

  -- the function in a cell
  abbrev pub closures_in : ℕ → Cell → Closures
  closures_in at (cell.Fun f) = closure_by (slice_get table f.function) f at
  closures_in at _ = []

  -- the functions of cells from an address on
  abbrev pub closures_from : ℕ → List Cell → Closures
  closures_from at [] = []
  closures_from at (c ∷ cs) = closures_in at c ++ closures_from (suc at) cs

  abbrev pub view : {H : Type 0} → State × H → State × Named H
  view s = (record s.0 { store = seen s.0.store }, record { host = s.1; closures = closures_from 0 s.0.store })

  -- ---- each cell of a function names one, and captures as many variables as it has names

  abbrev pub KnowsFunction : Option Numbered → FunCell → Type 0
  KnowsFunction None f = ⊥
  KnowsFunction (Some n) f = length f.captured ≡ length n.names

  abbrev pub Knows : Cell → Type 0
  Knows (cell.Fun f) = KnowsFunction (slice_get table f.function) f
  Knows _ = Unit {0}

  abbrev pub IsGood : List Cell → Type 0
  IsGood [] = Unit {0}
  IsGood (c ∷ cs) = Knows c × IsGood cs
