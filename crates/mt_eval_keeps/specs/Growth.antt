-- What evaluation keeps: the states that it can meet, and how they grow.
use Rattle.std.specs.Prelude.{◌≡◌, ℕ, ◌+◌, ◌≤◌, Bool, true, false, List, length, All, None, Some, slice_get}
use Rattle.mt_eval_meaning.specs.declared.state.State.{State}
use Rattle.mt_tree.specs.declared.closure.Closure.{Closure}
use Rattle.mt_tree.specs.declared.html.Html.{Html}
use Rattle.mt_value.specs.Lawful.{Kind, function, kind_of, Names, Keeps, LawfulValue, Lawful}
use Rattle.mt_value.specs.declared.cell.Cell.{Cell}
use Rattle.mt_value.specs.declared.cell.Cell.TheVariants as cell
use Rattle.mt_value.specs.declared.cell.FrameCell.{FrameCell}
use Rattle.mt_value.specs.declared.value.Value.{Value}
use Rattle.mt_value.specs.declared.value.Value.TheVariants as value

-- what a host knows as its own
pub data Thing : Type 0 where
  node : ℕ → Thing
  event : ℕ → Thing
  frame : FrameCell → Thing
  html : Html Closure → Thing
  code : Closure → Thing
  -- a tilde, by its number and the number of its values
  tilde : ℕ → ℕ → Thing
  -- the host itself, with all tildes of the code that is evaluated
  itself : Thing

-- what is a host's own, the addresses of functions that it keeps, and the numbers that functions of the code have
pub record Owning (H : Type 0) : Type 1 where
  pub has : H → Thing → Type 0
  pub addresses : H → List ℕ
  pub function : ℕ → Type 0

abbrev pub count_of : Cell → ℕ
count_of (cell.Arr items) = length items
count_of (cell.Obj properties) = length properties
count_of _ = 0

-- what no evaluation changes
abbrev pub is_fixed : Kind → Bool
is_fixed Kind.variable = false
is_fixed Kind.array = false
is_fixed Kind.object = false
is_fixed _ = true

-- each cell is still there and of its kind, and the same where it is fixed
pub record GrewTo (old new : List Cell) : Type 0 where
  pub kinds : Keeps old new
  pub fixed : (at : ℕ) (c : Cell) → is_fixed (kind_of c) ≡ true → slice_get old at ≡ Some c → slice_get new at ≡ Some c

-- `owns` is the host's test
module _ {H : Type 0} (owns : Owning H) where
  abbrev pub OwnValue : H → Value → Type 0
  OwnValue h (value.Node n) = owns.has h (node n)
  OwnValue h (value.Event n) = owns.has h (event n)
  OwnValue h _ = Unit {0}

  abbrev pub OwnCell : H → Cell → Type 0
  OwnCell h (cell.Variable None) = Unit {0}
  OwnCell h (cell.Variable (Some v)) = OwnValue h v
  OwnCell h (cell.Arr items) = All (OwnValue h) items
  OwnCell h (cell.Obj properties) = All (λ p. OwnValue h p.value) properties
  OwnCell h (cell.Fun f) = owns.function f.function
  OwnCell h (cell.Frame f) = owns.has h (frame f)
  OwnCell h (cell.Html t) = owns.has h (html t)
  OwnCell h (cell.Code c) = owns.has h (code c)

  -- a value that is lawful in the store, and the host's own where it is a host's
  pub record Fits (s : State × H) (v : Value) : Type 0 where
    pub lawful : LawfulValue s.0.store v
    pub own : OwnValue s.1 v

  pub record Grew (s t : State × H) : Type 0 where
    pub store : GrewTo s.0.store t.0.store
    pub host : (x : Thing) → owns.has s.1 x → owns.has t.1 x

  -- An array or object may yet grow by each step that is left, and not pass `most`.
  module _ (most : ℕ) where
    -- a cell that the host may meet, where that many steps may be taken
    pub record FitsCell (h : H) (steps : ℕ) (c : Cell) : Type 0 where
      pub own : OwnCell h c
      pub room : count_of c + steps ≤ most

    -- the state is lawful, with room for that many steps
    pub record Good (steps : ℕ) (s : State × H) : Type 0 where
      pub store : Lawful s.0.store
      pub globals : All (λ v. Fits s v.1) s.0.globals
      pub cells : All (FitsCell s.1 steps) s.0.store
      pub room : 64 + steps ≤ most
      pub host : owns.has s.1 itself
      pub addresses : All (Names s.0.store function) (owns.addresses s.1)
