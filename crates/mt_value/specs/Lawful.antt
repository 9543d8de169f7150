-- The stores and values that a program can meet.
use Rattle.std.specs.Prelude.{◌≡◌, ℕ, ◌^◌, ◌<◌, List, length, map, All, None, Some, slice_get, IsTrue}
use Rattle.std.specs.Option.{option_map}
use Rattle.mt_syntax.specs.Data.{are_property_names, is_in_range}
use Rattle.mt_value.specs.Globals.{Variables}
use Rattle.mt_value.specs.Limits.{text_fits, data_fits, closure_fits, html_fits}
use Rattle.mt_value.specs.declared.cell.Cell.{Cell}
use Rattle.mt_value.specs.declared.cell.Cell.TheVariants as cell
use Rattle.mt_value.specs.declared.cell.Property.{Property}
use Rattle.mt_value.specs.declared.value.Value.{Value}
use Rattle.mt_value.specs.declared.value.Value.TheVariants as value

-- what a cell holds
pub data Kind : Type 0 where
  variable : Kind
  array : Kind
  object : Kind
  function : Kind
  frame : Kind
  html : Kind
  code : Kind

abbrev pub kind_of : Cell → Kind
kind_of (cell.Variable v) = variable
kind_of (cell.Arr items) = array
kind_of (cell.Obj properties) = object
kind_of (cell.Fun f) = function
kind_of (cell.Frame f) = frame
kind_of (cell.Html h) = html
kind_of (cell.Code c) = code

-- the address is in the store and names a cell of this kind
abbrev pub Names : List Cell → Kind → ℕ → Type 0
Names store kind at = option_map kind_of (slice_get store at) ≡ Some kind

-- each cell of the first store is still there in the second, and of its kind
abbrev pub Keeps : List Cell → List Cell → Type 0
Keeps old new = (kind : Kind) (at : ℕ) → Names old kind at → Names new kind at

abbrev pub LawfulValue : List Cell → Value → Type 0
LawfulValue store (value.Num n) = IsTrue (is_in_range n)
LawfulValue store (value.Text text) = IsTrue (text_fits text)
LawfulValue store (value.Arr at) = Names store array at
LawfulValue store (value.Obj at) = Names store object at
LawfulValue store (value.Fun at) = Names store function at
LawfulValue store (value.Svc name) = IsTrue (text_fits name)
LawfulValue store (value.Frame at) = Names store frame at
LawfulValue store (value.Html at) = Names store html at
LawfulValue store (value.Code at) = Names store code at
LawfulValue store _ = Unit {0}

pub record LawfulProperties (store : List Cell) (properties : List Property) : Type 0 where
  pub values : All (λ p. LawfulValue store p.value) properties
  pub texts : All (λ p. IsTrue (text_fits p.name)) properties
  pub names : IsTrue (are_property_names (map (λ p. p.name) properties))
  pub count : length properties < 2 ^ 53

pub record LawfulItems (store : List Cell) (items : List Value) : Type 0 where
  pub values : All (LawfulValue store) items
  pub count : length items < 2 ^ 53

abbrev pub LawfulCell : List Cell → Cell → Type 0
LawfulCell store (cell.Variable None) = Unit {0}
LawfulCell store (cell.Variable (Some v)) = LawfulValue store v
LawfulCell store (cell.Arr items) = LawfulItems store items
LawfulCell store (cell.Obj properties) = LawfulProperties store properties
LawfulCell store (cell.Fun f) = All (Names store variable) f.captured
LawfulCell store (cell.Frame f) = IsTrue (text_fits f.service) × All (λ d. IsTrue (data_fits d)) f.arguments
LawfulCell store (cell.Html h) = IsTrue (html_fits h)
LawfulCell store (cell.Code c) = IsTrue (closure_fits c)

-- each address in the store names a cell of its value's kind there, or a variable where it is captured; numbers, texts,
-- names and data are within their limits
pub record Lawful (store : List Cell) : Type 0 where
  pub cells : All (LawfulCell store) store

-- so are the global variables, whose values stand in the store
pub record LawfulVariables (store : List Cell) (variables : Variables) : Type 0 where
  pub values : All (λ v. LawfulValue store v.1) variables
