-- The global variables of a client, as a list of names with values.
use Rattle.std.specs.Prelude.{ℕ, List, [], ◌∷◌, if◌then◌else◌, Option, None, Some}
use Rattle.mt_value.specs.Names.{is_same}
use Rattle.mt_value.specs.declared.value.Value.{Value}

abbrev pub Variables : Type 0
Variables = List (List ℕ × Value)

-- the value of the variable of that name
abbrev pub value_of : List ℕ → Variables → Option Value
value_of name [] = None
value_of name (v ∷ vs) = if is_same name v.0 then Some v.1 else value_of name vs

-- a variable that is there keeps its place and takes the value, and a new one goes last
abbrev pub assigned : List ℕ → Value → Variables → Variables
assigned name value [] = (name, value) ∷ []
assigned name value (v ∷ vs) = if is_same name v.0 then (v.0, value) ∷ vs else v ∷ assigned name value vs
